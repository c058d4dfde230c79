-- Written by tables/generate.py from tables/*.toml: change these instead.
-- The operations: KMIP 1.2, 9.1.3.2.
use Rattle.std.specs.Prelude.{List, [], ◌∷◌, map, codes}
use Rattle.std.proofs.Common.{rules}
use Rattle.kmip_shape.specs.Val.{Val}
use Rattle.kmip_shape.specs.Shape.{Entry}
use Rattle.kmip_shape.specs.Same.{IsFaithful}
use Rattle.kmip_shape.specs.Enumerations.{entry, enumeration_val, AreFound, same_variant}
use Rattle.kmip_enums.specs.declared.operation.Operation.{Operation}
use Rattle.kmip_enums.specs.declared.operation.Operation.TheVariants.{Create, CreateKeyPair, Register, Rekey, DeriveKey, Certify, Recertify, Locate, Check, Get, GetAttributes, GetAttributeList, AddAttribute, ModifyAttribute, DeleteAttribute, ObtainLease, GetUsageAllocation, Activate, Revoke, Destroy, Archive, Recover, Validate, Query, Cancel, Poll, Notify, Put, RekeyKeyPair, DiscoverVersions, Encrypt, Decrypt, Sign, SignatureVerify, MAC, MACVerify, RNGRetrieve, RNGSeed, Hash, CreateSplitKey, JoinSplitKey}

-- the number and the name of each
abbrev pub operation_line : Operation → Entry
operation_line Create = entry 0x1 (codes "Create")
operation_line CreateKeyPair = entry 0x2 (codes "CreateKeyPair")
operation_line Register = entry 0x3 (codes "Register")
operation_line Rekey = entry 0x4 (codes "Rekey")
operation_line DeriveKey = entry 0x5 (codes "DeriveKey")
operation_line Certify = entry 0x6 (codes "Certify")
operation_line Recertify = entry 0x7 (codes "Recertify")
operation_line Locate = entry 0x8 (codes "Locate")
operation_line Check = entry 0x9 (codes "Check")
operation_line Get = entry 0xa (codes "Get")
operation_line GetAttributes = entry 0xb (codes "GetAttributes")
operation_line GetAttributeList = entry 0xc (codes "GetAttributeList")
operation_line AddAttribute = entry 0xd (codes "AddAttribute")
operation_line ModifyAttribute = entry 0xe (codes "ModifyAttribute")
operation_line DeleteAttribute = entry 0xf (codes "DeleteAttribute")
operation_line ObtainLease = entry 0x10 (codes "ObtainLease")
operation_line GetUsageAllocation = entry 0x11 (codes "GetUsageAllocation")
operation_line Activate = entry 0x12 (codes "Activate")
operation_line Revoke = entry 0x13 (codes "Revoke")
operation_line Destroy = entry 0x14 (codes "Destroy")
operation_line Archive = entry 0x15 (codes "Archive")
operation_line Recover = entry 0x16 (codes "Recover")
operation_line Validate = entry 0x17 (codes "Validate")
operation_line Query = entry 0x18 (codes "Query")
operation_line Cancel = entry 0x19 (codes "Cancel")
operation_line Poll = entry 0x1a (codes "Poll")
operation_line Notify = entry 0x1b (codes "Notify")
operation_line Put = entry 0x1c (codes "Put")
operation_line RekeyKeyPair = entry 0x1d (codes "RekeyKeyPair")
operation_line DiscoverVersions = entry 0x1e (codes "DiscoverVersions")
operation_line Encrypt = entry 0x1f (codes "Encrypt")
operation_line Decrypt = entry 0x20 (codes "Decrypt")
operation_line Sign = entry 0x21 (codes "Sign")
operation_line SignatureVerify = entry 0x22 (codes "SignatureVerify")
operation_line MAC = entry 0x23 (codes "MAC")
operation_line MACVerify = entry 0x24 (codes "MACVerify")
operation_line RNGRetrieve = entry 0x25 (codes "RNGRetrieve")
operation_line RNGSeed = entry 0x26 (codes "RNGSeed")
operation_line Hash = entry 0x27 (codes "Hash")
operation_line CreateSplitKey = entry 0x28 (codes "CreateSplitKey")
operation_line JoinSplitKey = entry 0x29 (codes "JoinSplitKey")

-- in the order of their numbers
abbrev pub operation_variants : List Operation
operation_variants =
    Create ∷ CreateKeyPair ∷ Register ∷ Rekey ∷ DeriveKey ∷ Certify ∷ Recertify ∷ Locate ∷ Check ∷
    Get ∷ GetAttributes ∷ GetAttributeList ∷ AddAttribute ∷ ModifyAttribute ∷ DeleteAttribute ∷
    ObtainLease ∷ GetUsageAllocation ∷ Activate ∷ Revoke ∷ Destroy ∷ Archive ∷ Recover ∷ Validate ∷
    Query ∷ Cancel ∷ Poll ∷ Notify ∷ Put ∷ RekeyKeyPair ∷ DiscoverVersions ∷ Encrypt ∷ Decrypt ∷
    Sign ∷ SignatureVerify ∷ MAC ∷ MACVerify ∷ RNGRetrieve ∷ RNGSeed ∷ Hash ∷ CreateSplitKey ∷
    JoinSplitKey ∷ []

abbrev pub operations : List Entry
operations = map operation_line operation_variants

abbrev pub operation_val : Operation → Val
operation_val = enumeration_val operation_line

pub operation_found : AreFound operation_line operation_variants
operation_found x = search rules

pub operation_same : IsFaithful operation_val
operation_same = same_variant operation_line operation_variants operation_found
