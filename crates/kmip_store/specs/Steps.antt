-- What a key server does: the objects after a call, and its answer (KMIP 1.0, 3.17 and 4; KMIP 1.2,
-- 4.31 and 4.35).
use Rattle.std.specs.Prelude.{ℕ, ◌+◌, ℤ, Bool, cond, ◌&&◌, ◌||◌, not, List, [], ◌∷◌, ◌++◌, length, slice_set, Option, Some, None}
use Rattle.kmip_enums.specs.declared.operation.Operation.{Operation}
use Rattle.kmip_enums.specs.declared.operation.Operation.TheVariants as operations
use Rattle.kmip_enums.specs.declared.object_type.ObjectType.{ObjectType}
use Rattle.kmip_enums.specs.declared.object_type.ObjectType.TheVariants.{PublicKey, PrivateKey}
use Rattle.kmip_enums.specs.declared.state.State.TheVariants.{PreActive, Active, Deactivated, Destroyed}
use Rattle.kmip_store.specs.declared.object.Object.{Object}
use Rattle.kmip_store.specs.declared.call.Call.{Call}
use Rattle.kmip_store.specs.declared.call.Call.TheVariants.{Query, CreateRsaKeyPair, RngRetrieve, Sign, ActivateKey, RevokeKey, DestroyKey, RenameKey, GetKey}
use Rattle.kmip_store.specs.declared.maker.Asked.{Asked}
use Rattle.kmip_store.specs.declared.maker.Asked.TheVariants as questions
use Rattle.kmip_store.specs.declared.maker.Made.{Made}
use Rattle.kmip_store.specs.declared.maker.Made.TheVariants as answers
use Rattle.kmip_store.specs.Objects.{identifier, find_in, is_pre_active, is_active, is_destroyed, is_public}

pub data Answer : Type 0 where
  -- no object has the identifier
  NotFound : Answer
  -- the object's state or type does not allow the call
  Denied : Answer
  -- the maker refused
  Failed : Answer
  Done : Answer
  Supports : List Operation → List ObjectType → Answer
  -- the identifiers of the private and the public key
  Created : List ℕ → List ℕ → Answer
  Random : List ℕ → Answer
  Signed : List ℕ → Answer
  Got : Object → Answer

-- the objects that a call leaves, and its answer
pub record Stepped : Type 0 where
  pub objects : List Object
  pub answer : Answer

abbrev pub stay : List Object → Answer → Stepped
stay objects answer = record { objects = objects; answer = answer }

-- the object at the place becomes another; all others stay
abbrev pub become : List Object → ℕ → Object → Stepped
become objects place object = record { objects = slice_set objects place object; answer = Done }

abbrev pub step_where : Bool → List Object → Stepped → Stepped
step_where allows objects step = cond allows step (stay objects Denied)

-- a call on the object that it names
abbrev pub on_found : Option (ℕ × Object) → List Object → (ℕ → Object → Stepped) → Stepped
on_found None objects step = stay objects NotFound
on_found (Some at) objects step = step at.0 at.1

abbrev pub activate : List Object → ℕ → Object → Stepped
activate objects place object =
    step_where (is_pre_active object.state) objects
    (become objects place (record object { state = Active }))

abbrev pub revoke : List Object → ℕ → Object → Stepped
revoke objects place object =
    step_where (is_active object.state) objects
    (become objects place (record object { state = Deactivated }))

-- a destroyed object keeps its place, and has no key bytes
abbrev pub destroy : List Object → ℕ → Object → Stepped
destroy objects place object =
    step_where (not (is_active object.state || is_destroyed object.state)) objects
    (become objects place (record object { state = Destroyed; key = [] }))

abbrev pub rename : List ℕ → List Object → ℕ → Object → Stepped
rename name objects place object =
    step_where (not (is_destroyed object.state)) objects
    (become objects place (record object { name = name }))

abbrev pub get : List Object → ℕ → Object → Stepped
get objects place object =
    step_where (not (is_destroyed object.state)) objects (stay objects (Got object))

abbrev pub can_sign : Object → Bool
can_sign object = not (is_public object.object_type) && is_active object.state

abbrev pub key_of : ObjectType → List ℕ → ℤ → List ℕ → Object
key_of object_type name length key = record {
  object_type = object_type;
  state = PreActive;
  name = name;
  length = length;
  key = key;
}

-- a new pair is added after the objects, the private key first
abbrev pub create : List Object → ℤ → List ℕ → List ℕ → Option Made → Stepped
create objects bits private public (Some (answers.Pair private_key public_key)) = record {
  objects = objects
      ++ key_of PrivateKey private bits private_key ∷ key_of PublicKey public bits public_key ∷ [];
  answer = Created (identifier (length objects)) (identifier (length objects + 1));
}
create objects bits private public _ = stay objects Failed

abbrev pub made_bytes : (List ℕ → Answer) → Option Made → Answer
made_bytes answer (Some (answers.Bytes bytes)) = answer bytes
made_bytes answer _ = Failed

abbrev pub supported_operations : List Operation
supported_operations =
    operations.CreateKeyPair ∷ operations.Get ∷ operations.ModifyAttribute ∷ operations.Activate
    ∷ operations.Revoke ∷ operations.Destroy ∷ operations.Query ∷ operations.Sign
    ∷ operations.RNGRetrieve ∷ []

-- one call; `made` is the maker's answer, where the call asks it
abbrev pub step : List Object → Call → Option Made → Stepped
step objects Query made = stay objects (Supports supported_operations (PublicKey ∷ PrivateKey ∷ []))
step objects (CreateRsaKeyPair bits private public) made = create objects bits private public made
step objects (RngRetrieve n) made = stay objects (made_bytes Random made)
step objects (Sign id bytes) made = on_found (find_in objects id) objects
    (λ place object. step_where (can_sign object) objects (stay objects (made_bytes Signed made)))
step objects (ActivateKey id) made = on_found (find_in objects id) objects (activate objects)
step objects (RevokeKey id) made = on_found (find_in objects id) objects (revoke objects)
step objects (DestroyKey id) made = on_found (find_in objects id) objects (destroy objects)
step objects (RenameKey id name) made = on_found (find_in objects id) objects (rename name objects)
step objects (GetKey id) made = on_found (find_in objects id) objects (get objects)

abbrev pub sign_question : List ℕ → Option (ℕ × Object) → Option Asked
sign_question bytes None = None
sign_question bytes (Some at) =
    cond (can_sign at.1) (Some (questions.Sign at.1.key bytes)) None

-- what a call asks the maker, where it asks it
abbrev pub question : List Object → Call → Option Asked
question objects (CreateRsaKeyPair bits private public) = Some (questions.KeyPair bits)
question objects (RngRetrieve n) = Some (questions.Random n)
question objects (Sign id bytes) = sign_question bytes (find_in objects id)
question objects _ = None
