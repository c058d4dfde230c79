-- What is written is of its Object Type, and what its label says.
use Rattle.std.proofs.Common.{◌≡◌, ℕ, ◌==◌, true, not, ◌&&◌, List, [], ◌∷◌, Option, Some, None, Result, Ok, Err, refl, sym, ap, ◌∙◌, nat_le, length}
use Rattle.std.proofs.lemmas.Bool.{eqb-true}
use Rattle.base64.specs.GeneralPurpose.{IsBytes}
use Rattle.kmip_der.specs.Curve.{Curve}
use Rattle.kmip_der.specs.Keys.{is_point}
use Rattle.kmip_der.specs.Write.{digits_of}
use Rattle.kmip_pem.specs.declared.labels.Label.{Label}
use Rattle.kmip_pem.specs.declared.labels.Label.TheVariants.{RsaPublicKey, PublicKey, RsaPrivateKey, EcPrivateKey}
use Rattle.kmip_pem.specs.Pem.{IsPem, pem_in}
use Rattle.kmip_pem.specs.Written.{pem_text}
use Rattle.kmip_key_files.specs.declared.told.KeyFacts.{KeyFacts}
use Rattle.kmip_key_files.specs.declared.told.Told.{Told}
use Rattle.kmip_key_files.specs.declared.refusal.NoObject.{NoObject}
use Rattle.kmip_key_files.specs.declared.refusal.NoFile.{NoFile}
use Rattle.kmip_key_files.specs.declared.refusal.NoFile.TheVariants.{OtherType, Wrapped, OtherFormat, TooWide, NoPoint}
use Rattle.kmip_key_files.specs.declared.block.Block.{Block}
use Rattle.kmip_key_files.specs.declared.block.Material.{Material}
use Rattle.kmip_key_files.specs.declared.block.Material.TheVariants.{Bytes, RsaPublic, RsaPrivate, EcPublic, EcPrivate, Other}
use Rattle.kmip_key_files.specs.Forms.{object_type, format, labels, label_with}
use Rattle.kmip_key_files.specs.Told.{told_of, told_in_block, told_in_pem}
use Rattle.kmip_key_files.specs.Formats.{File, der_of, is_same_key, file_told_by, file_with, file_in_format}
use Rattle.kmip_key_files.specs.Files.{file_if, checked_file, bytes_file, number_fault, numbers_fault, file_unless, rsa_private_file, curve_numbered, ec_private_file, ec_public_file, file_of_type, numbers_in, material_file, has_files, file_of}
use Rattle.kmip_key_files.proofs.Steps.{same_ok, no_error, tested, failed, both_true, passes}

-- a file with this label that is what it says
abbrev pub Written : Label → File → Type 0
Written label file = (file.label ≡ label) × ((told : Told) × (told_of file.label file.der ≡ Ok told))

written_if : (label : Label) (der : List ℕ) (r : Result Told NoObject) (file : File) → told_of label der ≡ r
    → file_if label der r ≡ Ok file → Written label file
written_if label der (Err why) file e h = absurd (no_error _ file h)
written_if label der (Ok told) file e h =
    let same = same_ok _ file h in
    let at = ap (λ (x : File). x.label) (sym same) in
    (at, (told, ap (λ (x : File). told_of x.label x.der) (sym same) ∙ e))

checked : (label : Label) (der : List ℕ) (file : File) → checked_file label der ≡ Ok file → Written label file
checked label der file h = written_if label der (told_of label der) file refl h

unless : (o : Option NoFile) (r : Result File NoFile) (file : File) → file_unless o r ≡ Ok file → r ≡ Ok file
unless None r file h = h
unless (Some why) r file h = absurd (no_error why file h)

-- of an object of this type
abbrev pub OfType : ℕ → File → Type 0
OfType kind file = (label : Label) × (object_type label ≡ kind) × Written label file

of_label : (kind number : ℕ) (label : Label) → label_with kind number ≡ Some label → object_type label ≡ kind
of_label kind number label h =
    eqb-true _ _ (both_true _ _ (passes (λ l. object_type l == kind && format l == number) labels label h)).0

bytes_written : (kind number : ℕ) (bytes : List ℕ) (o : Option Label) (file : File) → label_with kind number ≡ o
    → bytes_file o bytes ≡ Ok file → OfType kind file
bytes_written kind number bytes None file e h = absurd (no_error _ file h)
bytes_written kind number [] (Some label) file e h = absurd (no_error _ file h)
bytes_written kind number (a ∷ rest) (Some label) file e h =
    (label, of_label kind number label e, checked label (a ∷ rest) file h)

rsa_private_written : (o : Option (List (List ℕ))) (file : File) → rsa_private_file o ≡ Ok file → Written RsaPrivateKey file
rsa_private_written None file h = absurd (no_error _ file h)
rsa_private_written (Some numbers) file h =
    checked RsaPrivateKey _ file (unless (numbers_fault numbers) _ file h)

ec_private_written : (number : List ℕ) (o : Option Curve) (file : File) → ec_private_file number o ≡ Ok file
    → Written EcPrivateKey file
ec_private_written number None file h = absurd (no_error _ file h)
ec_private_written number (Some curve) file h =
    let t = tested (nat_le (length (digits_of number)) curve.octets) _ TooWide file
    (unless (number_fault number) _ file h) in
    checked EcPrivateKey _ file t.1

ec_public_written : (point : List ℕ) (o : Option Curve) (file : File) → ec_public_file point o ≡ Ok file
    → Written PublicKey file
ec_public_written point None file h = absurd (no_error _ file h)
ec_public_written point (Some curve) file h =
    checked PublicKey _ file (tested (is_point curve point) _ NoPoint file h).1

-- a file of this type alone
of_type : (wanted kind : ℕ) (r : Result File NoFile) (file : File) → file_of_type wanted kind r ≡ Ok file
    → (kind ≡ wanted) × (r ≡ Ok file)
of_type wanted kind r file h =
    let t = tested (kind == wanted) r OtherFormat file h in (eqb-true _ _ t.0, t.1)

material_written : (kind : ℕ) (material : Material) (file : File) → material_file kind material ≡ Ok file → OfType kind file
material_written kind (Bytes number bytes) file h = bytes_written kind number bytes.now _ file refl h
material_written kind (RsaPublic modulus exponent) file h =
    let t = of_type 3 kind _ file h in
    (RsaPublicKey, sym t.0, checked RsaPublicKey _ file (unless _ _ file t.1))
material_written kind (RsaPrivate numbers) file h =
    let t = of_type 4 kind _ file h in (RsaPrivateKey, sym t.0, rsa_private_written (numbers_in numbers) file t.1)
material_written kind (EcPublic curve point) file h =
    let t = of_type 3 kind _ file h in
    (PublicKey, sym t.0, ec_public_written point.now (curve_numbered curve) file t.1)
material_written kind (EcPrivate curve number) file h =
    let t = of_type 4 kind _ file h in
    (EcPrivateKey, sym t.0, ec_private_written number.now (curve_numbered curve) file t.1)
material_written kind Other file h = absurd (no_error _ file h)

block_written : (block : Block) (file : File) → file_of block ≡ Ok file → OfType block.object_type file
block_written block file h =
    material_written block.object_type block.material file
    (failed block.is_wrapped _ Wrapped file (failed (not (has_files block.object_type)) _ OtherType file h))

pub type_kept : (block : Block) (file : File) → file_of block ≡ Ok file → object_type file.label ≡ block.object_type
type_kept block file h =
    let w = block_written block file h in ap object_type w.2.0 ∙ w.1

pub is_told : (block : Block) (file : File) → file_of block ≡ Ok file → (told : Told)
    × (told_of file.label file.der ≡ Ok told)
is_told block file h = (block_written block file h).2.1

-- and so in PEM, by the laws of kmip_pem
abbrev pub WrittenBack : Type 0
WrittenBack = (label : Label) (bytes : List ℕ) → IsBytes bytes → IsPem (pem_text label bytes) label bytes

abbrev pub Found : Type 0
Found = (text : List ℕ) (label : Label) (bytes : List ℕ) → IsPem text label bytes
    → pem_in text ≡ Ok (record { label = label; bytes = bytes })

pub is_told_in_pem : WrittenBack → Found → (block : Block) (file : File) → file_of block ≡ Ok file → IsBytes file.der
    → (told : Told) × (told_in_pem (pem_text file.label file.der) ≡ Ok told)
is_told_in_pem back found block file h b =
    let t = is_told block file h in
    (t.0, ap told_in_block (found _ file.label file.der (back file.label file.der b)) ∙ t.1)

-- ---- in another format

told_by : (key : Option KeyFacts) (label : Label) (der : List ℕ) (r : Result Told NoObject) (file : File)
    → told_of label der ≡ r → file_told_by key label der r ≡ Ok file
    → (file.label ≡ label) × ((told : Told) × (told_of file.label file.der ≡ Ok told) × (is_same_key key told.key ≡ true))
told_by key label der (Err why) file e h = absurd (no_error _ file h)
told_by key label der (Ok now) file e h =
    let t = tested (is_same_key key now.key) _ OtherFormat file h in
    let same = same_ok _ file t.1 in (
      ap (λ (x : File). x.label) (sym same),
      (now, ap (λ (x : File). told_of x.label x.der) (sym same) ∙ e, t.0),
    )

abbrev Kept : Option KeyFacts → Label → File → Type 0
Kept key label file =
    (file.label ≡ label) × ((told : Told) × (told_of file.label file.der ≡ Ok told) × (is_same_key key told.key ≡ true))

with_der : (key : Option KeyFacts) (label : Label) (o : Option (List ℕ)) (file : File) → file_with key label o ≡ Ok file
    → Kept key label file
with_der key label None file h = absurd (no_error _ file h)
with_der key label (Some der) file h = told_by key label der (told_of label der) file refl h

abbrev file_by : Told → List ℕ → Option Label → Result File NoFile
file_by told der o = elim o [
  | None ↦ Err OtherFormat
  | Some label ↦ file_with told.key label (der_of told.label label der)
]

by_label : (told : Told) (der : List ℕ) (number : ℕ) (o : Option Label) (file : File)
    → label_with (object_type told.label) number ≡ o → file_by told der o ≡ Ok file
    → (label : Label) × (object_type label ≡ object_type told.label) × Kept told.key label file
by_label told der number None file e h = absurd (no_error _ file h)
by_label told der number (Some label) file e h =
    (label, of_label _ number label e, with_der told.key label _ file h)

pub format_type : (told : Told) (der : List ℕ) (number : ℕ) (file : File) → file_in_format told der number ≡ Ok file
    → object_type file.label ≡ object_type told.label
format_type told der number file h =
    let k = by_label told der number _ file refl h in ap object_type k.2.0 ∙ k.1

pub format_told : (told : Told) (der : List ℕ) (number : ℕ) (file : File) → file_in_format told der number ≡ Ok file
    → (now : Told) × (told_of file.label file.der ≡ Ok now) × (is_same_key told.key now.key ≡ true)
format_told told der number file h = (by_label told der number _ file refl h).2.1
