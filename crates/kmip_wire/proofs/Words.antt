-- The types of whose values one length is that of any bytes: an item of such a value is 16 bytes long.
use Rattle.std.proofs.Common.{◌≡◌, ℕ, zero, suc, ◌+◌, ◌-◌, ◌%◌, ◌≤◌, ◌<◌, ◌^◌, true, eqb, List, [], ◌∷◌, length, slice_index_or, Option, Some, None, sym, ap, subst, ◌∙◌, arith}
use Rattle.std.specs.Option.{is_some}
use Rattle.std.proofs.lemmas.Bool.{false≢true, eq-eqb}
use Rattle.kmip_wire.specs.declared.kind.Kind.{Kind}
use Rattle.kmip_wire.specs.declared.kind.Kind.TheVariants.{Structure, Integer, LongInteger, BigInteger, Enumeration, Boolean, TextString, ByteString, DateTime, Interval}
use Rattle.kmip_wire.specs.Kinds.{code_of, kind_of}
use Rattle.kmip_wire.specs.Head.{head_code, head_length, size_at, value_of}
use Rattle.kmip_wire.specs.Reading.{scalar_at}
use Rattle.kmip_wire.specs.Open.{Passes, IsWord}
use Rattle.kmip_wire.proofs.Values.{kind_of-code_of, code_of-kind_of, if_some}
use Rattle.kmip_wire.proofs.Steps.{tells_value, value_length}

-- of each type, by its number, the length of the values that any bytes are
abbrev pub word_sizes : List ℕ
word_sizes =
    18446744073709551615 ∷ 18446744073709551615 ∷ 4 ∷ 8 ∷ 18446744073709551615 ∷ 4
    ∷ 18446744073709551615 ∷ 18446744073709551615 ∷ 18446744073709551615 ∷ 8 ∷ 4 ∷ []

any : (k : Kind) (m n : ℕ) → m ≡ n → 0 < m → m ≤ 8
    → ((v : List ℕ) → eqb (length v) m ≡ is_some (scalar_at k v)) → IsWord (code_of k) n
any k m n e some small all =
    subst (IsWord (code_of k)) e (some, small, (k, sym (kind_of-code_of k), λ v h. sym (all v) ∙ eq-eqb (length v) m h))

pub words : (code n : ℕ) → code < 11 → n < 2 ^ 32 → slice_index_or word_sizes code 0 ≡ n → IsWord code n
words zero n lt fits e = absurd (omega (arith, fits, e))
words (suc zero) n lt fits e = absurd (omega (arith, fits, e))
words (suc (suc zero)) n lt fits e =
    any Integer 4 n e (omega arith) (omega arith) (λ v. sym (if_some (eqb (length v) 4) _))
words (suc (suc (suc zero))) n lt fits e =
    any LongInteger 8 n e (omega arith) (omega arith) (λ v. sym (if_some (eqb (length v) 8) _))
words (suc (suc (suc (suc zero)))) n lt fits e = absurd (omega (arith, fits, e))
words (suc (suc (suc (suc (suc zero))))) n lt fits e =
    any Enumeration 4 n e (omega arith) (omega arith) (λ v. sym (if_some (eqb (length v) 4) _))
words (suc (suc (suc (suc (suc (suc zero)))))) n lt fits e = absurd (omega (arith, fits, e))
words (suc (suc (suc (suc (suc (suc (suc zero))))))) n lt fits e = absurd (omega (arith, fits, e))
words (suc (suc (suc (suc (suc (suc (suc (suc zero)))))))) n lt fits e = absurd (omega (arith, fits, e))
words (suc (suc (suc (suc (suc (suc (suc (suc (suc zero))))))))) n lt fits e =
    any DateTime 8 n e (omega arith) (omega arith) (λ v. sym (if_some (eqb (length v) 8) _))
words (suc (suc (suc (suc (suc (suc (suc (suc (suc (suc zero)))))))))) n lt fits e =
    any Interval 4 n e (omega arith) (omega arith) (λ v. sym (if_some (eqb (length v) 4) _))
words (suc (suc (suc (suc (suc (suc (suc (suc (suc (suc (suc m))))))))))) n lt fits e = absurd (omega (arith, lt))

word_size : (n : ℕ) → 0 < n → n ≤ 8 → 8 + n + (8 - n % 8) % 8 ≡ 16
word_size n some small = omega (arith, some, small)

code_small : (k : Kind) → code_of k < 11
code_small Structure = omega arith
code_small Integer = omega arith
code_small LongInteger = omega arith
code_small BigInteger = omega arith
code_small Enumeration = omega arith
code_small Boolean = omega arith
code_small TextString = omega arith
code_small ByteString = omega arith
code_small DateTime = omega arith
code_small Interval = omega arith

pub unknown : (n : ℕ) (o : Option Kind) → o ≡ kind_of n → 10 < n → None ≡ kind_of n
unknown n None e lt = e
unknown n (Some k) e lt = absurd (omega (arith, lt, code_of-kind_of n k (sym e), code_small k))

module _ (b : List ℕ) (some : 0 < length b) where
  module _ (w : IsWord (head_code b) (head_length b)) where
    pub size : size_at b ≡ 16
    size = word_size (head_length b) w.0 w.1

    pub passes_word : 16 ≤ length b → Passes 16 b
    passes_word le =
        let here : size_at b ≤ length b = omega (arith, le, size) in
        let k = w.2.0 in
        let says : is_some (scalar_at k (value_of b)) ≡ true = w.2.2 (value_of b) (value_length b here) in
        tells_value b some here k w.2.1
        (λ e. false≢true (ap (λ j. is_some (scalar_at j (value_of b))) (sym e) ∙ says))
        (sym says) 16 (sym size)
