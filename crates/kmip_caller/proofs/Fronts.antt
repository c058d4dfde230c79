-- What is taken for a message is that message.
use Rattle.std.proofs.Common.{◌≡◌, ℕ, ◌+◌, ◌≤◌, List, length, take, refl, ◌∙◌, ap, sym, arith, true, false, Option, Result, Ok, Err, nat_lt}
use Rattle.std.proofs.lemmas.Bool.Decides.{nat_tests}
use Rattle.std.proofs.lemmas.List.{length-take-le, take-take}
use Rattle.std.proofs.Math.Seq.{take-length}
use Rattle.kmip_wire.specs.Heads.{head_says}
use Rattle.kmip_wire.specs.declared.error.HeadError.{HeadError}
use Rattle.kmip_client.specs.Message.{Message, message_at, taken_for}
use Rattle.kmip_client.proofs.Messages.{message_short, message_refused, message_cut, message_whole}
use Rattle.kmip_caller.specs.Wire.{taken_at}

same_all : (rest : List ℕ) (limit : Option ℕ) (n : ℕ) → n ≡ length rest
    → message_at (take n rest) limit ≡ message_at rest limit
same_all rest limit n all = ap (λ k. message_at (take k rest) limit) all
    ∙ ap (λ l. message_at l limit) (take-length rest)

same_refused : (rest : List ℕ) (limit : Option ℕ) (error : HeadError) → 8 ≤ length rest
    → head_says (take 8 rest) limit ≡ Err error
    → message_at (take 8 rest) limit ≡ message_at rest limit
same_refused rest limit error long says =
    let eight : length (take 8 rest) ≡ 8 = length-take-le 8 rest long in
    let same : take 8 (take 8 rest) ≡ take 8 rest = take-take 8 8 rest (omega arith) in
    message_refused (take 8 rest) limit error (omega (arith, eight))
    (ap (λ b. head_says b limit) same ∙ says) ∙ sym (message_refused rest limit error long says)

same_whole : (rest : List ℕ) (limit : Option ℕ) (n : ℕ) → 8 ≤ length rest
    → head_says (take 8 rest) limit ≡ Ok n → n + 8 ≤ length rest
    → message_at (take (n + 8) rest) limit ≡ message_at rest limit
same_whole rest limit n long says all =
    let size : length (take (n + 8) rest) ≡ n + 8 = length-take-le (n + 8) rest all in
    let front : take 8 (take (n + 8) rest) ≡ take 8 rest = take-take 8 (n + 8) rest (omega arith) in
    let again : take (n + 8) (take (n + 8) rest) ≡ take (n + 8) rest = take-take (n + 8) (n + 8) rest (omega arith) in
    message_whole (take (n + 8) rest) limit n (omega (arith, size))
    (ap (λ b. head_says b limit) front ∙ says) (omega (arith, size))
    ∙ ap (λ m. Message.Whole m) again ∙ sym (message_whole rest limit n long says all)

by_head : (rest : List ℕ) (limit : Option ℕ) → 8 ≤ length rest → (h : Result ℕ HeadError)
    → head_says (take 8 rest) limit ≡ h
    → message_at (take (taken_at rest limit) rest) limit ≡ message_at rest limit
by_head rest limit long (Err error) says =
    let taken : taken_at rest limit ≡ 8 = ap (λ m. taken_for rest m) (message_refused rest limit error long says) in
    ap (λ k. message_at (take k rest) limit) taken ∙ same_refused rest limit error long says
by_head rest limit long (Ok n) says =
    elim (nat_lt (length rest) (n + 8)) as
    (λ b. nat_lt (length rest) (n + 8) ≡ b
    → message_at (take (taken_at rest limit) rest) limit ≡ message_at rest limit) [
      | true ↦ λ e. same_all rest limit (taken_at rest limit)
          (ap (λ m. taken_for rest m) (message_cut rest limit n long says
          (grind (arith, nat_tests, e))))
      | false ↦ λ e.
          let all : n + 8 ≤ length rest = grind (arith, nat_tests, e) in
          let taken : taken_at rest limit ≡ n + 8 =
          ap (λ m. taken_for rest m) (message_whole rest limit n long says all)
          ∙ length-take-le (n + 8) rest all in
          ap (λ k. message_at (take k rest) limit) taken ∙ same_whole rest limit n long says all
    ] refl

pub same_message : (rest : List ℕ) (limit : Option ℕ)
    → message_at (take (taken_at rest limit) rest) limit ≡ message_at rest limit
same_message rest limit = elim (nat_lt (length rest) 8) as
    (λ b. nat_lt (length rest) 8 ≡ b → message_at (take (taken_at rest limit) rest) limit
    ≡ message_at rest limit) [
      | true ↦ λ e. same_all rest limit (taken_at rest limit)
          (ap (λ m. taken_for rest m) (message_short rest limit (grind (arith, nat_tests, e))))
      | false ↦ λ e. by_head rest limit (grind (arith, nat_tests, e)) (head_says (take 8 rest) limit) refl
    ] refl
