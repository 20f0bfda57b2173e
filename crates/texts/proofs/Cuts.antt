-- The line at the beginning of a text.
use Rattle.std.proofs.Common.{◌≡◌, ℕ, ◌<◌, ◌≤◌, ◌⊎◌, ◌==◌, List, length, take, Some, None, Ok, position, sym, ap, ◌∙◌, arith}
use Rattle.std.proofs.lemmas.Bool.Decides.{nat_tests}
use Rattle.kinds.specs.declared.refusals.Refusal.TheVariants.{Shape}
use Rattle.texts.specs.Splits.{before}
use Rattle.texts.specs.Faults.{wrong}
use Rattle.texts.specs.Lines.{line_of}
use Rattle.texts.proofs.Splits.{found, not_found, take_before}

pub no_line : (rest : List ℕ) → position (λ b. b == 10) rest ≡ None → line_of rest ≡ wrong Shape 0
no_line rest e = let h = not_found 10 rest e in grind (arith, nat_tests)

good : (rest : List ℕ) → length (before 10 rest) < length rest → (length (before 10 rest) ≡ 0 → ⊥) → length (before 10 rest) ≤ 64 → line_of rest ≡ Ok (before 10 rest)
good rest a b d = grind (arith, nat_tests)

module _ (rest : List ℕ) (n : ℕ) (e : position (λ b. b == 10) rest ≡ Some n) where
  pub bad_line : (n ≡ 0) ⊎ ((n ≡ 0 → ⊥) × (64 < n)) → line_of rest ≡ wrong Shape 0
  bad_line h = let f = found 10 rest n e in grind (arith, nat_tests)

  pub good_line : (n ≡ 0 → ⊥) → n ≤ 64 → line_of rest ≡ Ok (take n rest)
  good_line a b =
      let f = found 10 rest n e in
      good rest f.1 (λ z. a (f.0 ∙ z)) (omega arith) ∙ ap Ok (sym (ap (λ (m : ℕ). take m rest) f.0 ∙ take_before 10 rest))
