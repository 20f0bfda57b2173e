-- Laws of `before`, `after` and `pieces`.
use Rattle.std.proofs.Common.{◌≡◌, ℕ, suc, ◌+◌, ◌<◌, ◌≤◌, true, false, cond, eqb, List, [], ◌∷◌, length, take, drop, refl, ap, arith, Some, None, not, ◌==◌, position}
use Rattle.std.proofs.lemmas.Bool.Decides.{nat_tests}
use Rattle.std.specs.List.{position_or_len}
use Rattle.std.proofs.lemmas.List.Splits.{length-slice_split}
use Rattle.texts.specs.Splits.{before, after, pieces}

module _ (c : ℕ) where
  -- the library's search for a byte
  pub position_before : (bs : List ℕ) → position_or_len (λ b. b == c) bs ≡ length (before c bs)
  position_before [] = refl
  position_before (b ∷ bs) =
      elim (eqb b c) as (λ v. cond (not v) (1 + position_or_len (λ a. a == c) bs) 0 ≡ length (cond v [] (b ∷ before c bs)))
      [ true ↦ refl | false ↦ omega (arith, position_before bs) ]

  pub found : (bs : List ℕ) (n : ℕ) → position (λ b. b == c) bs ≡ Some n → (n ≡ length (before c bs)) × (length (before c bs) < length bs)
  found bs n = rw (position_before bs) (λ e. grind (arith, nat_tests))

  pub not_found : (bs : List ℕ) → position (λ b. b == c) bs ≡ None → length bs ≤ length (before c bs)
  not_found bs = rw (position_before bs) (λ e. grind (arith, nat_tests))

  pub take_before : (bs : List ℕ) → take (length (before c bs)) bs ≡ before c bs
  take_before [] = refl
  take_before (b ∷ bs) =
      elim (eqb b c) as (λ v. take (length (cond v [] (b ∷ before c bs))) (b ∷ bs) ≡ cond v [] (b ∷ before c bs))
      [ true ↦ refl | false ↦ ap (λ z. b ∷ z) (take_before bs) ]

  pub drop_after : (bs : List ℕ) → drop (suc (length (before c bs))) bs ≡ after c bs
  drop_after [] = refl
  drop_after (b ∷ bs) =
      elim (eqb b c) as (λ v. drop (suc (length (cond v [] (b ∷ before c bs)))) (b ∷ bs) ≡ cond v bs (after c bs))
      [ true ↦ refl | false ↦ drop_after bs ]

  pub pieces_some : (bs : List ℕ) → 0 < length (pieces c bs)
  pieces_some bs = omega (arith, length-slice_split (λ b. b == c) bs)
