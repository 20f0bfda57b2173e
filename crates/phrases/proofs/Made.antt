-- An array that is made by a closure which stays as it was.
use Rattle.std.proofs.Common.{◌≡◌, ℕ, zero, suc, ◌+◌, ◌<◌, ◌≤◌, List, get_or, map, sym, ap, ◌∙◌, subst, ⊎_elim, arith}
use Rattle.std.proofs.lemmas.Bool.{cases_eq}
use Rattle.std.proofs.lemmas.List.FromFn.{fill_by_all}
use Rattle.std.specs.Array.{IsFromFnResult, IsFromFnResultFrom}
use Rattle.std.specs.Fn.{Called}
use Rattle.std.specs.List.{range_with_len}
use denote.Param.Members.{Mut}

module _ {F B : Type 0} (g : Mut F (ℕ × Unit {0}) B) (f : F) (h : ℕ → B) (step : (i : ℕ) (y : B) (q : F) → Called g f (i, tt) y q → (q ≡ f) × (y ≡ h i)) where
  each_from : (ys : List B) (i n : ℕ) → IsFromFnResultFrom g f ys i n → (k : ℕ) (d : B) → i ≤ k → k < i + n → get_or ys k d ≡ h k
  each_from ys i zero t k d lo hi = absurd (omega arith)
  each_from ys i (suc n) t k d lo hi =
      let now = step i t.1 t.0 t.3 in
      ⊎_elim
      (λ e. ap (λ j. get_or ys j d) e ∙ t.2.1 d ∙ now.1 ∙ ap h (sym e))
      (λ ne. each_from ys (i + 1) n (subst (λ q. IsFromFnResultFrom g q ys (i + 1) n) now.0 t.4) k d (omega arith) (omega arith))
      (cases_eq k i)

  pub made_from : (ys : List B) (n : ℕ) (d : B) → IsFromFnResult g f ys n → ys ≡ map h (range_with_len 0 n)
  made_from ys n d t = fill_by_all h ys n d t.long (λ k lt. each_from ys 0 n t.each k d (omega arith) (omega arith))
