-- Forward and backward are adjoint, and what follows from that.
use Rattle.std.proofs.Common.{◌≡◌, ℕ, ◌+◌, ◌-◌, ◌<◌, ◌≤◌, sym, ap, arith}
use Rattle.kinds.specs.Kind.{Ops, Laws, AtMost}
use Rattle.plants.specs.Meaning.{Meaning, forward_cell, forward_part, backward_cell, backward_part}
use Rattle.plants.specs.Theorems.{CeilingIsExact, CeilingIsGreatest, ForwardRises, BackwardRises, TopCeiling}
use Rattle.plants.proofs.Order.{least_trans, both_least, same_least, from_residual, to_residual, joins_term, joins_least, meets_term, meets_greatest}

module _ {T : Type 0} {o : Ops T} (L : Laws o) where
  -- one term of a forward answer
  pub forward_term : (p : Meaning T) (u : ℕ → ℕ → T) (out k i j : ℕ) → i < p.inputs → j ≤ k
      → AtMost o (o.product (p.response out i (k - j)) (u i j)) (forward_cell o p u out k)
  forward_term p u out k i j h g = least_trans L _ _ _
      (joins_term L (k + 1) (λ j. o.product (p.response out i (k - j)) (u i j)) j (omega arith))
      (joins_term L p.inputs (forward_part o p u out k) i h)

  -- x is at most the backward answer to z exactly when its forward answer is at most z
  pub meets_score : (p : Meaning T) (K : ℕ) (x z : ℕ → ℕ → T)
      → ((i j : ℕ) → i < p.inputs → j < K → AtMost o (x i j) (backward_cell o p K z i j))
      → (out k : ℕ) → out < p.outputs → k < K → AtMost o (forward_cell o p x out k) (z out k)
  meets_score p K x z e out k h g = joins_least L p.inputs _ _ (λ i a. joins_least L (k + 1) _ _ (λ j b.
      let le : j ≤ k = omega arith in
      let back : j + (k - j) ≡ k = omega arith in
      from_residual L _ _ _ (least_trans L _ _ _ (e i j a (omega arith)) (least_trans L _ _ _
      (meets_term L p.outputs (backward_part o p K z i j) out h)
      (least_trans L _ _ _
      (meets_term L (K - j) (λ d. o.residual (p.response out i d) (z out (j + d))) (k - j) (omega arith))
      (same_least L _ _ (ap (λ t. o.residual (p.response out i (k - j)) (z out t)) back)))))))

  pub under_ceiling : (p : Meaning T) (K : ℕ) (x z : ℕ → ℕ → T)
      → ((out k : ℕ) → out < p.outputs → k < K → AtMost o (forward_cell o p x out k) (z out k))
      → (i j : ℕ) → i < p.inputs → j < K → AtMost o (x i j) (backward_cell o p K z i j)
  under_ceiling p K x z e i j h g = meets_greatest L p.outputs _ _ (λ out a. meets_greatest L (K - j) _ _ (λ d b.
      let back : (j + d) - j ≡ d = omega arith in
      to_residual L _ _ _ (least_trans L _ _ _
      (same_least L _ _ (ap (λ t. o.product (p.response out i t) (x i j)) (sym back)))
      (least_trans L _ _ _ (forward_term p x out (j + d) i j h (omega arith)) (e out (j + d) a (omega arith))))))

  pub exact : CeilingIsExact o
  exact p K u z = (under_ceiling p K u z, meets_score p K u z)

  pub greatest : CeilingIsGreatest o
  greatest p K z = (meets_score p K (backward_cell o p K z) z (λ i j _ _. L.join_idem _), (λ u. under_ceiling p K u z))

  pub forward_rises : ForwardRises o
  forward_rises p K u v e = meets_score p K u (forward_cell o p v)
      (λ i j h g. least_trans L _ _ _ (e i j h g) (under_ceiling p K v (forward_cell o p v) (λ out k _ _. L.join_idem _) i j h g))

  pub backward_rises : BackwardRises o
  backward_rises p K y z e = under_ceiling p K (backward_cell o p K y) z
      (λ out k h g. least_trans L _ _ _ (meets_score p K (backward_cell o p K y) y (λ i j _ _. L.join_idem _) out k h g) (e out k h g))

  pub top_ceiling : TopCeiling o
  top_ceiling p K i j = both_least L _ _ (L.below_top _)
      (meets_greatest L p.outputs _ _ (λ out h. meets_greatest L (K - j) _ _ (λ d g. to_residual L _ _ _ (L.below_top _))))
