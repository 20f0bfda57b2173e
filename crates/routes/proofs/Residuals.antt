-- The backward answer of a net that passes is the residual of its least solutions.
use Rattle.std.proofs.Common.{◌≡◌, ℕ, ◌<◌, List, sym, ap, ◌∙◌, subst}
use Rattle.kinds.specs.Kind.{Ops, Laws, AtMost}
use Rattle.links.specs.Takes.{leaving}
use Rattle.links.specs.declared.Link.{Link}
use Rattle.plants.specs.Meaning.{forward_cell}
use Rattle.plants.proofs.Order.{both_least}
use Rattle.plants.proofs.Galois.{meets_score, under_ceiling}
use Rattle.routes.specs.Routes.{net_meaning}
use Rattle.routes.specs.Solutions.{LeavesLeast}
use Rattle.routes.specs.Theorems.{CeilingsBoundSolutions}
use Rattle.links.proofs.Ends.{leaving_ends}
use Rattle.routes.proofs.Lists.{acting_same}
use Rattle.routes.proofs.Solutions.{solved}

module _ {T : Type 0} {o : Ops T} (laws : Laws o) where
  -- only one output leaves by least solutions
  leaves_once : (n m p : ℕ) (links : List (Link T)) (u : ℕ → ℕ → T) (K : ℕ) (y y' : ℕ → ℕ → T) → LeavesLeast o n m p links u K y → LeavesLeast o n m p links u K y'
      → (w k : ℕ) → w < p → k < K → y w k ≡ y' w k
  leaves_once n m p links u K y y' a b w k h g =
      a.2 w k h g
      ∙ acting_same o.bottom o.join (leaving n p) (λ l. l.to) (λ l. o.product l.value (a.0 l.from k)) (λ l. o.product l.value (b.0 l.from k)) links w
      (λ l on. ap (o.product l.value) (both_least laws _ _
      (a.1.least b.0 b.1.solves l.from k (leaving_ends n p l on).0 g)
      (b.1.least a.0 a.1.solves l.from k (leaving_ends n p l on).0 g)))
      ∙ sym (b.2 w k h g)

  pub bounded : CeilingsBoundSolutions o
  bounded n m p links K u y z some passes leaves =
      let same = leaves_once n m p links u K y (forward_cell o (net_meaning o n m p links) u) leaves (solved laws n m links p u K some passes) in (
        (λ h. under_ceiling laws (net_meaning o n m p links) K u z (λ w k hw hk. subst (λ v. AtMost o v (z w k)) (same w k hw hk) (h w k hw hk))),
        (λ h w k hw hk. subst (λ v. AtMost o v (z w k)) (sym (same w k hw hk)) (meets_score laws (net_meaning o n m p links) K u z h w k hw hk)),
      )
