-- The strikes and the ceiling of a net that passes.
use Rattle.std.proofs.Common.{ℕ, List, Ok, Err, Result, sym, ◌∙◌, subst}
use Rattle.kinds.specs.Kind.{Ops, Laws, AtMost}
use Rattle.kinds.specs.declared.refusals.Refusal.{Refusal}
use Rattle.plants.specs.Calls.{Forward, Backward}
use Rattle.plants.specs.Meaning.{block}
use Rattle.plants.specs.declared.places.Places.{Places}
use Rattle.walks.specs.Circuits.{Passes}
use Rattle.routes.proofs.Solutions.{solved}
use Rattle.routes.proofs.Residuals.{bounded}
use Rattle.nets.specs.Nets.{meant, net_need, Solved, Bounded}
use Rattle.nets.specs.declared.net.Net.{Net}

module _ {T : Type 0} {o : Ops T} (laws : Laws o) (s : Net T) (K : ℕ) (at : Places) (before after : List T) where
  pub strikes_solve : (r : Result (Unit {0}) Refusal) → Forward o (meant o s) (net_need s K) K at before after r → Passes o s.transitions s.links.now → Solved o s K at before after r
  strikes_solve (Ok v) f passes =
      let least = solved laws s.transitions s.inputs s.links.now s.outputs (block o before at.input K) K s.inner.0 passes in
      (least.0, least.1, λ w k h g. f.1.cells w k h g ∙ least.2 w k h g)
  strikes_solve (Err e) f passes = tt

  pub ceilings_bound : (r : Result (Unit {0}) Refusal) → Backward o (meant o s) (net_need s K) K at before after r → Passes o s.transitions s.links.now → Bounded o s K at before after r
  ceilings_bound (Ok v) f passes = λ u y leaves.
      let exact = bounded laws s.transitions s.inputs s.outputs s.links.now K u y (block o before at.output K) s.inner.0 passes leaves in (
        (λ h i j hi hj. subst (AtMost o (u i j)) (sym (f.1.cells i j hi hj)) (exact.0 h i j hi hj)),
        (λ h. exact.1 (λ i j hi hj. subst (AtMost o (u i j)) (f.1.cells i j hi hj) (h i j hi hj))),
      )
  ceilings_bound (Err e) f passes = tt
