-- Calls of one floor one after the other.
use Rattle.std.proofs.Common.{List, ◌∙◌, subst}
use Rattle.links.specs.declared.Link.{Link}
use Rattle.nets.specs.Floors.{SameFloor}
use Rattle.nets.specs.declared.floor.Floor.{Floor}
use Rattle.nets.specs.declared.stage.Stage.{Stage}

module _ {T : Type 0} where
  pub floor_more : (a b c : Floor T) → SameFloor a b → SameFloor b c → SameFloor a c
  floor_more a b c p q = (q.0 ∙ p.0, q.1 ∙ p.1, q.2 ∙ p.2)

  -- what is said of the turn and the links of a later call
  pub at_floor : (P : Stage → List (Link T) → Type 0) (a b : Floor T) → SameFloor a b → P b.stage b.links.now → P a.stage a.links.now
  at_floor P a b same h = subst (λ g. P g a.links.now) same.0 (subst (λ (l : _). P b.stage l.now) same.1 h)
