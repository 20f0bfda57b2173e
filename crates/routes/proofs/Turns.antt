-- The rounds of a turn, and the turns before it.
use Rattle.std.proofs.Common.{◌≡◌, ℕ, zero, suc, ◌-◌, ◌<◌, List, length, get_or, refl, ap, ◌∙◌, ap₂, arith}
use Rattle.kinds.specs.Kind.{Ops}
use Rattle.links.specs.Takes.{tokenless}
use Rattle.links.specs.declared.Link.{Link}
use Rattle.routes.specs.Ways.{none, both, along, tail, head, flow, relaxed, unreached, states, state}
use Rattle.routes.specs.declared.Way.{Way}
use Rattle.routes.proofs.Ends.{tail_ends}
use Rattle.routes.proofs.Lists.{acting_same}

module _ {T : Type 0} (o : Ops T) (way : Way) (n : ℕ) (links : List (Link T)) where
  -- rounds depend on the states of the n transitions only
  pub flow_same : (x y : ℕ → T) → ((f : ℕ) → f < n → x f ≡ y f) → (t : ℕ) → flow o way n links x t ≡ flow o way n links y t
  flow_same x y same t = acting_same (none o way) (both o way) (tokenless n) (head way) _ _ links t (λ l on. ap (along o way l.value) (same (tail way l) (tail_ends way n l on).0))

  pub relaxed_same : (s : ℕ) (x y : ℕ → T) → ((f : ℕ) → f < n → x f ≡ y f) → (t : ℕ) → t < n → relaxed o way n links s x t ≡ relaxed o way n links s y t
  relaxed_same zero x y same t h = same t h
  relaxed_same (suc s) x y same t h =
      ap₂ (both o way) (relaxed_same s x y same t h) (flow_same (relaxed o way n links s x) (relaxed o way n links s y) (relaxed_same s x y same) t)

-- the states of the turns before
module _ {T : Type 0} (o : Ops T) (way : Way) (n w : ℕ) (links : List (Link T)) (u : ℕ → ℕ → T) where
  pub states_at : (k d : ℕ) → d < k → get_or (states o way n w links u k) d (unreached o way) ≡ state o way n w links u (k - suc d)
  states_at zero d h = absurd (omega arith)
  states_at (suc k) zero h = ap (state o way n w links u) (let e : k ≡ suc k - 1 = omega arith in e)
  states_at (suc k) (suc d) h = states_at k d (omega arith) ∙ ap (state o way n w links u) (let e : k - suc d ≡ suc k - suc (suc d) = omega arith in e)

  pub states_length : (k : ℕ) → length (states o way n w links u k) ≡ k
  states_length zero = refl
  states_length (suc k) = ap suc (states_length k)
