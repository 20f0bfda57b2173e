-- What forward and backward answers are to each other. A plan is a block of the plant's inputs.
use Rattle.std.specs.Prelude.{◌≡◌, ℕ, ◌<◌, ◌↔◌}
use Rattle.kinds.specs.Kind.{Ops, AtMost}
use Rattle.plants.specs.Meaning.{Meaning, forward_cell, backward_cell}

-- every cell of a, of w wires and K beats, is at most the cell of b
abbrev pub Below : {T : Type 0} → Ops T → ℕ → ℕ → (ℕ → ℕ → T) → (ℕ → ℕ → T) → Type 0
Below o w K a b = (v k : ℕ) → v < w → k < K → AtMost o (a v k) (b v k)

-- the plan u meets the score z: its forward answer is at most z in every cell
abbrev pub Meets : {T : Type 0} → Ops T → Meaning T → ℕ → (ℕ → ℕ → T) → (ℕ → ℕ → T) → Type 0
Meets o p K u z = Below o p.outputs K (forward_cell o p u) z

-- a plan meets the score exactly when it is at most the ceiling, the backward answer to the score
abbrev pub CeilingIsExact : {T : Type 0} → Ops T → Type 0
CeilingIsExact {T} o = (p : Meaning T) (K : ℕ) (u z : ℕ → ℕ → T) → Meets o p K u z ↔ Below o p.inputs K u (backward_cell o p K z)

-- the ceiling meets the score, and every plan that meets it lies at or below the ceiling
abbrev pub CeilingIsGreatest : {T : Type 0} → Ops T → Type 0
CeilingIsGreatest {T} o = (p : Meaning T) (K : ℕ) (z : ℕ → ℕ → T)
    → Meets o p K (backward_cell o p K z) z × ((u : ℕ → ℕ → T) → Meets o p K u z → Below o p.inputs K u (backward_cell o p K z))

-- both answers are monotone
abbrev pub ForwardRises : {T : Type 0} → Ops T → Type 0
ForwardRises {T} o = (p : Meaning T) (K : ℕ) (u v : ℕ → ℕ → T) → Below o p.inputs K u v → Below o p.outputs K (forward_cell o p u) (forward_cell o p v)

abbrev pub BackwardRises : {T : Type 0} → Ops T → Type 0
BackwardRises {T} o = (p : Meaning T) (K : ℕ) (y z : ℕ → ℕ → T) → Below o p.outputs K y z → Below o p.inputs K (backward_cell o p K y) (backward_cell o p K z)

-- the ceiling of all tops is all tops
abbrev pub TopCeiling : {T : Type 0} → Ops T → Type 0
TopCeiling {T} o = (p : Meaning T) (K : ℕ) (i j : ℕ) → backward_cell o p K (λ _ _. o.top) i j ≡ o.top
