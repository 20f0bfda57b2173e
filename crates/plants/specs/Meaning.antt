-- What a plant means, and the answers that it gives.
use Rattle.std.specs.Prelude.{ℕ, zero, suc, ◌+◌, ◌-◌, ◌*◌, ◌≤◌, cond, ◌&&◌, List, nat_lt, slice_index_or}
use Rattle.kinds.specs.Kind.{Ops}

-- counts of inputs and outputs, and the response by output, input and delay
pub record Meaning (T : Type 0) : Type 0 where
  pub inputs : ℕ
  pub outputs : ℕ
  pub response : ℕ → ℕ → ℕ → T

-- a plant has 1 to 16 wires a side
pub record Counted {T : Type 0} (p : Meaning T) : Type 0 where
  pub some_input : 1 ≤ p.inputs
  pub few_inputs : p.inputs ≤ 16
  pub some_output : 1 ≤ p.outputs
  pub few_outputs : p.outputs ≤ 16

-- the response, and bottom at a wire that the plant lacks
abbrev pub wired : {T : Type 0} → Ops T → Meaning T → ℕ → ℕ → ℕ → T
wired o p out inp d = cond (nat_lt out p.outputs && nat_lt inp p.inputs) (p.response out inp d) o.bottom

-- the join and the meet of f 0 to f (n - 1)
abbrev pub joins : {T : Type 0} → Ops T → ℕ → (ℕ → T) → T
joins o zero f = o.bottom
joins o (suc n) f = o.join (joins o n f) (f n)

abbrev pub meets : {T : Type 0} → Ops T → ℕ → (ℕ → T) → T
meets o zero f = o.top
meets o (suc n) f = o.meet (meets o n f) (f n)

-- wire w, beat k of the block that begins at `start`
abbrev pub block : {T : Type 0} → Ops T → List T → ℕ → ℕ → ℕ → ℕ → T
block o sheet start K w k = slice_index_or sheet (start + (w * K + k)) o.bottom

-- the forward answer to u at output `out`, beat k, and what one input adds to it
abbrev pub forward_part : {T : Type 0} → Ops T → Meaning T → (ℕ → ℕ → T) → ℕ → ℕ → ℕ → T
forward_part o p u out k inp = joins o (k + 1) (λ j. o.product (p.response out inp (k - j)) (u inp j))

abbrev pub forward_cell : {T : Type 0} → Ops T → Meaning T → (ℕ → ℕ → T) → ℕ → ℕ → T
forward_cell o p u out k = joins o p.inputs (forward_part o p u out k)

-- the backward answer to z at input `inp`, beat j; d is the delay from j on
abbrev pub backward_part : {T : Type 0} → Ops T → Meaning T → ℕ → (ℕ → ℕ → T) → ℕ → ℕ → ℕ → T
backward_part o p K z inp j out = meets o (K - j) (λ d. o.residual (p.response out inp d) (z out (j + d)))

abbrev pub backward_cell : {T : Type 0} → Ops T → Meaning T → ℕ → (ℕ → ℕ → T) → ℕ → ℕ → T
backward_cell o p K z inp j = meets o p.outputs (backward_part o p K z inp j)
