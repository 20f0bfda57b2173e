-- Two plants in series.
use Rattle.std.specs.Prelude.{◌≡◌, ℕ, ◌+◌, ◌-◌, ◌*◌, ◌^◌, ◌<◌, ◌≤◌, min, max, cond, Ok, Err, Result, nat_lt}
use Rattle.kinds.specs.Kind.{Ops}
use Rattle.kinds.specs.declared.refusals.Refusal.{Refusal}
use Rattle.kinds.specs.declared.refusals.Refusal.TheVariants.{Short}
use Rattle.plants.specs.declared.places.Places.{Places}
use Rattle.plants.specs.Fits.{Fits}
use Rattle.plants.specs.Meaning.{Meaning, Counted, joins, wired, forward_cell, backward_cell}
use Rattle.cabling.specs.declared.series.Inner.{Inner}

-- how many wires are joined
abbrev pub joined : {T : Type 0} → Meaning T → Meaning T → ℕ
joined a b = max a.outputs b.inputs

-- a, then b: every way over a joined wire, c beats in a and the rest in b
abbrev pub chain : {T : Type 0} → Ops T → Meaning T → Meaning T → Meaning T
chain o a b = record {
  inputs = a.inputs;
  outputs = b.outputs;
  response = λ out inp d. joins o (joined a b) (λ l. joins o (d + 1) (λ c. o.product (wired o b out l (d - c)) (wired o a l inp c)));
}

-- the working cells at K beats, where the plants below need x and y
abbrev pub chain_need : {T : Type 0} → Meaning T → Meaning T → ℕ → ℕ → ℕ → ℕ
chain_need a b K x y = min (joined a b * K + max x y) (2 ^ 64 - 1)

pub chain_counted : {T : Type 0} (o : Ops T) (a b : Meaning T) → Counted a → Counted b → Counted (chain o a b)
chain_counted o a b p q = record { some_input = p.some_input; few_inputs = p.few_inputs; some_output = q.some_output; few_outputs = q.few_outputs }

-- the places of the inner calls, whose own working cells begin at `rest`
abbrev pub inner_places : Places → ℕ → Inner
inner_places at rest = record {
  first = record { input = at.input; output = at.working; working = rest };
  second = record { input = at.working; output = at.output; working = rest };
}

-- the joined wires and the inner calls have their space in a sheet of `len` cells
pub record Laid {T : Type 0} (a b : Meaning T) (K x y : ℕ) (at : Places) (len : ℕ) (inner : Inner) : Type 0 where
  pub places : inner ≡ inner_places at (at.working + joined a b * K)
  pub room : at.working + (joined a b * K + max x y) ≤ len
  pub whole : Fits a.inputs b.outputs K (chain_need a b K x y) at len
  pub first : Fits a.inputs a.outputs K x inner.first len
  pub second : Fits b.inputs b.outputs K y inner.second len

-- refused exactly when the places do not suit the sheet
abbrev pub Layout : {T : Type 0} → Meaning T → Meaning T → ℕ → ℕ → ℕ → Places → ℕ → Result Inner Refusal → Type 0
Layout a b K x y at len (Ok inner) = Laid a b K x y at len inner
Layout a b K x y at len (Err e) = (e ≡ Short) × (Fits a.inputs b.outputs K (chain_need a b K x y) at len → ⊥)

-- what the joined wires bear forward: a's answer to u, and bottom at a wire that a lacks
abbrev pub passed : {T : Type 0} → Ops T → Meaning T → (ℕ → ℕ → T) → ℕ → ℕ → T
passed o a u l t = cond (nat_lt l a.outputs) (forward_cell o a u l t) o.bottom

-- what the joined wires bear backward: b's answer to z, and top at a wire that b lacks
abbrev pub allowed : {T : Type 0} → Ops T → Meaning T → ℕ → (ℕ → ℕ → T) → ℕ → ℕ → T
allowed o b K z l t = cond (nat_lt l b.inputs) (backward_cell o b K z l t) o.top

-- the forward answer of a series is the second's forward answer to the first's
abbrev pub SeriesForward : {T : Type 0} → Ops T → Type 0
SeriesForward {T} o = (a b : Meaning T) (u : ℕ → ℕ → T) (out k : ℕ) → out < b.outputs
    → forward_cell o (chain o a b) u out k ≡ forward_cell o b (passed o a u) out k

-- the backward answer of a series is the first's backward answer to the second's
abbrev pub SeriesBackward : {T : Type 0} → Ops T → Type 0
SeriesBackward {T} o = (a b : Meaning T) (K : ℕ) (z : ℕ → ℕ → T) (inp j : ℕ) → inp < a.inputs → j < K
    → backward_cell o (chain o a b) K z inp j ≡ backward_cell o a K (allowed o b K z) inp j
