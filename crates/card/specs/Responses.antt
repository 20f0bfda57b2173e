-- The first responses of a net: the strikes of each output in four beats, all inputs being triggered in the first beat alone.
use Rattle.std.specs.Prelude.{◌≡◌, ℕ, ◌*◌, ◌/◌, ◌%◌, ◌<◌, cond, List, ◌==◌, slice_index_or}
use Rattle.kinds.specs.Kind.{Ops}
use Rattle.links.specs.declared.Link.{Link}
use Rattle.links.specs.declared.Counts.{Counts}
use Rattle.plants.specs.Meaning.{Meaning, forward_cell}
use Rattle.loading.specs.Loads.{net_of}
use Rattle.card.specs.Cells.{cell_rows}

-- one in the first beat, bottom in the others
abbrev pub at_once : {T : Type 0} → Ops T → ℕ → ℕ → T
at_once o i j = cond (j == 0) o.one o.bottom

-- the first n cells of a sheet hold this, K to a wire
abbrev pub Struck : {T : Type 0} → Ops T → ℕ → ℕ → List T → Type 0
Struck o K n sheet = (a : ℕ) → a < n → slice_index_or sheet a o.bottom ≡ at_once o (a / K) (a % K)

-- the answer of a plant to it, by output, then beat
abbrev pub response_cell : {T : Type 0} → Ops T → Meaning T → ℕ → ℕ → T
response_cell o p K c = forward_cell o p (at_once o) (c / K) (c % K)

abbrev pub told_responses : {T : Type 0} → Ops T → (T → List ℕ) → Meaning T → ℕ → List ℕ
told_responses o text p K = cell_rows text K (response_cell o p K) (p.outputs * K)

abbrev pub response_rows : {T : Type 0} → Ops T → (T → List ℕ) → Counts → List (Link T) → List ℕ
response_rows o text n links = told_responses o text (net_of o n links) 4
