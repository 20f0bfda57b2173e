-- What a call of a plant leaves.
use Rattle.std.specs.Prelude.{◌≡◌, ℕ, ◌+◌, ◌*◌, ◌<◌, ◌≤◌, List, length, Ok, Err, Result, slice_index_or}
use Rattle.kinds.specs.Kind.{Ops}
use Rattle.kinds.specs.declared.refusals.Refusal.{Refusal}
use Rattle.kinds.specs.declared.refusals.Refusal.TheVariants.{Short}
use Rattle.plants.specs.declared.places.Places.{Places}
use Rattle.plants.specs.Fits.{Fits}
use Rattle.plants.specs.Meaning.{Meaning, block, forward_cell, backward_cell}

-- cell a is none of the `size` cells from `start`
abbrev pub Outside : ℕ → ℕ → ℕ → Type 0
Outside start size a = start ≤ a → a < start + size → ⊥

-- the block of `wires` at `start` holds `cell`, and all cells but it and the working cells are kept
pub record Filled {T : Type 0} (o : Ops T) (K start wires working need : ℕ) (cell : ℕ → ℕ → T) (before after : List T) : Type 0 where
  pub cells : (w k : ℕ) → w < wires → k < K → block o after start K w k ≡ cell w k
  pub others : (a : ℕ) → Outside start (wires * K) a → Outside working need a → slice_index_or after a o.bottom ≡ slice_index_or before a o.bottom

-- n cells from `start` hold v, as far as the sheet goes, and no other cell is changed
pub record Flooded {T : Type 0} (o : Ops T) (start n : ℕ) (v : T) (before after : List T) : Type 0 where
  pub inside : (a : ℕ) → start ≤ a → a < start + n → a < length before → slice_index_or after a o.bottom ≡ v
  pub outside : (a : ℕ) → Outside start n a → slice_index_or after a o.bottom ≡ slice_index_or before a o.bottom

-- accepted exactly when `fits`; a refusal is 8
abbrev pub Checked : Type 0 → Result (Unit {0}) Refusal → Type 0
Checked fits (Ok _) = fits
Checked fits (Err e) = (e ≡ Short) × (fits → ⊥)

-- accepted exactly when `fits`, and then `done`; a refusal is 8, and changes nothing
abbrev pub Outcome : {T : Type 0} → Result (Unit {0}) Refusal → Type 0 → Type 0 → List T → List T → Type 0
Outcome (Ok _) fits done before after = fits × done
Outcome (Err e) fits done before after = (e ≡ Short) × (fits → ⊥) × (after ≡ before)

module _ {T : Type 0} (o : Ops T) (p : Meaning T) (need K : ℕ) (at : Places) (before after : List T) (r : Result (Unit {0}) Refusal) where
  -- the output block becomes the forward answer to the input block
  abbrev pub Forward : Type 0
  Forward = Outcome r (Fits p.inputs p.outputs K need at (length before))
      (Filled o K at.output p.outputs at.working need (forward_cell o p (block o before at.input K)) before after) before after

  -- the input block becomes the backward answer to the output block
  abbrev pub Backward : Type 0
  Backward = Outcome r (Fits p.inputs p.outputs K need at (length before))
      (Filled o K at.input p.inputs at.working need (backward_cell o p K (block o before at.output K)) before after) before after
