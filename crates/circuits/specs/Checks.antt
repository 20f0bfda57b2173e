-- What the circuit check answers.
use Rattle.std.specs.Prelude.{◌≡◌, ℕ, ◌*◌, ◌≤◌, List, ◌∷◌, ◌++◌, length, drop, Ok, Err, Result}
use Rattle.kinds.specs.Kind.{Ops}
use Rattle.walks.specs.Circuits.{Passes, Named}
use Rattle.links.specs.declared.Link.{Link}
use Rattle.circuits.specs.declared.CircuitFault.{CircuitFault}
use Rattle.circuits.specs.declared.CircuitFault.TheVariants.{Short, Circuit}

-- the working cells and the list are long enough
abbrev pub Roomy : {T : Type 0} → ℕ → List T → List ℕ → Type 0
Roomy n cells list = (2 * n * n ≤ length cells) × (64 ≤ length list)

-- the cells after the working cells are unchanged
abbrev pub Spared : {T : Type 0} → ℕ → List T → List T → Type 0
Spared n cells cells' = drop (2 * n * n) cells' ≡ drop (2 * n * n) cells

-- Accepted: every circuit's gain is at most one, and the list is unchanged.
-- Too short: nothing is changed.
-- A circuit: the list begins with the transitions of the one to be named, and its other bytes are unchanged.
abbrev pub Checked : {T : Type 0} → Ops T → ℕ → List (Link T) → List T → List T → List ℕ → List ℕ → Result (Unit {0}) CircuitFault → Type 0
Checked o n links cells cells' list list' (Ok x) = Roomy n cells list × Spared n cells cells' × Passes o n links × (list' ≡ list)
Checked o n links cells cells' list list' (Err Short) = (Roomy n cells list → ⊥) × (cells' ≡ cells) × (list' ≡ list)
Checked o n links cells cells' list list' (Err (Circuit start count)) =
    Roomy n cells list × Spared n cells cells'
    × ((ts : List ℕ) × Named o n links (start ∷ ts) × (count ≡ length (start ∷ ts)) × (list' ≡ (start ∷ ts) ++ drop count list))
