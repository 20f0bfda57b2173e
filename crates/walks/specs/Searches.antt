-- Walks found one by one. A walk is high where its gain is not at most one.
use Rattle.std.specs.Prelude.{ℕ, ◌<◌, ◌≤◌, List, [], ◌∷◌, length}
use Rattle.kinds.specs.Kind.{Ops, AtMost}
use Rattle.walks.specs.Walks.{best}

-- ts leads greedily from a to b after the gain q: each next transition is the first with which the walk can still be high
abbrev pub Greedily : {T : Type 0} → Ops T → ℕ → (ℕ → ℕ → T) → T → ℕ → List ℕ → ℕ → Type 0
Greedily o n A q a [] b = AtMost o (o.product q (A a b)) o.one → ⊥
Greedily o n A q a (x ∷ xs) b =
    ((y : ℕ) → y < x → AtMost o (o.product (o.product q (A a y)) (best o n A (length xs) y b)) o.one)
    × Greedily o n A (o.product q (A a x)) x xs b

-- among the starts below `upto`: no closed walk through fewer than `more` transitions is high,
-- none through `more` from a start before `start`, and, if `more` is below n, one from `start` is
pub record Sought {T : Type 0} (o : Ops T) (n : ℕ) (A : ℕ → ℕ → T) (upto start more : ℕ) : Type 0 where
  pub within : more ≤ n
  pub shorter : (s t : ℕ) → s < more → t < upto → AtMost o (best o n A s t t) o.one
  pub earlier : (t : ℕ) → t < start → AtMost o (best o n A more t t) o.one
  pub bad : more < n → (start < upto) × (AtMost o (best o n A more start start) o.one → ⊥)
