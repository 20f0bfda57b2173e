-- Walks from transition to transition: parallel places are joined to an arc.
use Rattle.std.specs.Prelude.{ℕ, zero, suc, ◌<◌, ◌&&◌, List, [], ◌∷◌, length, ◌==◌}
use Rattle.kinds.specs.Kind.{Ops, AtMost}
use Rattle.links.specs.declared.Link.{Link}
use Rattle.links.specs.Takes.{tokenless}
use Rattle.plants.specs.Meaning.{joins}
use Rattle.walks.specs.Folds.{gate, joined}

-- the join of the values of the tokenless places from a to b
abbrev pub arc : {T : Type 0} → Ops T → ℕ → List (Link T) → ℕ → ℕ → T
arc o n links a b = joined o (λ l. gate o (tokenless n l && (l.from == a && l.to == b)) l.value) links

-- the gain from a through the transitions ts to b
abbrev pub gain : {T : Type 0} → Ops T → (ℕ → ℕ → T) → ℕ → List ℕ → ℕ → T
gain o A a [] b = A a b
gain o A a (x ∷ xs) b = o.product (A a x) (gain o A x xs b)

abbrev pub AllBelow : ℕ → List ℕ → Type 0
AllBelow n [] = Unit {0}
AllBelow n (x ∷ xs) = (x < n) × AllBelow n xs

-- every closed walk of at most `longest` steps has a gain of at most one
abbrev pub WalksPassTo : {T : Type 0} → Ops T → ℕ → (ℕ → ℕ → T) → ℕ → Type 0
WalksPassTo o n A longest = (t : ℕ) (ts : List ℕ) → t < n → AllBelow n ts → length ts < longest → AtMost o (gain o A t ts t) o.one

-- every closed walk has a gain of at most one
abbrev pub WalksPass : {T : Type 0} → Ops T → ℕ → (ℕ → ℕ → T) → Type 0
WalksPass o n A = (t : ℕ) (ts : List ℕ) → t < n → AllBelow n ts → AtMost o (gain o A t ts t) o.one

-- the join of the gains from a to b through s transitions
abbrev pub best : {T : Type 0} → Ops T → ℕ → (ℕ → ℕ → T) → ℕ → ℕ → ℕ → T
best o n A zero a b = A a b
best o n A (suc s) a b = joins o n (λ x. o.product (A a x) (best o n A s x b))
