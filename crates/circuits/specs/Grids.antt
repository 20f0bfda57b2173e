-- Cells by row and column, n to a row.
use Rattle.std.specs.Prelude.{◌≡◌, ℕ, suc, ◌+◌, ◌*◌, ◌<◌, ◌≤◌, List, ◌∷◌, ◌++◌, length, drop, slice_index_or, Option, Some, None, MatchOption}
use Rattle.kinds.specs.Kind.{Ops, AtMost}
use Rattle.walks.specs.Walks.{AllBelow, best}
use Rattle.walks.specs.Searches.{Greedily, Sought}
use Rattle.circuits.specs.declared.grid.Grid.{Grid}
use Rattle.circuits.specs.declared.search.Walk.{Walk}

-- a cell, bottom beyond the end
abbrev pub cell : {T : Type 0} → Ops T → List T → ℕ → T
cell o xs i = slice_index_or xs i o.bottom

-- the cell in row r and column t
abbrev pub spot : {T : Type 0} → Ops T → ℕ → List T → ℕ → ℕ → T
spot o n cells r t = cell o cells (r * n + t)

-- the cells from `end` on are the same
abbrev pub Beyond : {T : Type 0} → Ops T → ℕ → List T → List T → Type 0
Beyond o end before after = (j : ℕ) → end ≤ j → cell o after j ≡ cell o before j

-- the rows below `rows` are the same
abbrev pub SameTo : {T : Type 0} → Ops T → ℕ → ℕ → List T → List T → Type 0
SameTo o n rows before after = (r t : ℕ) → r < rows → t < n → spot o n after r t ≡ spot o n before r t

-- the gain q, times the cell in column x of row `at`, times that of row `row`, is at most one
abbrev pub Stays : {T : Type 0} → Ops T → ℕ → List T → T → ℕ → ℕ → ℕ → Type 0
Stays o n cells q at row x = AtMost o (o.product (o.product q (spot o n cells at x)) (spot o n cells row x)) o.one

-- the rows n, n + 1 and so on, `count` of them, hold the best gains to b through 0, 1 and so on transitions
abbrev pub Tabled : {T : Type 0} → Ops T → ℕ → (ℕ → ℕ → T) → ℕ → ℕ → List T → Type 0
Tabled o n A b count cells = (s t : ℕ) → s < count → t < n → spot o n cells (n + s) t ≡ best o n A s t b

-- the list begins with start and a greedy walk of `more` transitions back to it, and then goes on as before
pub record Listed {T : Type 0} (o : Ops T) (n : ℕ) (A : ℕ → ℕ → T) (start more : ℕ) (list list' : List ℕ) : Type 0 where
  pub ts : List ℕ
  pub long : length ts ≡ more
  pub below : AllBelow n ts
  pub greedy : Greedily o n A o.one start ts start
  pub written : list' ≡ (start ∷ ts) ++ drop (suc more) list

-- the same cells are lent, in rows of the same length
abbrev pub SameLoan : {T : Type 0} → Grid T → Grid T → Type 0
SameLoan before after = (after.n ≡ before.n) × (after.cells.ghost_name ≡ before.cells.ghost_name)

-- the rows below `rows` and the cells after the table are the same
pub record Kept {T : Type 0} (o : Ops T) (rows : ℕ) (before after : Grid T) : Type 0 where
  pub loan : SameLoan before after
  pub same : SameTo o before.n rows before.cells.now after.cells.now
  pub beyond : Beyond o (2 * before.n * before.n) before.cells.now after.cells.now

-- the first number below n for which P does not hold
abbrev pub FirstFailing : (ℕ → Type 0) → ℕ → Option ℕ → Type 0
FirstFailing P n r = MatchOption r ((k : ℕ) → k < n → P k) (λ m. (m < n) × ((k : ℕ) → k < m → P k) × (P m → ⊥))

-- the first of the shortest high closed walks from the starts below `upto`
abbrev pub Found : {T : Type 0} → Ops T → ℕ → (ℕ → ℕ → T) → ℕ → Option Walk → Type 0
Found o n A upto None = Sought o n A upto 0 n
Found o n A upto (Some w) = (w.more < n) × Sought o n A upto w.start w.more
