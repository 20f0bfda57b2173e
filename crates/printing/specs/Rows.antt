-- The rows of a card: its lines, each with the byte that ends it.
use Rattle.std.specs.Prelude.{ℕ, zero, suc, ◌/◌, ◌%◌, List, [], ◌∷◌, ◌++◌, Some, None, Option}
use Rattle.runs.specs.declared.acts.Act.{Act}
use Rattle.listing.specs.declared.lines.Block.{Block}
use Rattle.listing.specs.declared.lines.CardLine.{CardLine}
use Rattle.listing.specs.CardLines.{card_line, cell_line}
use Rattle.printing.specs.ActLines.{act_line}

abbrev pub row : List ℕ → List ℕ
row line = line ++ (10 ∷ [])

abbrev pub row_if : {T : Type 0} → (T → List ℕ) → Option (CardLine T) → List ℕ
row_if text None = []
row_if text (Some line) = row (card_line text line)

-- the rows of these calls, the oldest first
abbrev pub act_rows : {T : Type 0} → (T → List ℕ) → T → List (Act T) → List ℕ
act_rows text bottom [] = []
act_rows text bottom (a ∷ more) = row_if text (act_line bottom a) ++ act_rows text bottom more

-- the first n cells of a block of K beats, by wire, then beat
abbrev pub cell_rows : {T : Type 0} → (T → List ℕ) → Block → ℕ → (ℕ → ℕ → T) → ℕ → List ℕ
cell_rows text b K f zero = []
cell_rows text b K f (suc n) = cell_rows text b K f n ++ row (cell_line text b (n / K) (n % K) (f (n / K) (n % K)))
