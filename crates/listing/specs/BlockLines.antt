-- The lines of a block of cells.
use Rattle.std.specs.Prelude.{ℕ, ◌+◌, ◌/◌, ◌%◌, List, [], ◌∷◌}
use Rattle.listing.specs.declared.lines.Block.{Block}
use Rattle.listing.specs.declared.lines.CardLine.{CardLine}
use Rattle.listing.specs.declared.lines.CardLine.TheVariants.{Cell}

-- the lines of cells from cell n on, with k beats to a wire
abbrev pub lines_at : {T : Type 0} → Block → ℕ → ℕ → List T → List (CardLine T)
lines_at block k n [] = []
lines_at block k n (x ∷ xs) = Cell block (n / k) (n % k) x ∷ lines_at block k (n + 1) xs

-- the lines of a block, by wire, then beat
abbrev pub block_lines : {T : Type 0} → Block → ℕ → List T → List (CardLine T)
block_lines block k cells = lines_at block k 0 cells
