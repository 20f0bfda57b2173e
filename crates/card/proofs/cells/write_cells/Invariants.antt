use Rattle.std.proofs.Common.{◌≡◌, ◌++◌, string_bytes}
use Rattle.card.specs.Cells.{cell_rows, cell_at}
use Rattle.card.proofs.cells.write_cells.Given as goal

abbrev pub invariant-loop-n : goal.invariant-loop-n
invariant-loop-n g l =
    string_bytes l.out ≡ string_bytes l.initial.out ++ cell_rows g.T.CardKind.text l.beats (cell_at g.T.Kind.ops l.cells 0) l.n
