use Rattle.std.proofs.Common.{◌≡◌, ◌++◌, string_bytes}
use Rattle.plants.specs.Meaning.{block}
use Rattle.printing.specs.Rows.{cell_rows}
use Rattle.printing.proofs.rows.write_block.Given as goal

abbrev pub invariant-loop-n : goal.invariant-loop-n
invariant-loop-n g l =
    string_bytes l.out ≡ string_bytes l.initial.out ++ cell_rows g.T.CardKind.text l.block l.fn.k.beats (block g.T.Kind.ops l.cells 0 l.fn.k.beats) l.n
