use Rattle.std.proofs.Common.{◌≡◌, string_bytes, ◌∙◌, ap, sym, get_or, ℕ, zero-add}
use Rattle.std.proofs.lemmas.List.{get_or_read}
use Rattle.card.specs.Cells.{cell_at}
use Rattle.card.proofs.Rows.{row_more}
use Rattle.card.proofs.cells.write_cells.Goals as goal

pub loop-n-preserved : goal.loop-n-preserved
loop-n-preserved g c =
    let o = g.T.Kind.ops in
    let cells = c.args.cells.now in
    let n = c.loop-n.n in
    let value = c.index-cells-n.result in
    let there : value ≡ cell_at o cells 0 n =
    get_or_read cells n value c.loop-n-test.true c.index-cells-n.is o.bottom ∙ ap (λ (i : ℕ). get_or cells i o.bottom) (sym (zero-add n)) in
    row_more g.T.CardKind.text c.beats-beats.result (cell_at o cells 0) n value (string_bytes c.args.out.now) (string_bytes c.loop-n.out)
    (string_bytes c.write_cell.new.out) there c.loop-n.invariant c.in_ok-write_cell.ensures
