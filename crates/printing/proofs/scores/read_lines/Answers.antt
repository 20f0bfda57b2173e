use Rattle.std.proofs.Common.{None, Ok, Err, vec_items, sym, refl, ap, ◌∙◌}
use Rattle.printing.proofs.Reading.{lines_end}
use Rattle.printing.proofs.scores.read_lines.Goals as goal

pub returns-in-Ok-None : goal.returns-in-Ok-None
returns-in-Ok-None g c =
    lines_end g.T.CardKind.reading c.args.score.lines.text.now c.loop-line.score.lines.text.now c.args.score.lines.at c.loop-line.score.lines.at
    (vec_items c.loop-line.lines) (Ok None) (Ok tt) c.loop-line.invariant.0
    (sym (c.in-Ok-None.is ∙ ap Ok c.in-Ok-None.field-0-is) ∙ c.next_line.ensures.result) refl c.loop-line.invariant.1

pub returns-in-Err : goal.returns-in-Err
returns-in-Err g c =
    lines_end g.T.CardKind.reading c.args.score.lines.text.now c.loop-line.score.lines.text.now c.args.score.lines.at c.loop-line.score.lines.at
    (vec_items c.loop-line.lines) (Err c.in-Err.fault) (Err c.in-Err.fault) c.loop-line.invariant.0
    (sym c.in-Err.is ∙ c.next_line.ensures.result) refl c.loop-line.invariant.1
