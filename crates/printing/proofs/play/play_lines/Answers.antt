use Rattle.std.proofs.Common.{vec_items, ◌∙◌}
use Rattle.phrases.specs.Events.{acts}
use Rattle.printing.proofs.Following.{line_played, all_played, follow_on}
use Rattle.printing.proofs.play.play_lines.Goals as goal

pub loop-line-preserved : goal.loop-line-preserved
loop-line-preserved g c =
    let made = vec_items c.loop-line.list in
    let mine = acts c.play_line-event.result in
    let grown = c.in_ok-note.ensures in (
      c.play_line-event.ensures.same.0 ∙ c.loop-line.invariant.0,
      c.play_line-event.ensures.same.1 ∙ c.loop-line.invariant.1,
      line_played c.args.lines.now c.loop-line.line-index c.line-item.result made mine (vec_items c.note.new.list) c.loop-line-test.true c.line-item.is
          c.play_line-event.ensures.calls grown c.loop-line.invariant.2,
      follow_on g.P.Value.Kind.ops g.P.Plant.meaning g.P.Plant.need c.args.phrase.now.phrase c.loop-line.phrase.phrase c.play_line-event.new.phrase.phrase
          made mine (vec_items c.note.new.list) c.args.sheet.now c.loop-line.sheet c.play_line-event.new.sheet c.loop-line.invariant.0 c.loop-line.invariant.1 grown
          c.loop-line.invariant.3 c.play_line-event.ensures.law,
    )

pub returns-clause-calls : goal.returns-clause-calls
returns-clause-calls g c =
    all_played c.args.lines.now c.loop-line.line-index (vec_items c.loop-line.list) c.loop-line-test.false c.loop-line.invariant.2
