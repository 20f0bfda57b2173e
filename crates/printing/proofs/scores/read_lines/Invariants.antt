use Rattle.std.proofs.Common.{◌≡◌, ◌-◌, length, vec_items}
use Rattle.printing.proofs.Reading.{Leads}
use Rattle.printing.proofs.scores.read_lines.Given as goal

abbrev pub invariant-loop-line : goal.invariant-loop-line
invariant-loop-line g l =
    (l.score.lines.text.now ≡ l.initial.score.lines.text.now)
    × Leads g.T.CardKind.reading l.initial.score.lines.text.now l.initial.score.lines.at (vec_items l.lines) l.score.lines.at

abbrev pub decreases-loop-line : goal.decreases-loop-line
decreases-loop-line g l = length l.score.lines.text.now - l.score.lines.at.place
