use Rattle.std.proofs.Common.{◌≡◌, drop, vec_items}
use Rattle.phrases.specs.Events.{Follows}
use Rattle.printing.proofs.Following.{PlayedTo}
use Rattle.printing.proofs.play.play_lines.Given as goal

abbrev pub invariant-loop-line : goal.invariant-loop-line
invariant-loop-line g l =
    (l.phrase.phrase.plant ≡ l.initial.phrase.phrase.plant)
    × (l.phrase.phrase.horizon ≡ l.initial.phrase.phrase.horizon)
    × PlayedTo l.lines (vec_items l.list) (drop l.line-index l.lines)
    × Follows g.P.Value.Kind.ops g.P.Plant.meaning g.P.Plant.need l.initial.phrase.phrase l.phrase.phrase (vec_items l.list) l.initial.sheet l.sheet
