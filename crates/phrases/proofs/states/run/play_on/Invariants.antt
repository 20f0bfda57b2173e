use Rattle.std.proofs.Common.{◌≡◌, take}
use Rattle.runs.specs.Performed.{calls}
use Rattle.phrases.specs.Phases.{PlayedFrom}
use Rattle.phrases.proofs.states.run.play_on.Given as goal

abbrev pub invariant-loop-act : goal.invariant-loop-act
invariant-loop-act g l =
    PlayedFrom g.P.Value.Kind.ops g.P.Plant.meaning g.P.Plant.need l.initial.phase l.phase (take l.act-index l.acts) l.initial.sheet l.sheet
    × (calls l.acts ≡ calls l.initial.acts)
