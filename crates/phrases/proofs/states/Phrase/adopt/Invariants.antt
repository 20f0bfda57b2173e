use Rattle.phrases.specs.Promises.{fixed_in}
use Rattle.phrases.proofs.Duly.{Adopting}
use Rattle.phrases.proofs.states.Phrase.adopt.Given as goal

abbrev pub invariant-loop-wire : goal.invariant-loop-wire
invariant-loop-wire g l =
    Adopting g.P.Value.Kind.ops (g.P.Plant.meaning l.self.plant) l.self.horizon.beats (g.P.Plant.need l.self.plant l.self.horizon.beats) (fixed_in l.self) l.wire l.initial.sheet l.sheet
