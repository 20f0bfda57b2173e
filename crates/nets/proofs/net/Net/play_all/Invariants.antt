use Rattle.nets.specs.Nets.{Driven}
use Rattle.nets.proofs.net.Net.play_all.Given as goal

abbrev pub invariant-loop-turn : goal.invariant-loop-turn
invariant-loop-turn g l = Driven g.T.Kind.ops l.self l.way l.k.beats l.at l.turn l.initial.sheet l.sheet
