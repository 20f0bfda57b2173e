use Rattle.card.specs.Responses.{Struck}
use Rattle.card.proofs.responses.strike_once.Given as goal

abbrev pub invariant-loop-n : goal.invariant-loop-n
invariant-loop-n g l = Struck g.T.Kind.ops l.k.beats l.n l.cells
