use Rattle.std.proofs.Common.{◌-◌}
use Rattle.nets.proofs.Settles.{Settling}
use Rattle.nets.proofs.floor.Floor.settle.Given as goal

abbrev pub invariant-loop-round : goal.invariant-loop-round
invariant-loop-round g l = Settling g.T.Kind.ops l.initial.self (l._round - 1) l.self
