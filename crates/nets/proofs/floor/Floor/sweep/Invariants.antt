use Rattle.std.proofs.Common.{take}
use Rattle.nets.proofs.Sweeps.{Sweeping}
use Rattle.nets.proofs.floor.Floor.sweep.Given as goal

abbrev pub invariant-loop-link : goal.invariant-loop-link
invariant-loop-link g l = Sweeping g.T.Kind.ops l.leg l.initial.self (take l.link-index l.initial.self.links.now) l.self
