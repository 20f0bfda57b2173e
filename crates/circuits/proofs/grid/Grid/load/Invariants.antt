use Rattle.std.proofs.Common.{take}
use Rattle.circuits.proofs.Spots.{Loading}
use Rattle.circuits.proofs.grid.Grid.load.Given as goal

abbrev pub invariant-loop-link : goal.invariant-loop-link
invariant-loop-link g l = Loading g.T.Kind.ops l.fn.self l.initial.self.cells.now (take l.link-index l.links) l.self
