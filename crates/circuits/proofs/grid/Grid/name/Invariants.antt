use Rattle.circuits.specs.Grids.{spot}
use Rattle.circuits.proofs.Steps.{Partly}
use Rattle.circuits.proofs.grid.Grid.name.Given as goal

abbrev pub invariant-loop-i : goal.invariant-loop-i
invariant-loop-i g l =
    let o = g.T.Kind.ops in
    Partly o l.self.n (spot o l.self.n l.self.cells.now) l.walk.start l.walk.more l.initial.slot-items l.i l.at l.so_far l.slot-items
