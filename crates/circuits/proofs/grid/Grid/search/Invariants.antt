use Rattle.circuits.specs.Grids.{spot, Kept, Found}
use Rattle.circuits.proofs.grid.Grid.search.Given as goal

abbrev pub invariant-loop-b : goal.invariant-loop-b
invariant-loop-b g l =
    let o = g.T.Kind.ops in
    record {
      found : Found o l.n (spot o l.n l.initial.self.cells.now) l.b l.found;
      kept : Kept o l.n l.initial.self l.self;
    }
