use Rattle.circuits.specs.Grids.{spot, Kept, Tabled}
use Rattle.circuits.proofs.grid.Grid.fill_rows.Given as goal

abbrev pub invariant-loop-s : goal.invariant-loop-s
invariant-loop-s g l =
    let o = g.T.Kind.ops in
    record {
      tabled : Tabled o l.n (spot o l.n l.fn.self.cells.now) l.b l.s l.self.cells.now;
      kept : Kept o l.n l.fn.self l.self;
    }
