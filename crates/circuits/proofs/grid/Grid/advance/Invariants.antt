use Rattle.std.proofs.Common.{◌-◌}
use Rattle.plants.specs.Meaning.{joins}
use Rattle.circuits.specs.Grids.{spot}
use Rattle.circuits.proofs.Tables.{Filling}
use Rattle.circuits.proofs.grid.Grid.advance.Given as goal

abbrev pub invariant-loop-t : goal.invariant-loop-t
invariant-loop-t g l =
    let o = g.T.Kind.ops in
    Filling o l.row (λ t. joins o l.n (λ x. o.product (spot o l.n l.initial.self.cells.now t x) (spot o l.n l.initial.self.cells.now (l.row - 1) x))) l.t l.initial.self l.self
