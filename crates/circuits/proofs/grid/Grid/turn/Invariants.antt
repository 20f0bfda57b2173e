use Rattle.circuits.specs.Grids.{spot}
use Rattle.circuits.proofs.Tables.{Filling}
use Rattle.circuits.proofs.grid.Grid.turn.Given as goal

abbrev pub invariant-loop-t : goal.invariant-loop-t
invariant-loop-t g l =
    let o = g.T.Kind.ops in
    Filling o l.n (λ t. spot o l.n l.initial.self.cells.now t l.b) l.t l.initial.self l.self
