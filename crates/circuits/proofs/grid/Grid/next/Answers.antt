use Rattle.std.proofs.Common.{rules}
use Rattle.std.proofs.lemmas.Iterator.{IsFirst-from_position}
use Rattle.plants.proofs.Pairs.{pairs_yielded}
use Rattle.circuits.proofs.Lines.{line, LowPair, first_high_column}
use Rattle.circuits.proofs.grid.Grid.next.Goals as goal

pub returns : goal.returns
returns g c =
    let o = g.T.Kind.ops in
    let n = c.args.self.now.n in
    let cells = c.args.self.now.cells.now in
    let room = c.args.self.now.room in
    let pairs = pairs_yielded c.zip-steps.result (line o n cells room c.args.at) (line o n cells room c.args.row) (search rules) (search rules) in
    first_high_column o n cells room c.args.so_far c.args.at c.args.row c.position.result c.requires.at_within c.requires.row_within
    (IsFirst-from_position c.position.new.self _ c.position.result (λ p. LowPair o c.args.so_far p → ⊥) (LowPair o c.args.so_far) c.position.ensures.ran pairs
    (λ x q k. search rules) (λ x q k. search rules))
