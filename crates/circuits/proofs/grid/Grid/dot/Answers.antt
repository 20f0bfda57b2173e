use Rattle.std.proofs.Common.{rules}
use Rattle.std.proofs.lemmas.Fn.{fold_over, fronts}
use Rattle.std.proofs.lemmas.Iterator.{zips}
use Rattle.plants.proofs.Pairs.{pairs_yielded}
use Rattle.circuits.proofs.Lines.{line, Dotted, dotted_push, dotted_lines}
use Rattle.circuits.proofs.grid.Grid.dot.Goals as goal

pub returns : goal.returns
returns g c =
    let o = g.T.Kind.ops in
    let n = c.args.self.now.n in
    let cells = c.args.self.now.cells.now in
    let room = c.args.self.now.room in
    let pairs = pairs_yielded c.zip-pairs.result (line o n cells room c.args.row) (line o n cells room c.args.other) (search rules) (search rules) in
    dotted_lines o n cells room c.args.row c.args.other c.fold.result c.requires.row_within c.requires.other_within
    (fold_over (zips fronts fronts) (λ p. (p.0.now, p.1.now)) _ (Dotted o) _ (λ ys a x b f' j k. (dotted_push o ys (x.0.now, x.1.now) a b j (search rules), search rules)) c.zip-pairs.result _ _ _ pairs.runs c.bottom.ensures c.fold.ensures.ran)
