use Rattle.std.proofs.Common.{◌+◌, rules}
use Rattle.std.proofs.lemmas.Iterator.{cases_from_all}
use Rattle.std.specs.List.{slice_range}
use Rattle.nets.specs.Turns.{Still}
use Rattle.plants.proofs.Pairs.{pairs_yielded}
use Rattle.nets.proofs.Settles.{stable_rows}
use Rattle.nets.proofs.floor.Floor.is_stable.Goals as goal

pub returns : goal.returns
returns g c =
    let o = g.T.Kind.ops in
    let f = c.args.self.now in
    let n = f.stage.n in
    let xs = f.sheet.now in
    let row = c.args.row in
    let spare = c.args.spare in
    let pairs = pairs_yielded c.zip-pairs.result (slice_range xs row (row + n)) (slice_range xs spare (spare + n)) (search rules) (search rules) in
    stable_rows o f.stage.way xs row spare n c.all.result c.requires.row_within c.requires.spare_within
    (cases_from_all c.all.new.self _ c.all.result (λ p. Still o f.stage.way p.0 p.1) (λ p. Unit {0}) c.all.ensures.ran pairs (λ x q k. (search rules, search rules)) (λ x q k. tt))
