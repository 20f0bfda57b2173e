use Rattle.std.proofs.Common.{ℕ, ◌+◌, rules}
use Rattle.std.proofs.lemmas.Iterator.{first_from_Range}
use Rattle.kinds.specs.Kind.{AtMost}
use Rattle.circuits.specs.Grids.{spot}
use Rattle.circuits.proofs.Lines.{first_in_range}
use Rattle.circuits.proofs.grid.Grid.shortest.Goals as goal

pub returns : goal.returns
returns g c =
    let o = g.T.Kind.ops in
    let n = c.args.self.now.n in
    let Low : ℕ → Type 0 = λ s. AtMost o (spot o n c.args.self.now.cells.now (n + s) c.args.b) o.one in
    first_in_range Low _ c.args.limit c.find.result
    (first_from_Range _ c.find.new.self _ c.find.result (λ s. Low s → ⊥) Low c.find.ensures.ran (λ x q k. search rules) (λ x q k. search rules)) (search rules) (search rules)
