use Rattle.std.proofs.Common.{ℕ, ◌-◌, ◌<◌, ap, ◌∙◌, ap₂, arith}
use Rattle.plants.specs.Meaning.{joins}
use Rattle.circuits.specs.Grids.{spot}
use Rattle.plants.proofs.Blocks.{joins_same}
use Rattle.circuits.proofs.Tables.{filling_more}
use Rattle.circuits.proofs.grid.Grid.advance.Goals as goal

pub loop-t-preserved : goal.loop-t-preserved
loop-t-preserved g c =
    let o = g.T.Kind.ops in
    let row = c.args.row in
    let b = c.args.self.now in
    let s = c.loop-t.self in
    let t = c.loop-t.t in
    let kept = c.loop-t.invariant.kept in
    let tn : t < b.n = c.loop-t-test.true in
    let F : ℕ → g.row.T.Denot = λ k. joins o b.n (λ x. o.product (spot o b.n b.cells.now k x) (spot o b.n b.cells.now (row - 1) x)) in
    filling_more o row F b s c.write.new.self t c.dot-value.result c.requires.row_within tn c.write.ensures.loan c.write.ensures.written
    (c.dot-value.ensures ∙ ap (λ k. joins o k (λ x. o.product (spot o k s.cells.now t x) (spot o k s.cells.now (row - 1) x))) kept.loan.0
    ∙ joins_same o b.n _ _ (λ x xn. ap₂ o.product (kept.same t x (omega (arith, c.requires.after)) xn) (kept.same (row - 1) x (omega (arith, c.requires.after)) xn)))
    c.loop-t.invariant
