use Rattle.std.proofs.Common.{ℕ, ◌+◌, ◌-◌, ◌≡◌, ◌<◌, subst, arith}
use Rattle.plants.specs.Meaning.{joins}
use Rattle.circuits.specs.Grids.{spot, SameTo}
use Rattle.circuits.proofs.Tables.{kept_more, tabled_more}
use Rattle.circuits.proofs.grid.Grid.fill_rows.Goals as goal

pub loop-s-preserved : goal.loop-s-preserved
loop-s-preserved g c =
    let o = g.T.Kind.ops in
    let n = c.args.self.now.n in
    let s = c.loop-s.s in
    let kept = c.loop-s.invariant.kept in
    let x = c.loop-s.self.cells.now in
    let y = c.advance.new.self.cells.now in
    let stepped = subst (λ k. (t : ℕ) → t < k → spot o k y (n + s) t ≡ joins o k (λ j. o.product (spot o k x t j) (spot o k x (n + s - 1) j))) kept.loan.0 c.advance.ensures.stepped in
    let same = subst (λ k. SameTo o k (n + s) x y) kept.loan.0 c.advance.ensures.kept.same in
    record {
      tabled = tabled_more o n (spot o n c.args.self.now.cells.now) c.args.b s x y (omega (arith, c.loop-s.auto)) kept.same stepped same c.loop-s.invariant.tabled;
      kept = kept_more n (n + s) c.args.self.now c.loop-s.self c.advance.new.self (omega arith) kept c.advance.ensures.kept;
    }
