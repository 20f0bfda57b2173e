use Rattle.std.proofs.Common.{◌≡◌, ℕ, ◌+◌, ◌<◌, ◌≤◌, Option, None, sym, ◌∙◌, subst, rules}
use Rattle.kinds.specs.Kind.{AtMost}
use Rattle.walks.specs.Walks.{best}
use Rattle.circuits.specs.Grids.{spot, FirstFailing, Found, Tabled}
use Rattle.circuits.proofs.Steps.{IsLimit, limit_within, found_better, found_same, row_first}
use Rattle.circuits.proofs.Tables.{kept_on}
use Rattle.circuits.proofs.grid.Grid.search.Goals as goal
use Rattle.circuits.proofs.grid.Grid.search.Goals.{in-Some, in_default}

pub loop-b-preserved : goal.loop-b-preserved
loop-b-preserved g c =
    let o = g.T.Kind.ops in
    let e = c.args.self.now in
    let n = e.n in
    let b = c.loop-b.b in
    let x = c.loop-b.self in
    let y = c.fill_rows.new.self in
    let limit = c.map_or-limit.result in
    let kept = c.loop-b.invariant.kept in
    let A : ℕ → ℕ → g.row.T.Denot = spot o n e.cells.now in
    let bn : b < n = c.loop-b-test.true in
    let is : IsLimit o n A c.loop-b.found limit = search rules in
    let fits : limit ≤ n = limit_within o n A b limit c.loop-b.found is c.loop-b.invariant.found in
    let tabled = subst (λ k. Tabled o k (spot o k x.cells.now) b k y.cells.now) kept.loan.0 c.fill_rows.ensures.tabled in
    let width : y.n ≡ n = c.fill_rows.ensures.kept.loan.0 ∙ kept.loan.0 in
    let Low : Option ℕ → Type 0 = λ r. FirstFailing (λ s. AtMost o (best o n A s b b) o.one) limit r in
    let first : Low c.shortest.result = row_first o n b limit e.cells.now x.cells.now y.cells.now c.shortest.result bn fits kept.same tabled
    (subst (λ k. FirstFailing (λ s. AtMost o (spot o k y.cells.now (k + s) b) o.one) limit c.shortest.result) width c.shortest.ensures)
    in
    record {
      found = elim c.match-shortest.branch [
        | in-Some w ↦ subst (Found o n A (b + 1)) (sym w.found-is)
            (found_better o n A b w.in-Some.more limit c.loop-b.found is c.loop-b.invariant.found (subst Low w.in-Some.is first))
        | in_default w ↦ subst (Found o n A (b + 1)) (sym w.found-is)
            (found_same o n A b limit c.loop-b.found is c.loop-b.invariant.found (let none : c.shortest.result ≡ None = search rules in subst Low none first))
      ];
      kept = kept_on e x y kept c.fill_rows.ensures.kept;
    }
