use Rattle.std.proofs.Common.{◌≡◌, length, max, min, replicate, ◌∙◌, lit≤}
use Rattle.loading.proofs.Verdicts.{cells_suffice, judged}
use Rattle.loading.proofs.Readings.{so_many}
use Rattle.loading.proofs.checks.passes.Goals as goal

pub returns : goal.returns
returns g c =
    let cells = c.as_mut_slice.result.now in
    let long : length cells ≡ 8192 = so_many 8192 c.bottom.result cells (c.as_mut_slice.ensures.value ∙ c.in_ok-cells.ensures) in
    rw (c.is_ok.ensures.value, ← c.from.ensures)
    (judged g.T.Kind.ops (max 1 (min c.from.result 64)) c.args.links.now cells c.check_circuits-checked.new.cells
    (replicate 64 0) c.check_circuits-checked.new.list c.check_circuits-checked.result (cells_suffice c.from.result cells long, lit≤ tt)
    c.check_circuits-checked.ensures)
