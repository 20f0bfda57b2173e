use Rattle.std.proofs.Common.{◌≡◌, ◌-◌, ℕ, length, arith}
use Rattle.plants.proofs.Blocks.{flooded_part}
use Rattle.plants.proofs.cells.fill.Goals as goal

pub returns : goal.returns
returns g c =
    let k : ℕ = c.min-end.result - c.args.start in
    let len : length c.loop-cell.cell-items ≡ k = omega (arith, c.loop-cell.auto.cell-items) in
    flooded_part g.T.Kind.ops c.args.start k c.args.cells c.args.value c.args.sheet.now c.loop-cell.cell-items
    (omega (arith, c.min-end.ensures)) len (omega (arith, c.min-end.ensures, c.saturating_add.ensures)) (λ a h k. omega (arith, c.min-end.ensures, c.saturating_add.ensures))
    (λ j d h. c.loop-cell.invariant j d (omega (arith, c.loop-cell-test.false, c.loop-cell.auto.cell-items)))
