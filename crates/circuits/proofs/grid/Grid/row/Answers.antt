use Rattle.std.proofs.Common.{◌^◌, ◌<◌, length, arith, rules}
use Rattle.circuits.proofs.Lines.{row_fits}
use Rattle.circuits.proofs.grid.Grid.row.Goals as goal

pub overflow_add-result : goal.overflow_add-result
overflow_add-result g c =
    let grid = c.args.self.now in
    let long : length grid.cells.now < 2 ^ 64 = search rules in
    let fits = row_fits grid.n c.args.row (length grid.cells.now) c.requires grid.room in
    record { fits = omega arith }

pub slice_bounds-result-end : goal.slice_bounds-result-end
slice_bounds-result-end g c = let grid = c.args.self.now in omega (arith, row_fits grid.n c.args.row (length grid.cells.now) c.requires grid.room)
