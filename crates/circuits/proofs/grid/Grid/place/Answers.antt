use Rattle.std.proofs.Common.{◌*◌, ◌^◌, ◌<◌, length, arith, rules}
use Rattle.circuits.proofs.Spots.{spot_below}
use Rattle.circuits.proofs.grid.Grid.place.Goals as goal

pub overflow_add-result : goal.overflow_add-result
overflow_add-result g c =
    let grid = c.args.self.now in
    let long : length grid.cells.now < 2 ^ 64 = search rules in
    let below = spot_below grid.n (2 * grid.n) c.args.row c.args.column (length grid.cells.now) grid.room c.requires.row_within c.requires.column_within in
    record { fits = omega arith }

pub returns-clause-within : goal.returns-clause-within
returns-clause-within g c =
    let grid = c.args.self.now in
    spot_below grid.n (2 * grid.n) c.args.row c.args.column (length grid.cells.now) grid.room c.requires.row_within c.requires.column_within
