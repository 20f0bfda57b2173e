use Rattle.std.proofs.Common.{refl, arith}
use Rattle.phrases.proofs.Duly.{out_at, aimed}
use Rattle.phrases.proofs.states.Phrase.aim.Goals as goal

pub offset_bounds-sheet-cell : goal.offset_bounds-sheet-cell
offset_bounds-sheet-cell g c =
    let ph = c.args.self.now in
    omega (arith, out_at g.P.Value.Kind.ops (g.P.Plant.meaning ph.plant) ph.horizon.beats (g.P.Plant.need ph.plant ph.horizon.beats) c.args.sheet.now c.in_ok-at.at ph.lanes.table c.args.order.now c.cells.result (g.P.Plant.counted ph.plant).few_inputs ph.within c.in_ok-at.ensures c.cells.ensures.0 c.if-not-is_out.ensures)

pub bounds-sheet-cell : goal.bounds-sheet-cell
bounds-sheet-cell g c =
    let ph = c.args.self.now in
    out_at g.P.Value.Kind.ops (g.P.Plant.meaning ph.plant) ph.horizon.beats (g.P.Plant.need ph.plant ph.horizon.beats) c.args.sheet.now c.in_ok-at.at ph.lanes.table c.args.order.now c.cells.result (g.P.Plant.counted ph.plant).few_inputs ph.within c.in_ok-at.ensures c.cells.ensures.0 c.if-not-is_out.ensures

pub returns : goal.returns
returns g c =
    let ph = c.args.self.now in
    aimed g.P.Value.Kind.ops (g.P.Plant.meaning ph.plant) ph.horizon.beats (g.P.Plant.need ph.plant ph.horizon.beats) c.args.sheet.now c.in_ok-at.at ph.lanes.table c.args.order.now c.cells.result (g.P.Plant.counted ph.plant).few_inputs ph.within c.in_ok-at.ensures c.cells.ensures.0 c.if-not-is_out.ensures c.args.value c.index-sheet-cell.result c.index-sheet-cell.is (c.if-not-at_most.ensures.0 refl)
