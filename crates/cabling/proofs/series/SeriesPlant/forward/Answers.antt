use Rattle.std.proofs.Common.{◌≡◌, ◌+◌, ◌-◌, ◌*◌, max, length, arith}
use Rattle.plants.specs.Meaning.{block, forward_cell}
use Rattle.plants.specs.Calls.{Filled, Flooded}
use Rattle.cabling.specs.Series.{inner_places}
use Rattle.cabling.proofs.Steps.{in_turn}
use Rattle.cabling.proofs.Chains.{chain_forward}
use Rattle.cabling.proofs.series.SeriesPlant.forward.Goals as goal

pub returns : goal.returns
returns g c =
    let o = g.A.Value.Kind.ops in
    let A = g.A.Plant.meaning c.args.self.now.first in
    let B = g.B.Plant.meaning c.args.self.now.second in
    let K = c.args.k.beats in
    let x = g.A.Plant.need c.args.self.now.first K in
    let y = g.B.Plant.need c.args.self.now.second K in
    let at = c.args.at in
    let s0 = c.args.sheet.now in
    let s1 = c.forward.new.sheet in
    let s2 = c.fill_rest.new.sheet in
    let laid = c.in_ok-inner.ensures in
    let places : c.in_ok-inner.inner ≡ inner_places at (at.working + max A.outputs B.inputs * K) = laid.places in
    let len : length s2 ≡ length s0 = omega arith in
    let read = block o s0 at.input K in
    let f1 : Filled o K at.working A.outputs (at.working + max A.outputs B.inputs * K) x (forward_cell o A read) s0 s1 = rw places at c.in_ok-forward.ensures.1 in
    let f2 : Flooded o (at.working + A.outputs * K) ((B.inputs - A.outputs) * K) o.bottom s1 s2 = simp (c.wires-wires.ensures.0, c.wires-wires.ensures.1, c.bottom.ensures) at c.fill_rest.ensures in
    in_turn o K at.working A.outputs B.inputs x y (forward_cell o A read) o.bottom s0 s1 s2 _ at.output B.outputs _ (forward_cell o B) _ c.forward-2.result _ _
    f1 f2 (omega (arith, laid.room)) (omega (arith, laid.room)) (rw places at c.forward-2.ensures) (rw len (rw places at laid.second)) laid.whole
    (chain_forward g.met.A.Value.Kind.laws A B K read)
