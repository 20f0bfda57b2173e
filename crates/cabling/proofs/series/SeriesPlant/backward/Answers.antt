use Rattle.std.proofs.Common.{◌≡◌, ◌+◌, ◌-◌, ◌*◌, max, length, ap, ◌∙◌, arith}
use Rattle.plants.specs.Meaning.{block, backward_cell}
use Rattle.plants.specs.Calls.{Filled, Flooded}
use Rattle.cabling.specs.Series.{inner_places}
use Rattle.cabling.proofs.Steps.{in_turn, max_comm}
use Rattle.cabling.proofs.Chains.{chain_backward}
use Rattle.cabling.proofs.series.SeriesPlant.backward.Goals as goal

pub returns : goal.returns
returns g c =
    let o = g.A.Value.Kind.ops in
    let A = g.A.Plant.meaning c.args.self.now.first in
    let B = g.B.Plant.meaning c.args.self.now.second in
    let K = c.args.k.beats in
    let x = g.A.Plant.need c.args.self.now.first K in
    let y = g.B.Plant.need c.args.self.now.second K in
    let at = c.args.at in
    let s0 = c.args.sheet.now in
    let s1 = c.backward.new.sheet in
    let s2 = c.fill_rest.new.sheet in
    let laid = c.in_ok-inner.ensures in
    let turn = ap (λ n. n * K) (max_comm A.outputs B.inputs) in
    let places : c.in_ok-inner.inner ≡ inner_places at (at.working + max B.inputs A.outputs * K) = laid.places ∙ ap (λ n. inner_places at (at.working + n)) turn in
    let len : length s2 ≡ length s0 = omega arith in
    let read = block o s0 at.output K in
    let f1 : Filled o K at.working B.inputs (at.working + max B.inputs A.outputs * K) y (backward_cell o B K read) s0 s1 = rw places at c.in_ok-backward.ensures.1 in
    let f2 : Flooded o (at.working + B.inputs * K) ((A.outputs - B.inputs) * K) o.top s1 s2
    = simp (c.turned-wires.ensures.0, c.turned-wires.ensures.1, c.wires.ensures.0, c.wires.ensures.1, c.top.ensures) at c.fill_rest.ensures in
    in_turn o K at.working B.inputs A.outputs y x (backward_cell o B K read) o.top s0 s1 s2 _ at.input A.inputs _ (backward_cell o A K) _ c.backward-2.result _ _
    f1 f2 (omega (arith, laid.room, turn)) (omega (arith, laid.room, turn)) (rw places at c.backward-2.ensures) (rw len (rw places at laid.first)) laid.whole
    (chain_backward g.met.A.Value.Kind.laws A B K read)
