use Rattle.std.proofs.Common.{arith}
use Rattle.phrases.specs.Promises.{fixed_in}
use Rattle.phrases.proofs.Places.{few_fixed}
use Rattle.phrases.proofs.Duly.{lane_in, adopt_more}
use Rattle.phrases.proofs.states.Phrase.adopt.Goals as goal

pub loop-wire-preserved : goal.loop-wire-preserved
loop-wire-preserved g c =
    let ph = c.args.self.now in
    let M = g.P.Plant.meaning ph.plant in
    let K = ph.horizon.beats in
    let n = c.loop-wire.wire in
    let same = lane_in g.P.Value.Kind.ops M K (g.P.Plant.need ph.plant K) ph.lanes.table c.inputs-inputs.result n (omega arith) in
    let few = few_fixed M ph (g.P.Plant.counted ph.plant) n (omega arith) in
    let copied = c.copy_within.ensures.by_index in
    adopt_more g.P.Value.Kind.ops M K (g.P.Plant.need ph.plant K) (fixed_in ph) c.args.sheet.now c.loop-wire.sheet c.copy_within.new.self n _ _ _ (omega arith) few c.loop-wire.invariant
    (omega arith) (omega arith) (omega arith) copied.0 copied.1 copied.2
