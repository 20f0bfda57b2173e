use Rattle.std.proofs.Common.{refl, arith}
use Rattle.phrases.specs.Promises.{fixed_in}
use Rattle.phrases.proofs.Places.{few_fixed}
use Rattle.phrases.proofs.Duly.{answered_no, lane_in, parts_hold, hold_parts, holds_more}
use Rattle.phrases.proofs.states.Phrase.holds.Goals as goal

pub returns-then-not-all_at_most : goal.returns-then-not-all_at_most
returns-then-not-all_at_most g c =
    let ph = c.args.self.now in
    let M = g.P.Plant.meaning ph.plant in
    let K = ph.horizon.beats in
    let n = c.loop-wire.wire in
    let few = few_fixed M ph (g.P.Plant.counted ph.plant) n (omega arith) in
    let same = lane_in g.P.Value.Kind.ops M K (g.P.Plant.need ph.plant K) ph.lanes.table c.inputs-inputs.result n (omega arith) in
    answered_no (λ h. c.if-not-all_at_most.ensures.1 (hold_parts g.P.Value.Kind.ops M K (g.P.Plant.need ph.plant K) c.args.sheet.now n (fixed_in ph n) _ _ _ _ c.requires.fits (omega arith) few (omega arith) (omega arith) (omega arith) (omega arith) (λ k lt. h n k (omega arith) lt)))

pub loop-wire-preserved : goal.loop-wire-preserved
loop-wire-preserved g c =
    let ph = c.args.self.now in
    let M = g.P.Plant.meaning ph.plant in
    let K = ph.horizon.beats in
    let n = c.loop-wire.wire in
    let few = few_fixed M ph (g.P.Plant.counted ph.plant) n (omega arith) in
    let same = lane_in g.P.Value.Kind.ops M K (g.P.Plant.need ph.plant K) ph.lanes.table c.inputs-inputs.result n (omega arith) in
    holds_more g.P.Value.Kind.ops M K (g.P.Plant.need ph.plant K) (fixed_in ph) c.args.sheet.now n c.loop-wire.invariant
    (parts_hold g.P.Value.Kind.ops M K (g.P.Plant.need ph.plant K) c.args.sheet.now n (fixed_in ph n) _ _ _ _ c.requires.fits (omega arith) few (omega arith) (omega arith) (omega arith) (omega arith) (c.if-not-all_at_most.ensures.0 refl))
