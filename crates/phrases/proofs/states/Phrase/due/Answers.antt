use Rattle.std.proofs.Common.{false, refl}
use Rattle.std.proofs.lemmas.Bool.{both_ways}
use Rattle.phrases.specs.Promises.{fixed_in}
use Rattle.phrases.proofs.Places.{few_fixed}
use Rattle.phrases.proofs.Duly.{taken, turned}
use Rattle.phrases.proofs.states.Phrase.due.Goals as goal

pub returns-then-not-holds : goal.returns-then-not-holds
returns-then-not-holds g c =
    let ph = c.args.self.now in
    let M = g.P.Plant.meaning ph.plant in
    turned g.P.Value.Kind.ops M ph.horizon.beats (g.P.Plant.need ph.plant ph.horizon.beats) (fixed_in ph) (few_fixed M ph (g.P.Plant.counted ph.plant)) c.args.output c.args.beat c.args.value
    c.args.sheet.now c.backward.new.sheet c.in_ok-at.at c.in_ok-at.cell c.in_ok-at.ensures c.backward.result c.backward.ensures c.index-sheet-cell.result c.index-sheet-cell.is c.backward.auto.sheet (λ h. both_ways false refl (c.if-not-holds.ensures.1 h))

pub returns : goal.returns
returns g c =
    let ph = c.args.self.now in
    let M = g.P.Plant.meaning ph.plant in
    taken g.P.Value.Kind.ops M ph.horizon.beats (g.P.Plant.need ph.plant ph.horizon.beats) (fixed_in ph) (few_fixed M ph (g.P.Plant.counted ph.plant)) c.args.output c.args.beat c.args.value
    c.args.sheet.now c.backward.new.sheet c.in_ok-at.at c.in_ok-at.cell c.in_ok-at.ensures c.backward.result c.backward.ensures _ (c.if-not-holds.ensures.0 refl) c.adopt.ensures
