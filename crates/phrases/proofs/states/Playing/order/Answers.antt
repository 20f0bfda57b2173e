use Rattle.std.proofs.Common.{refl}
use Rattle.phrases.proofs.Kept.{order_kept}
use Rattle.phrases.proofs.states.Playing.order.Goals as goal

pub returns-clause-law : goal.returns-clause-law
returns-clause-law g c = let found = c.in_ok-order.ensures.answer in
    order_kept g.met.P.Value.Kind.laws g.P.Plant.meaning g.P.Plant.need g.P.Plant.counted c.args.self.now.phrase c.args.sheet.now _ c.order.new.self c.args.input refl _ found.0 found.2
