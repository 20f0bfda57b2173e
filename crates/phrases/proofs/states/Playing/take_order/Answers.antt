use Rattle.std.proofs.Common.{refl, sym, ap, subst}
use Rattle.runs.specs.History.{playing}
use Rattle.runs.specs.declared.acts.Act.{Act}
use Rattle.runs.specs.declared.acts.Answer.TheVariants.{Ordered}
use Rattle.runs.specs.declared.acts.Call.TheVariants.{Order}
use Rattle.phrases.specs.Cells.{plan}
use Rattle.phrases.specs.Promises.{Law}
use Rattle.phrases.proofs.Kept.{order_kept}
use Rattle.phrases.proofs.states.Playing.take_order.Goals as goal

pub returns-in-Ok : goal.returns-in-Ok
returns-in-Ok g c =
    let found = c.in-Ok.ensures.answer in
    let ph = c.args.self.now.phrase in
    let there = plan g.P.Value.Kind.ops (g.P.Plant.meaning ph.plant) ph.horizon.beats c.args.sheet.now c.in-Ok.handed.0.input c.in-Ok.handed.0.beat in
    let told = ap (λ (x : g.row.P-Value.Denot). record { call = Order c.args.input; answer = Ordered c.in-Ok.handed.0.beat x }) {y = there} found.1 in
    record {
      plant = c.order.ensures.same.0;
      horizon = c.order.ensures.same.1;
      answer = found.0;
      lanes = found.2;
      act = told;
      law = subst (λ (a : Act g.row.P-Value.Denot). Law g.P.Value.Kind.ops g.P.Plant.meaning g.P.Plant.need playing playing c.args.self.now.phrase c.order.new.self a c.args.sheet.now c.args.sheet.now) (sym told)
          (order_kept g.met.P.Value.Kind.laws g.P.Plant.meaning g.P.Plant.need g.P.Plant.counted c.args.self.now.phrase c.args.sheet.now _ c.order.new.self c.args.input refl _ found.0 found.2);
    }
