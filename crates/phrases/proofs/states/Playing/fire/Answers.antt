use Rattle.std.proofs.Common.{refl, arith}
use Rattle.phrases.proofs.Kept.{fire_kept}
use Rattle.phrases.proofs.states.Playing.fire.Goals as goal

pub returns-clause-law : goal.returns-clause-law
returns-clause-law g c = fire_kept g.met.P.Value.Kind.laws g.P.Plant.meaning g.P.Plant.need g.P.Plant.counted c.args.self.now.phrase c.args.sheet.now c.fire.new.sheet (omega arith) _ c.fire.new.self c.args.order c.args.value refl _ c.fire.ensures.cells
