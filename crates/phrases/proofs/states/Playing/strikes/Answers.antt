use Rattle.std.proofs.Common.{refl, arith}
use Rattle.phrases.proofs.Kept.{strikes_kept}
use Rattle.phrases.proofs.states.Playing.strikes.Goals as goal

pub returns-clause-law : goal.returns-clause-law
returns-clause-law g c = strikes_kept g.met.P.Value.Kind.laws g.P.Plant.meaning g.P.Plant.need g.P.Plant.counted c.args.self.now.phrase c.args.sheet.now c.strikes.new.sheet (omega arith) _ refl _ c.strikes.ensures
