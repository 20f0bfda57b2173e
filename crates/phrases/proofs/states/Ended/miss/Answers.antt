use Rattle.std.proofs.Common.{refl, arith}
use Rattle.phrases.proofs.Kept.{miss_kept}
use Rattle.phrases.proofs.states.Ended.miss.Goals as goal

pub returns-clause-law : goal.returns-clause-law
returns-clause-law g c = miss_kept g.met.P.Value.Kind.laws g.P.Plant.meaning g.P.Plant.need g.P.Plant.counted c.args.self.now.phrase c.args.sheet.now c.miss.new.sheet (omega arith) _ c.miss.new.self c.args.order refl _ c.miss.ensures.cells
