use Rattle.std.proofs.Common.{refl, arith}
use Rattle.phrases.proofs.Kept.{due_kept}
use Rattle.phrases.proofs.states.Playing.due.Goals as goal

pub returns-clause-law : goal.returns-clause-law
returns-clause-law g c = due_kept g.met.P.Value.Kind.laws g.P.Plant.meaning g.P.Plant.need g.P.Plant.counted c.args.self.now.phrase c.args.sheet.now c.due.new.sheet (omega arith) _ c.args.output c.args.beat c.args.value refl _ c.due.ensures
