use Rattle.std.proofs.Common.{◌<◌, [], length, get_or, refl, ◌∙◌, subst, arith}
use lib.Seq.{map-set_same}
use Rattle.std.proofs.lemmas.List.{take_all}
use Rattle.runs.specs.declared.acts.Act.{Act}
use Rattle.phrases.specs.Phases.{PlayedFrom}
use Rattle.phrases.specs.declared.states.phase.Phase.TheVariants.{Written as at_written}
use Rattle.phrases.proofs.Played.{played_on, begun}
use Rattle.phrases.proofs.states.run.play_on.Goals as goal

pub loop-act-preserved : goal.loop-act-preserved
loop-act-preserved g c =
    let lt : c.loop-act.act-index < length c.loop-act.acts = omega arith in
    let made : Act g.row.P-Value.Denot = record { call = (get_or c.loop-act.acts c.loop-act.act-index c.act-item.result).call; answer = c.advance-next.result.1 } in (
      played_on g.P.Value.Kind.ops g.P.Plant.meaning g.P.Plant.need (at_written c.args.phrase) c.loop-act.phase c.advance-next.result.0 c.loop-act.acts c.loop-act.act-index c.advance-next.result.1 c.act-item.result c.act-item.result c.args.sheet.now c.loop-act.sheet c.advance-next.new.sheet lt c.loop-act.invariant.0 c.advance-next.ensures,
      map-set_same (λ a. a.call) c.loop-act.acts c.loop-act.act-index made c.act-item.result refl ∙ c.loop-act.invariant.1,
    )

pub returns-clause-law : goal.returns-clause-law
returns-clause-law g c =
    let all : PlayedFrom g.P.Value.Kind.ops g.P.Plant.meaning g.P.Plant.need (at_written c.args.phrase) c.loop-act.phase c.loop-act.acts c.args.sheet.now c.loop-act.sheet =
    subst (λ l. PlayedFrom g.P.Value.Kind.ops g.P.Plant.meaning g.P.Plant.need (at_written c.args.phrase) c.loop-act.phase l c.args.sheet.now c.loop-act.sheet) (take_all c.loop-act.act-index c.loop-act.acts (omega arith)) c.loop-act.invariant.0 in
    all.law [] (begun g.P.Value.Kind.ops g.P.Plant.meaning g.P.Plant.need c.args.phrase c.args.sheet.now (g.P.Plant.counted c.args.phrase.phrase.plant).few_inputs)
