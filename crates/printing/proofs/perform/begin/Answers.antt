use Rattle.std.proofs.Common.{ap, ◌∙◌}
use Rattle.nets.specs.Nets.{meant, net_need}
use Rattle.printing.proofs.Beginning.{begins}
use Rattle.printing.proofs.perform.begin.Goals as goal

pub returns : goal.returns
returns g c =
    let o = g.T.Kind.ops in
    let w = c.write-written.result.phrase in
    let p = c.start.result.phrase in
    let holds = c.write-written.ensures.holds in
    let same = c.start.ensures.same in
    record {
      same = (ap (λ x. x.plant) same ∙ holds.0, ap (λ x. x.horizon) same ∙ holds.1);
      law = begins o (meant o) net_need w p c.args.net c.args.k c.args.sheet.now c.lay.new.sheet c.lay.result holds.0 holds.1 c.requires
          (c.write-written.ensures.law c.args.sheet.now) c.lay.ensures.cells c.lay.ensures.law (c.start.ensures.law c.lay.new.sheet);
    }
