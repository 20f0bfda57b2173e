use Rattle.std.proofs.Common.{◌∙◌, arith, rules, length-set}
use Rattle.std.proofs.lemmas.Result.{err_from_is_err_and}
use Rattle.texts.proofs.Walk.{line_accepted, line_refused, line_none}
use Rattle.texts.proofs.nets.NetReader.read_links.Goals as goal

pub loop-link-preserved : goal.loop-link-preserved
loop-link-preserved g c =
    record {
      same = c.next_link.ensures.same ∙ c.loop-link.invariant.same;
      size = length-set c.loop-link.table c.loop-link.count c.in-Some.link ∙ c.loop-link.invariant.size;
      within = λ h. omega arith;
      after = c.loop-link.invariant.after
          ∙ line_accepted g.T.CardKind.reading c.args.counts c.loop-link.self.lines.text.now c.next_link.new.self.lines.text.now c.loop-link.self.lines.at c.next_link.new.self.lines.at c.loop-link.table c.loop-link.count c.min-size.result c.next_link.result
          (search rules) c.next_link.ensures.result c.next_link.ensures.position c.next_link.ensures.same c.in_ok-link.field-0 c.in-Some.link c.in_ok-link.was c.in-Some.is;
    }

pub returns-in_err-link-clause-after : goal.returns-in_err-link-clause-after
returns-in_err-link-clause-after g c =
    let p = err_from_is_err_and c.from_residual.result c.from_residual.ensures.1 in
    c.loop-link.invariant.after
    ∙ rw (p.1, p.2) (line_refused g.T.CardKind.reading c.args.counts c.loop-link.self.lines.text.now c.next_link.new.self.lines.text.now c.loop-link.self.lines.at c.next_link.new.self.lines.at c.loop-link.table c.loop-link.count c.min-size.result c.next_link.result
    (search rules) c.next_link.ensures.result c.next_link.ensures.position c.next_link.ensures.same c.in_err-link.field-0.0 c.in_err-link.was)

pub returns-clause-after : goal.returns-clause-after
returns-clause-after g c =
    c.loop-link.invariant.after
    ∙ line_none g.T.CardKind.reading c.args.counts c.loop-link.self.lines.text.now c.next_link.new.self.lines.text.now c.loop-link.self.lines.at c.next_link.new.self.lines.at c.loop-link.table c.loop-link.count c.min-size.result c.next_link.result
    (search rules) c.next_link.ensures.result c.next_link.ensures.position c.next_link.ensures.same c.in_ok-link.field-0 c.in_ok-link.was (λ link. c.in_default.not-Some link)
