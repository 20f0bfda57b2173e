use Rattle.std.proofs.Common.{sym, ap, ◌∙◌}
use Rattle.std.proofs.lemmas.Result.{err_from_is_err_and}
use Rattle.texts.specs.Lines.{some}
use Rattle.texts.proofs.Walk.{next_is}
use Rattle.texts.proofs.positions.Lines.next.Goals as goal

pub returns-in_err-found-clause-result : goal.returns-in_err-found-clause-result
returns-in_err-found-clause-result g c says computes =
    let p = err_from_is_err_and c.from_residual-in_err-found.result c.from_residual-in_err-found.ensures.1 in
    let is = next_is c.args.name says c.args.self.now.text.now c.args.self.now.at (sym c.check_length.ensures ∙ c.in_ok-check_length.was) c.if-self.false in
    rw (p.1, p.2) (ap some (sym c.in_err-found.was ∙ c.take.ensures.result says computes) ∙ sym is)

pub returns-clause-result : goal.returns-clause-result
returns-clause-result g c says computes =
    let is = next_is c.args.name says c.args.self.now.text.now c.args.self.now.at (sym c.check_length.ensures ∙ c.in_ok-check_length.was) c.if-self.false in
    ap some (sym c.in_ok-found.was ∙ c.take.ensures.result says computes) ∙ sym is
