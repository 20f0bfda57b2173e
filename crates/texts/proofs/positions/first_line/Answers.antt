use Rattle.std.proofs.Common.{◌≡◌, Some, None, ◌∙◌, sym, arith, rules}
use Rattle.texts.proofs.Cuts.{no_line, bad_line, good_line}
use Rattle.texts.proofs.positions.first_line.Goals as goal

pub returns-in_err-n : goal.returns-in_err-n
returns-in_err-n c =
    let none : c.line_end.result ≡ None = search rules in
    search (rules, no_line c.args.rest.now (sym c.line_end.ensures ∙ none))

pub returns-then-n-eq0 : goal.returns-then-n-eq0
returns-then-n-eq0 c =
    let some : c.line_end.result ≡ Some c.in_ok-n.n = search rules in
    search (rules, bad_line c.args.rest.now c.in_ok-n.n (sym c.line_end.ensures ∙ some) c.then-n-eq0.either)

pub returns : goal.returns
returns c =
    let some : c.line_end.result ≡ Some c.in_ok-n.n = search rules in
    good_line c.args.rest.now c.in_ok-n.n (sym c.line_end.ensures ∙ some) c.if-n-eq0.false (omega arith)
