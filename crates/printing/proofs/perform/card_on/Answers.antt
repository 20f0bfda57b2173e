use Rattle.std.proofs.Common.{◌++◌, vec_items, string_bytes, ◌∙◌, subst, ap, ap₂, arith}
use Rattle.nets.specs.Nets.{meant, net_need}
use Rattle.printing.specs.Plays.{Plays}
use Rattle.printing.specs.Rows.{act_rows}
use Rattle.printing.proofs.Performing.{performs}
use Rattle.printing.proofs.perform.card_on.Goals as goal

pub returns : goal.returns
returns g c =
    let o = g.T.Kind.ops in
    let text = g.T.CardKind.text in
    let made = vec_items c.in_ok-acts.acts in
    let same = c.in_ok-acts.ensures.same in
    performs o text (meant o) net_need c.begin-phrase.result.phrase c.play_lines.new.phrase.phrase c.args.net c.args.k c.begin-phrase.new.sheet c.play_lines.new.sheet
    (vec_items c.args.heard.now.lines) c.args.heard.now.end made (string_bytes c.write_acts.new.out) (vec_items c.into_bytes.result)
    c.begin-phrase.ensures.same.0 c.begin-phrase.ensures.same.1 same.0 same.1 c.begin-phrase.ensures.law
    (subst (λ ls. Plays ls made) c.as_slice.ensures.value c.in_ok-acts.ensures.calls) c.in_ok-acts.ensures.law (omega (arith, c.requires))
    (c.in_ok-write_acts.ensures ∙ ap₂ (λ z a. z ++ act_rows text o.bottom a) c.new-out.ensures.bytes c.as_slice-2.ensures.value)
    (ap (λ v. vec_items v) c.into_bytes.ensures.value ∙ c.in_ok-write_end.ensures)
