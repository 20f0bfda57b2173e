use Rattle.std.proofs.Common.{◌≡◌, ◌+◌, ◌-◌, ◌*◌, ◌++◌, drop, take, length, string_bytes, ℕ, sym, ap, ◌∙◌, subst, length-append, length-drop, arith, OnOk}
use Rattle.std.proofs.lemmas.List.{length-take-le}
use Rattle.std.proofs.lemmas.Result.{IfOk-equal}
use Rattle.plants.specs.Calls.{Forward}
use Rattle.nets.specs.Nets.{meant, net_need}
use Rattle.card.specs.Cells.{cell_at, cell_rows}
use Rattle.card.specs.Responses.{Struck}
use Rattle.card.proofs.Impulses.{told_once}
use Rattle.card.proofs.responses.respond.Goals as goal

pub returns : goal.returns
returns g c =
    let o = g.T.Kind.ops in
    let text = g.T.CardKind.text in
    let s = c.args.net.now in
    let K = c.args.k.beats in
    let p = meant o s in
    let cells = c.strike_once.new.cells in
    let rest = drop (s.inputs * K) c.args.sheet.now in
    let after = c.strike.new.sheet in
    let n = s.inputs * K + s.outputs * K - s.inputs * K in
    let long : length cells ≡ s.inputs * K =
    (simp (c.inputs-inputs.ensures, c.beats.ensures.0) at c.strike_once.ensures.len) ∙ length-take-le (s.inputs * K) c.args.sheet.now (omega (arith, c.requires)) in
    let struck : Struck o K (length cells) cells = subst (λ (m : ℕ). Struck o K m cells) (sym c.strike_once.ensures.len) c.strike_once.ensures.struck in
    let same : length after ≡ length (cells ++ rest) = simp (c.inputs-inputs.ensures, c.beats.ensures.0) at c.strike.auto.sheet in
    let answer : Forward o p (net_need s K) K (record { input = 0; output = s.inputs * K; working = s.inputs * K + s.outputs * K }) (cells ++ rest) after c.strike.result =
    simp (c.inputs-inputs.ensures, c.outputs-outputs.ensures, c.beats.ensures.0, c.beats-2.ensures.0) at c.strike.ensures.answer in
    let written : OnOk c.write_cells.result (string_bytes c.write_cells.new.out ≡ string_bytes c.args.out.now
    ++ cell_rows text K (cell_at o (take n (drop (s.inputs * K) after)) 0) (length (take n (drop (s.inputs * K) after)))) =
    simp (c.inputs-inputs.ensures, c.outputs-outputs.ensures, c.beats.ensures.0, c.beats-2.ensures.0) at c.write_cells.ensures in
    IfOk-equal _ _ _ _ written
    (ap (λ z. string_bytes c.args.out.now ++ z)
    (told_once o p K (net_need s K) text cells rest after c.strike.result n (omega arith) long struck
    (omega (arith, c.requires, long, length-append cells rest, length-drop (s.inputs * K) c.args.sheet.now)) same (omega arith) answer))
