use Rattle.std.proofs.Common.{◌≡◌, ℕ, ◌+◌, ◌-◌, ◌*◌, ◌++◌, take, drop, length, string_bytes, sym, ap, ◌∙◌, subst, add-mul, arith, MatchResult}
use Rattle.std.proofs.lemmas.Result.{IfOk-weaker}
use Rattle.nets.specs.Nets.{meant, net_need}
use Rattle.plants.specs.Meaning.{block}
use Rattle.phrases.specs.Cells.{Struck, RefusedShort}
use Rattle.listing.specs.declared.lines.Block.TheVariants.{Plan, Strikes}
use Rattle.printing.specs.Rows.{cell_rows}
use Rattle.printing.proofs.Blocks.{part_rows, blocks_fit, blocks_written}
use Rattle.printing.proofs.perform.write_blocks.Goals as goal

pub returns : goal.returns
returns g c =
    let o = g.T.Kind.ops in
    let text = g.T.CardKind.text in
    let plant = c.args.phrase.now.phrase.plant in
    let M = meant o plant in
    let K = c.args.sides.k.beats in
    let s = c.args.sheet.now in
    let s' = c.strikes.new.sheet in
    let was = string_bytes c.args.out.now in
    let one = string_bytes c.write_block.new.out in
    let two = string_bytes c.write_block-2.new.out in
    let w = plant.outputs * K in
    let r = plant.inputs * K in
    let fit = blocks_fit plant.outputs plant.inputs K (net_need plant K) (length s) c.requires.room in
    let first : one ≡ was ++ cell_rows text Plan K (block o (take (w + r - w) (drop w s)) 0 K) (length (take (w + r - w) (drop w s))) =
    simp (c.requires.sides.inputs, c.requires.sides.outputs, c.beats.ensures.0, c.beats-2.ensures.0) at c.in_ok-write_block.ensures in
    let plan_rows = first ∙ ap (λ z. was ++ z) (part_rows o text Plan K s w r (w + r - w) fit.0 (omega arith)) in
    let struck = subst (λ h. MatchResult c.strikes.result (λ _. Struck o M h.beats (net_need plant h.beats) s s') (λ e. RefusedShort o M h.beats (net_need plant h.beats) s s' e)) (sym c.requires.sides.beats) c.strikes.ensures.cells in
    IfOk-weaker c.write_block-2.result _ _
    (λ x (second : two ≡ one ++ cell_rows text Strikes K (block o (take (w + r + w - (w + r)) (drop (w + r) s')) 0 K) (length (take (w + r + w - (w + r)) (drop (w + r) s')))).
    blocks_written o text M K (net_need plant K) s s' c.strikes.result was one two c.args.sides.k.ok.0 c.requires.room struck plan_rows
    (second ∙ ap (λ z. one ++ z) (part_rows o text Strikes K s' (w + r) w (w + r + w - (w + r)) (omega (arith, fit.1, c.strikes.auto.sheet)) (omega arith))
    ∙ ap (λ (b : ℕ). one ++ cell_rows text Strikes K (block o s' b K) w) (sym (add-mul plant.outputs plant.inputs K))))
    (simp (c.requires.sides.inputs, c.requires.sides.outputs, c.beats.ensures.0, c.beats-2.ensures.0) at c.write_block-2.ensures)
