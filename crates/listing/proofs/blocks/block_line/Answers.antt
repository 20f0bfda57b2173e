use Rattle.std.proofs.Common.{ℕ, ◌/◌, ◌%◌, Some, sym, ap, ◌∙◌, zero-add}
use Rattle.listing.specs.declared.lines.CardLine.TheVariants.{Cell}
use Rattle.listing.proofs.Rows.{get_is, lines_past, lines_in}
use Rattle.listing.proofs.blocks.block_line.Goals as goal

pub returns : goal.returns
returns g c =
    let b = c.args.block in
    let i = c.args.index in
    let k = c.args.horizon.beats in
    let x = c.in_ok-value.field-0.now in
    let there = c.in_ok-value.ensures.lookup in
    ap (λ (j : ℕ). Some (Cell b (i / j) (i % j) x)) c.beats-beats.ensures.0
    ∙ ap (λ (n : ℕ). Some (Cell b (n / k) (n % k) x)) (sym (zero-add i))
    ∙ sym (lines_in b k 0 c.args.cells.now i x (get_is c.args.cells.now i x there.3.0 ∙ ap Some (sym there.1)))

pub returns-in_err-value : goal.returns-in_err-value
returns-in_err-value g c =
    rw c.from_residual.ensures (sym (lines_past c.args.block c.args.horizon.beats 0 c.args.cells.now c.args.index c.in_err-value.ensures.lookup.3))
