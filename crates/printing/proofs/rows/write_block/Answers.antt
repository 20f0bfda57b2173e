use Rattle.std.proofs.Common.{◌≡◌, ℕ, ◌+◌, ◌/◌, ◌%◌, get_or, string_bytes, sym, ap, ◌∙◌, zero-add}
use Rattle.std.proofs.lemmas.List.{get_or_read}
use Rattle.printing.proofs.Writing.{cell_more}
use Rattle.printing.proofs.rows.write_block.Goals as goal

pub loop-n-preserved : goal.loop-n-preserved
loop-n-preserved g c =
    let o = g.T.Kind.ops in
    let cells = c.args.cells.now in
    let n = c.loop-n.n in
    let value = c.index-cells-n.result in
    let there : value ≡ get_or cells (0 + n) o.bottom =
    get_or_read cells n value c.loop-n-test.true c.index-cells-n.is o.bottom ∙ ap (λ (i : ℕ). get_or cells i o.bottom) (sym (zero-add n)) in
    cell_more o g.T.CardKind.text c.args.block c.args.k.beats cells 0 n _ _ value
    (string_bytes c.args.out.now) (string_bytes c.loop-n.out) (string_bytes c.writeln.new.self)
    (ap (λ (b : ℕ). n / b) c.beats-beats.ensures.0) (ap (λ (b : ℕ). n % b) c.beats-beats.ensures.0) there c.in_ok-writeln.ensures.bytes c.loop-n.invariant
