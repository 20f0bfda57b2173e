use Rattle.std.proofs.Common.{take, vec_items, refl, ap, ◌∙◌, arith}
use Rattle.std.proofs.lemmas.List.{with_items_is}
use Rattle.std.proofs.lemmas.Result.{err_from_is_err_and}
use Rattle.loading.specs.Copies.{copies}
use Rattle.loading.specs.Loads.{blank}
use Rattle.loading.proofs.Readings.{text_then, read_into, read_all}
use Rattle.loading.proofs.loads.load_as.Goals as goal

pub returns-in_err-read_links : goal.returns-in_err-read_links
returns-in_err-read_links g c =
    let p = err_from_is_err_and c.from_residual-in_err-read_links.result c.from_residual-in_err-read_links.ensures.1 in
    rw (p.1, p.2)
    (read_into g.T.Kind.ops g.T.CardKind.reading c.args.counts c.args.reader.lines.text.now c.args.reader.lines.at
    (copies 320 (blank g.T.Kind.ops)) c.as_mut_slice.result.now _ _
    (c.as_mut_slice.ensures.value ∙ c.in_ok-links.ensures ∙ ap (copies 320) c.blank_link.ensures)
    c.in_err-read_links.ensures.after refl)

pub returns : goal.returns
returns g c =
    text_then _ _ c.checked.result (λ a h. read_all g.T.Kind.ops g.T.CardKind.reading c.args.counts c.args.reader.lines.text.now c.args.reader.lines.at c.read_links.new.self.lines.at
    (copies 320 (blank g.T.Kind.ops)) c.as_mut_slice.result.now c.read_links.new.table (vec_items c.truncate.new.self) c.read_links.new.count a
    (c.as_mut_slice.ensures.value ∙ c.in_ok-links.ensures ∙ ap (copies 320) c.blank_link.ensures)
    c.in_ok-read_links.ensures.after
    (c.truncate.ensures.items ∙ ap (take c.read_links.new.count) (with_items_is c.in_ok-links.links c.read_links.new.table (omega arith)))
    h)
    c.checked.ensures
