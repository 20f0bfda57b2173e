use denote.Ref.{Bor}
use Rattle.std.proofs.Common.{◌≡◌, ℕ, ◌-◌, ◌==◌, List, [], get_or, Some, None, Option, option_map, refl, ap, ◌∙◌, rules, tests}
use Rattle.std.specs.Option.{unwrap_or}
use Rattle.std.proofs.lemmas.Option.{unwrap_or-slice_get}
use Rattle.std.proofs.lemmas.Iterator.Consumers.{nth_from_yields_List}
use Rattle.std.proofs.lemmas.Iterator.Splits.{YieldsList-from_slice_split}
use Rattle.texts.specs.Splits.{fields}
use Rattle.texts.proofs.fields.field.Goals as goal

seen : (r : Option (Bor (List ℕ))) (d : Bor (List ℕ)) → (unwrap_or r d).now ≡ unwrap_or (option_map (λ x. x.now) r) d.now
seen None d = refl
seen (Some x) d = refl

pub returns : goal.returns
returns c =
    let fs = fields c.args.line.now in
    let part = nth_from_yields_List _ _ c.from-index.result c.nth.ensures.ran (YieldsList-from_slice_split _ (λ b. b == 44) c.args.line.now c.split.ensures.rest c.split.ensures.done c.split.ensures.closure (λ x r q k. search (rules, tests))) in
    let index : c.from-index.result ≡ c.args.number - 1 = search rules in
    ap (λ (b : Bor (List ℕ)). b.now) c.unwrap_or.ensures
    ∙ seen c.nth.result _
    ∙ ap (λ o. unwrap_or o []) part
    ∙ unwrap_or-slice_get fs c.from-index.result []
    ∙ ap (λ (i : ℕ). get_or fs i []) index
