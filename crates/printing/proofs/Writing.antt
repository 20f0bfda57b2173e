-- Rows written one after another.
use Rattle.std.proofs.Common.{◌≡◌, ℕ, ◌+◌, ◌/◌, ◌%◌, List, ◌++◌, get_or, drop, sym, ap, ◌∙◌, ap₂, append_assoc, div-add-mod', add-one}
use Rattle.kinds.specs.Kind.{Ops}
use Rattle.plants.specs.Meaning.{block}
use Rattle.runs.specs.declared.acts.Act.{Act}
use Rattle.listing.specs.declared.lines.Block.{Block}
use Rattle.listing.specs.CardLines.{cell_line}
use Rattle.printing.specs.Rows.{row, act_rows, cell_rows}

module _ {T : Type 0} (text : T → List ℕ) (bottom : T) (acts : List (Act T)) (was : List ℕ) where
  -- what is written and the rows that are left make the whole
  abbrev pub WrittenTo : List ℕ → ℕ → Type 0
  WrittenTo now i = now ++ act_rows text bottom (drop i acts) ≡ was ++ act_rows text bottom acts

pub cell_more : {T : Type 0} (o : Ops T) (text : T → List ℕ) (b : Block) (K : ℕ) (sheet : List T) (start n w k : ℕ) (value : T) (was now now' : List ℕ)
    → w ≡ n / K → k ≡ n % K → value ≡ get_or sheet (start + n) o.bottom
    → now' ≡ now ++ row (cell_line text b w k value) → now ≡ was ++ cell_rows text b K (block o sheet start K) n
    → now' ≡ was ++ cell_rows text b K (block o sheet start K) (n + 1)
cell_more {T} o text b K sheet start n w k value was now now' wire beat is grown before =
    let rows = cell_rows text b K (block o sheet start K) n in
    let there : value ≡ block o sheet start K (n / K) (n % K) = is ∙ ap (λ (a : ℕ). get_or sheet (start + a) o.bottom) (sym (div-add-mod' n K)) in
    let line : cell_line text b w k value ≡ cell_line text b (n / K) (n % K) (block o sheet start K (n / K) (n % K)) =
    ap₂ (λ (x y : ℕ). cell_line text b x y value) wire beat ∙ ap (λ (v : T). cell_line text b (n / K) (n % K) v) there in
    grown ∙ ap₂ (λ z l. z ++ row l) before line
    ∙ append_assoc was rows (row (cell_line text b (n / K) (n % K) (block o sheet start K (n / K) (n % K))))
    ∙ ap (λ (a : ℕ). was ++ cell_rows text b K (block o sheet start K) a) (sym (add-one n))
