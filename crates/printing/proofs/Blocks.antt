-- The plan and the strikes of a sheet, written one after the other.
use Rattle.std.proofs.Common.{◌≡◌, ℕ, zero, suc, ◌+◌, ◌*◌, ◌/◌, ◌%◌, ◌<◌, ◌≤◌, List, ◌++◌, take, drop, length, get_or, Result, refl, ap, ◌∙◌, ap₂, append_assoc, mod-lt, div-lt_iff_lt-mul, arith, zero-add, div-add-mod', length-drop, add-mul, MatchResult}
use Rattle.std.proofs.lemmas.List.{get_or-take, get_or-drop, length-take-le}
use Rattle.kinds.specs.Kind.{Ops}
use Rattle.kinds.specs.declared.refusals.Refusal.{Refusal}
use Rattle.plants.specs.Meaning.{Meaning, block, forward_cell}
use Rattle.phrases.specs.Cells.{plan, total, Struck, RefusedShort}
use Rattle.listing.specs.declared.lines.Block.{Block}
use Rattle.listing.specs.declared.lines.Block.TheVariants.{Plan, Strikes}
use Rattle.listing.specs.CardLines.{cell_line}
use Rattle.printing.specs.Rows.{row, cell_rows}
use Rattle.printing.specs.Performs.{block_rows}
use Rattle.printing.proofs.Rooms.{roomy}

-- rows of cells that are the same
rows_same : {T : Type 0} (text : T → List ℕ) (b : Block) (K : ℕ) (f g : ℕ → ℕ → T) (n : ℕ) → ((a : ℕ) → a < n → f (a / K) (a % K) ≡ g (a / K) (a % K))
    → cell_rows text b K f n ≡ cell_rows text b K g n
rows_same text b K f g zero e = refl
rows_same {T} text b K f g (suc n) e =
    ap₂ (λ z (v : T). z ++ row (cell_line text b (n / K) (n % K) v)) (rows_same text b K f g n (λ a h. e a (omega arith))) (e n (omega arith))

-- the rows of a part of a sheet are those of the block there
pub part_rows : {T : Type 0} (o : Ops T) (text : T → List ℕ) (b : Block) (K : ℕ) (s : List T) (start n size : ℕ) → start + n ≤ length s → size ≡ n
    → cell_rows text b K (block o (take size (drop start s)) 0 K) (length (take size (drop start s))) ≡ cell_rows text b K (block o s start K) n
part_rows {T} o text b K s start n size fits is =
    let part = take size (drop start s) in
    let len : length part ≡ n = length-take-le size (drop start s) (omega (arith, length-drop start s)) ∙ is in
    ap (λ (m : ℕ). cell_rows text b K (block o part 0 K) m) len
    ∙ rows_same text b K (block o part 0 K) (block o s start K) n
    (λ a h. ap (λ (i : ℕ). get_or part i o.bottom) (zero-add (a / K * K + a % K))
    ∙ get_or-take size (drop start s) (a / K * K + a % K) o.bottom (omega (arith, div-add-mod' a K)) ∙ get_or-drop start s (a / K * K + a % K) o.bottom)

-- the first blocks of a sheet that has all the cells
pub blocks_fit : (a b K need len : ℕ) → (a + b + a + b) * K + need ≤ len → (a * K + b * K ≤ len) × (a * K + b * K + a * K ≤ len)
blocks_fit a b K need len h =
    let all : (a + b + a + b) * K ≡ a * K + b * K + a * K + b * K = simp add-mul refl in
    (omega (arith, all), omega (arith, all))

pub blocks_written : {T : Type 0} (o : Ops T) (text : T → List ℕ) (M : Meaning T) (K need : ℕ) (s s' : List T) (r : Result (Unit {0}) Refusal) (was one two : List ℕ)
    → 0 < K → total M K need ≤ length s → MatchResult r (λ _. Struck o M K need s s') (λ e. RefusedShort o M K need s s' e)
    → one ≡ was ++ cell_rows text Plan K (block o s (M.outputs * K) K) (M.inputs * K)
    → two ≡ one ++ cell_rows text Strikes K (block o s' ((M.outputs + M.inputs) * K) K) (M.outputs * K)
    → two ≡ was ++ block_rows o text M K (plan o M K s)
blocks_written {T} o text M K need s s' r was one two some room struck first second =
    let u = plan o M K s in
    let cells : (a : ℕ) → a < M.outputs * K → block o s' ((M.outputs + M.inputs) * K) K (a / K) (a % K) ≡ forward_cell o M u (a / K) (a % K) =
    λ a h. (roomy o M K need s s' r (Struck o M K need s s') room struck).struck (a / K) (a % K) ((div-lt_iff_lt-mul {k = K} {x = a} {y = M.outputs} some).1 h) (mod-lt a some) in
    second
    ∙ ap₂ (λ z (y : List ℕ). z ++ y) first (rows_same text Strikes K (block o s' ((M.outputs + M.inputs) * K) K) (forward_cell o M u) (M.outputs * K) cells)
    ∙ append_assoc was (cell_rows text Plan K u (M.inputs * K)) (cell_rows text Strikes K (forward_cell o M u) (M.outputs * K))
