-- Rows of a report, written one after another.
use Rattle.std.proofs.Common.{◌≡◌, ℕ, ◌+◌, ◌/◌, ◌%◌, List, ◌++◌, Result, OnOk, sym, ap, ◌∙◌, append_assoc, add-one}
use Rattle.std.proofs.lemmas.Result.{IfOk-weaker}
use Rattle.card.specs.Cells.{cell_row, cell_rows}

-- the last of three pieces, if it is written
pub three_on : {E : Type 0} (r : Result (Unit {0}) E) (was a b c one two three : List ℕ) → one ≡ was ++ a → two ≡ one ++ b → OnOk r (three ≡ two ++ c)
    → OnOk r (three ≡ was ++ ((a ++ b) ++ c))
three_on r was a b c one two three first second last =
    IfOk-weaker r _ _ (λ x (third : three ≡ two ++ c).
    third ∙ ap (λ z. z ++ c) (second ∙ ap (λ z. z ++ b) first) ∙ simp append_assoc) last

pub row_more : {T : Type 0} (text : T → List ℕ) (beats : ℕ) (f : ℕ → T) (n : ℕ) (value : T) (was before after : List ℕ) → value ≡ f n
    → before ≡ was ++ cell_rows text beats f n → after ≡ before ++ cell_row text (n / beats) (n % beats) value → after ≡ was ++ cell_rows text beats f (n + 1)
row_more {T} text beats f n value was before after is e h =
    h ∙ ap (λ z. z ++ cell_row text (n / beats) (n % beats) value) e
    ∙ append_assoc was (cell_rows text beats f n) (cell_row text (n / beats) (n % beats) value)
    ∙ ap (λ (v : T). was ++ (cell_rows text beats f n ++ cell_row text (n / beats) (n % beats) v)) is
    ∙ ap (λ (k : ℕ). was ++ cell_rows text beats f k) (sym (add-one n))
