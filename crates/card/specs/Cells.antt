-- Rows that tell the cells of a block.
use Rattle.std.specs.Prelude.{ℕ, zero, suc, ◌+◌, ◌/◌, ◌%◌, List, [], ◌∷◌, ◌++◌, codes, slice_index_or}
use Rattle.kinds.specs.Kind.{Ops}
use Rattle.numerals.specs.Decimals.{text_of}

abbrev pub cell_row : {T : Type 0} → (T → List ℕ) → ℕ → ℕ → T → List ℕ
cell_row text wire beat value =
    (((((codes "output " ++ text_of wire) ++ codes ", beat ") ++ text_of beat) ++ codes ": ") ++ text value) ++ (10 ∷ [])

-- the first n cells of a block, by wire, then beat
abbrev pub cell_rows : {T : Type 0} → (T → List ℕ) → ℕ → (ℕ → T) → ℕ → List ℕ
cell_rows text beats f zero = []
cell_rows text beats f (suc n) = cell_rows text beats f n ++ cell_row text (n / beats) (n % beats) (f n)

-- cell n of the cells from `start`
abbrev pub cell_at : {T : Type 0} → Ops T → List T → ℕ → ℕ → T
cell_at o sheet start n = slice_index_or sheet (start + n) o.bottom
