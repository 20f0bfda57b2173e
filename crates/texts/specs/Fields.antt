-- What one field of a line says: first its spelling, then its range. Fields are numbered from 1.
use Rattle.std.specs.Prelude.{ℕ, ◌+◌, ◌-◌, cond, ◌&&◌, List, [], length, Some, None, Ok, Err, Option, Result, ◌==◌, nat_le, nat_lt, slice_index, slice_index_or}
use Rattle.kinds.specs.declared.refusals.Refusal.{Refusal}
use Rattle.kinds.specs.declared.refusals.Refusal.TheVariants.{Spelling, Range}
use Rattle.numerals.specs.declared.cards.Misread.{Misread}
use Rattle.numerals.specs.Decimals.{number_of}
use Rattle.numerals.specs.Texts.{refused}
use Rattle.texts.specs.declared.faults.Wrong.{Wrong}
use Rattle.texts.specs.Faults.{wrong, check}

-- field k, empty where there is none
abbrev pub field_at : List (List ℕ) → ℕ → List ℕ
field_at fs k = slice_index_or fs (k - 1) []

-- the one letter in field k
abbrev pub letter_in : Refusal → ℕ → List ℕ → Result ℕ Wrong
letter_in why k bs = cond (length bs == 1) (Ok (slice_index bs 0)) (wrong why k)

abbrev pub letter_at : List (List ℕ) → ℕ → Refusal → Result ℕ Wrong
letter_at fs k why = letter_in why k (field_at fs k)

-- a number from `least` to below a bound
abbrev pub ranged : ℕ → ℕ → ℕ → Option ℕ → Result ℕ Wrong
ranged least bound k None = wrong Spelling k
ranged least bound k (Some n) = check (nat_le least n && nat_lt n bound) Range k (Ok n)

abbrev pub number_at : List (List ℕ) → ℕ → ℕ → ℕ → Result ℕ Wrong
number_at fs k least bound = ranged least bound k (number_of (field_at fs k))

-- a number below a bound
abbrev pub index_at : List (List ℕ) → ℕ → ℕ → Result ℕ Wrong
index_at fs k bound = number_at fs k 0 bound

-- a number from 1 to most
abbrev pub count_at : List (List ℕ) → ℕ → ℕ → Result ℕ Wrong
count_at fs k most = number_at fs k 1 (most + 1)

-- a value, as its kind reads it
abbrev pub placed : {T : Type 0} → ℕ → Result T Misread → Result T Wrong
placed k (Ok x) = Ok x
placed k (Err why) = wrong (refused why) k

abbrev pub value_at : {T : Type 0} → (List ℕ → Result T Misread) → List (List ℕ) → ℕ → Result T Wrong
value_at reading fs k = placed k (reading (field_at fs k))
