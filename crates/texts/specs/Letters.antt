-- What a line begins with: its letter, then the number of its fields.
use Rattle.std.specs.Prelude.{ℕ, cond, List, length, Some, None, Ok, Option, Result, ◌==◌}
use Rattle.kinds.specs.declared.refusals.Refusal.TheVariants.{Shape}
use Rattle.texts.specs.declared.faults.Wrong.{Wrong}
use Rattle.texts.specs.Faults.{wrong, then, check}
use Rattle.texts.specs.Fields.{letter_at}

abbrev pub counted : {L : Type 0} → (L → ℕ) → List (List ℕ) → Option L → Result L Wrong
counted wanted fs None = wrong Shape 1
counted wanted fs (Some l) = check (length fs == wanted l) Shape 0 (Ok l)

-- by what each letter stands for, and by the number of fields that it wants
abbrev pub opened : {L : Type 0} → (ℕ → Option L) → (L → ℕ) → List (List ℕ) → Result L Wrong
opened meant wanted fs = then (letter_at fs 1 Shape) (λ b. counted wanted fs (meant b))

-- only the letter c, with n fields
abbrev pub only : ℕ → ℕ → Option (Unit {0})
only c b = cond (b == c) (Some tt) None

-- a first line: the letter c and n fields, then what these say
abbrev pub first_by : {A : Type 0} → ℕ → ℕ → (List (List ℕ) → Result A Wrong) → List (List ℕ) → Result A Wrong
first_by c n says fs = then (opened (only c) (λ _. n) fs) (λ _. says fs)
