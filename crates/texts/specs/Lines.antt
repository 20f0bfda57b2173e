-- Lines of a text: at most 64 bytes before the byte 10 that ends each.
use denote.Ref.{Bor}
use Rattle.std.specs.Prelude.{◌≡◌, ℕ, ◌+◌, cond, List, length, drop, Some, None, Ok, Err, Option, Result, nat_le, nat_lt}
use Rattle.std.specs.Fn.{Once}
use Rattle.kinds.specs.declared.refusals.Refusal.TheVariants.{Shape, Full}
use Rattle.texts.specs.declared.faults.Wrong.{Wrong}
use Rattle.texts.specs.declared.faults.Fault.{Fault}
use Rattle.texts.specs.declared.faults.TextName.{TextName}
use Rattle.texts.specs.declared.positions.Position.{Position}
use Rattle.texts.specs.Splits.{before}
use Rattle.texts.specs.Faults.{then, check, faulted}

-- a text has at most 16,384 bytes; one too long is refused in line 0, before any line
abbrev pub within : TextName → List ℕ → Result (Unit {0}) Fault
within name text = cond (nat_le (length text) 16384) (Ok tt) (Err (record { refusal = Full; text = name; line = 0; field = 0 }))

-- the next line of what is left of a text: checked for its end, emptiness and length
abbrev pub line_of : List ℕ → Result (List ℕ) Wrong
line_of rest =
    check (nat_lt (length (before 10 rest)) (length rest)) Shape 0
    (check (nat_lt 0 (length (before 10 rest))) Shape 0
    (check (nat_le (length (before 10 rest)) 64) Shape 0
    (Ok (before 10 rest))))

-- the position past the next line
abbrev pub past : Position → List ℕ → Position
past at rest = record { place = at.place + (length (before 10 rest) + 1); line = at.line + 1 }

-- an accepted line is passed, a refused one is not
abbrev pub position_after : {A E : Type 0} → Result A E → Position → List ℕ → Position
position_after (Ok x) at rest = past at rest
position_after (Err e) at rest = at

-- each call of a line's reader answers what `says` gives
abbrev pub Computes : {F A : Type 0} → Once F (Bor (List ℕ) × Unit {0}) (Result A Wrong) → F → (List ℕ → Result A Wrong) → Type 0
Computes g f says = (line : Bor (List ℕ)) (r : Result _ Wrong) → g.post f (line, tt) r → r ≡ says line.now

abbrev pub line_by : {A : Type 0} → TextName → (List ℕ → Result A Wrong) → List ℕ → Position → Result (Unit {0}) Fault → Result A Fault
line_by name says text at (Err f) = Err f
line_by name says text at (Ok _) = faulted name (at.line + 1) (then (line_of (drop at.place text)) says)

-- what the line at a position says
abbrev pub line_from : {A : Type 0} → TextName → (List ℕ → Result A Wrong) → List ℕ → Position → Result A Fault
line_from name says text at = line_by name says text at (within name text)

abbrev pub some : {A : Type 0} → Result A Fault → Result (Option A) Fault
some (Ok x) = Ok (Some x)
some (Err f) = Err f

abbrev pub next_by : {A : Type 0} → TextName → (List ℕ → Result A Wrong) → List ℕ → Position → Result (Unit {0}) Fault → Result (Option A) Fault
next_by name says text at (Err f) = Err f
next_by name says text at (Ok _) = cond (nat_lt at.place (length text)) (some (faulted name (at.line + 1) (then (line_of (drop at.place text)) says))) (Ok None)

-- what the next line says, none at the end of the text
abbrev pub next_from : {A : Type 0} → TextName → (List ℕ → Result A Wrong) → List ℕ → Position → Result (Option A) Fault
next_from name says text at = next_by name says text at (within name text)

-- the position after it; the end and a refusal leave it
abbrev pub next_past : {A : Type 0} → Result (Option A) Fault → Position → List ℕ → Position
next_past (Ok (Some x)) at rest = past at rest
next_past (Ok None) at rest = at
next_past (Err f) at rest = at
