-- The lines of a score, and what reading them gives for every text.
use Rattle.std.specs.Prelude.{ℕ, cond, List, Some, None, Ok, Option, Result, ◌==◌}
use Rattle.numerals.specs.declared.cards.Misread.{Misread}
use Rattle.texts.specs.declared.faults.Wrong.{Wrong}
use Rattle.texts.specs.declared.faults.Fault.{Fault}
use Rattle.texts.specs.declared.faults.TextName.TheVariants.{Score}
use Rattle.texts.specs.declared.positions.Position.{Position}
use Rattle.texts.specs.declared.scores.Verb.{Verb}
use Rattle.texts.specs.declared.scores.Verb.TheVariants as verb
use Rattle.texts.specs.declared.scores.ScoreLine.{ScoreLine}
use Rattle.texts.specs.declared.scores.ScoreLine.TheVariants.{Due, Fire, Miss}
use Rattle.texts.specs.Splits.{fields}
use Rattle.texts.specs.Faults.{then}
use Rattle.texts.specs.Fields.{index_at, count_at, value_at}
use Rattle.texts.specs.Letters.{opened, first_by}
use Rattle.texts.specs.Lines.{line_from, next_from, next_past}

-- D is a due, F an order that is fired, X an order that is missed
abbrev pub verb_by : ℕ → Option Verb
verb_by c = cond (c == 68) (Some verb.Due) (cond (c == 70) (Some verb.Fire) (cond (c == 88) (Some verb.Miss) None))

abbrev pub verb_arity : Verb → ℕ
verb_arity verb.Due = 4
verb_arity verb.Fire = 3
verb_arity verb.Miss = 2

-- `D,output,beat,value`, `F,input,value` and `X,input`: wires are 0 to 15, beats 0 to 63
abbrev pub said : {T : Type 0} → (List ℕ → Result T Misread) → Verb → List (List ℕ) → Result (ScoreLine T) Wrong
said reading verb.Due fs =
    then (index_at fs 2 16) (λ output.
    then (index_at fs 3 64) (λ beat.
    then (value_at reading fs 4) (λ value.
    Ok (Due output beat value))))
said reading verb.Fire fs =
    then (index_at fs 2 16) (λ input.
    then (value_at reading fs 3) (λ value.
    Ok (Fire input value)))
said reading verb.Miss fs =
    then (index_at fs 2 16) (λ input.
    Ok (Miss input))

-- its letter, then the number of its fields, then each field from the left
abbrev pub score_line : {T : Type 0} → (List ℕ → Result T Misread) → List ℕ → Result (ScoreLine T) Wrong
score_line reading line = then (opened verb_by verb_arity (fields line)) (λ v. said reading v (fields line))

-- the first line, `H,beats`: 1 to 64
abbrev pub beats_line : List ℕ → Result ℕ Wrong
beats_line line = first_by 72 2 (λ fs. count_at fs 2 64) (fields line)

-- the beats that the line at a position gives
abbrev pub beats_from : List ℕ → Position → Result ℕ Fault
beats_from text at = line_from Score beats_line text at

-- the next line of a score, none at its end
abbrev pub event_from : {T : Type 0} → (List ℕ → Result T Misread) → List ℕ → Position → Result (Option (ScoreLine T)) Fault
event_from reading text at = next_from Score (score_line reading) text at

-- the position after it; the end and a refusal leave it
abbrev pub event_past : {A : Type 0} → Result (Option A) Fault → Position → List ℕ → Position
event_past r at rest = next_past r at rest
