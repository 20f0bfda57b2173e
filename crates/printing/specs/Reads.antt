-- The lines of a score's text from a position on, and how the text ends.
use Rattle.std.specs.Prelude.{◌≡◌, ℕ, List, [], ◌∷◌, drop, Some, None, Ok, Err, Option, Result}
use Rattle.numerals.specs.declared.cards.Misread.{Misread}
use Rattle.texts.specs.declared.faults.Fault.{Fault}
use Rattle.texts.specs.declared.positions.Position.{Position}
use Rattle.texts.specs.declared.scores.ScoreLine.{ScoreLine}
use Rattle.texts.specs.Lines.{past}
use Rattle.texts.specs.Scores.{event_from}

-- no line is left, or the next one is at fault
abbrev pub Ends : {T : Type 0} → Result (Option (ScoreLine T)) Fault → Result (Unit {0}) Fault → Type 0
Ends (Ok None) end = end ≡ Ok tt
Ends (Ok (Some line)) end = ⊥
Ends (Err fault) end = end ≡ Err fault

-- the text has these lines from a position on, and then its end or a fault
abbrev pub Reads : {T : Type 0} → (List ℕ → Result T Misread) → List ℕ → Position → List (ScoreLine T) → Result (Unit {0}) Fault → Type 0
Reads reading text at [] end = Ends (event_from reading text at) end
Reads reading text at (line ∷ more) end = (event_from reading text at ≡ Ok (Some line)) × Reads reading text (past at (drop at.place text)) more end
