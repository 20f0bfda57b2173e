-- Lines of a score read one after the other.
use Rattle.std.proofs.Common.{◌≡◌, ℕ, List, [], ◌++◌, Option, Result, ap, ◌∙◌, subst, append-nil}
use Rattle.numerals.specs.declared.cards.Misread.{Misread}
use Rattle.texts.specs.declared.faults.Fault.{Fault}
use Rattle.texts.specs.declared.positions.Position.{Position}
use Rattle.texts.specs.declared.scores.ScoreLine.{ScoreLine}
use Rattle.texts.specs.Scores.{event_from}
use Rattle.printing.specs.Reads.{Ends, Reads}

module _ {T : Type 0} (reading : List ℕ → Result T Misread) (text : List ℕ) where
  -- these lines lead from one position to another: what is read from there follows them
  abbrev pub Leads : Position → List (ScoreLine T) → Position → Type 0
  Leads from lines at = (more : List (ScoreLine T)) (end : Result (Unit {0}) Fault) → Reads reading text at more end → Reads reading text from (lines ++ more) end

  -- no line more
  pub lines_end : (text' : List ℕ) (from at : Position) (lines : List (ScoreLine T)) (r : Result (Option (ScoreLine T)) Fault) (end : Result (Unit {0}) Fault)
      → text' ≡ text → r ≡ event_from reading text' at → Ends r end → Leads from lines at → Reads reading text from lines end
  lines_end text' from at lines r end same is ends leads =
      subst (λ ls. Reads reading text from ls end) (append-nil lines)
      (leads [] end (subst (λ x. Ends x end) (is ∙ ap (λ t. event_from reading t at) same) ends))
