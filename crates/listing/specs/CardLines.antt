-- The bytes of the lines of the printed card.
use Rattle.std.specs.Prelude.{ℕ, List, [], ◌∷◌, ◌++◌, Some, None, Ok, Err, Option, Result}
use Rattle.kinds.specs.declared.refusals.Refusal.{Refusal}
use Rattle.kinds.specs.Refusals.{code}
use Rattle.numerals.specs.Decimals.{text_of}
use Rattle.listing.specs.declared.lines.Event.{Event}
use Rattle.listing.specs.declared.lines.Event.TheVariants.{Due, Order, Fire, Miss}
use Rattle.listing.specs.declared.lines.Block.{Block}
use Rattle.listing.specs.declared.lines.Block.TheVariants.{Plan, Strikes}
use Rattle.listing.specs.declared.lines.Spot.{Spot}
use Rattle.listing.specs.declared.lines.CardLine.{CardLine}
use Rattle.listing.specs.declared.lines.CardLine.TheVariants.{Answered, Cell, Refused}
use Rattle.texts.specs.FaultLines.{fault_text}

-- D, A, F and M
abbrev pub event_letter : Event → ℕ
event_letter Due = 68
event_letter Order = 65
event_letter Fire = 70
event_letter Miss = 77

-- U and Y
abbrev pub block_letter : Block → ℕ
block_letter Plan = 85
block_letter Strikes = 89

-- 0, or the number of the refusal
abbrev pub answer_code : Result Unit Refusal → ℕ
answer_code (Ok _) = 0
answer_code (Err why) = code why

-- `,beat,value`, or `,-,-`
abbrev pub spot_text : {T : Type 0} → (T → List ℕ) → Option (Spot T) → List ℕ
spot_text text None = 44 ∷ 45 ∷ 44 ∷ 45 ∷ []
spot_text text (Some s) = (44 ∷ text_of s.beat) ++ (44 ∷ text s.value)

-- `letter,wire,beat,value,answer`
abbrev pub event_line : {T : Type 0} → (T → List ℕ) → Event → ℕ → Option (Spot T) → Result Unit Refusal → List ℕ
event_line text event wire spot answer =
    (((event_letter event ∷ [])
    ++ (44 ∷ text_of wire))
    ++ spot_text text spot)
    ++ (44 ∷ text_of (answer_code answer))

-- `letter,wire,beat,value`
abbrev pub cell_line : {T : Type 0} → (T → List ℕ) → Block → ℕ → ℕ → T → List ℕ
cell_line text block wire beat value =
    (((block_letter block ∷ [])
    ++ (44 ∷ text_of wire))
    ++ (44 ∷ text_of beat))
    ++ (44 ∷ text value)

abbrev pub card_line : {T : Type 0} → (T → List ℕ) → CardLine T → List ℕ
card_line text (Answered event wire spot answer) = event_line text event wire spot answer
card_line text (Cell block wire beat value) = cell_line text block wire beat value
card_line text (Refused fault) = fault_text fault
