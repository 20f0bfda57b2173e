-- The texts of dates, levels and channel sets.
use Rattle.std.specs.Prelude.{◌≡◌, ℕ, Bool, cond, ◌&&◌, List, [], ◌∷◌, length, Some, None, Ok, Err, Option, Result, ◌==◌, slice_index}
use Rattle.kinds.specs.declared.dates.Date.{Date}
use Rattle.kinds.specs.declared.dates.Date.TheVariants.{Never, At, Open}
use Rattle.kinds.specs.declared.levels.Level.{Level}
use Rattle.kinds.specs.declared.channels.Channels.{Channels}
use Rattle.kinds.specs.declared.refusals.Refusal.{Refusal}
use Rattle.kinds.specs.declared.refusals.Refusal.TheVariants.{Spelling as WrongSpelling, Range as WrongRange}
use Rattle.kinds.specs.Dates.{new_tick}
use Rattle.kinds.specs.Levels.{new_level}
use Rattle.kinds.specs.Sets.{of_bits}
use Rattle.numerals.specs.declared.cards.Misread.{Misread}
use Rattle.numerals.specs.declared.cards.Misread.TheVariants.{Spelling, Range}
use Rattle.numerals.specs.Decimals.{number_of, text_of}
use Rattle.numerals.specs.Hexes.{bits_of, bits_text}

-- reading a written value returns it
abbrev pub ReadsBack : {T : Type 0} → (T → List ℕ) → (List ℕ → Result T Misread) → Type 0
ReadsBack {T} text reading = (x : T) → reading (text x) ≡ Ok x

-- what is printed of a value is its text
abbrev pub Shows : {T : Type 0} → (T → Option (List ℕ)) → (T → List ℕ) → Type 0
Shows {T} output text = (x : T) → output x ≡ Some (text x)

-- a field that gives no value, as a refusal of the whole
abbrev pub refused : Misread → Refusal
refused Spelling = WrongSpelling
refused Range = WrongRange

-- what the conversion of a number in a field gives, where `gives` says what that of a number does
abbrev pub misread : {T : Type 0} → Result T Refusal → Result T Misread
misread (Ok x) = Ok x
misread (Err e) = Err Range

abbrev pub Ranged : {T : Type 0} → (ℕ → Result T Refusal → Type 0) → Option ℕ → Result T Misread → Type 0
Ranged gives None r = r ≡ Err Spelling
Ranged {T} gives (Some n) r = (made : Result T Refusal) × gives n made × (r ≡ misread made)

-- the value made of a number, if that is in range
abbrev pub ranged : {A T : Type 0} → (A → T) → Option A → Result T Misread
ranged value None = Err Range
ranged value (Some x) = Ok (value x)

-- first the spelling, then the range
abbrev pub in_range : {A T : Type 0} → (A → T) → (ℕ → Option A) → Option ℕ → Result T Misread
in_range value new None = Err Spelling
in_range value new (Some n) = ranged value (new n)

-- the field is just the byte b
abbrev pub just? : ℕ → List ℕ → Bool
just? b bs = length bs == 1 && slice_index bs 0 == b

-- never is `-`, open is `*`, a tick is its number
abbrev pub date_text : Date → List ℕ
date_text Never = 45 ∷ []
date_text (At t) = text_of t.value
date_text Open = 42 ∷ []

abbrev pub date_of : List ℕ → Result Date Misread
date_of bs = cond (just? 45 bs) (Ok Never) (cond (just? 42 bs) (Ok Open) (in_range At new_tick (number_of bs)))

abbrev pub level_text : Level → List ℕ
level_text x = text_of x.value

abbrev pub level_of : List ℕ → Result Level Misread
level_of bs = in_range (λ x. x) new_level (number_of bs)

abbrev pub channels_text : Channels → List ℕ
channels_text x = bits_text x.bits

-- four digits spell no more than sixteen bits, so nothing is out of range
abbrev pub channels_of : List ℕ → Result Channels Misread
channels_of bs = in_range of_bits Some (bits_of bs)
