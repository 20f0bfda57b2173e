-- A statement for each refusal of a phrase.
use Rattle.kinds.specs.declared.refusals.Refusal.{Refusal}
use Rattle.kinds.specs.declared.refusals.Refusal.TheVariants.{Shape, Spelling, Range, Full, Circuit, Missing, Short, NoPlan, OrderOut, AllFixed, TooHigh, NoOrder}

-- in the order of their numbers 7, 8, 20 to 24; the other refusals are never given
abbrev pub by_refusal : Type 0 → Type 0 → Type 0 → Type 0 → Type 0 → Type 0 → Type 0 → Refusal → Type 0
by_refusal a b c d e f g Shape = ⊥
by_refusal a b c d e f g Spelling = ⊥
by_refusal a b c d e f g Range = ⊥
by_refusal a b c d e f g Full = ⊥
by_refusal a b c d e f g Circuit = ⊥
by_refusal a b c d e f g Missing = a
by_refusal a b c d e f g Short = b
by_refusal a b c d e f g NoPlan = c
by_refusal a b c d e f g OrderOut = d
by_refusal a b c d e f g AllFixed = e
by_refusal a b c d e f g TooHigh = f
by_refusal a b c d e f g NoOrder = g
