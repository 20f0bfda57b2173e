-- The number of each refusal.
use Rattle.std.specs.Prelude.{ℕ}
use Rattle.kinds.specs.declared.refusals.Refusal.{Refusal}
use Rattle.kinds.specs.declared.refusals.Refusal.TheVariants.{Shape, Spelling, Range, Full, Circuit, Missing, Short, NoPlan, OrderOut, AllFixed, TooHigh, NoOrder}

abbrev pub code : Refusal → ℕ
code Shape = 1
code Spelling = 2
code Range = 3
code Full = 4
code Circuit = 6
code Missing = 7
code Short = 8
code NoPlan = 20
code OrderOut = 21
code AllFixed = 22
code TooHigh = 23
code NoOrder = 24
