-- The dates: never, the ticks 0 to 1,000,000, and open, in this rising order.
use Rattle.std.specs.Prelude.{ℕ, ◌+◌, ◌-◌, min, Bool, true, false, cond, Some, None, Option, nat_le, nat_lt}
use Rattle.std.proofs.Math.Nat.{min-le_right}
use Rattle.kinds.specs.Kind.{Ops}
use Rattle.kinds.specs.declared.dates.Tick.{Tick}
use Rattle.kinds.specs.declared.dates.Date.{Date}
use Rattle.kinds.specs.declared.dates.Date.TheVariants.{Never, At, Open}

-- the tick n; every use has n at most 1,000,000, past which it is the last tick
abbrev pub tick : ℕ → Tick
tick n = record { value = min n 1000000; ok = min-le_right n 1000000 }

abbrev pub at : ℕ → Date
at n = At (tick n)

abbrev pub new_tick : ℕ → Option Tick
new_tick n = cond (nat_le n 1000000) (Some (tick n)) None

abbrev pub later : Date → Date → Date
later Never b = b
later (At s) Never = At s
later (At s) (At t) = At (cond (nat_le s.value t.value) t s)
later (At s) Open = Open
later Open b = Open

abbrev pub earlier : Date → Date → Date
earlier Never b = Never
earlier (At s) Never = Never
earlier (At s) (At t) = At (cond (nat_le s.value t.value) s t)
earlier (At s) Open = At s
earlier Open b = b

-- never if either is never, else open if either is open or the sum passes 1,000,000, else the sum
abbrev pub after : Date → Date → Date
after Never b = Never
after (At s) Never = Never
after (At s) (At t) = cond (nat_le (s.value + t.value) 1000000) (at (s.value + t.value)) Open
after (At s) Open = Open
after Open Never = Never
after Open (At t) = Open
after Open Open = Open

-- open if a is never or b is open; else never if a is open, b is never or b is less than a; else b − a
abbrev pub latest_start : Date → Date → Date
latest_start Never b = Open
latest_start (At s) Never = Never
latest_start (At s) (At t) = cond (nat_lt t.value s.value) Never (at (t.value - s.value))
latest_start (At s) Open = Open
latest_start Open Never = Never
latest_start Open (At t) = Never
latest_start Open Open = Open

abbrev pub no_later : Date → Date → Bool
no_later Never b = true
no_later (At s) Never = false
no_later (At s) (At t) = nat_le s.value t.value
no_later (At s) Open = true
no_later Open Never = false
no_later Open (At t) = false
no_later Open Open = true

abbrev pub date_ops : Ops Date
date_ops = record {
  bottom = Never;
  one = at 0;
  top = Open;
  join = later;
  meet = earlier;
  product = after;
  residual = latest_start;
  at_most = no_later;
}
