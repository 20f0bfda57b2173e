-- Which links take part in a net of n transitions, m inputs and p outputs, and how.
-- A link whose ends lie beyond these counts or whose tokens lie beyond their limits takes no part.
use Rattle.std.specs.Prelude.{ℕ, Bool, ◌&&◌, ◌==◌, nat_lt}
use Rattle.links.specs.declared.Sort.TheVariants.{Place, Input, Output}
use Rattle.links.specs.declared.Link.{Link}
use Rattle.links.specs.Tallies.{same_sort}

-- a place without tokens
abbrev pub tokenless : {T : Type 0} → ℕ → Link T → Bool
tokenless n l = same_sort Place l.sort && (nat_lt l.from n && (nat_lt l.to n && l.tokens == 0))

-- a place with 1 to 15 tokens
abbrev pub delayed : {T : Type 0} → ℕ → Link T → Bool
delayed n l = same_sort Place l.sort && (nat_lt l.from n && (nat_lt l.to n && (nat_lt 0 l.tokens && nat_lt l.tokens 16)))

-- an input link, without tokens
abbrev pub entry : {T : Type 0} → ℕ → ℕ → Link T → Bool
entry n m l = same_sort Input l.sort && (nat_lt l.from m && (nat_lt l.to n && l.tokens == 0))

-- an output link, without tokens
abbrev pub leaving : {T : Type 0} → ℕ → ℕ → Link T → Bool
leaving n p l = same_sort Output l.sort && (nat_lt l.from n && (nat_lt l.to p && l.tokens == 0))
