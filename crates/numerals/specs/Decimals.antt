-- Plain numbers as text: one to seven decimal digits.
use Rattle.std.specs.Prelude.{ℕ, zero, suc, ◌+◌, ◌-◌, ◌*◌, ◌/◌, ◌%◌, Bool, cond, ◌&&◌, List, [], ◌∷◌, ◌++◌, length, Some, None, Option, ◌==◌, nat_le, nat_lt}
use Rattle.std.specs.Str.{all_ascii_digits}

-- the number that digits go on to write after n
abbrev pub value_after : ℕ → List ℕ → ℕ
value_after n [] = n
value_after n (c ∷ cs) = value_after (n * 10 + (c - 48)) cs

abbrev pub numeral? : List ℕ → Bool
numeral? bs = nat_lt 0 (length bs) && (nat_le (length bs) 7 && all_ascii_digits bs)

-- what a plain number field says, if it spells a number
abbrev pub number_of : List ℕ → Option ℕ
number_of bs = cond (numeral? bs) (Some (value_after 0 bs)) None

-- A number's text is that of its tenth part, if this is not 0, then its last digit.
-- (k bounds the recursion)
abbrev pub text_by : ℕ → ℕ → List ℕ
text_by zero n = []
text_by (suc k) n = cond (n / 10 == 0) [] (text_by k (n / 10)) ++ ((48 + n % 10) ∷ [])

unfoldable pub text_of : ℕ → List ℕ
text_of n = text_by (suc n) n
