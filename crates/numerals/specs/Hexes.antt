-- Sets of sixteen channels as four hexadecimal digits.
use Rattle.std.specs.Prelude.{ℕ, ◌+◌, ◌-◌, ◌*◌, ◌/◌, ◌%◌, Bool, cond, ◌&&◌, List, [], ◌∷◌, length, Some, None, Option, ◌==◌, nat_le, nat_lt, slice_index}

abbrev pub within : ℕ → ℕ → ℕ → Bool
within low high c = nat_le low c && nat_le c high

-- the value of a digit of either case
abbrev pub hex_of : ℕ → Option ℕ
hex_of c = cond (within 48 57 c) (Some (c - 48)) (cond (within 97 102 c) (Some (c - 87)) (cond (within 65 70 c) (Some (c - 55)) None))

-- the lower-case digit of a value
abbrev pub hex_digit : ℕ → ℕ
hex_digit d = cond (nat_lt d 10) (48 + d) (87 + d)

abbrev pub bind : {A B : Type 0} → Option A → (A → Option B) → Option B
bind None next = None
bind (Some x) next = next x

abbrev pub bits_of : List ℕ → Option ℕ
bits_of bs = cond (length bs == 4)
    (bind (hex_of (slice_index bs 0)) (λ a. bind (hex_of (slice_index bs 1)) (λ b. bind (hex_of (slice_index bs 2)) (λ c. bind (hex_of (slice_index bs 3)) (λ d.
    Some (a * 4096 + b * 256 + c * 16 + d)))))) None

abbrev pub bits_text : ℕ → List ℕ
bits_text n = hex_digit (n / 4096 % 16) ∷ hex_digit (n / 256 % 16) ∷ hex_digit (n / 16 % 16) ∷ hex_digit (n % 16) ∷ []
