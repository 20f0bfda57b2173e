-- Laws of the bit operations, digit by digit.
use Rattle.std.specs.Prelude.{◌≡◌, ℕ, zero, suc, ◌+◌, ◌*◌, ◌/◌, ◌%◌, ◌^◌, ◌<◌, bit_and, bit_or, bit_xor, refl}
use Rattle.std.proofs.Common.{sym, ap, ap₂, ◌∙◌, div-add-mod', mod-lt, mod-eq_of_lt, zero-lt-suc, arith}
use Rattle.std.proofs.Math.Arith.{bin_ind}
use Rattle.std.proofs.lemmas.Nat.{and_shr, or_shr, xor_shr, and_mod, or_mod, xor_mod, and_mask, or_disjoint}
use Rattle.std.specs.Int.Bits.{and_self, xor_self, xor_add_and, or_add_and}

-- a fact at each triple of digits
each : (P : ℕ → ℕ → ℕ → Type 0) → P 0 0 0 → P 0 0 1 → P 0 1 0 → P 0 1 1 → P 1 0 0 → P 1 0 1 → P 1 1 0 → P 1 1 1
    → (x y z : ℕ) → x < 2 → y < 2 → z < 2 → P x y z
each P a b c d e f g h zero zero zero hx hy hz = a
each P a b c d e f g h zero zero (suc zero) hx hy hz = b
each P a b c d e f g h zero zero (suc (suc z)) hx hy hz = absurd (omega arith)
each P a b c d e f g h zero (suc zero) zero hx hy hz = c
each P a b c d e f g h zero (suc zero) (suc zero) hx hy hz = d
each P a b c d e f g h zero (suc zero) (suc (suc z)) hx hy hz = absurd (omega arith)
each P a b c d e f g h zero (suc (suc y)) z hx hy hz = absurd (omega arith)
each P a b c d e f g h (suc zero) zero zero hx hy hz = e
each P a b c d e f g h (suc zero) zero (suc zero) hx hy hz = f
each P a b c d e f g h (suc zero) zero (suc (suc z)) hx hy hz = absurd (omega arith)
each P a b c d e f g h (suc zero) (suc zero) zero hx hy hz = g
each P a b c d e f g h (suc zero) (suc zero) (suc zero) hx hy hz = h
each P a b c d e f g h (suc zero) (suc zero) (suc (suc z)) hx hy hz = absurd (omega arith)
each P a b c d e f g h (suc zero) (suc (suc y)) z hx hy hz = absurd (omega arith)
each P a b c d e f g h (suc (suc x)) y z hx hy hz = absurd (omega arith)

-- an operation on three numbers that goes digit by digit
record Bitwise (l : ℕ → ℕ → ℕ → ℕ) : Type 0 where
  high : (a b c : ℕ) → l a b c / 2 ≡ l (a / 2) (b / 2) (c / 2)
  low : (a b c : ℕ) → l a b c % 2 ≡ l (a % 2) (b % 2) (c % 2)

-- two of them are equal when they are at digits, and at 0
same_digits : (l r : ℕ → ℕ → ℕ → ℕ) → Bitwise l → Bitwise r → ((b c : ℕ) → l 0 b c ≡ r 0 b c)
    → ((x y z : ℕ) → x < 2 → y < 2 → z < 2 → l x y z ≡ r x y z) → (a b c : ℕ) → l a b c ≡ r a b c
same_digits l r p q base digits =
    bin_ind (λ (a : ℕ). (b c : ℕ) → l a b c ≡ r a b c) base
    (λ a ih b c.
    let hi : l a b c / 2 ≡ r a b c / 2 = p.high a b c ∙ ih (b / 2) (c / 2) ∙ sym (q.high a b c) in
    let lo : l a b c % 2 ≡ r a b c % 2 = p.low a b c ∙ digits (a % 2) (b % 2) (c % 2) (mod-lt a (zero-lt-suc 1)) (mod-lt b (zero-lt-suc 1)) (mod-lt c (zero-lt-suc 1)) ∙ sym (q.low a b c) in
    sym (div-add-mod' (l a b c) 2) ∙ ap₂ (λ (x y : ℕ). x * 2 + y) hi lo ∙ div-add-mod' (r a b c) 2)

or2 : (a b : ℕ) → bit_or a b / 2 ≡ bit_or (a / 2) (b / 2)
or2 a b = or_shr a b 1

pub or1 : (a b : ℕ) → bit_or a b % 2 ≡ bit_or (a % 2) (b % 2)
or1 a b = or_mod a b 1

and2 : (a b : ℕ) → bit_and a b / 2 ≡ bit_and (a / 2) (b / 2)
and2 a b = and_shr a b 1

pub and1 : (a b : ℕ) → bit_and a b % 2 ≡ bit_and (a % 2) (b % 2)
and1 a b = and_mod a b 1

xor2 : (a b : ℕ) → bit_xor a b / 2 ≡ bit_xor (a / 2) (b / 2)
xor2 a b = xor_shr a b 1

pub xor1 : (a b : ℕ) → bit_xor a b % 2 ≡ bit_xor (a % 2) (b % 2)
xor1 a b = xor_mod a b 1

pub or_assoc : (a b c : ℕ) → bit_or (bit_or a b) c ≡ bit_or a (bit_or b c)
or_assoc =
    same_digits (λ a b c. bit_or (bit_or a b) c) (λ a b c. bit_or a (bit_or b c))
    (record { high = λ a b c. or2 (bit_or a b) c ∙ ap (λ x. bit_or x (c / 2)) (or2 a b); low = λ a b c. or1 (bit_or a b) c ∙ ap (λ x. bit_or x (c % 2)) (or1 a b) })
    (record { high = λ a b c. or2 a (bit_or b c) ∙ ap (bit_or (a / 2)) (or2 b c); low = λ a b c. or1 a (bit_or b c) ∙ ap (bit_or (a % 2)) (or1 b c) })
    (λ b c. refl) (each (λ x y z. bit_or (bit_or x y) z ≡ bit_or x (bit_or y z)) refl refl refl refl refl refl refl refl)

pub and_assoc : (a b c : ℕ) → bit_and (bit_and a b) c ≡ bit_and a (bit_and b c)
and_assoc =
    same_digits (λ a b c. bit_and (bit_and a b) c) (λ a b c. bit_and a (bit_and b c))
    (record { high = λ a b c. and2 (bit_and a b) c ∙ ap (λ x. bit_and x (c / 2)) (and2 a b); low = λ a b c. and1 (bit_and a b) c ∙ ap (λ x. bit_and x (c % 2)) (and1 a b) })
    (record { high = λ a b c. and2 a (bit_and b c) ∙ ap (bit_and (a / 2)) (and2 b c); low = λ a b c. and1 a (bit_and b c) ∙ ap (bit_and (a % 2)) (and1 b c) })
    (λ b c. refl) (each (λ x y z. bit_and (bit_and x y) z ≡ bit_and x (bit_and y z)) refl refl refl refl refl refl refl refl)

pub and_or : (a b c : ℕ) → bit_and a (bit_or b c) ≡ bit_or (bit_and a b) (bit_and a c)
and_or =
    same_digits (λ a b c. bit_and a (bit_or b c)) (λ a b c. bit_or (bit_and a b) (bit_and a c))
    (record { high = λ a b c. and2 a (bit_or b c) ∙ ap (bit_and (a / 2)) (or2 b c); low = λ a b c. and1 a (bit_or b c) ∙ ap (bit_and (a % 2)) (or1 b c) })
    (record { high = λ a b c. or2 (bit_and a b) (bit_and a c) ∙ ap₂ bit_or (and2 a b) (and2 a c); low = λ a b c. or1 (bit_and a b) (bit_and a c) ∙ ap₂ bit_or (and1 a b) (and1 a c) })
    (λ b c. refl) (each (λ x y z. bit_and x (bit_or y z) ≡ bit_or (bit_and x y) (bit_and x z)) refl refl refl refl refl refl refl refl)

pub and_xor : (a b c : ℕ) → bit_and a (bit_xor b c) ≡ bit_xor (bit_and a b) (bit_and a c)
and_xor =
    same_digits (λ a b c. bit_and a (bit_xor b c)) (λ a b c. bit_xor (bit_and a b) (bit_and a c))
    (record { high = λ a b c. and2 a (bit_xor b c) ∙ ap (bit_and (a / 2)) (xor2 b c); low = λ a b c. and1 a (bit_xor b c) ∙ ap (bit_and (a % 2)) (xor1 b c) })
    (record { high = λ a b c. xor2 (bit_and a b) (bit_and a c) ∙ ap₂ bit_xor (and2 a b) (and2 a c); low = λ a b c. xor1 (bit_and a b) (bit_and a c) ∙ ap₂ bit_xor (and1 a b) (and1 a c) })
    (λ b c. refl) (each (λ x y z. bit_and x (bit_xor y z) ≡ bit_xor (bit_and x y) (bit_and x z)) refl refl refl refl refl refl refl refl)

-- sixteen ones
pub and_all : (a : ℕ) → a < 2 ^ 16 → bit_and a 0xffff ≡ a
and_all a h = and_mask a 16 ∙ mod-eq_of_lt h

pub and_not : (a : ℕ) → a < 2 ^ 16 → bit_and a (bit_xor a 0xffff) ≡ 0
and_not a h = and_xor a a 0xffff ∙ ap₂ bit_xor (and_self a) (and_all a h) ∙ xor_self a

pub or_not : (a : ℕ) → a < 2 ^ 16 → bit_or a (bit_xor a 0xffff) ≡ 0xffff
or_not a h = or_disjoint a (bit_xor a 0xffff) (and_not a h) ∙ omega (arith, xor_add_and a 0xffff, and_all a h)

pub or_all : (a : ℕ) → a < 2 ^ 16 → bit_or a 0xffff ≡ 0xffff
or_all a h = omega (arith, or_add_and a 0xffff, and_all a h)

-- the order by `or` and by `and`
pub or_to_and : (a b : ℕ) → bit_or a b ≡ b → bit_and a b ≡ a
or_to_and a b e = omega (arith, or_add_and a b)

pub and_to_or : (a b : ℕ) → bit_and a b ≡ a → bit_or a b ≡ b
and_to_or a b e = omega (arith, or_add_and a b)
