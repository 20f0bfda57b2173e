-- The sets by their channels.
use Rattle.std.proofs.Common.{◌≡◌, ℕ, zero, suc, ◌/◌, ◌%◌, ◌^◌, ◌<◌, ◌≤◌, Bool, true, false, not, ◌&&◌, ◌||◌, eqb, refl, ap, ◌∙◌, subst, ⊎_elim, not-suc-le-zero, mod-lt, zero-lt-suc, arith, eqb-true}
use native.Mathlib.Nat.{pow-le-pow_right, div-eq_of_lt}
use lib.Bits.{bit_and, bit_or, bit_xor, and_shr, or_shr, xor_shr}
use Rattle.std.proofs.lemmas.Bool.{cases_lt, and_parts}
use Rattle.kinds.specs.Sets.{set_ops, has, ByChannels}
use Rattle.kinds.specs.declared.channels.Channels.{Channels}
use Rattle.kinds.specs.BitLaws.{or1, and1, xor1}
use Rattle.kinds.specs.SetLaws.{joins, meets, overs}

-- a fact at each pair of digits
pairs : (P : ℕ → ℕ → Type 0) → P 0 0 → P 0 1 → P 1 0 → P 1 1 → (x y : ℕ) → x < 2 → y < 2 → P x y
pairs P a b c d zero zero hx hy = a
pairs P a b c d zero (suc zero) hx hy = b
pairs P a b c d zero (suc (suc y)) hx hy = absurd (omega arith)
pairs P a b c d (suc zero) zero hx hy = c
pairs P a b c d (suc zero) (suc zero) hx hy = d
pairs P a b c d (suc zero) (suc (suc y)) hx hy = absurd (omega arith)
pairs P a b c d (suc (suc x)) y hx hy = absurd (omega arith)

abbrev bit : ℕ → ℕ → ℕ
bit n c = n / 2 ^ c % 2

digit : (n c : ℕ) → bit n c < 2
digit n c = mod-lt (n / 2 ^ c) (zero-lt-suc 1)

or_bit : (a b c : ℕ) → bit (bit_or a b) c ≡ bit_or (bit a c) (bit b c)
or_bit a b c = ap (λ (n : ℕ). n % 2) (or_shr a b c) ∙ or1 (a / 2 ^ c) (b / 2 ^ c)

and_bit : (a b c : ℕ) → bit (bit_and a b) c ≡ bit_and (bit a c) (bit b c)
and_bit a b c = ap (λ (n : ℕ). n % 2) (and_shr a b c) ∙ and1 (a / 2 ^ c) (b / 2 ^ c)

xor_bit : (a b c : ℕ) → bit (bit_xor a b) c ≡ bit_xor (bit a c) (bit b c)
xor_bit a b c = ap (λ (n : ℕ). n % 2) (xor_shr a b c) ∙ xor1 (a / 2 ^ c) (b / 2 ^ c)

-- the first n bits of sixteen ones are ones: a test that computes
abbrev ones_below : ℕ → Bool
ones_below zero = true
ones_below (suc n) = eqb (bit 0xffff n) 1 && ones_below n

one_at : (n c : ℕ) → ones_below n ≡ true → c < n → bit 0xffff c ≡ 1
one_at zero c e h = absurd (not-suc-le-zero h)
one_at (suc n) c e h =
    let p = and_parts (eqb (bit 0xffff n) 1) (ones_below n) e in
    ⊎_elim (λ l. one_at n c p.1 l)
    (λ l. let same : n ≡ c = omega arith in subst (λ (k : ℕ). bit 0xffff k ≡ 1) same (eqb-true (bit 0xffff n) 1 p.0))
    (cases_lt c n)

not_bit : (a c : ℕ) → c < 16 → bit (bit_xor a 0xffff) c ≡ bit_xor (bit a c) 1
not_bit a c h = xor_bit a 0xffff c ∙ ap (bit_xor (bit a c)) (one_at 16 c refl h)

-- no set holds a channel past 15
pub none_past : (s : Channels) (c : ℕ) → 16 ≤ c → false ≡ has s c
none_past s c h =
    let large : 2 ^ 16 ≤ 2 ^ c = pow-le-pow_right (omega arith) h in
    let none : s.bits / 2 ^ c ≡ 0 = div-eq_of_lt (omega (arith, s.ok)) in
    rw none

pub by_channels : ByChannels
by_channels a b c h =
    let both : has (set_ops.meet a b) c ≡ (has a c && has b c) =
    ap (λ n. eqb (bit n c) 1) (meets a b) ∙ ap (λ n. eqb n 1) (and_bit a.bits b.bits c)
    ∙ pairs (λ x y. eqb (bit_and x y) 1 ≡ (eqb x 1 && eqb y 1)) refl refl refl refl _ _ (digit a.bits c) (digit b.bits c) in (
      ap (λ n. eqb (bit n c) 1) (joins a b) ∙ ap (λ n. eqb n 1) (or_bit a.bits b.bits c)
          ∙ pairs (λ x y. eqb (bit_or x y) 1 ≡ (eqb x 1 || eqb y 1)) refl refl refl refl _ _ (digit a.bits c) (digit b.bits c),
      both,
      both,
      ap (λ n. eqb (bit n c) 1) (overs a b)
          ∙ ap (λ n. eqb n 1) (or_bit (bit_xor a.bits 0xffff) b.bits c ∙ ap (λ n. bit_or n (bit b.bits c)) (not_bit a.bits c h))
          ∙ pairs (λ x y. eqb (bit_or (bit_xor x 1) y) 1 ≡ (not (eqb x 1) || eqb y 1)) refl refl refl refl _ _ (digit a.bits c) (digit b.bits c),
    )
