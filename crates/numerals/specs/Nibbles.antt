use Rattle.std.specs.Prelude.{◌≡◌, ℕ, ◌+◌, ◌*◌, ◌/◌, ◌%◌, ◌<◌, Some}
use Rattle.std.proofs.Common.{ap, arith}
use Rattle.std.proofs.Math.Nat.{div-div-eq-div-mul}
use Rattle.std.proofs.lemmas.Bool.Decides.{nat_tests}
use Rattle.numerals.specs.Hexes.{hex_of, hex_digit, bits_of, bits_text}

pub digit_back : (d : ℕ) → d < 16 → hex_of (hex_digit d) ≡ Some d
digit_back d h = grind (arith, nat_tests)

-- the digits with the weights of their places
weights : (n : ℕ) → n < 65536 → n / 4096 % 16 * 4096 + n / 256 % 16 * 256 + n / 16 % 16 * 16 + n % 16 ≡ n
weights n h =
    let a : n / 16 / 16 ≡ n / 256 = div-div-eq-div-mul n 16 16 in
    let b : n / 256 / 16 ≡ n / 4096 = div-div-eq-div-mul n 256 16 in
    let low : n ≡ 16 * (n / 16) + n % 16 = omega arith in
    let mid : n / 16 ≡ 16 * (n / 16 / 16) + n / 16 % 16 = omega arith in
    let high : n / 256 ≡ 16 * (n / 256 / 16) + n / 256 % 16 = omega arith in
    let top : n / 4096 % 16 ≡ n / 4096 = omega arith in
    omega arith

pub bits_back : (n : ℕ) → n < 65536 → bits_of (bits_text n) ≡ Some n
bits_back n h =
    rw (digit_back (n / 4096 % 16) (omega arith), digit_back (n / 256 % 16) (omega arith), digit_back (n / 16 % 16) (omega arith), digit_back (n % 16) (omega arith))
    (ap Some (weights n h))
