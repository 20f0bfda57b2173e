-- What `{:04x}` writes of sixteen bits.
use Rattle.std.proofs.Common.{◌≡◌, ℕ, suc, ◌/◌, ◌%◌, ◌-◌, ◌^◌, ◌<◌, ◌≤◌, false, List, [], ◌∷◌, refl, ◌∙◌, ⊎_elim, arith}
use Rattle.std.proofs.lemmas.Bool.{cases_lt, ne_eqb}
use Rattle.std.proofs.lemmas.Fmt.{hex_one_digit, hex_two_digits}
use Rattle.std.specs.Fmt.{digits, digits_onto, digit_glyph, padded_integral, format_spec, char_count}
use Rattle.kinds.specs.Shown.{four_digits}

abbrev glyph : ℕ → ℕ
glyph = digit_glyph false

opened : (n : ℕ) → digits 16 false n ≡ digits_onto 64 16 false n []
unfolding digits
opened n = refl

step : (k n : ℕ) (acc : List ℕ) → 16 ≤ n → digits_onto (suc k) 16 false n acc ≡ digits_onto k 16 false (n / 16) (glyph (n % 16) ∷ acc)
step k n acc large = rw (ne_eqb (n / 16) 0 (λ e. omega arith)) refl

last : (k n : ℕ) (acc : List ℕ) → n < 16 → digits_onto (suc k) 16 false n acc ≡ glyph n ∷ acc
last k n acc small =
    let none : n / 16 ≡ 0 = omega arith in
    let same : n % 16 ≡ n = omega arith in
    rw (none, same) refl

three : (n : ℕ) → 256 ≤ n → n < 4096 → digits 16 false n ≡ glyph (n / 16 / 16) ∷ glyph (n / 16 % 16) ∷ glyph (n % 16) ∷ []
three n large small = opened n ∙ step 63 n [] (omega arith) ∙ step 62 (n / 16) _ (omega arith) ∙ last 61 (n / 16 / 16) _ (omega arith)

four : (n : ℕ) → 4096 ≤ n → n < 65536
    → digits 16 false n ≡ glyph (n / 16 / 16 / 16) ∷ glyph (n / 16 / 16 % 16) ∷ glyph (n / 16 % 16) ∷ glyph (n % 16) ∷ []
four n large small =
    opened n ∙ step 63 n [] (omega arith) ∙ step 62 (n / 16) _ (omega arith) ∙ step 61 (n / 16 / 16) _ (omega arith) ∙ last 60 (n / 16 / 16 / 16) _ (omega arith)

pub hex_word : (n : ℕ) → n < 2 ^ 16 → padded_integral (format_spec 32 0 4 4 (2 ^ 64 - 1)) false [] (digits 16 false n) ≡ four_digits n
unfolding padded_integral char_count
hex_word n small =
    let a : n / 256 ≡ n / 16 / 16 = omega arith in
    let b : n / 4096 ≡ n / 16 / 16 / 16 = omega arith in
    ⊎_elim
    (λ l1. let d0 : n % 16 ≡ n = omega arith in let d1 : n / 16 % 16 ≡ 0 = omega arith in let d2 : n / 256 % 16 ≡ 0 = omega arith in let d3 : n / 4096 % 16 ≡ 0 = omega arith in
    rw (hex_one_digit false n l1, d0, d1, d2, d3) refl)
    (λ g1. ⊎_elim
    (λ l2. let d1 : n / 16 % 16 ≡ n / 16 = omega arith in let d2 : n / 256 % 16 ≡ 0 = omega arith in let d3 : n / 4096 % 16 ≡ 0 = omega arith in
    rw (hex_two_digits false n g1 l2, d1, d2, d3) refl)
    (λ g2. ⊎_elim
    (λ l3. let d2 : n / 256 % 16 ≡ n / 16 / 16 = omega arith in let d3 : n / 4096 % 16 ≡ 0 = omega arith in
    rw (three n g2 l3, d2, d3) refl)
    (λ g3. let d2 : n / 256 % 16 ≡ n / 16 / 16 % 16 = omega arith in let d3 : n / 4096 % 16 ≡ n / 16 / 16 / 16 = omega arith in
    rw (four n g3 small, d2, d3) refl)
    (cases_lt n 4096))
    (cases_lt n 256))
    (cases_lt n 16)
