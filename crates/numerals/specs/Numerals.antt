use Rattle.std.specs.Prelude.{◌≡◌, ℕ, suc, ◌+◌, ◌-◌, ◌*◌, ◌/◌, ◌%◌, ◌^◌, ◌<◌, ◌≤◌, true, false, ◌&&◌, List, [], ◌∷◌, ◌++◌, length, drop, Some, None, decimal, ◌==◌, ◌≢◌, nat_eq, nat_le, nat_lt, slice_index}
use Rattle.std.proofs.Common.{sym, ap, ◌∙◌, arith, rules}
use Rattle.std.proofs.Math.Nat.{pow-le-pow_right}
use Rattle.std.specs.Str.{all_ascii_digits}
use Rattle.std.proofs.lemmas.Str.Parse.{IsNumeralModel, numerals_by_fold, tells_all_ascii_digits, digit_at}
use Rattle.std.proofs.lemmas.Fmt.{AppendsLastDigit, decimal_from_appends, length-decimal-le_succ, length-decimal-le, decimal_nonempty, digits_decimal, digits_value-decimal}
use Rattle.std.proofs.lemmas.Bool.Decides.{nat_tests}
use Rattle.std.proofs.lemmas.Bool.{lt-ltb, le-leb, ne_eqb}
use Rattle.std.proofs.lemmas.List.{at_drop_more}
use Rattle.std.specs.Char.{is_ascii_digit}
use Rattle.numerals.specs.Decimals.{value_after, number_of, text_by, text_of}

-- seven digits leave space for one digit more
pub few : (v i : ℕ) → v < 10 ^ i → i ≤ 7 → v < 10000000
few v i small short =
    let p : 10 ^ i ≤ 10 ^ 7 = pow-le-pow_right (omega arith) short in
    omega arith

-- the shelf's words for these numerals
pub own : IsNumeralModel (λ ds. all_ascii_digits ds ≡ true) (value_after 0)
own = numerals_by_fold _ (tells_all_ascii_digits) value_after (search rules)

pub spells : AppendsLastDigit text_by
spells = search rules

pub text_is : (n : ℕ) → n < 2 ^ 64 → text_of n ≡ decimal n
unfolding text_of
text_is n h = decimal_from_appends text_by spells (suc n) n h (omega (arith, length-decimal-le_succ n h))

-- a bound of the recursion that suffices does not matter
enough : (k n : ℕ) → n < 2 ^ 64 → n < k → text_by k n ≡ text_of n
enough k n h below =
    decimal_from_appends text_by spells k n h (omega (arith, length-decimal-le_succ n h)) ∙ sym (text_is n h)

-- the definition's own sentence, for any number that code holds
pub text_last : (n : ℕ) → n < 2 ^ 64 → n / 10 ≡ 0 → text_of n ≡ (48 + n % 10) ∷ []
unfolding text_of
text_last n h none = rw none

opened : (m : ℕ) → (m / 10 == 0) ≡ false → text_of m ≡ text_by m (m / 10) ++ ((48 + m % 10) ∷ [])
unfolding text_of
opened m f = rw f

pub text_more : (n : ℕ) → n < 2 ^ 64 → (n / 10 ≢ 0) → text_of n ≡ text_of (n / 10) ++ ((48 + n % 10) ∷ [])
text_more n h some =
    let f : nat_eq (n / 10) 0 ≡ false = ne_eqb (n / 10) 0 some in
    let e : text_by n (n / 10) ≡ text_of (n / 10) = enough n (n / 10) (omega arith) (omega arith) in
    opened n f ∙ ap (λ t. t ++ ((48 + n % 10) ∷ [])) e

-- reading a written number returns it
pub read_back : (n : ℕ) → n < 10000000 → number_of (text_of n) ≡ Some n
read_back n h =
    let big : n < 2 ^ 64 = omega arith in
    let all : all_ascii_digits (decimal n) ≡ true = digits_decimal own n big in
    let some : nat_lt 0 (length (decimal n)) ≡ true = lt-ltb 0 (length (decimal n)) (decimal_nonempty n big) in
    let short : nat_le (length (decimal n)) 7 ≡ true = le-leb (length (decimal n)) 7 (length-decimal-le 7 n (omega arith) (omega arith) big) in
    let v : value_after 0 (decimal n) ≡ n = digits_value-decimal own n big in
    ap number_of (text_is n big) ∙ rw (some, short, all, v)

-- a field's digits and value, from one place to the next
pub digits_more : (bs : List ℕ) (i : ℕ) → i < length bs → all_ascii_digits (drop i bs) ≡ (is_ascii_digit (slice_index bs i) && all_ascii_digits (drop (i + 1) bs))
digits_more bs i h = at_drop_more all_ascii_digits bs i 0 h

pub value_more : (v : ℕ) (bs : List ℕ) (i : ℕ) → i < length bs → value_after v (drop i bs) ≡ value_after (v * 10 + (slice_index bs i - 48)) (drop (i + 1) bs)
value_more v bs i h = at_drop_more (value_after v) bs i 0 h

-- what a field spells, by its length and digits
pub no_numeral : (bs : List ℕ) → all_ascii_digits bs ≡ false → None ≡ number_of bs
no_numeral bs no-digits = grind (arith, nat_tests)

pub is_numeral : (bs : List ℕ) (v : ℕ) → 0 < length bs → length bs ≤ 7 → true ≡ all_ascii_digits bs → v ≡ value_after 0 bs → Some v ≡ number_of bs
is_numeral bs v some short all e =
    let s : nat_lt 0 (length bs) ≡ true = lt-ltb 0 (length bs) some in
    let l : nat_le (length bs) 7 ≡ true = le-leb (length bs) 7 short in
    let a : all_ascii_digits bs ≡ true = sym all in
    rw (s, l, a, e)

-- a written number begins with a digit
pub text_first : (n : ℕ) → n < 2 ^ 64 → 48 ≤ slice_index (text_of n) 0
text_first n h =
    let d = digit_at (decimal n) 0 (own.to (decimal n) (digits_decimal own n h)) (decimal_nonempty n h) in
    rw (text_is n h) d.0
