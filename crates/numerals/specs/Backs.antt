-- Reading a written date, level or set returns it.
use Rattle.std.specs.Prelude.{◌≡◌, ℕ, ◌^◌, ◌<◌, ◌≤◌, false, List, length, Some, Ok, ◌==◌, slice_index, refl}
use Rattle.std.proofs.Common.{ap, ◌∙◌, arith}
use Rattle.std.proofs.lemmas.Bool.{ne_eqb, and_right}
use Rattle.kinds.specs.declared.dates.Date.TheVariants.{Never, At, Open}
use Rattle.kinds.specs.Sets.{of_bits}
use Rattle.kinds.specs.DateLaws.{tick_again}
use Rattle.kinds.specs.LevelLaws.{level_again}
use Rattle.kinds.specs.SetLaws.{set_again}
use Rattle.numerals.specs.Decimals.{text_of}
use Rattle.numerals.specs.Texts.{ReadsBack, in_range, just?, date_of, date_text, level_of, level_text, channels_of, channels_text}
use Rattle.numerals.specs.Numerals.{read_back, text_first}
use Rattle.numerals.specs.Nibbles.{bits_back}

-- a text that begins with a digit is no single byte below the digits
not_just : (b : ℕ) (bs : List ℕ) → b < 48 → 48 ≤ slice_index bs 0 → just? b bs ≡ false
not_just b bs low digit = and_right (length bs == 1) (slice_index bs 0 == b) (ne_eqb (slice_index bs 0) b (λ e. omega arith))

pub date_back : ReadsBack date_text date_of
date_back Never = refl
date_back Open = refl
date_back (At t) =
    let small : t.value < 2 ^ 64 = omega (arith, t.ok) in
    let digit = text_first t.value small in
    let a : just? 45 (text_of t.value) ≡ false = not_just 45 (text_of t.value) (omega arith) digit in
    let b : just? 42 (text_of t.value) ≡ false = not_just 42 (text_of t.value) (omega arith) digit in
    rw (a, b, read_back t.value (omega (arith, t.ok)), tick_again t) refl

pub level_back : ReadsBack level_text level_of
level_back x = rw (read_back x.value (omega (arith, x.ok)), level_again x) refl

pub channels_back : ReadsBack channels_text channels_of
channels_back x = ap (in_range of_bits Some) (bits_back x.bits x.ok) ∙ ap Ok (set_again x)
