-- What `{}` writes of a number, of sixteen bits and of a value is its text.
use Rattle.std.specs.Prelude.{◌≡◌, ◌≢◌, ℕ, ◌+◌, ◌/◌, ◌%◌, ◌^◌, ◌<◌, [], ◌∷◌, ◌++◌, decimal, Some, refl}
use Rattle.std.proofs.Common.{sym, ap, arith}
use Rattle.kinds.specs.declared.dates.Date.TheVariants.{Never, At, Open}
use Rattle.kinds.specs.Shown.{date_shown, level_shown, channels_shown, four_digits}
use Rattle.numerals.specs.Decimals.{text_of}
use Rattle.numerals.specs.Hexes.{bits_text}
use Rattle.numerals.specs.Texts.{Shows, date_text, level_text, channels_text}
use Rattle.numerals.specs.Numerals.{text_is, text_last, text_more}

abbrev pub NumbersShown : Type 0
NumbersShown = (n : ℕ) → n < 2 ^ 64 → text_of n ≡ decimal n

-- a number's text is that of its tenth part, if this is not 0, then its last digit
abbrev pub ByTenths : Type 0
ByTenths = (n : ℕ) → n < 2 ^ 64 → (n / 10 ≡ 0 → text_of n ≡ (48 + n % 10) ∷ []) × (n / 10 ≢ 0 → text_of n ≡ text_of (n / 10) ++ ((48 + n % 10) ∷ []))

-- four lower-case hexadecimal digits
abbrev pub BitsShown : Type 0
BitsShown = (n : ℕ) → bits_text n ≡ four_digits n

pub numbers_shown : NumbersShown
numbers_shown = text_is

pub by_tenths : ByTenths
by_tenths n h = (text_last n h, text_more n h)

pub bits_shown : BitsShown
bits_shown n = refl

pub date_shows : Shows (λ d. Some (date_shown d)) date_text
date_shows Never = refl
date_shows (At t) = ap Some (sym (numbers_shown t.value (omega (arith, t.ok))))
date_shows Open = refl

pub level_shows : Shows (λ x. Some (level_shown x)) level_text
level_shows x = ap Some (sym (numbers_shown x.value (omega (arith, x.ok))))

pub channels_shows : Shows (λ s. Some (channels_shown s)) channels_text
channels_shows s = ap Some (sym (bits_shown s.bits))
