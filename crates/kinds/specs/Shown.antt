-- What `{}` writes of a date, a level and a set of channels.
use Rattle.std.specs.Prelude.{ℕ, ◌/◌, ◌%◌, false, List, [], ◌∷◌, decimal}
use Rattle.std.specs.Fmt.{digit_glyph}
use Rattle.kinds.specs.declared.dates.Date.{Date}
use Rattle.kinds.specs.declared.dates.Date.TheVariants.{Never, At, Open}
use Rattle.kinds.specs.declared.levels.Level.{Level}
use Rattle.kinds.specs.declared.channels.Channels.{Channels}

-- never is `-`, open is `*`, a tick is its number
abbrev pub date_shown : Date → List ℕ
date_shown Never = 45 ∷ []
date_shown (At t) = decimal t.value
date_shown Open = 42 ∷ []

abbrev pub level_shown : Level → List ℕ
level_shown x = decimal x.value

-- the four lower-case hexadecimal digits of a number below 2 ^ 16
abbrev pub four_digits : ℕ → List ℕ
four_digits n = digit_glyph false (n / 4096 % 16) ∷ digit_glyph false (n / 256 % 16) ∷ digit_glyph false (n / 16 % 16) ∷ digit_glyph false (n % 16) ∷ []

abbrev pub channels_shown : Channels → List ℕ
channels_shown s = four_digits s.bits
