use Rattle.std.proofs.Common.{◌≡◌, ◌^◌, ◌<◌, drop}
use Rattle.std.specs.Str.{all_ascii_digits}
use Rattle.numerals.specs.Decimals.{value_after}
use Rattle.numerals.proofs.decimal.read_number.Given as goal

abbrev pub invariant-loop-b : goal.invariant-loop-b
invariant-loop-b l =
    (l.value < 10 ^ l.b-index) × (all_ascii_digits (drop l.b-index l.field) ≡ all_ascii_digits l.field)
    × (value_after l.value (drop l.b-index l.field) ≡ value_after 0 l.field)
