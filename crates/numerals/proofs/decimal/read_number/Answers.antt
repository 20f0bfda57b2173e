use Rattle.std.proofs.Common.{◌<◌, arith, rules}
use Rattle.numerals.specs.Numerals.{few}
use Rattle.numerals.proofs.decimal.read_number.Goals as goal

pub overflow_mul-value : goal.overflow_mul-value
overflow_mul-value c = omega (arith, few c.loop-b.value c.loop-b.b-index c.loop-b.invariant.0 (omega arith))

pub overflow_add-value : goal.overflow_add-value
overflow_add-value c =
    let d : c.in_ok-value.field-0 < 10 = search rules in
    omega (arith, few c.loop-b.value c.loop-b.b-index c.loop-b.invariant.0 (omega arith))
