use Rattle.std.proofs.Common.{refl}
use Rattle.facts.proofs.Rings.{ring_named, ring_refused}
use Rattle.facts.proofs.facts.Goals as goal

pub returns : goal.returns
returns c = record {
  sum_fits = refl;
  sum_passes = refl;
  too_late = refl;
  both_open = refl;
  level_down = refl;
  level_up = refl;
  set_over = refl;
  response_0 = refl;
  response_1 = refl;
  response_2 = refl;
  plan_0 = refl;
  plan_1 = refl;
  plan_2 = refl;
  strike_0 = refl;
  strike_1 = refl;
  strike_2 = refl;
  ring_named = ring_named;
  ring_refused = ring_refused;
}
