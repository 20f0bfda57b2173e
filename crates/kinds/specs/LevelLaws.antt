-- The levels keep the laws of a kind.
use Rattle.std.specs.Prelude.{◌≡◌, ◌≤◌, min, max, Some, nat_le, refl}
use Rattle.std.proofs.Common.{ap, arith, leb-true, leb-false, le-leb}
use mathlib.Core.HLevel.{is_prop→PathP}
use Rattle.std.proofs.Math.Bridge.{le_prop}
use Rattle.std.proofs.lemmas.Bool.{cond_both}
use Rattle.kinds.specs.Kind.{Laws}
use Rattle.kinds.specs.Levels.{level, new_level, larger, smaller, ceiling, level_ops}
use Rattle.kinds.specs.declared.levels.Level.{Level}
use Rattle.kinds.specs.Chain
use Rattle.kinds.specs.Chain.{Ranked, larger_rank, smaller_rank}

-- two levels are equal when their numbers are
pub level_path : (a b : Level) → a.value ≡ b.value → a ≡ b
level_path a b e = λ i. record { value = e i; ok = is_prop→PathP (λ j. e j ≤ 127) (λ j. le_prop) a.ok b.ok i }

-- a level is the level of its number
pub level_again : (x : Level) → new_level x.value ≡ Some x
level_again x = rw (le-leb x.value 127 x.ok) (ap Some (level_path (level x.value) x (omega (arith, x.ok))))

pub joins : (a b : Level) → (larger a b).value ≡ max a.value b.value
joins = larger_rank (λ l. l.value)

pub meets : (a b : Level) → (smaller a b).value ≡ min a.value b.value
meets = smaller_rank (λ l. l.value)

pub ranked : Ranked level_ops
ranked = record { rank = λ a. a.value; same = level_path; joins = joins; meets = meets; asks = λ a b. refl; least = refl; most = λ a. a.ok }

to_residual : (a x b : Level) → (smaller a x).value ≤ b.value → x.value ≤ (ceiling a b).value
to_residual a x b h =
    cond_both (nat_le a.value b.value) (level 127) b (λ r. x.value ≤ r.value)
    (λ e. x.ok) (λ e. omega (arith, meets a x, leb-false a.value b.value e))

from_residual : (a x b : Level) → x.value ≤ (ceiling a b).value → (smaller a x).value ≤ b.value
from_residual a x b =
    cond_both (nat_le a.value b.value) (level 127) b (λ r. x.value ≤ r.value → (smaller a x).value ≤ b.value)
    (λ e h. omega (arith, meets a x, leb-true a.value b.value e)) (λ e h. omega (arith, meets a x))

pub level_laws : Laws level_ops
unfolding ranked
level_laws = record {
  join_assoc = Chain.join_assoc ranked;
  join_comm = Chain.join_comm ranked;
  join_idem = Chain.join_idem ranked;
  join_bottom = Chain.join_bottom ranked;
  answers = Chain.answers ranked;
  below_top = Chain.below_top ranked;
  below_meet = Chain.below_meet ranked;
  product_assoc = λ a b c. level_path _ _ (omega (arith, meets (smaller a b) c, meets a b, meets a (smaller b c), meets b c));
  product_comm = λ a b. level_path _ _ (omega (arith, meets a b, meets b a));
  product_join = λ a b c. level_path _ _ (omega (arith, meets a (larger b c), joins b c, joins (smaller a b) (smaller a c), meets a b, meets a c));
  product_one = λ a. level_path _ _ (omega (arith, meets (level 127) a, a.ok));
  product_bottom = λ a. level_path _ _ (omega (arith, meets (level 0) a));
  residuation = λ a x b. Chain.iff ranked (smaller a x) b x (ceiling a b) (to_residual a x b) (from_residual a x b);
}
