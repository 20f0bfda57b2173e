-- The dates keep the laws of a kind.
use Rattle.std.specs.Prelude.{◌≡◌, ℕ, zero, suc, ◌+◌, ◌-◌, ◌<◌, ◌≤◌, min, max, cond, Some, nat_le, nat_lt, refl}
use Rattle.std.proofs.Common.{sym, ap, ap₂, ◌∙◌, arith, leb-true, leb-false, ltb-true, ltb-false, le-leb, ⊎_elim, le_of_lt}
use mathlib.Core.HLevel.{is_prop→PathP}
use Rattle.std.proofs.Math.Bridge.{le_prop}
use Rattle.std.proofs.Math.Nat.{max-eq_left, max-eq_right}
use Rattle.std.proofs.lemmas.Bool.{cond_both, cond-false, cases_lt, lt-leb}
use Rattle.kinds.specs.Kind.{Laws}
use Rattle.kinds.specs.Dates.{at, tick, new_tick, later, earlier, after, latest_start, no_later, date_ops}
use Rattle.kinds.specs.declared.dates.Tick.{Tick}
use Rattle.kinds.specs.declared.dates.Date.{Date}
use Rattle.kinds.specs.declared.dates.Date.TheVariants.{Never, At, Open}
use Rattle.kinds.specs.Chain
use Rattle.kinds.specs.Chain.{Ranked, larger_rank, smaller_rank}

pub tick_path : (a b : Tick) → a.value ≡ b.value → a ≡ b
tick_path a b e = λ i. record { value = e i; ok = is_prop→PathP (λ j. e j ≤ 1000000) (λ j. le_prop) a.ok b.ok i }

-- a tick is the tick of its number
pub tick_again : (t : Tick) → new_tick t.value ≡ Some t
tick_again t = rw (le-leb t.value 1000000 t.ok) (ap Some (tick_path (tick t.value) t (omega (arith, t.ok))))

-- never is 0, the ticks are 1 to 1,000,001, open is 1,000,002
abbrev pub rank : Date → ℕ
rank Never = 0
rank (At t) = suc t.value
rank Open = 1000002

pub same : (a b : Date) → rank a ≡ rank b → a ≡ b
same Never Never e = refl
same Never (At t) e = absurd (omega arith)
same Never Open e = absurd (omega arith)
same (At s) Never e = absurd (omega arith)
same (At s) (At t) e = ap At (tick_path s t (omega arith))
same (At s) Open e = absurd (omega (arith, s.ok))
same Open Never e = absurd (omega arith)
same Open (At t) e = absurd (omega (arith, t.ok))
same Open Open e = refl

pub joins : (a b : Date) → rank (later a b) ≡ max (rank a) (rank b)
joins Never b = omega arith
joins (At s) Never = omega arith
joins (At s) (At t) = omega (arith, larger_rank (λ (u : Tick). u.value) s t)
joins (At s) Open = omega (arith, s.ok)
joins Open Never = omega arith
joins Open (At t) = omega (arith, t.ok)
joins Open Open = omega arith

pub meets : (a b : Date) → rank (earlier a b) ≡ min (rank a) (rank b)
meets Never b = omega arith
meets (At s) Never = omega arith
meets (At s) (At t) = omega (arith, smaller_rank (λ (u : Tick). u.value) s t)
meets (At s) Open = omega (arith, s.ok)
meets Open Never = omega arith
meets Open (At t) = omega (arith, t.ok)
meets Open Open = omega arith

-- two comparisons that go the same way
leb_same : (a b c d : ℕ) → (a ≤ b → c ≤ d) → (b < a → d < c) → nat_le a b ≡ nat_le c d
leb_same a b c d f g =
    ⊎_elim (λ h. lt-leb a b h ∙ sym (lt-leb c d (g h))) (λ h. le-leb a b h ∙ sym (le-leb c d (f h))) (cases_lt b a)

pub asks : (a b : Date) → no_later a b ≡ nat_le (rank a) (rank b)
asks Never b = sym (le-leb 0 (rank b) (omega arith))
asks (At s) Never = sym (lt-leb (suc s.value) 0 (omega arith))
asks (At s) (At t) = leb_same s.value t.value (suc s.value) (suc t.value) (λ h. omega arith) (λ h. omega arith)
asks (At s) Open = sym (le-leb (suc s.value) 1000002 (omega (arith, s.ok)))
asks Open Never = refl
asks Open (At t) = sym (lt-leb 1000002 (suc t.value) (omega (arith, t.ok)))
asks Open Open = refl

pub most : (a : Date) → rank a ≤ 1000002
most Never = omega arith
most (At t) = omega (arith, t.ok)
most Open = omega arith

pub ranked : Ranked date_ops
ranked = record { rank = rank; same = same; joins = joins; meets = meets; asks = asks; least = refl; most = most }

-- the product of two ranks
abbrev times : ℕ → ℕ → ℕ
times zero y = 0
times (suc x) zero = 0
times (suc x) (suc y) = suc (min (x + y) 1000001)

times_is : (a b : Date) → rank (after a b) ≡ times (rank a) (rank b)
times_is Never b = refl
times_is (At s) Never = refl
times_is (At s) (At t) =
    cond_both (nat_le (s.value + t.value) 1000000) (at (s.value + t.value)) Open (λ r. rank r ≡ suc (min (s.value + t.value) 1000001))
    (λ e. omega (arith, leb-true (s.value + t.value) 1000000 e)) (λ e. omega (arith, leb-false (s.value + t.value) 1000000 e))
times_is (At s) Open = omega arith
times_is Open Never = refl
times_is Open (At t) = omega arith
times_is Open Open = omega arith

-- the residual of two ranks
abbrev over : ℕ → ℕ → ℕ
over zero y = 1000002
over (suc x) y = cond (nat_le 1000002 y) 1000002 (y - x)

-- below open
low : (x y : ℕ) → y < 1000002 → over (suc x) y ≡ y - x
low x y h = cond-false (nat_le 1000002 y) 1000002 (y - x) (lt-leb 1000002 y h)

over_is : (a b : Date) → rank (latest_start a b) ≡ over (rank a) (rank b)
over_is Never b = refl
over_is (At s) Never = omega (arith, low s.value 0 (omega arith))
over_is (At s) (At t) =
    cond_both (nat_lt t.value s.value) Never (at (t.value - s.value)) (λ r. rank r ≡ over (suc s.value) (suc t.value))
    (λ e. omega (arith, low s.value (suc t.value) (omega (arith, t.ok)), ltb-true t.value s.value e))
    (λ e. omega (arith, low s.value (suc t.value) (omega (arith, t.ok)), ltb-false t.value s.value e, t.ok))
over_is (At s) Open = refl
over_is Open Never = refl
over_is Open (At t) = omega (arith, low 1000001 (suc t.value) (omega (arith, t.ok)), t.ok)
over_is Open Open = refl

times_assoc : (x y z : ℕ) → times (times x y) z ≡ times x (times y z)
times_assoc zero y z = refl
times_assoc (suc x) zero z = refl
times_assoc (suc x) (suc y) zero = refl
times_assoc (suc x) (suc y) (suc z) = ap suc (omega arith)

times_comm : (x y : ℕ) → times x y ≡ times y x
times_comm zero zero = refl
times_comm zero (suc y) = refl
times_comm (suc x) zero = refl
times_comm (suc x) (suc y) = ap suc (omega arith)

times_one : (y : ℕ) → y ≤ 1000002 → times 1 y ≡ y
times_one zero h = refl
times_one (suc y) h = ap suc (omega arith)

times_mono : (x y z : ℕ) → y ≤ z → times x y ≤ times x z
times_mono zero y z h = omega arith
times_mono (suc x) zero z h = omega arith
times_mono (suc x) (suc y) zero h = absurd (omega arith)
times_mono (suc x) (suc y) (suc z) h = omega arith

to_over : (x z y : ℕ) → z ≤ 1000002 → times x z ≤ y → z ≤ over x y
to_over zero z y hz h = hz
to_over (suc x) zero y hz h = omega arith
to_over (suc x) (suc z) y hz h =
    cond_both (nat_le 1000002 y) 1000002 (y - x) (λ r. suc z ≤ r) (λ e. hz) (λ e. omega (arith, leb-false 1000002 y e))

from_over : (x z y : ℕ) → z ≤ over x y → times x z ≤ y
from_over zero z y h = omega arith
from_over (suc x) zero y h = omega arith
from_over (suc x) (suc z) y h =
    cond_both (nat_le 1000002 y) 1000002 (y - x) (λ r. suc z ≤ r → suc (min (x + z) 1000001) ≤ y)
    (λ e k. omega (arith, leb-true 1000002 y e)) (λ e k. omega arith) h

-- a product over a join, by which of the two is larger
times_max : (x y z : ℕ) → times x (max y z) ≡ max (times x y) (times x z)
times_max x y z =
    ⊎_elim
    (λ h. ap (times x) (max-eq_right (le_of_lt h)) ∙ sym (max-eq_right (times_mono x y z (le_of_lt h))))
    (λ h. ap (times x) (max-eq_left h) ∙ sym (max-eq_left (times_mono x z y h)))
    (cases_lt y z)

pub date_laws : Laws date_ops
unfolding ranked
date_laws = record {
  join_assoc = Chain.join_assoc ranked;
  join_comm = Chain.join_comm ranked;
  join_idem = Chain.join_idem ranked;
  join_bottom = Chain.join_bottom ranked;
  answers = Chain.answers ranked;
  below_top = Chain.below_top ranked;
  below_meet = Chain.below_meet ranked;
  product_assoc = λ a b c. same _ _ (times_is (after a b) c ∙ ap (λ r. times r (rank c)) (times_is a b) ∙ times_assoc (rank a) (rank b) (rank c) ∙ sym (times_is a (after b c) ∙ ap (times (rank a)) (times_is b c)));
  product_comm = λ a b. same _ _ (times_is a b ∙ times_comm (rank a) (rank b) ∙ sym (times_is b a));
  product_join = λ a b c. same _ _ (times_is a (later b c) ∙ ap (times (rank a)) (joins b c) ∙ times_max (rank a) (rank b) (rank c) ∙ sym (joins (after a b) (after a c) ∙ ap₂ max (times_is a b) (times_is a c)));
  product_one = λ a. same _ _ (times_is (at 0) a ∙ times_one (rank a) (most a));
  product_bottom = λ a. refl;
  residuation = λ a x b. Chain.iff ranked (after a x) b x (latest_start a b)
      (λ h. rw over_is (to_over (rank a) (rank x) (rank b) (most x) (rw times_is at h)))
      (λ h. rw times_is (from_over (rank a) (rank x) (rank b) (rw over_is at h)));
}
