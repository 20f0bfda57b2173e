-- The sets of channels keep the laws of a kind.
use Rattle.std.specs.Prelude.{◌≡◌, ℕ, ◌^◌, ◌<◌, bit_and, bit_or, bit_xor}
use Rattle.std.proofs.Common.{sym, ap, ap₂, ◌∙◌, subst, mod-eq_of_lt, arith, eqb-true, eq-eqb}
use mathlib.Core.HLevel.{is_prop→PathP}
use Rattle.std.proofs.Math.Bridge.{le_prop}
use Rattle.std.proofs.lemmas.Nat.{or_comm, and_comm, or_lt, xor_lt}
use Rattle.std.specs.Int.Bits.{or_self, and_self, and_lt}
use Rattle.kinds.specs.Kind.{Laws, AtMost}
use Rattle.kinds.specs.Sets.{of_bits, set_ops}
use Rattle.kinds.specs.declared.channels.Channels.{Channels}
use Rattle.kinds.specs.BitLaws.{or_assoc, and_assoc, and_or, and_all, and_not, or_not, or_all, or_to_and, and_to_or}

pub set_path : (a b : Channels) → a.bits ≡ b.bits → a ≡ b
set_path a b e = λ i. record { bits = e i; ok = is_prop→PathP (λ j. e j < 2 ^ 16) (λ j. le_prop) a.ok b.ok i }

pub bits_of : (n : ℕ) → n < 2 ^ 16 → (of_bits n).bits ≡ n
bits_of n h = mod-eq_of_lt h

-- a set is the set of its bits
pub set_again : (s : Channels) → of_bits s.bits ≡ s
set_again s = set_path (of_bits s.bits) s (bits_of s.bits s.ok)

abbrev pub ∪ : Channels → Channels → Channels
∪ = set_ops.join

abbrev pub ∩ : Channels → Channels → Channels
∩ = set_ops.meet

-- all but a, and b
abbrev pub over : Channels → Channels → Channels
over = set_ops.residual

pub joins : (a b : Channels) → (∪ a b).bits ≡ bit_or a.bits b.bits
joins a b = mod-eq_of_lt (or_lt 16 a.bits b.bits a.ok b.ok)

pub meets : (a b : Channels) → (∩ a b).bits ≡ bit_and a.bits b.bits
meets a b = mod-eq_of_lt (and_lt 16 a.bits b.bits a.ok b.ok)

not_lt : (a : Channels) → bit_xor a.bits 0xffff < 2 ^ 16
not_lt a = xor_lt 16 a.bits 0xffff a.ok (omega arith)

pub overs : (a b : Channels) → (over a b).bits ≡ bit_or (bit_xor a.bits 0xffff) b.bits
overs a b = mod-eq_of_lt (or_lt 16 (bit_xor a.bits 0xffff) b.bits (not_lt a) b.ok)

-- "at most" by the bits
pub within : (a b : Channels) → AtMost set_ops a b → bit_or a.bits b.bits ≡ b.bits
within a b e = sym (joins a b) ∙ ap (λ (s : Channels). s.bits) e

pub at_most : (a b : Channels) → bit_or a.bits b.bits ≡ b.bits → AtMost set_ops a b
at_most a b e = set_path (∪ a b) b (joins a b ∙ e)

-- x is within both a and b exactly when it is within their intersection; of numbers
and_within : (x a b : ℕ) → bit_and x a ≡ x → bit_and x b ≡ x → bit_and x (bit_and a b) ≡ x
and_within x a b p q = sym (and_assoc x a b) ∙ ap (λ y. bit_and y b) p ∙ q

within_left : (x a b : ℕ) → bit_and x (bit_and a b) ≡ x → bit_and x a ≡ x
within_left x a b p =
    ap (λ y. bit_and y a) (sym p) ∙ and_assoc x (bit_and a b) a ∙ ap (bit_and x) (and_comm (bit_and a b) a ∙ sym (and_assoc a a b) ∙ ap (λ y. bit_and y b) (and_self a)) ∙ p

within_right : (x a b : ℕ) → bit_and x (bit_and a b) ≡ x → bit_and x b ≡ x
within_right x a b p = within_left x b a (ap (bit_and x) (and_comm b a) ∙ p)

-- the order of numbers by their bits
abbrev Within : ℕ → ℕ → Type 0
Within x y = bit_or x y ≡ y

within_or : (x y c : ℕ) → Within x c → Within y c → Within (bit_or x y) c
within_or x y c p q = or_assoc x y c ∙ ap (bit_or x) q ∙ p

within_trans : (x y z : ℕ) → Within x y → Within y z → Within x z
within_trans x y z p q = ap (bit_or x) (sym q) ∙ sym (or_assoc x y z) ∙ ap (λ n. bit_or n z) p ∙ q

or_left : (x y : ℕ) → Within x (bit_or x y)
or_left x y = sym (or_assoc x x y) ∙ ap (λ n. bit_or n y) (or_self x)

or_right : (x y : ℕ) → Within y (bit_or x y)
or_right x y = ap (bit_or y) (or_comm x y) ∙ or_left y x ∙ or_comm y x

and_right : (x y : ℕ) → Within (bit_and x y) y
and_right x y = and_to_or (bit_and x y) y (and_assoc x y y ∙ ap (bit_and x) (and_self y))

and_mono : (a x y : ℕ) → Within x y → Within (bit_and a x) (bit_and a y)
and_mono a x y p = sym (and_or a x y) ∙ ap (bit_and a) p

-- x within (not a, or b), from (a and x) within b, and back; n is "not a"
to_over : (a n x b : ℕ) → bit_and x (bit_or a n) ≡ x → Within (bit_and a x) b → Within x (bit_or n b)
to_over a n x b all h =
    let whole : bit_or (bit_and x a) (bit_and x n) ≡ x = sym (and_or x a n) ∙ all in
    let first : Within (bit_and x a) (bit_or n b) = within_trans (bit_and x a) b (bit_or n b) (ap (λ y. bit_or y b) (and_comm x a) ∙ h) (or_right n b) in
    let second : Within (bit_and x n) (bit_or n b) = within_trans (bit_and x n) n (bit_or n b) (and_right x n) (or_left n b) in
    subst (λ y. Within y (bit_or n b)) whole (within_or (bit_and x a) (bit_and x n) (bit_or n b) first second)

from_over : (a n x b : ℕ) → bit_and a n ≡ 0 → Within x (bit_or n b) → Within (bit_and a x) b
from_over a n x b none h =
    let inside : bit_and a (bit_or n b) ≡ bit_and a b = and_or a n b ∙ ap (λ y. bit_or y (bit_and a b)) none in
    within_trans (bit_and a x) (bit_and a b) b (subst (λ y. Within (bit_and a x) y) inside (and_mono a x (bit_or n b) h)) (and_right a b)

pub set_laws : Laws set_ops
set_laws = record {
  join_assoc = λ a b c. set_path (∪ (∪ a b) c) (∪ a (∪ b c))
      (joins (∪ a b) c ∙ ap (λ x. bit_or x c.bits) (joins a b) ∙ or_assoc a.bits b.bits c.bits ∙ sym (joins a (∪ b c) ∙ ap (bit_or a.bits) (joins b c)));
  join_comm = λ a b. set_path (∪ a b) (∪ b a) (joins a b ∙ or_comm a.bits b.bits ∙ sym (joins b a));
  join_idem = λ a. set_path (∪ a a) a (joins a a ∙ or_self a.bits);
  join_bottom = λ a. set_path (∪ (of_bits 0) a) a (joins (of_bits 0) a);
  answers = λ a b. ((λ e. at_most a b (eqb-true _ _ e)), (λ e. eq-eqb _ _ (within a b e)));
  below_top = λ a. at_most a (of_bits 0xffff) (or_all a.bits a.ok);
  below_meet = λ x a b. (
    (λ e. let w = or_to_and x.bits (bit_and a.bits b.bits) (subst (Within x.bits) (meets a b) (within x (∩ a b) e)) in (
      at_most x a (and_to_or x.bits a.bits (within_left x.bits a.bits b.bits w)),
      at_most x b (and_to_or x.bits b.bits (within_right x.bits a.bits b.bits w)),
    )),
    (λ h. at_most x (∩ a b) (subst (Within x.bits) (sym (meets a b))
        (and_to_or x.bits (bit_and a.bits b.bits)
        (and_within x.bits a.bits b.bits (or_to_and x.bits a.bits (within x a h.0)) (or_to_and x.bits b.bits (within x b h.1)))))),
  );
  product_assoc = λ a b c. set_path (∩ (∩ a b) c) (∩ a (∩ b c))
      (meets (∩ a b) c ∙ ap (λ x. bit_and x c.bits) (meets a b) ∙ and_assoc a.bits b.bits c.bits ∙ sym (meets a (∩ b c) ∙ ap (bit_and a.bits) (meets b c)));
  product_comm = λ a b. set_path (∩ a b) (∩ b a) (meets a b ∙ and_comm a.bits b.bits ∙ sym (meets b a));
  product_join = λ a b c. set_path (∩ a (∪ b c)) (∪ (∩ a b) (∩ a c))
      (meets a (∪ b c) ∙ ap (bit_and a.bits) (joins b c) ∙ and_or a.bits b.bits c.bits ∙ sym (joins (∩ a b) (∩ a c) ∙ ap₂ bit_or (meets a b) (meets a c)));
  product_one = λ a. set_path (∩ (of_bits 0xffff) a) a (meets (of_bits 0xffff) a ∙ and_comm 0xffff a.bits ∙ and_all a.bits a.ok);
  product_bottom = λ a. set_path (∩ (of_bits 0) a) (of_bits 0) (meets (of_bits 0) a);
  residuation = λ a x b. (
    (λ e. at_most x (over a b) (subst (Within x.bits) (sym (overs a b))
        (to_over a.bits (bit_xor a.bits 0xffff) x.bits b.bits
        (ap (bit_and x.bits) (or_not a.bits a.ok) ∙ and_all x.bits x.ok)
        (subst (λ n. Within n b.bits) (meets a x) (within (∩ a x) b e))))),
    (λ e. at_most (∩ a x) b (subst (λ n. Within n b.bits) (sym (meets a x))
        (from_over a.bits (bit_xor a.bits 0xffff) x.bits b.bits (and_not a.bits a.ok)
        (subst (Within x.bits) (overs a b) (within x (over a b) e))))),
  );
}
