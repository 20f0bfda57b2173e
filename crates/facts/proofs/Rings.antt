-- The circuit of the worked example.
use Rattle.std.proofs.Common.{◌≡◌, ℕ, zero, suc, ◌<◌, [], ◌∷◌, refl, ap, arith}
use Rattle.kinds.specs.Kind.{AtMost}
use Rattle.kinds.specs.Dates.{at, date_ops}
use Rattle.kinds.specs.DateLaws.{rank, date_laws}
use Rattle.walks.specs.Circuits.{Named}
use Rattle.walks.specs.Walks.{arc, best}
use Rattle.walks.proofs.Bridge.{names}
use Rattle.circuits.proofs.Pinned.{refusal_pinned}
use Rattle.facts.specs.Facts.{ring, RingRefused}

no_loop : (s t : ℕ) → s < 1 → t < 2 → AtMost date_ops (best date_ops 2 (arc date_ops 2 ring) s t t) (at 0)
no_loop zero zero h k = refl
no_loop zero (suc zero) h k = refl
no_loop zero (suc (suc t)) h k = absurd (omega arith)
no_loop (suc s) t h k = absurd (omega arith)

late : AtMost date_ops (at 30) (at 0) → ⊥
late h = let e : ◌≡◌ {A = ℕ} 31 1 = ap rank h in omega arith

first : (y : ℕ) → y < 1 → AtMost date_ops (date_ops.product (date_ops.product (at 0) (arc date_ops 2 ring 0 y)) (arc date_ops 2 ring y 0)) (at 0)
first zero h = refl
first (suc y) h = absurd (omega arith)

pub ring_named : Named date_ops 2 ring (0 ∷ 1 ∷ [])
ring_named = names date_laws 2 ring 0 1 (1 ∷ [])
    (record { within = omega arith; shorter = no_loop; earlier = λ t h. absurd (omega arith); bad = λ h. (omega arith, late) })
    (omega arith) refl (omega arith, tt) (first, late)

pub ring_refused : RingRefused
ring_refused cells cells' list list' r room h = refusal_pinned date_ops 2 ring cells cells' list list' 0 (1 ∷ []) ring_named room r h
