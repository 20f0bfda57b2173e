-- The contract of the check leaves one answer.
use Rattle.std.proofs.Common.{◌≡◌, ℕ, List, ◌∷◌, ◌++◌, length, drop, Ok, Err, Result, refl, ap, ◌∙◌, ap₂}
use Rattle.kinds.specs.Kind.{Ops}
use Rattle.walks.specs.Circuits.{Passes, Named}
use Rattle.circuits.specs.Checks.{Roomy, Checked}
use Rattle.links.specs.declared.Link.{Link}
use Rattle.circuits.specs.declared.CircuitFault.{CircuitFault}
use Rattle.circuits.specs.declared.CircuitFault.TheVariants.{Short, Circuit}
use Rattle.walks.proofs.Unique.{named_once}

module _ {T : Type 0} (o : Ops T) (n : ℕ) (links : List (Link T)) (cells cells' : List T) (list list' : List ℕ) where
  pub refusal_pinned : (start : ℕ) (ts : List ℕ) → Named o n links (start ∷ ts) → Roomy n cells list → (r : Result (Unit {0}) CircuitFault) → Checked o n links cells cells' list list' r
      → (r ≡ Err (Circuit start (length (start ∷ ts)))) × (list' ≡ (start ∷ ts) ++ drop (length (start ∷ ts)) list)
  refusal_pinned start ts named room (Ok x) h = absurd (named.faulty.1.high (h.2 named.faulty.0 named.faulty.1.circuit))
  refusal_pinned start ts named room (Err Short) h = absurd (h.0 room)
  refusal_pinned start ts named room (Err (Circuit s c)) h =
      let same : s ∷ h.2.0 ≡ start ∷ ts = named_once o n links (s ∷ h.2.0) (start ∷ ts) h.2.1 named in
      let count : c ≡ length (start ∷ ts) = h.2.2 ∙ ap length same in
      let first : s ≡ start = cc in
      (ap₂ (λ a b. Err (Circuit a b)) first count, h.2.3 ∙ ap₂ (λ a b. a ++ drop b list) same count)

  pub acceptance_pinned : Passes o n links → Roomy n cells list → (r : Result (Unit {0}) CircuitFault) → Checked o n links cells cells' list list' r
      → (r ≡ Ok tt) × (list' ≡ list)
  acceptance_pinned passes room (Ok x) h = (refl, h.3)
  acceptance_pinned passes room (Err Short) h = absurd (h.0 room)
  acceptance_pinned passes room (Err (Circuit s c)) h =
      let f = h.2.1.faulty in
      absurd (f.1.high (passes f.0 f.1.circuit))
