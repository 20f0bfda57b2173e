-- What a refused check says of the circuits.
use Rattle.std.proofs.Common.{◌≡◌, ℕ, ◌*◌, ◌≤◌, min, max, List, length, Ok, Err, Result, is_ok, arith, MatchBool}
use Rattle.std.proofs.lemmas.Nat.{mul-le}
use Rattle.kinds.specs.Kind.{Ops}
use Rattle.links.specs.declared.Link.{Link}
use Rattle.walks.specs.Circuits.{Passes}
use Rattle.circuits.specs.declared.CircuitFault.{CircuitFault}
use Rattle.circuits.specs.declared.CircuitFault.TheVariants.{Short, Circuit}
use Rattle.circuits.specs.Checks.{Roomy, Checked}

-- 64 transitions take 8192 cells
pub cells_suffice : {T : Type 0} (t : ℕ) (cells : List T) → length cells ≡ 8192 → 2 * max 1 (min t 64) * max 1 (min t 64) ≤ length cells
cells_suffice t cells e =
    let few : max 1 (min t 64) ≤ 64 = omega arith in
    let double : 2 * max 1 (min t 64) ≤ 128 = omega arith in
    omega (arith, mul-le (2 * max 1 (min t 64)) (max 1 (min t 64)) 128 64 double few)

-- with room enough, the answer says whether every circuit passes
pub judged : {T : Type 0} (o : Ops T) (n : ℕ) (links : List (Link T)) (cells cells' : List T) (list list' : List ℕ) (r : Result (Unit {0}) CircuitFault)
    → Roomy n cells list → Checked o n links cells cells' list list' r → MatchBool (is_ok r) (Passes o n links) (Passes o n links → ⊥)
judged o n links cells cells' list list' (Ok _) room h = h.2
judged o n links cells cells' list list' (Err Short) room h = λ p. h.0 room
judged o n links cells cells' list list' (Err (Circuit start count)) room h = λ p. let faulty = h.2.1.faulty in faulty.1.high (p faulty.0 faulty.1.circuit)
