-- A block with one cell changed.
use Rattle.std.proofs.Common.{◌≡◌, ℕ, cond, ◌&&◌, eqb, ap}
use Rattle.std.proofs.lemmas.Bool.{cond_both, and_parts, and_from, both_ways, eqb-true, eq-eqb}
use Rattle.runs.specs.Plans.{Block, put}

-- a changed block, at the cell that changed and at the others
pub put_cases : {V : Type 0} (w b : ℕ) (v : V) (z : Block V) (i k : ℕ) (P : V → Type 0) → (i ≡ w → k ≡ b → P v) → ((i ≡ w → k ≡ b → ⊥) → P (z i k)) → P (put w b v z i k)
put_cases w b v z i k P here there =
    cond_both (eqb i w && eqb k b) v (z i k) P
    (λ t. let both = and_parts (eqb i w) (eqb k b) t in here (eqb-true i w both.0) (eqb-true k b both.1))
    (λ t. there (λ e e'. both_ways _ t (and_from _ _ (eq-eqb i w e) (eq-eqb k b e'))))

pub put_congr : {V : Type 0} (w b : ℕ) (v : V) (z z' : Block V) (i k : ℕ) → z i k ≡ z' i k → put w b v z i k ≡ put w b v z' i k
put_congr w b v z z' i k e = ap (λ x. cond (eqb i w && eqb k b) v x) e
