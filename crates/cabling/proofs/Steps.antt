-- Two calls one after the other, the second reading what the first wrote.
use Rattle.std.proofs.Common.{◌≡◌, ℕ, ◌+◌, ◌-◌, ◌*◌, ◌<◌, ◌≤◌, max, List, length, Ok, Err, Result, sym, ap, ◌∙◌, add-mul, arith}
use Rattle.std.proofs.lemmas.Nat.{mul-le, mul-add-lt}
use Rattle.kinds.specs.Kind.{Ops}
use Rattle.plants.specs.Meaning.{block}
use Rattle.plants.specs.Calls.{Filled, Flooded, Outcome}
use Rattle.kinds.specs.declared.refusals.Refusal.{Refusal}

pub max_comm : (x y : ℕ) → max x y ≡ max y x
max_comm x y = omega arith

-- the wires that the first writes and those that are filled in
pub widths : (x y K : ℕ) → x * K + (y - x) * K ≡ max x y * K
widths x y K = sym (add-mul x (y - x) K) ∙ ap (λ n. n * K) (omega arith)

module _ {T : Type 0} (o : Ops T) (K W x y n1 n2 : ℕ) (cell1 : ℕ → ℕ → T) (v : T) (s0 s1 s2 : List T)
    (f1 : Filled o K W x (W + max x y * K) n1 cell1 s0 s1) (f2 : Flooded o (W + x * K) ((y - x) * K) v s1 s2) where
  pub middle_some : (l t : ℕ) → l < x → t < K → block o s2 W K l t ≡ cell1 l t
  middle_some l t h g = f2.outside (W + (l * K + t)) (λ p q. omega (arith, mul-add-lt l K t x h g)) ∙ f1.cells l t h g

  pub middle_none : W + max x y * K ≤ length s1 → (l t : ℕ) → x ≤ l → l < y → t < K → block o s2 W K l t ≡ v
  middle_none room l t h g e =
      let all : max x y * K ≡ y * K = ap (λ n. n * K) (omega arith) in
      let before : l * K + t < K * y = mul-add-lt l K t y g e in
      f2.inside (W + (l * K + t)) (omega (arith, mul-le x K l K h (omega arith))) (omega (arith, widths x y K)) (omega arith)

  pub two_steps : (start wires need : ℕ) (c3 cell : ℕ → ℕ → T) (s3 : List T)
      → Filled o K start wires (W + max x y * K) n2 c3 s2 s3 → max x y * K + max n1 n2 ≤ need
      → ((w k : ℕ) → w < wires → k < K → c3 w k ≡ cell w k) → Filled o K start wires W need cell s0 s3
  two_steps start wires need c3 cell s3 f3 room same =
      let full = widths x y K in
      record {
        cells = λ w k h g. f3.cells w k h g ∙ same w k h g;
        others = λ a out work. f3.others a out (λ p q. work (omega arith) (omega arith))
            ∙ f2.outside a (λ p q. work (omega arith) (omega arith))
            ∙ f1.others a (λ p q. work (omega arith) (omega arith)) (λ p q. work (omega arith) (omega arith));
      }

-- a call whose result is that of an inner call which cannot refuse
pub outcome_by : {T : Type 0} (r : Result Unit Refusal) (F F' D D' : Type 0) (s s' t : List T) → Outcome r F D s t → F → F' → (D → D') → Outcome r F' D' s' t
outcome_by (Ok _) F F' D D' s s' t e f f' d = (f', d e.1)
outcome_by (Err _) F F' D D' s s' t e f f' d = absurd (e.1 f)

-- both calls: the second, which cannot refuse, reads what the first wrote and the wires that were filled in
pub in_turn : {T : Type 0} (o : Ops T) (K W x y n1 n2 : ℕ) (cell1 : ℕ → ℕ → T) (v : T) (s0 s1 s2 s3 : List T)
    (start wires need : ℕ) (answer : (ℕ → ℕ → T) → ℕ → ℕ → T) (cell : ℕ → ℕ → T) (r : Result Unit Refusal) (F F' : Type 0)
    → Filled o K W x (W + max x y * K) n1 cell1 s0 s1
    → Flooded o (W + x * K) ((y - x) * K) v s1 s2
    → W + max x y * K ≤ length s1 → max x y * K + max n1 n2 ≤ need
    → Outcome r F (Filled o K start wires (W + max x y * K) n2 (answer (block o s2 W K)) s2 s3) s2 s3 → F → F'
    → ((mid : ℕ → ℕ → T) → ((l t : ℕ) → l < x → t < K → mid l t ≡ cell1 l t) → ((l t : ℕ) → x ≤ l → l < y → t < K → mid l t ≡ v)
    → (w k : ℕ) → w < wires → k < K → answer mid w k ≡ cell w k)
    → Outcome r F' (Filled o K start wires W need cell s0 s3) s0 s3
in_turn o K W x y n1 n2 cell1 v s0 s1 s2 s3 start wires need answer cell r F F' f1 f2 room within e f f' chained =
    outcome_by r F F' _ _ s2 s0 s3 e f f'
    (λ d. two_steps o K W x y n1 n2 cell1 v s0 s1 s2 f1 f2 start wires need (answer (block o s2 W K)) cell s3 d within
    (chained (block o s2 W K) (middle_some o K W x y n1 n2 cell1 v s0 s1 s2 f1 f2) (middle_none o K W x y n1 n2 cell1 v s0 s1 s2 f1 f2 room)))
