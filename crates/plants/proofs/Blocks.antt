-- Cells that count for an answer.
use Rattle.std.proofs.Common.{◌≡◌, ℕ, zero, suc, ◌+◌, ◌-◌, ◌<◌, ◌≤◌, List, ◌++◌, take, drop, length, get_or, rules, ⊎_elim, refl, ap, ◌∙◌, arith}
use Rattle.std.proofs.lemmas.Bool.{cases_lt}
use Rattle.std.proofs.lemmas.List.{get_or-append_right, get_or_append_left, length-take-le, places}
use borrow.Rule.Slice.PartMut.{put_mid}
use Rattle.kinds.specs.Kind.{Ops}
use Rattle.plants.specs.Meaning.{Meaning, joins, meets, forward_cell, backward_cell}
use Rattle.plants.specs.Calls.{Flooded}

module _ {T : Type 0} (o : Ops T) where
  -- a part of a sheet whose k cells all became v; the n cells from there go no further in the sheet
  pub flooded_part : (start k n : ℕ) (v : T) (s items : List T) → start + k ≤ length s → length items ≡ k → k ≤ n
      → ((a : ℕ) → start + k ≤ a → a < start + n → length s ≤ a) → ((j : ℕ) (d : T) → j < k → get_or items j d ≡ v)
      → Flooded o start n v s (put_mid start k s items)
  flooded_part start k n v s items fits len le past same = record {
    inside = λ a h g w.
        let before : a < start + k = ⊎_elim (λ l. l) (λ l. absurd (let q = past a l g in omega arith)) (cases_lt a (start + k)) in
        get_or-append_right (take start s) (items ++ drop k (drop start s)) start a o.bottom (length-take-le start s (omega arith)) h
        ∙ get_or_append_left items (drop k (drop start s)) o.bottom (a - start) (omega arith)
        ∙ same (a - start) o.bottom (omega arith);
    outside = λ a out. search (rules, places);
  }

  pub joins_same : (n : ℕ) (f g : ℕ → T) → ((k : ℕ) → k < n → f k ≡ g k) → joins o n f ≡ joins o n g
  joins_same zero f g e = refl
  joins_same (suc n) f g e = ap (λ x. o.join x (f n)) (joins_same n f g (λ k h. e k (omega arith))) ∙ ap (o.join (joins o n g)) (e n (omega arith))

  pub meets_same : (n : ℕ) (f g : ℕ → T) → ((k : ℕ) → k < n → f k ≡ g k) → meets o n f ≡ meets o n g
  meets_same zero f g e = refl
  meets_same (suc n) f g e = ap (λ x. o.meet x (f n)) (meets_same n f g (λ k h. e k (omega arith))) ∙ ap (o.meet (meets o n g)) (e n (omega arith))

  pub forward_same : (p : Meaning T) (u v : ℕ → ℕ → T) (K out k : ℕ) → k < K
      → ((i j : ℕ) → i < p.inputs → j < K → u i j ≡ v i j) → forward_cell o p u out k ≡ forward_cell o p v out k
  forward_same p u v K out k h e = joins_same p.inputs _ _ (λ i a. joins_same (k + 1) _ _ (λ j b. ap (o.product (p.response out i (k - j))) (e i j a (omega arith))))

  pub backward_same : (p : Meaning T) (u v : ℕ → ℕ → T) (K inp j : ℕ)
      → ((w k : ℕ) → w < p.outputs → k < K → u w k ≡ v w k) → backward_cell o p K u inp j ≡ backward_cell o p K v inp j
  backward_same p u v K inp j e = meets_same p.outputs _ _ (λ w a. meets_same (K - j) _ _ (λ d b. ap (o.residual (p.response w inp d)) (e w (j + d) a (omega arith))))
