-- Rows of best gains.
use Rattle.std.proofs.Common.{◌≡◌, ℕ, suc, ◌+◌, ◌-◌, ◌*◌, ◌<◌, ◌≤◌, ◌≢◌, List, length, drop, set, sym, ap, ◌∙◌, subst, ap₂, ⊎_elim, arith, length-drop, get_or-set_other, get_or-set_same}
use Rattle.std.proofs.lemmas.List.{ext_get_or, get_or-drop}
use Rattle.std.proofs.lemmas.Bool.{cases_eq}
use Rattle.std.proofs.lemmas.Nat.{mul-add-lt}
use Rattle.kinds.specs.Kind.{Ops}
use Rattle.plants.specs.Meaning.{joins}
use Rattle.walks.specs.Walks.{best}
use Rattle.circuits.specs.Grids.{spot, Beyond, SameTo, SameLoan, Kept, Tabled}
use Rattle.circuits.specs.declared.grid.Grid.{Grid}
use Rattle.plants.proofs.Blocks.{joins_same}
use Rattle.circuits.proofs.Spots.{spot_below}

-- a write before the end
pub beyond_more : {T : Type 0} (o : Ops T) (end : ℕ) (b s : List T) (i : ℕ) (v : T) → i < end → Beyond o end b s → Beyond o end b (set s i v)
beyond_more o end b s i v lt h j le = let ne : j ≢ i = omega arith in get_or-set_other s i j v o.bottom ne ∙ h j le

pub beyond_drop : {T : Type 0} (o : Ops T) (end : ℕ) (b s : List T) → length s ≡ length b → Beyond o end b s → drop end s ≡ drop end b
beyond_drop o end b s same h =
    ext_get_or o.bottom (drop end s) (drop end b) (length-drop end s ∙ ap (λ k. k - end) same ∙ sym (length-drop end b))
    (λ i lt. get_or-drop end s i o.bottom ∙ h (end + i) (omega arith) ∙ sym (get_or-drop end b i o.bottom))

module _ {T : Type 0} (o : Ops T) (n : ℕ) where
  -- a write into a later row leaves the rows before it
  pub same_more : (rows : ℕ) (b s : List T) (row t : ℕ) (v : T) → rows ≤ row → SameTo o n rows b s → SameTo o n rows b (set s (row * n + t) v)
  same_more rows b s row t v le same r k rn kn =
      let lt : r < row = omega arith in
      let ne : r * n + k ≢ row * n + t = λ e. omega (arith, mul-add-lt r n k row lt kn) in
      get_or-set_other s (row * n + t) (r * n + k) v o.bottom ne ∙ same r k rn kn

  -- a row is filled from the left
  pub row_more : (F : ℕ → T) (s : List T) (row t : ℕ) (v : T) → row * n + t < length s → v ≡ F t
      → ((k : ℕ) → k < t → spot o n s row k ≡ F k) → (k : ℕ) → k < t + 1 → spot o n (set s (row * n + t) v) row k ≡ F k
  row_more F s row t v within e h k lt = ⊎_elim
      (λ q. ap (spot o n (set s (row * n + t) v) row) q ∙ get_or-set_same s (row * n + t) v o.bottom within ∙ e ∙ ap F (sym q))
      (λ ne. get_or-set_other s (row * n + t) (row * n + k) v o.bottom (λ q. ne (omega arith)) ∙ h k (omega arith))
      (cases_eq k t)

module _ {T : Type 0} where
  pub loan_more : (a b c : Grid T) → SameLoan a b → SameLoan b c → SameLoan a c
  loan_more a b c p q = (q.0 ∙ p.0, q.1 ∙ p.1)

  module _ {o : Ops T} where
    pub kept_more : (rows more : ℕ) (a b c : Grid T) → rows ≤ more → Kept o rows a b → Kept o more b c → Kept o rows a c
    kept_more rows more a b c le p q =
        let same = subst (λ k. SameTo o k more b.cells.now c.cells.now) p.loan.0 q.same in
        let beyond = subst (λ k. Beyond o (2 * k * k) b.cells.now c.cells.now) p.loan.0 q.beyond in
        record {
          loan = loan_more a b c p.loan q.loan;
          same = λ r t rn tn. same r t (omega arith) tn ∙ p.same r t rn tn;
          beyond = λ j far. beyond j far ∙ p.beyond j far;
        }

    pub kept_on : (a b c : Grid T) → Kept o a.n a b → Kept o b.n b c → Kept o a.n a c
    kept_on a b c p q = kept_more a.n a.n a b c (omega arith) p (subst (λ k. Kept o k b c) p.loan.0 q)

module _ {T : Type 0} (o : Ops T) where
  -- a row of b holds F up to column t, and the rows before it are kept
  pub record Filling (row : ℕ) (F : ℕ → T) (t : ℕ) (b s : Grid T) : Type 0 where
    pub filled : (k : ℕ) → k < t → spot o b.n s.cells.now row k ≡ F k
    pub kept : Kept o row b s

  pub filling_more : (row : ℕ) (F : ℕ → T) (b s d : Grid T) (t : ℕ) (v : T) → row < 2 * b.n → t < b.n → SameLoan s d → d.cells.now ≡ set s.cells.now (row * s.n + t) v → v ≡ F t
      → Filling row F t b s → Filling row F (t + 1) b d
  filling_more row F b s d t v within tn loan e value h =
      let m = h.kept.loan.0 in
      let n = b.n in
      let fits : 2 * n * n ≤ length s.cells.now = subst (λ k. 2 * k * k ≤ length s.cells.now) m s.room in
      let now : d.cells.now ≡ set s.cells.now (row * n + t) v = e ∙ ap (λ k. set s.cells.now (row * k + t) v) m in
      record {
        filled = subst (λ (l : List T). (k : ℕ) → k < t + 1 → spot o n l row k ≡ F k) (sym now)
            (row_more o n F s.cells.now row t v (spot_below n (2 * n) row t (length s.cells.now) fits within tn) value h.filled);
        kept = record {
          loan = loan_more b s d h.kept.loan loan;
          same = subst (SameTo o n row b.cells.now) (sym now) (same_more o n row b.cells.now s.cells.now row t v (omega arith) h.kept.same);
          beyond = subst (Beyond o (2 * n * n) b.cells.now) (sym now) (beyond_more o (2 * n * n) b.cells.now s.cells.now (row * n + t) v (spot_below n (2 * n) row t (2 * n * n) (omega arith) within tn) h.kept.beyond);
        };
      }

module _ {T : Type 0} (o : Ops T) (n : ℕ) where
  -- one row more
  pub tabled_more : (A : ℕ → ℕ → T) (b s : ℕ) (c d : List T) → 0 < s
      → ((r t : ℕ) → r < n → t < n → spot o n c r t ≡ A r t)
      → ((t : ℕ) → t < n → spot o n d (n + s) t ≡ joins o n (λ x. o.product (spot o n c t x) (spot o n c (n + s - 1) x)))
      → SameTo o n (n + s) c d → Tabled o n A b s c → Tabled o n A b (s + 1) d
  tabled_more A b s c d some arcs stepped kept inv k t ks tn = ⊎_elim last before (cases_eq k s)
    where
      back : n + s - 1 ≡ n + (s - 1)
      back = omega arith

      up : suc (s - 1) ≡ s
      up = omega arith

      last : k ≡ s → spot o n d (n + k) t ≡ best o n A k t b
      last e =
          ap (λ q. spot o n d (n + q) t) e ∙ stepped t tn
          ∙ joins_same o n _ _ (λ x xn. ap₂ o.product (arcs t x tn xn) (ap (λ q. spot o n c q x) back ∙ inv (s - 1) x (omega arith) xn))
          ∙ ap (λ q. best o n A q t b) (up ∙ sym e)

      before : (k ≡ s → ⊥) → spot o n d (n + k) t ≡ best o n A k t b
      before ne = let lt : k < s = omega arith in kept (n + k) t (omega arith) tn ∙ inv k t lt tn
