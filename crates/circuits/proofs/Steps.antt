-- The walk found, and its naming step by step.
use Rattle.std.proofs.Common.{◌≡◌, ℕ, suc, ◌+◌, ◌-◌, ◌<◌, ◌≤◌, List, [], ◌∷◌, ◌++◌, length, take, drop, set, Option, Some, None, MatchOption, sym, refl, ap, ◌∙◌, subst, ⊎_elim, arith, length-drop}
use Rattle.std.proofs.lemmas.List.{append_assoc, drop_more, set_at, length_push, length-take-le, length-set}
use Rattle.std.proofs.lemmas.Bool.{cases_eq}
use Rattle.kinds.specs.Kind.{Ops, Laws, AtMost}
use Rattle.walks.specs.Walks.{AllBelow, best}
use Rattle.walks.specs.Searches.{Greedily, Sought}
use Rattle.circuits.specs.Grids.{spot, SameTo, FirstFailing, Found, Tabled}
use Rattle.circuits.specs.declared.search.Walk.{Walk}
use Rattle.plants.proofs.Order.{joins_least}
use Rattle.walks.proofs.Loops.{all_join}
use Rattle.walks.proofs.Same.{best_same}

module _ {T : Type 0} (o : Ops T) (n : ℕ) (A : ℕ → ℕ → T) where
  -- the next start gives a shorter walk
  pub sought_better : (b start more m : ℕ) → Sought o n A b start more → m < more
      → ((s : ℕ) → s < m → AtMost o (best o n A s b b) o.one) → (AtMost o (best o n A m b b) o.one → ⊥) → Sought o n A (b + 1) b m
  sought_better b start more m inv less before found = record {
    within = let w = inv.within in omega arith;
    shorter = λ s t sm tb. ⊎_elim (λ e. subst (λ q. AtMost o (best o n A s q q) o.one) (sym e) (before s sm)) (λ ne. inv.shorter s t (omega arith) (omega arith)) (cases_eq t b);
    earlier = λ t lt. inv.shorter m t less lt;
    bad = λ lt. (omega arith, found);
  }

  -- or none shorter
  pub sought_same : (b start more m : ℕ) → Sought o n A b start more → more ≤ m
      → ((s : ℕ) → s < m → AtMost o (best o n A s b b) o.one) → Sought o n A (b + 1) start more
  sought_same b start more m inv le before = record {
    within = inv.within;
    shorter = λ s t sm tb. ⊎_elim (λ e. subst (λ q. AtMost o (best o n A s q q) o.one) (sym e) (before s (omega arith))) (λ ne. inv.shorter s t sm (omega arith)) (cases_eq t b);
    earlier = inv.earlier;
    bad = λ lt. let q = inv.bad lt in (omega (arith, q.0), q.1);
  }

  -- through how many transitions a shorter walk leads
  abbrev pub IsLimit : Option Walk → ℕ → Type 0
  IsLimit found limit = MatchOption found (limit ≡ n) (λ w. limit ≡ w.more)

  pub limit_within : (b limit : ℕ) (found : Option Walk) → IsLimit found limit → Found o n A b found → limit ≤ n
  limit_within b limit None e inv = omega arith
  limit_within b limit (Some w) e inv = omega (arith, inv.0)

  pub found_better : (b m limit : ℕ) (found : Option Walk) → IsLimit found limit → Found o n A b found
      → FirstFailing (λ s. AtMost o (best o n A s b b) o.one) limit (Some m) → Found o n A (b + 1) (Some (record { start = b; more = m }))
  found_better b m limit None e inv first = (omega (arith, first.0), sought_better b 0 n m inv (omega (arith, first.0)) first.1 first.2)
  found_better b m limit (Some w) e inv first = (omega (arith, first.0, inv.0), sought_better b w.start w.more m inv.1 (omega (arith, first.0)) first.1 first.2)

  pub found_same : (b limit : ℕ) (found : Option Walk) → IsLimit found limit → Found o n A b found
      → FirstFailing (λ s. AtMost o (best o n A s b b) o.one) limit None → Found o n A (b + 1) found
  found_same b limit None e inv low = sought_same b 0 n limit inv (omega arith) low
  found_same b limit (Some w) e inv low = (inv.0, sought_same b w.start w.more limit inv.1 (omega arith) low)

-- what the table tells of one start
pub row_first : {T : Type 0} (o : Ops T) (n b limit : ℕ) (e c d : List T) (r : Option ℕ) → b < n → limit ≤ n → SameTo o n n e c → Tabled o n (spot o n c) b n d
    → FirstFailing (λ s. AtMost o (spot o n d (n + s) b) o.one) limit r → FirstFailing (λ s. AtMost o (best o n (spot o n e) s b b) o.one) limit r
row_first o n b limit e c d r bn ln same tabled = by_cases r
  where
    row : (s : ℕ) → s < n → spot o n d (n + s) b ≡ best o n (spot o n e) s b b
    row s sn = tabled s b sn bn ∙ best_same o n (spot o n c) (spot o n e) same s b b bn bn

    by_cases : (q : Option ℕ) → FirstFailing (λ s. AtMost o (spot o n d (n + s) b) o.one) limit q → FirstFailing (λ s. AtMost o (best o n (spot o n e) s b b) o.one) limit q
    by_cases None h = λ k kn. subst (λ v. AtMost o v o.one) (row k (omega arith)) (h k kn)
    by_cases (Some m) h =
        let lt : m < n = omega (arith, h.0) in
        (h.0, (λ k km. subst (λ v. AtMost o v o.one) (row k (omega arith)) (h.1 k km)), (λ low. h.2 (subst (λ v. AtMost o v o.one) (sym (row m lt)) low)))

-- the slots begin with i transitions, the last of which is `at`, found greedily from start with the gain so far; `more - i` are still to be found
pub record Partly {T : Type 0} (o : Ops T) (n : ℕ) (A : ℕ → ℕ → T) (start more : ℕ) (slots : List ℕ) (i at : ℕ) (so_far : T) (slots' : List ℕ) : Type 0 where
  pub ts : List ℕ
  pub long : length ts ≡ i
  pub below : AllBelow n ts
  pub at_below : at < n
  pub bad : AtMost o (o.product so_far (best o n A (more - i) at start)) o.one → ⊥
  pub goes_on : (ys : List ℕ) → length ys ≡ more - i → Greedily o n A so_far at ys start → Greedily o n A o.one start (ts ++ ys) start
  pub written : slots' ≡ ts ++ drop i slots

-- the slots of a list after its first
pub length-slots : (list : List ℕ) (start more : ℕ) → more < length list → length (take (more + 1 - 1) (drop 1 (set list 0 start))) ≡ more
length-slots list start more lt =
    length-take-le (more + 1 - 1) (drop 1 (set list 0 start)) (omega (arith, length-drop 1 (set list 0 start), length-set list 0 start))
    ∙ (let e : more + 1 - 1 ≡ more = omega arith in e)

module _ {T : Type 0} {o : Ops T} (laws : Laws o) (n : ℕ) (A : ℕ → ℕ → T) (start more : ℕ) where
  -- where no next transition makes the walk high, it is not high
  pub step_exists : (s : ℕ) (q : T) (at : ℕ) → (AtMost o (o.product q (best o n A (suc s) at start)) o.one → ⊥)
      → ((x : ℕ) → x < n → AtMost o (o.product (o.product q (A at x)) (best o n A s x start)) o.one) → ⊥
  step_exists s q at bad all =
      bad ((laws.residuation q (best o n A (suc s) at start) o.one).1
      (joins_least laws n (λ x. o.product (A at x) (best o n A s x start)) (o.residual q o.one)
      (λ x xn. (laws.residuation q (o.product (A at x) (best o n A s x start)) o.one).0
      (subst (λ v. AtMost o v o.one) (laws.product_assoc q (A at x) (best o n A s x start)) (all x xn)))))

  pub partly_none : (slots : List ℕ) (q : T) → q ≡ o.one → start < n → (AtMost o (best o n A more start start) o.one → ⊥) → Partly o n A start more slots 0 start q slots
  partly_none slots q e sn bad = subst (λ r. Partly o n A start more slots 0 start r slots) (sym e) (record {
    ts = [];
    long = refl;
    below = tt;
    at_below = sn;
    bad = λ h. bad (subst (λ k. AtMost o (best o n A k start start) o.one) (let e : more - 0 ≡ more = omega arith in e) (subst (λ v. AtMost o v o.one) (laws.product_one _) h));
    goes_on = λ ys len g. g;
    written = refl;
  })

  pub partly_more : (slots slots' : List ℕ) (i at : ℕ) (q r : T) (x : ℕ) → Partly o n A start more slots i at q slots' → i < more → i < length slots → r ≡ o.product q (A at x)
      → (x < n) × ((y : ℕ) → y < x → AtMost o (o.product (o.product q (A at y)) (best o n A (more - 1 - i) y start)) o.one)
      × (AtMost o (o.product (o.product q (A at x)) (best o n A (more - 1 - i) x start)) o.one → ⊥)
      → Partly o n A start more slots (i + 1) x r (set slots' i x)
  partly_more slots slots' i at q r x inv im il e first = subst (λ v. Partly o n A start more slots (i + 1) x v (set slots' i x)) (sym e) (record {
    ts = ts ++ x ∷ [];
    long = length_push ts x ∙ ap (λ k. k + 1) inv.long;
    below = all_join n ts (x ∷ []) inv.below (first.0, tt);
    at_below = first.0;
    bad = λ h. first.2 (subst (λ k. AtMost o (o.product (o.product q (A at x)) (best o n A k x start)) o.one) rest h);
    goes_on = λ ys len g. subst (λ zs. Greedily o n A o.one start zs start) (sym (append_assoc ts (x ∷ []) ys))
        (inv.goes_on (x ∷ ys) (ap suc len ∙ up)
        (λ y yx. subst (λ k. AtMost o (o.product (o.product q (A at y)) (best o n A k y start)) o.one) (sym (len ∙ rest)) (first.1 y yx), g));
    written = ap (λ l. set l i x) (inv.written ∙ ap (λ r. ts ++ r) (drop_more slots i 0 il))
        ∙ set_at ts _ (drop (i + 1) slots) x i inv.long
        ∙ sym (append_assoc ts (x ∷ []) (drop (i + 1) slots));
  })
    where
      ts : List ℕ
      ts = inv.ts

      rest : more - (i + 1) ≡ more - 1 - i
      rest = omega arith

      up : suc (more - (i + 1)) ≡ more - i
      up = omega arith

  -- the same, for what the table tells
  pub next_exists : (cells : List T) (s : ℕ) (q : T) (at : ℕ) → Tabled o n A start n cells → s < n
      → (AtMost o (o.product q (best o n A (suc s) at start)) o.one → ⊥)
      → ((x : ℕ) → x < n → AtMost o (o.product (o.product q (A at x)) (spot o n cells (n + s) x)) o.one) → ⊥
  next_exists cells s q at tabled sn bad all =
      step_exists s q at bad (λ x xn. subst (λ v. AtMost o (o.product (o.product q (A at x)) v) o.one) (tabled s x sn xn) (all x xn))
