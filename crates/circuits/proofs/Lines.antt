-- Rows as slices.
use Rattle.std.proofs.Common.{◌≡◌, ℕ, ◌+◌, ◌-◌, ◌*◌, ◌<◌, ◌≤◌, List, [], ◌∷◌, ◌++◌, length, get_or, Option, Some, None, sym, refl, ap, ◌∙◌, ap₂, subst, arith, length-append}
use Rattle.std.proofs.lemmas.List.{get_or_default, get_or_append_left, get_or_at}
use Rattle.std.proofs.lemmas.List.Edits.{length-between, get_or-between}
use Rattle.std.proofs.lemmas.Nat.{mul-le}
use Rattle.std.proofs.lemmas.Slice.Zip.{length-zip, get_or-zip}
use Rattle.std.specs.declared.ops.Range.{Range}
use Rattle.std.specs.List.{slice_range, zip, AllWithin, HoldsAt}
use Rattle.std.specs.Option.{MatchOption, IsSome}
use Rattle.kinds.specs.Kind.{Ops, AtMost}
use Rattle.plants.specs.Meaning.{joins}
use Rattle.plants.proofs.Blocks.{joins_same}
use Rattle.plants.proofs.Joins.{joins_more}
use Rattle.circuits.specs.Grids.{spot, Stays, FirstFailing}

pub row_fits : (n r long : ℕ) → r < 2 * n → 2 * n * n ≤ long → r * n + n ≤ long
row_fits n r long rn fits = omega (arith, mul-le (r + 1) n (2 * n) n (omega arith) (omega arith), row_more)
  where
    row_more : (r + 1) * n ≡ r * n + n
    row_more = search arith

module _ {T : Type 0} (o : Ops T) (n : ℕ) (cells : List T) (fits : 2 * n * n ≤ length cells) where
  abbrev pub line : ℕ → List T
  line r = slice_range cells (r * n) (r * n + n)

  pub length-line : (r : ℕ) → r < 2 * n → length (line r) ≡ n
  length-line r rn = length-between cells (r * n) (r * n + n) (row_fits n r (length cells) rn fits) ∙ (let e : r * n + n - r * n ≡ n = omega arith in e)

  pub line_spot : (r x : ℕ) (d : T) → r < 2 * n → x < n → get_or (line r) x d ≡ spot o n cells r x
  line_spot r x d rn xn =
      let within = row_fits n r (length cells) rn fits in
      get_or-between cells (r * n) (r * n + n) x d (omega arith) ∙ get_or_default cells (r * n + x) d o.bottom (omega arith)

  -- a pair of cells of one column
  pub lines_spot : (r s x : ℕ) (d : T × T) → r < 2 * n → s < 2 * n → x < n → get_or (zip (line r) (line s)) x d ≡ (spot o n cells r x, spot o n cells s x)
  lines_spot r s x d rn sn xn =
      let a = length-line r rn in
      let b = length-line s sn in
      get_or-zip (line r) (line s) x d (omega arith) (omega arith) ∙ ap₂ (λ u v. (u, v)) (line_spot r x d.0 rn xn) (line_spot s x d.1 sn xn)

  pub length-lines : (r s : ℕ) → r < 2 * n → s < 2 * n → length (zip (line r) (line s)) ≡ n
  length-lines r s rn sn = let a = length-line r rn in let b = length-line s sn in omega (arith, length-zip (line r) (line s))

-- the join of the products of pairs
abbrev pub Dotted : {T : Type 0} → Ops T → List (T × T) → T → Type 0
Dotted o ps sum = sum ≡ joins o (length ps) (λ x. o.product (get_or ps x (o.bottom, o.bottom)).0 (get_or ps x (o.bottom, o.bottom)).1)

module _ {T : Type 0} (o : Ops T) where
  pub dotted_push : (ps : List (T × T)) (p : T × T) (a b : T) → Dotted o ps a → b ≡ o.join a (o.product p.0 p.1) → Dotted o (ps ++ p ∷ []) b
  dotted_push ps p a b inv e =
      e ∙ joins_more o (length ps) (term (ps ++ p ∷ [])) a (o.product p.0 p.1)
      (inv ∙ joins_same o (length ps) (term ps) (term (ps ++ p ∷ [])) (λ k kn. ap product (sym (get_or_append_left ps (p ∷ []) (o.bottom, o.bottom) k kn))))
      (ap product (sym (get_or_at ps p [] (o.bottom, o.bottom) (length ps) refl)))
      ∙ ap (λ k. joins o k (term (ps ++ p ∷ []))) (sym (length-append ps (p ∷ [])))
    where
      product : T × T → T
      product q = o.product q.0 q.1

      term : List (T × T) → ℕ → T
      term qs x = product (get_or qs x (o.bottom, o.bottom))

  pub dotted_lines : (n : ℕ) (cells : List T) (fits : 2 * n * n ≤ length cells) (r s : ℕ) (sum : T) → r < 2 * n → s < 2 * n
      → Dotted o (zip (line o n cells fits r) (line o n cells fits s)) sum → sum ≡ joins o n (λ x. o.product (spot o n cells r x) (spot o n cells s x))
  dotted_lines n cells fits r s sum rn sn inv =
      inv ∙ ap (λ k. joins o k (λ x. product (get_or (zip (line o n cells fits r) (line o n cells fits s)) x (o.bottom, o.bottom)))) (length-lines o n cells fits r s rn sn)
      ∙ joins_same o n _ _ (λ x xn. ap product (lines_spot o n cells fits r s x (o.bottom, o.bottom) rn sn xn))
    where
      product : T × T → T
      product q = o.product q.0 q.1

-- the first place at which a test fails
pub first_failing : {X : Type 0} (P : ℕ → Type 0) (Yes No : X → Type 0) (all : List X) (n : ℕ) (d : X) (r : Option ℕ) → length all ≡ n
    → ((k : ℕ) → k < n → No (get_or all k d) → P k) → ((k : ℕ) → k < n → Yes (get_or all k d) → P k → ⊥)
    → MatchOption r (AllWithin No all 0 (length all)) (λ i. (i < length all) × HoldsAt Yes all i × AllWithin No all 0 i) → FirstFailing P n r
first_failing P Yes No all n d None long low high h = λ k kn. low k kn (h k d (omega arith) (omega arith))
first_failing P Yes No all n d (Some i) long low high h =
    let lt : i < n = omega (arith, h.0) in
    (lt, (λ k ki. low k (omega arith) (h.2 k d (omega arith) ki)), high i lt (h.1 d))

-- the gain q times both of a pair is at most one
abbrev pub LowPair : {T : Type 0} → Ops T → T → T × T → Type 0
LowPair o q p = AtMost o (o.product (o.product q p.0) p.1) o.one

-- the first column in which the product of a gain and two rows is not at most one
pub first_high_column : {T : Type 0} (o : Ops T) (n : ℕ) (cells : List T) (fits : 2 * n * n ≤ length cells) (q : T) (at row : ℕ) (r : Option ℕ) → at < 2 * n → row < 2 * n
    → (let all = zip (line o n cells fits at) (line o n cells fits row) in
    MatchOption r (AllWithin (LowPair o q) all 0 (length all)) (λ i. (i < length all) × HoldsAt (λ p. LowPair o q p → ⊥) all i × AllWithin (LowPair o q) all 0 i))
    → FirstFailing (Stays o n cells q at row) n r
first_high_column o n cells fits q at row r an rn h =
    first_failing (Stays o n cells q at row) (λ p. LowPair o q p → ⊥) (LowPair o q) (zip (line o n cells fits at) (line o n cells fits row)) n (o.bottom, o.bottom) r
    (length-lines o n cells fits at row an rn)
    (λ k kn low. subst (LowPair o q) (lines_spot o n cells fits at row k (o.bottom, o.bottom) an rn kn) low)
    (λ k kn high low. high (subst (LowPair o q) (sym (lines_spot o n cells fits at row k (o.bottom, o.bottom) an rn kn)) low))
    h

-- the same over the numbers of a range
pub first_in_range : (P : ℕ → Type 0) (s : Range ℕ) (n : ℕ) (r : Option ℕ)
    → MatchOption r ((k : ℕ) → s.start ≤ k → k < s.end → P k) (λ i. (s.start ≤ i) × (i < s.end) × (P i → ⊥) × ((k : ℕ) → s.start ≤ k → k < i → P k))
    → s.start ≡ 0 → s.end ≡ n → FirstFailing P n r
first_in_range P s n None h e f = λ k kn. h k (omega arith) (omega arith)
first_in_range P s n (Some i) h e f = (omega (arith, h.1), (λ k ki. h.3 k (omega arith) ki), h.2)

pub some_first : (P : ℕ → Type 0) (n : ℕ) (r : Option ℕ) → FirstFailing P n r → (((k : ℕ) → k < n → P k) → ⊥) → IsSome r
some_first P n None h not = absurd (not h)
some_first P n (Some m) h not = refl
