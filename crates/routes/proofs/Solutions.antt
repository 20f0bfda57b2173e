-- The states of a net that passes are the least solution of its equations.
use Rattle.std.proofs.Common.{◌≡◌, ℕ, zero, suc, ◌-◌, ◌<◌, ◌≤◌, Bool, true, false, ◌&&◌, eqb, ltb, List, [], ◌∷◌, length, get_or, sym, refl, ap, ◌∙◌, subst, ap₂, ⊎_elim, arith}
use Rattle.std.proofs.lemmas.Bool.{eq-eqb, ne_eqb, cases_eq, cases_lt, lt-ltb, le-leb, lt-leb}
use Rattle.std.proofs.lemmas.List.{get_or_past}
use Rattle.kinds.specs.Kind.{Ops, Laws, AtMost}
use Rattle.links.specs.Takes.{tokenless, delayed}
use Rattle.links.specs.Tallies.{same_sort}
use Rattle.links.specs.declared.Link.{Link}
use Rattle.links.specs.declared.Sort.TheVariants.{Place}
use Rattle.plants.specs.Meaning.{forward_cell}
use Rattle.plants.proofs.Order.{least_trans, join_left, join_right, join_least, bottom_least, bottom_join, product_mono}
use Rattle.walks.specs.Circuits.{Passes}
use Rattle.walks.specs.Folds.{gate}
use Rattle.walks.specs.Walks.{arc, WalksPass}
use Rattle.routes.specs.Routes.{net_meaning}
use Rattle.routes.specs.Solutions.{place, earlier, brought, Solves, LeastSolution, LeavesLeast}
use Rattle.routes.specs.Ways.{flow, relaxed, unreached, fed, states, state}
use Rattle.routes.specs.declared.Way.TheVariants.{Forth}
use Rattle.links.proofs.Ends.{delayed_ends}
use Rattle.routes.proofs.Lists.{fold_same, join_mono, joined_rises, gate_rises, joined_join}
use Rattle.walks.proofs.Bridge.{walks_pass}
use Rattle.routes.proofs.Stable.{solves, flow_rises}
use Rattle.routes.proofs.Superposed.{answers}

-- the states x of the beats below k, the latest first
abbrev pub history : {T : Type 0} → (ℕ → ℕ → T) → ℕ → List (ℕ → T)
history x zero = []
history x (suc k) = (λ f. x f k) ∷ history x k

history_length : {T : Type 0} (x : ℕ → ℕ → T) (k : ℕ) → length (history x k) ≡ k
history_length x zero = refl
history_length x (suc k) = ap suc (history_length x k)

history_at : {T : Type 0} (o : Ops T) (x : ℕ → ℕ → T) (k d f : ℕ) → d < k → get_or (history x k) d (unreached o Forth) f ≡ x f (k - suc d)
history_at o x zero d f h = absurd (omega arith)
history_at o x (suc k) zero f h = ap (x f) (let e : k ≡ suc k - 1 = omega arith in e)
history_at o x (suc k) (suc d) f h = history_at o x k d f (omega arith) ∙ ap (x f) (let e : k - suc d ≡ suc k - suc (suc d) = omega arith in e)

-- a place of some tokens reads the history
history_earlier : {T : Type 0} (o : Ops T) (x : ℕ → ℕ → T) (k d f : ℕ) → 0 < d → get_or (history x k) (d - 1) (unreached o Forth) f ≡ earlier o x f k d
history_earlier o x k d f pos =
    ⊎_elim
    (λ late. ap (λ r. r f) (get_or_past (history x k) (d - 1) (unreached o Forth) (let q = history_length x k in omega arith)) ∙ sym (ap (λ b. gate o b (x f (k - d))) (lt-leb d k late)))
    (λ early. history_at o x k (d - 1) f (omega arith) ∙ ap (x f) (let e : k - suc (d - 1) ≡ k - d = omega arith in e) ∙ sym (ap (λ b. gate o b (x f (k - d))) (le-leb d k early)))
    (cases_lt k d)

now_earlier : {T : Type 0} (o : Ops T) (x : ℕ → ℕ → T) (k d f : ℕ) → d ≡ 0 → x f k ≡ earlier o x f k d
now_earlier o x k d f e = ap (x f) (let q : k ≡ k - d = omega arith in q) ∙ sym (ap (λ b. gate o b (x f (k - d))) (le-leb d k (omega arith)))

shut : (a b c : Bool) → (a && (b && (c && false))) ≡ false
shut true true true = refl
shut true true false = refl
shut true false c = refl
shut false b c = refl

module _ {T : Type 0} {o : Ops T} (laws : Laws o) (n m : ℕ) (links : List (Link T)) (u x : ℕ → ℕ → T) (k t : ℕ) where
  -- a place is a tokenless one or a delayed one
  split_place : (l : Link T) → o.join (gate o (delayed n l && eqb l.to t) (o.product l.value (get_or (history x k) (l.tokens - 1) (unreached o Forth) l.from)))
      (gate o (tokenless n l && eqb l.to t) (o.product l.value (x l.from k)))
      ≡ gate o (place n l && eqb l.to t) (o.product l.value (earlier o x l.from k l.tokens))
  split_place l = ⊎_elim none some (cases_eq l.tokens 0)
    where
      R : Bool → Bool
      R z = same_sort Place l.sort && (ltb l.from n && (ltb l.to n && z))

      off : R false ≡ false
      off = shut (same_sort Place l.sort) (ltb l.from n) (ltb l.to n)

      old : T
      old = get_or (history x k) (l.tokens - 1) (unreached o Forth) l.from

      Goal : Type 0
      Goal = o.join (gate o (R (ltb 0 l.tokens && ltb l.tokens 16) && eqb l.to t) (o.product l.value old))
          (gate o (R (eqb l.tokens 0) && eqb l.to t) (o.product l.value (x l.from k)))
          ≡ gate o (R (ltb l.tokens 16) && eqb l.to t) (o.product l.value (earlier o x l.from k l.tokens))

      none : l.tokens ≡ 0 → Goal
      none e =
          ap₂ (λ a b. o.join (gate o (a && eqb l.to t) (o.product l.value old)) (gate o (R b && eqb l.to t) (o.product l.value (x l.from k))))
          (ap (λ q. R (ltb 0 q && ltb q 16)) e ∙ off) (eq-eqb l.tokens 0 e)
          ∙ bottom_least laws _
          ∙ ap₂ (λ a v. gate o (R a && eqb l.to t) (o.product l.value v)) (sym (ap (λ q. ltb q 16) e)) (now_earlier o x k l.tokens l.from e)

      some : (l.tokens ≡ 0 → ⊥) → Goal
      some ne =
          let pos : 0 < l.tokens = (let no = ne in omega arith) in
          ap₂ (λ a b. o.join (gate o (R (a && ltb l.tokens 16) && eqb l.to t) (o.product l.value old)) (gate o (b && eqb l.to t) (o.product l.value (x l.from k))))
          (lt-ltb 0 l.tokens pos) (ap R (ne_eqb l.tokens 0 ne) ∙ off)
          ∙ bottom_join laws _
          ∙ ap (λ v. gate o (R (ltb l.tokens 16) && eqb l.to t) (o.product l.value v)) (history_earlier o x k l.tokens l.from pos)

  -- what is fed and what flows is what is brought
  pub fed_brought : o.join (fed o Forth n m links (λ i. u i k) (history x k) t) (flow o Forth n links (λ f. x f k) t) ≡ brought o n m links u x t k
  fed_brought =
      laws.join_assoc _ _ _
      ∙ ap (o.join _) (joined_join laws _ _ links ∙ fold_same o.bottom o.join _ _ links split_place)
      ∙ laws.join_comm _ _

module _ {T : Type 0} {o : Ops T} (laws : Laws o) (n m : ℕ) (links : List (Link T)) where
  fed_rises : (v : ℕ → T) (p q : List (ℕ → T)) → ((d f : ℕ) → f < n → AtMost o (get_or p d (unreached o Forth) f) (get_or q d (unreached o Forth) f)) → (t : ℕ) → AtMost o (fed o Forth n m links v p t) (fed o Forth n m links v q t)
  fed_rises v p q h t = join_mono laws _ _ _ _ (laws.join_idem _) (joined_rises laws _ _ links (λ l.
      gate_rises laws (delayed n l) (eqb l.to t) _ _ (λ on. product_mono laws l.value _ _ (h (l.tokens - 1) l.from (delayed_ends n l on).0))))

  -- what is above what it is fed and what flows from it is above the rounds
  rounds_least : (s : ℕ) (x y : ℕ → T) → ((t : ℕ) → t < n → AtMost o (o.join (x t) (flow o Forth n links y t)) (y t)) → (t : ℕ) → t < n → AtMost o (relaxed o Forth n links s x t) (y t)
  rounds_least zero x y h t tn = least_trans laws (x t) _ (y t) (join_left laws (x t) (flow o Forth n links y t)) (h t tn)
  rounds_least (suc s) x y h t tn =
      join_least laws (relaxed o Forth n links s x t) (flow o Forth n links (relaxed o Forth n links s x) t) (y t) (rounds_least s x y h t tn)
      (least_trans laws _ (flow o Forth n links y t) (y t) (flow_rises laws n links (relaxed o Forth n links s x) y (rounds_least s x y h) t)
      (least_trans laws _ _ (y t) (join_right laws (x t) (flow o Forth n links y t)) (h t tn)))

  history_rises : (x y : ℕ → ℕ → T) (k : ℕ) → ((j f : ℕ) → j < k → f < n → AtMost o (x f j) (y f j)) → (d f : ℕ) → f < n → AtMost o (get_or (history x k) d (unreached o Forth) f) (get_or (history y k) d (unreached o Forth) f)
  history_rises x y zero h d f fn = laws.join_idem o.bottom
  history_rises x y (suc k) h zero f fn = h k f (omega arith) fn
  history_rises x y (suc k) h (suc d) f fn = history_rises x y k (λ j g jk gn. h j g (omega arith) gn) d f fn

  module _ (u : ℕ → ℕ → T) where
    states_history : (k : ℕ) → states o Forth n m links u k ≡ history (λ t j. state o Forth n m links u j t) k
    states_history zero = refl
    states_history (suc k) = ap (λ r. state o Forth n m links u k ∷ r) (states_history k)

    state_solves : 0 < n → WalksPass o n (arc o n links) → (t k : ℕ) → state o Forth n m links u k t ≡ brought o n m links u (λ f j. state o Forth n m links u j f) t k
    state_solves pos passes t k =
        solves laws n links pos passes (fed o Forth n m links (λ i. u i k) (states o Forth n m links u k)) t
        ∙ ap (λ r. o.join (fed o Forth n m links (λ i. u i k) r t) (flow o Forth n links (state o Forth n m links u k) t)) (states_history k)
        ∙ fed_brought laws n m links u (λ f j. state o Forth n m links u j f) k t

    below_solution : (K : ℕ) (y : ℕ → ℕ → T) → Solves o n m links u K y → (k : ℕ) → k ≤ K → (j t : ℕ) → j < k → t < n → AtMost o (state o Forth n m links u j t) (y t j)
    below_solution K y ys zero le j t h tn = absurd (omega arith)
    below_solution K y ys (suc k) le j t h tn = last (below_solution K y ys k (omega arith))
      where
        last : ((i f : ℕ) → i < k → f < n → AtMost o (state o Forth n m links u i f) (y f i)) → AtMost o (state o Forth n m links u j t) (y t j)
        last past = ⊎_elim
            (λ e. subst (λ q. AtMost o (state o Forth n m links u q t) (y t q)) (sym e)
            (rounds_least (n - 1) (fed o Forth n m links (λ i. u i k) (states o Forth n m links u k)) (λ f. y f k)
            (λ f fn. subst (AtMost o _) (fed_brought laws n m links u y k f ∙ sym (ys f k fn (omega arith)))
            (join_mono laws _ _ _ _
            (subst (λ r. AtMost o (fed o Forth n m links (λ i. u i k) r f) (fed o Forth n m links (λ i. u i k) (history y k) f)) (sym (states_history k))
            (fed_rises (λ i. u i k) _ _ (history_rises (λ g i. state o Forth n m links u i g) y k past) f))
            (laws.join_idem _))) t tn))
            (λ ne. past j t (let no = ne in omega arith) tn) (cases_eq j k)

    pub state_least_solution : 0 < n → WalksPass o n (arc o n links) → (K : ℕ) → LeastSolution o n m links u K (λ t k. state o Forth n m links u k t)
    state_least_solution pos passes K = record {
      solves = λ t k _ _. state_solves pos passes t k;
      least = λ y ys t k tn kK. below_solution K y ys K (omega arith) k t kK tn;
    }

  -- the answer of a net that passes is what leaves by the least solution
  pub solved : (p : ℕ) (u : ℕ → ℕ → T) (K : ℕ) → 1 ≤ n → Passes o n links → LeavesLeast o n m p links u K (forward_cell o (net_meaning o n m p links) u)
  solved p u K some passes = (
    (λ t k. state o Forth n m links u k t),
    state_least_solution u some (walks_pass laws n links passes) K,
    λ w k h g. sym (answers laws n m p links u w k),
  )
