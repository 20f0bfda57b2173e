-- The backward answer is the right adjoint of the forward answer, leg by leg.
use Rattle.std.proofs.Common.{◌≡◌, ℕ, zero, suc, ◌+◌, ◌-◌, ◌<◌, ◌≤◌, true, List, get_or, sym, refl, ap, ◌∙◌, subst, subst₂, ⊎_elim, arith}
use Rattle.std.proofs.lemmas.Bool.{cases_eq, cases_lt}
use Rattle.std.proofs.lemmas.List.{get_or_past}
use Rattle.kinds.specs.Kind.{Ops, Laws, AtMost}
use Rattle.links.specs.Takes.{tokenless, delayed, entry, leaving}
use Rattle.links.specs.declared.Link.{Link}
use Rattle.plants.specs.Meaning.{backward_cell}
use Rattle.plants.proofs.Galois.{meets_score, under_ceiling}
use Rattle.plants.proofs.Order.{least_trans, both_least, join_left, join_right, join_least, bottom_least, meet_both, to_residual, from_residual, times_bottom, under_left, under_right}
use Rattle.walks.specs.Circuits.{Among}
use Rattle.routes.specs.Routes.{net_meaning}
use Rattle.routes.specs.Ways.{arrives, flow, relaxed, unreached, fed, states, state, answer, beat_of, latest}
use Rattle.routes.specs.declared.Way.TheVariants.{Forth, Back}
use Rattle.links.proofs.Ends.{entry_ends, leaving_ends, delayed_some}
use Rattle.routes.proofs.Lists.{brought_upper, brought_least, allowed_lower, allowed_greatest}
use Rattle.routes.proofs.RouteLaws.{fed_by, fed_enter, fed_wait}
use Rattle.routes.proofs.Superposed.{answers}
use Rattle.routes.proofs.Turns.{states_at, states_length}

-- every state of x is at most that of y
abbrev pub Under : {T : Type 0} → Ops T → (ℕ → T) → (ℕ → T) → Type 0
Under {T} o x y = (t : ℕ) → AtMost o (x t) (y t)

-- the rounds of one beat
module _ {T : Type 0} {o : Ops T} (laws : Laws o) (n : ℕ) (links : List (Link T)) where
  abbrev round : (ℕ → T) → ℕ → T
  round x t = o.join (x t) (flow o Forth n links x t)

  abbrev round_back : (ℕ → T) → ℕ → T
  round_back y t = o.meet (y t) (flow o Back n links y t)

  round_down : (x y : ℕ → T) → Under o x (round_back y) → Under o (round x) y
  round_down x y h t = join_least laws (x t) (flow o Forth n links x t) (y t)
      (least_trans laws _ _ _ (h t) (under_left laws (y t) (flow o Back n links y t)))
      (brought_least laws (tokenless n) (λ l. l.to) (λ l. o.product l.value (x l.from)) links t (y t) (λ l mem on e.
      from_residual laws l.value (x l.from) (y t)
      (subst (λ q. AtMost o (x l.from) (o.residual l.value (y q))) e
      (least_trans laws _ _ _ (h l.from) (least_trans laws _ _ _ (under_right laws (y l.from) (flow o Back n links y l.from))
      (allowed_lower laws (tokenless n) (λ k. k.from) (λ k. o.residual k.value (y k.to)) links l.from l mem on refl))))))

  round_up : (x y : ℕ → T) → Under o (round x) y → Under o x (round_back y)
  round_up x y h t = meet_both laws (x t) (y t) (flow o Back n links y t)
      (least_trans laws _ _ _ (join_left laws (x t) (flow o Forth n links x t)) (h t))
      (allowed_greatest laws (tokenless n) (λ l. l.from) (λ l. o.residual l.value (y l.to)) links t (x t) (λ l mem on e.
      to_residual laws l.value (x t) (y l.to)
      (subst (λ q. AtMost o (o.product l.value (x q)) (y l.to)) e
      (least_trans laws _ _ _ (brought_upper laws (tokenless n) (λ k. k.to) (λ k. o.product k.value (x k.from)) links l.to l mem on refl)
      (least_trans laws _ _ _ (join_right laws (x l.to) (flow o Forth n links x l.to)) (h l.to))))))

  -- q rounds pass from the one side to the other, one at a time
  slide_down : (q r : ℕ) (x y : ℕ → T) → Under o (relaxed o Forth n links r x) (relaxed o Back n links q y) → Under o (relaxed o Forth n links (r + q) x) y
  slide_down zero r x y h = subst (λ s. Under o (relaxed o Forth n links s x) y) (let e : r ≡ r + 0 = omega arith in e) h
  slide_down (suc q) r x y h =
      subst (λ s. Under o (relaxed o Forth n links s x) y) (let e : suc r + q ≡ r + suc q = omega arith in e)
      (slide_down q (suc r) x y (round_down (relaxed o Forth n links r x) (relaxed o Back n links q y) h))

  slide_up : (r q : ℕ) (x y : ℕ → T) → Under o (relaxed o Forth n links r x) (relaxed o Back n links q y) → Under o x (relaxed o Back n links (q + r) y)
  slide_up zero q x y h = subst (λ s. Under o x (relaxed o Back n links s y)) (let e : q ≡ q + 0 = omega arith in e) h
  slide_up (suc r) q x y h =
      subst (λ s. Under o x (relaxed o Back n links s y)) (let e : suc q + r ≡ q + suc r = omega arith in e)
      (slide_up r (suc q) x y (round_up (relaxed o Forth n links r x) (relaxed o Back n links q y) h))

  pub rounds_down : (s : ℕ) (x y : ℕ → T) → Under o x (relaxed o Back n links s y) → Under o (relaxed o Forth n links s x) y
  rounds_down s x y h = subst (λ q. Under o (relaxed o Forth n links q x) y) (let e : 0 + s ≡ s = omega arith in e) (slide_down s 0 x y h)

  pub rounds_up : (s : ℕ) (x y : ℕ → T) → Under o (relaxed o Forth n links s x) y → Under o x (relaxed o Back n links s y)
  rounds_up s x y h = subst (λ q. Under o x (relaxed o Back n links q y)) (let e : 0 + s ≡ s = omega arith in e) (slide_up s 0 x y h)

-- the states of the later beats, on the way back
module _ {T : Type 0} (o : Ops T) (n p : ℕ) (links : List (Link T)) (z : ℕ → ℕ → T) (K : ℕ) where
  -- z by turns, the turn of a beat, the state in it, and the state d beats later
  abbrev turned : ℕ → ℕ → T
  turned w turn = z w (beat_of Back K turn)

  abbrev ceiling : ℕ → ℕ → T
  ceiling k = state o Back n p links turned (beat_of Back K k)

  abbrev later : ℕ → ℕ → ℕ → T
  later k d = get_or (states o Back n p links turned (beat_of Back K k)) (d - 1) (unreached o Back)

  later_at : (k d : ℕ) → 0 < d → k + d < K → later k d ≡ ceiling (k + d)
  later_at k d pos h = states_at o Back n p links turned (K - 1 - k) (d - 1) (omega arith)
      ∙ ap (state o Back n p links turned) (let e : (K - 1 - k) - suc (d - 1) ≡ K - 1 - (k + d) = omega arith in e)

  later_none : (k d : ℕ) → 0 < d → k < K → K ≤ k + d → later k d ≡ unreached o Back
  later_none k d pos h g = get_or_past (states o Back n p links turned (K - 1 - k)) (d - 1) (unreached o Back) (let len = states_length o Back n p links turned (K - 1 - k) in omega arith)

module _ {T : Type 0} {o : Ops T} (laws : Laws o) (n m p : ℕ) (links : List (Link T)) (z : ℕ → ℕ → T) (K : ℕ) (u : ℕ → ℕ → T) where
  abbrev X : ℕ → ℕ → T
  X k = state o Forth n m links u k

  abbrev F : ℕ → ℕ → T
  F k = fed o Forth n m links (λ i. u i k) (states o Forth n m links u k)

  abbrev B : ℕ → ℕ → T
  B k = fed o Back n p links (λ w. turned o n p links z K w (beat_of Back K k)) (states o Back n p links (turned o n p links z K) (beat_of Back K k))

  abbrev C : ℕ → ℕ → T
  C k = ceiling o n p links z K k

  -- what the outputs allow at f, and what the later beats allow
  abbrev by_outputs : ℕ → ℕ → T
  by_outputs k f = arrives o Back (leaving n p) (λ l. z l.to (K - 1 - (K - 1 - k))) links f

  abbrev by_later : ℕ → ℕ → T
  by_later k f = arrives o Back (delayed n) (λ l. later o n p links z K k l.tokens l.to) links f

  -- inputs at or below the backward answer keep the outputs at or below z
  module _ (low : (i j : ℕ) → i < m → j < K → AtMost o (u i j) (latest o n m p links z K i j)) where
    beat_down : (k : ℕ) → k < K → ((d : ℕ) → d < k → Under o (X d) (B d)) → Under o (X k) (B k)
    beat_down k kK past = rounds_down laws n links (n - 1) (F k) (B k) (λ t. fed_by laws n m links (λ i. u i k) (states o Forth n m links u k) t (C k t) (enter t) (wait t))
      where
        enter : (t : ℕ) (l : Link T) → Among l links → entry n m l ≡ true → l.to ≡ t → AtMost o (o.product l.value (u l.from k)) (C k t)
        enter t l mem on e = from_residual laws l.value (u l.from k) (C k t)
            (subst (λ q. AtMost o (u l.from k) (o.residual l.value (C k q))) e
            (least_trans laws _ _ _ (low l.from k (entry_ends n m l on).0 kK)
            (allowed_lower laws (entry n m) (λ y. y.from) (λ y. o.residual y.value (C k y.to)) links l.from l mem on refl)))

        wait : (t : ℕ) (l : Link T) → Among l links → delayed n l ≡ true → l.to ≡ t → AtMost o (o.product l.value (get_or (states o Forth n m links u k) (l.tokens - 1) (unreached o Forth) l.from)) (C k t)
        wait t l mem on e = ⊎_elim
            (λ late. let len = states_length o Forth n m links u k in
            subst (λ x. AtMost o (o.product l.value (x l.from)) (C k t)) (sym (get_or_past (states o Forth n m links u k) (l.tokens - 1) (unreached o Forth) (omega arith)))
            (subst (λ x. AtMost o x (C k t)) (sym (times_bottom laws l.value)) (bottom_least laws (C k t))))
            (λ early.
            let pos = delayed_some n l on in
            let ago : ℕ = k - l.tokens in
            let back : k - suc (l.tokens - 1) ≡ k - l.tokens = omega arith in
            let again : (k - l.tokens) + l.tokens ≡ k = omega arith in
            let at : get_or (states o Forth n m links u k) (l.tokens - 1) (unreached o Forth) ≡ X (k - l.tokens) = states_at o Forth n m links u k (l.tokens - 1) (omega arith) ∙ ap X back in
            let then : later o n p links z K (k - l.tokens) l.tokens ≡ C k = later_at o n p links z K (k - l.tokens) l.tokens (omega arith) (omega arith) ∙ ap C again in
            subst (λ x. AtMost o (o.product l.value (x l.from)) (C k t)) (sym at)
            (from_residual laws l.value (X (k - l.tokens) l.from) (C k t)
            (subst (λ y. AtMost o (X (k - l.tokens) l.from) (o.residual l.value (y t))) then
            (subst (λ q. AtMost o (X (k - l.tokens) l.from) (o.residual l.value (later o n p links z K (k - l.tokens) l.tokens q))) e
            (least_trans laws _ _ _ (past (k - l.tokens) (omega arith) l.from)
            (least_trans laws _ _ _ (under_right laws (by_outputs (k - l.tokens) l.from) (by_later (k - l.tokens) l.from))
            (allowed_lower laws (delayed n) (λ y. y.from) (λ y. o.residual y.value (later o n p links z K (k - l.tokens) y.tokens y.to)) links l.from l mem on refl)))))))
            (cases_lt k l.tokens)

    beats_down : (k : ℕ) → k ≤ K → (d : ℕ) → d < k → Under o (X d) (B d)
    beats_down zero h d lt = absurd (omega arith)
    beats_down (suc k) h d lt = ⊎_elim
        (λ e. subst (λ q. Under o (X q) (B q)) (sym e) (beat_down k (omega arith) (beats_down k (omega arith))))
        (λ ne. beats_down k (omega arith) d (let f : (d ≡ k → ⊥) = ne in omega arith))
        (cases_eq d k)

    pub keeps_score : (w k : ℕ) → k < K → AtMost o (answer o Forth n m p links u w k) (z w k)
    keeps_score w k kK = brought_least laws (leaving n p) (λ l. l.to) (λ l. o.product l.value (X k l.from)) links w (z w k) (λ l mem on e.
        from_residual laws l.value (X k l.from) (z w k)
        (subst₂ (λ q r. AtMost o (X k l.from) (o.residual l.value (z q r))) e (let twice : K - 1 - (K - 1 - k) ≡ k = omega arith in twice)
        (least_trans laws _ _ _ (beats_down K (omega arith) k kK l.from)
        (least_trans laws _ _ _ (under_left laws (by_outputs k l.from) (by_later k l.from))
        (allowed_lower laws (leaving n p) (λ y. y.from) (λ y. o.residual y.value (z y.to (K - 1 - (K - 1 - k)))) links l.from l mem on refl)))))

  -- and inputs that keep them there are at or below the backward answer
  module _ (meet : (w k : ℕ) → w < p → k < K → AtMost o (answer o Forth n m p links u w k) (z w k)) where
    beat_up : (k : ℕ) → k < K → ((d : ℕ) → k < d → d < K → Under o (F d) (C d)) → Under o (F k) (C k)
    beat_up k kK next = rounds_up laws n links (n - 1) (F k) (B k) (λ t. meet_both laws (X k t) _ _
        (allowed_greatest laws (leaving n p) (λ l. l.from) (λ l. o.residual l.value (z l.to (K - 1 - (K - 1 - k)))) links t (X k t) (leave t))
        (allowed_greatest laws (delayed n) (λ l. l.from) (λ l. o.residual l.value (later o n p links z K k l.tokens l.to)) links t (X k t) (wait t)))
      where
        leave : (t : ℕ) (l : Link T) → Among l links → leaving n p l ≡ true → l.from ≡ t → AtMost o (X k t) (o.residual l.value (z l.to (K - 1 - (K - 1 - k))))
        leave t l mem on e = subst (λ r. AtMost o (X k t) (o.residual l.value (z l.to r))) (let twice : k ≡ K - 1 - (K - 1 - k) = omega arith in twice) (to_residual laws l.value (X k t) (z l.to k)
            (subst (λ q. AtMost o (o.product l.value (X k q)) (z l.to k)) e
            (least_trans laws _ _ _ (brought_upper laws (leaving n p) (λ y. y.to) (λ y. o.product y.value (X k y.from)) links l.to l mem on refl)
            (meet l.to k (leaving_ends n p l on).1 kK))))

        wait : (t : ℕ) (l : Link T) → Among l links → delayed n l ≡ true → l.from ≡ t → AtMost o (X k t) (o.residual l.value (later o n p links z K k l.tokens l.to))
        wait t l mem on e =
            let pos = delayed_some n l on in
            ⊎_elim
            (λ within.
            let back : (k + l.tokens) - suc (l.tokens - 1) ≡ k = omega arith in
            let at : get_or (states o Forth n m links u (k + l.tokens)) (l.tokens - 1) (unreached o Forth) ≡ X k = states_at o Forth n m links u (k + l.tokens) (l.tokens - 1) (omega arith) ∙ ap X back in
            subst (λ y. AtMost o (X k t) (o.residual l.value (y l.to))) (sym (later_at o n p links z K k l.tokens (omega arith) within))
            (to_residual laws l.value (X k t) (C (k + l.tokens) l.to)
            (subst (λ q. AtMost o (o.product l.value (X k q)) (C (k + l.tokens) l.to)) e
            (subst (λ x. AtMost o (o.product l.value (x l.from)) (C (k + l.tokens) l.to)) at
            (least_trans laws _ _ _ (fed_wait laws n m links (λ i. u i (k + l.tokens)) (states o Forth n m links u (k + l.tokens)) l.to l mem on refl)
            (next (k + l.tokens) (omega arith) within l.to))))))
            (λ beyond.
            subst (λ y. AtMost o (X k t) (o.residual l.value (y l.to))) (sym (later_none o n p links z K k l.tokens (omega arith) kK beyond))
            (to_residual laws l.value (X k t) o.top (laws.below_top _)))
            (cases_lt (k + l.tokens) K)

    beats_up : (j k : ℕ) → K ≤ k + j → k < K → Under o (F k) (C k)
    beats_up zero k h lt = absurd (omega arith)
    beats_up (suc j) k h lt = beat_up k lt (λ d kd dK. beats_up j d (omega arith) dK)

    pub under_latest : (i j : ℕ) → j < K → AtMost o (u i j) (latest o n m p links z K i j)
    under_latest i j jK = allowed_greatest laws (entry n m) (λ l. l.from) (λ l. o.residual l.value (C j l.to)) links i (u i j) (λ l mem on e.
        to_residual laws l.value (u i j) (C j l.to)
        (subst (λ q. AtMost o (o.product l.value (u q j)) (C j l.to)) e
        (least_trans laws _ _ _ (fed_enter laws n m links (λ q. u q j) (states o Forth n m links u j) l.to l mem on refl)
        (beats_up K j (omega arith) jK l.to))))

-- the backward program computes the backward answer of the net's response
pub latest_is : {T : Type 0} {o : Ops T} (laws : Laws o) (n m p : ℕ) (links : List (Link T)) (z : ℕ → ℕ → T) (K i j : ℕ) → i < m → j < K
    → latest o n m p links z K i j ≡ backward_cell o (net_meaning o n m p links) K z i j
latest_is {T} {o} laws n m p links z K i j h g = both_least laws _ _
    (under_ceiling laws (net_meaning o n m p links) K (latest o n m p links z K) z
    (λ w k _ kK. subst (λ v. AtMost o v (z w k)) (answers laws n m p links (latest o n m p links z K) w k)
    (keeps_score laws n m p links z K (latest o n m p links z K) (λ a b _ _. laws.join_idem _) w k kK)) i j h g)
    (under_latest laws n m p links z K (backward_cell o (net_meaning o n m p links) K z)
    (λ w k wp kK. subst (λ v. AtMost o v (z w k)) (sym (answers laws n m p links (backward_cell o (net_meaning o n m p links) K z) w k))
    (meets_score laws (net_meaning o n m p links) K (backward_cell o (net_meaning o n m p links) K z) z (λ a b _ _. laws.join_idem _) w k wp kK)) i j g)
