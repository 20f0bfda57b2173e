-- From walks over transitions to circuits of places.
use Rattle.std.proofs.Common.{◌≡◌, ℕ, ◌<◌, ◌≤◌, Bool, true, false, ◌&&◌, eqb, List, [], ◌∷◌, length, sym, refl, ap, ◌∙◌, subst, ap₂, inl, inr, ⊎_elim, arith}
use Rattle.std.proofs.lemmas.Bool.{and_parts, and_from, eqb-true, eq-eqb, cases_lt, cases_order}
use Rattle.kinds.specs.Kind.{Ops, Laws, AtMost}
use Rattle.links.specs.declared.Link.{Link}
use Rattle.links.specs.Takes.{tokenless}
use Rattle.links.proofs.Ends.{tokenless_ends}
use Rattle.plants.proofs.Order.{least_trans, join_least, product_mono, product_mono_left, times_one}
use Rattle.walks.specs.Folds.{gate, joined}
use Rattle.walks.specs.Circuits.{Among, EndToEnd, Circuit, gain_of, transitions_of, Passes, Faulty, NoLater, Named}
use Rattle.walks.specs.Walks.{arc, gain, AllBelow, best, WalksPass, WalksPassTo}
use Rattle.walks.specs.Searches.{Greedily, Sought}
use Rattle.walks.proofs.Joined.{decided, joined_term, joined_least, gate_least}
use Rattle.walks.proofs.Loops.{all_pass}
use Rattle.walks.proofs.Greedy.{best_upper, passes_from_best, greedy_bad, greedy_first}
use Rattle.walks.proofs.Unique.{transitions_long}

module _ {T : Type 0} {o : Ops T} (laws : Laws o) (n : ℕ) (links : List (Link T)) where
  pub arc_least : (a b : ℕ) (c : T) → ((l : Link T) → Among l links → tokenless n l ≡ true → l.from ≡ a → l.to ≡ b → AtMost o l.value c) → AtMost o (arc o n links a b) c
  arc_least a b c h =
      joined_least laws (λ l. gate o (tokenless n l && (eqb l.from a && eqb l.to b)) l.value) links c
      (λ l mem. gate_least laws (tokenless n l && (eqb l.from a && eqb l.to b)) l.value c
      (λ on. let p = and_parts (tokenless n l) (eqb l.from a && eqb l.to b) on in
      let q = and_parts (eqb l.from a) (eqb l.to b) p.1 in
      h l mem p.0 (eqb-true l.from a q.0) (eqb-true l.to b q.1)))

  pub arc_upper : (l : Link T) (a b : ℕ) → Among l links → tokenless n l ≡ true → l.from ≡ a → l.to ≡ b → AtMost o l.value (arc o n links a b)
  arc_upper l a b mem tok f t =
      subst (λ v. AtMost o v (arc o n links a b))
      (ap (λ q. gate o q l.value) (and_from (tokenless n l) _ tok (and_from (eqb l.from a) _ (eq-eqb l.from a f) (eq-eqb l.to b t))))
      (joined_term laws (λ k. gate o (tokenless n k && (eqb k.from a && eqb k.to b)) k.value) links l mem)

  -- the gain of places is at most that of the walk over their transitions
  gain_upper : (l : Link T) (ps : List (Link T)) (a b : ℕ) → EndToEnd n links a (l ∷ ps) b → AtMost o (gain_of o (l ∷ ps)) (gain o (arc o n links) a (transitions_of ps) b)
  gain_upper l [] a b e =
      subst (λ v. AtMost o v (arc o n links a b)) (sym (times_one laws l.value)) (arc_upper l a b e.0 e.1 e.2 e.3)
  gain_upper l (k ∷ ps) a b e =
      let kf : k.from ≡ l.to = e.3.2 in
      let ih = gain_upper k ps k.from b (subst (λ q. EndToEnd n links q (k ∷ ps) b) (sym kf) e.3) in
      least_trans laws _ (o.product (arc o n links a k.from) (gain_of o (k ∷ ps))) _
      (product_mono_left laws l.value (arc o n links a k.from) (gain_of o (k ∷ ps)) (arc_upper l a k.from e.0 e.1 e.2 (sym kf)))
      (product_mono laws (arc o n links a k.from) (gain_of o (k ∷ ps)) _ ih)

  transitions_below : (a : ℕ) (ps : List (Link T)) (b : ℕ) → EndToEnd n links a ps b → AllBelow n (transitions_of ps)
  transitions_below a [] b e = tt
  transitions_below a (l ∷ ps) b e = ((tokenless_ends n l e.1).0, transitions_below l.to ps b e.3)

  -- a join that is not at most c has a part that is not
  joined_high : {L : Type 0} (f : L → T) (xs : List L) (c : T) → (AtMost o (joined o f xs) c → ⊥) → (x : L) × Among x xs × (AtMost o (f x) c → ⊥)
  joined_high f [] c h = absurd (h (laws.join_bottom c))
  joined_high {L = L} f (y ∷ ys) c h = ⊎_elim
      (λ low. later (joined_high f ys c (λ k. h (join_least laws (f y) (joined o f ys) c low k))))
      (λ high. (y, inl refl, high)) (decided laws (f y) c)
    where
      later : ((x : L) × Among x ys × (AtMost o (f x) c → ⊥)) → (x : L) × Among x (y ∷ ys) × (AtMost o (f x) c → ⊥)
      later r = (r.0, inr r.1, r.2)

  -- a place of an arc that is not at most c
  arc_high : (a b : ℕ) (c : T) → (AtMost o (arc o n links a b) c → ⊥) → (l : Link T) × Among l links × (tokenless n l ≡ true) × (l.from ≡ a) × (l.to ≡ b) × (AtMost o l.value c → ⊥)
  arc_high a b c h = place (joined_high (λ l. gate o (tokenless n l && (eqb l.from a && eqb l.to b)) l.value) links c h)
    where
      open_gate : (t : Bool) (v : T) → (AtMost o (gate o t v) c → ⊥) → (t ≡ true) × (AtMost o v c → ⊥)
      open_gate true v k = (refl, k)
      open_gate false v k = absurd (k (laws.join_bottom c))

      place : ((l : Link T) × Among l links × (AtMost o (gate o (tokenless n l && (eqb l.from a && eqb l.to b)) l.value) c → ⊥))
          → (l : Link T) × Among l links × (tokenless n l ≡ true) × (l.from ≡ a) × (l.to ≡ b) × (AtMost o l.value c → ⊥)
      place r =
          let l = r.0 in
          let w = open_gate (tokenless n l && (eqb l.from a && eqb l.to b)) l.value r.2 in
          let p = and_parts (tokenless n l) (eqb l.from a && eqb l.to b) w.0 in
          let e = and_parts (eqb l.from a) (eqb l.to b) p.1 in
          (l, r.1, p.0, eqb-true l.from a e.0, eqb-true l.to b e.1, w.1)

  -- places over the transitions of a walk, with a gain that is not at most c
  abbrev Over : ℕ → List ℕ → ℕ → T → Type 0
  Over a ts b c = (l : Link T) × (ps : List (Link T)) × EndToEnd n links a (l ∷ ps) b × (transitions_of ps ≡ ts) × (AtMost o (gain_of o (l ∷ ps)) c → ⊥)

  gain_high : (a : ℕ) (ts : List ℕ) (b : ℕ) (c : T) → (AtMost o (gain o (arc o n links) a ts b) c → ⊥) → Over a ts b c
  gain_high a [] b c h =
      let p = arc_high a b c h in
      (p.0, [], (p.1, p.2, p.3, p.4), refl, λ k. p.5 (subst (λ v. AtMost o v c) (times_one laws p.0.value) k))
  gain_high a (x ∷ xs) b c h =
      let A = arc o n links a x in
      let r = gain_high x xs b (o.residual A c) (λ k. h ((laws.residuation A (gain o (arc o n links) x xs b) c).1 k)) in
      let w = gain_of o (r.0 ∷ r.1) in
      let p = arc_high a x (o.residual w c) (λ k. r.4 ((laws.residuation A w c).0 (subst (λ v. AtMost o v c) (laws.product_comm w A) ((laws.residuation w A c).1 k)))) in
      let k : r.0.from ≡ x = r.2.2 in (
        p.0,
        r.0 ∷ r.1,
        (p.1, p.2, p.3, subst (λ q. EndToEnd n links q (r.0 ∷ r.1) b) (sym p.4) r.2),
        ap₂ (λ y ys. y ∷ ys) k r.3,
        λ h'. p.5 ((laws.residuation w p.0.value c).0 (subst (λ v. AtMost o v c) (laws.product_comm p.0.value w) h')),
      )

  over_circuit : (t : ℕ) (ts : List ℕ) (c : T) (r : Over t ts t c) → Circuit n links (r.0 ∷ r.1)
  over_circuit t ts c r = subst (λ q. EndToEnd n links q (r.0 ∷ r.1) q) (sym r.2.2) r.2

  -- where every closed walk passes, so does every circuit
  pub pass_by : WalksPass o n (arc o n links) → Passes o n links
  pass_by h [] e = absurd e
  pass_by h (l ∷ ps) e =
      least_trans laws _ (gain o (arc o n links) l.from (transitions_of ps) l.from) o.one (gain_upper l ps l.from l.from e)
      (h l.from (transitions_of ps) (tokenless_ends n l e.1).0 (transitions_below l.to ps l.from e.3))

  -- where no best gain is high, every circuit passes
  pub circuits_pass : ((s t : ℕ) → s < n → t < n → AtMost o (best o n (arc o n links) s t t) o.one) → Passes o n links
  circuits_pass h = pass_by (passes_from_best laws n (arc o n links) h)

  -- where every circuit passes, so does every closed walk
  pub walks_pass : Passes o n links → WalksPass o n (arc o n links)
  walks_pass h t ts tn all = ⊎_elim (λ low. low) (λ high. absurd (clash (gain_high t ts t o.one high))) (decided laws (gain o (arc o n links) t ts t) o.one)
    where
      clash : Over t ts t o.one → ⊥
      clash r = r.4 (h (r.0 ∷ r.1) (over_circuit t ts o.one r))

  -- the walk of a faulty circuit is high
  walk_high : (l : Link T) (ps : List (Link T)) → Faulty o n links (l ∷ ps) → AtMost o (gain o (arc o n links) l.from (transitions_of ps) l.from) o.one → ⊥
  walk_high l ps f h = f.high (least_trans laws _ _ o.one (gain_upper l ps l.from l.from f.circuit) h)

  pub names : (start more : ℕ) (ts : List ℕ) → Sought o n (arc o n links) n start more → start < n → length ts ≡ more → AllBelow n ts
      → Greedily o n (arc o n links) o.one start ts start → Named o n links (start ∷ ts)
  names start more ts sought sn long all greedy = record {
    faulty = found (gain_high start ts start o.one (λ h. greedy_bad laws n A o.one start ts start greedy (subst (λ v. AtMost o v o.one) (sym (laws.product_one (gain o A start ts start))) h)));
    shortest = shortest;
    first = first;
  }
    where
      A : ℕ → ℕ → T
      A = arc o n links

      found : Over start ts start o.one → (ps : List (Link T)) × Faulty o n links ps × (transitions_of ps ≡ start ∷ ts)
      found r =
          let k : r.0.from ≡ start = r.2.2 in
          (r.0 ∷ r.1, record { circuit = over_circuit start ts o.one r; high = r.4 }, ap₂ (λ y ys. y ∷ ys) k r.3)

      -- the best walks through fewer transitions pass, and so do those from before the start
      low : (l : Link T) (ps : List (Link T)) → Faulty o n links (l ∷ ps) → AtMost o (best o n A (length ps) l.from l.from) o.one → ⊥
      low l ps f h =
          let all' = transitions_below l.to ps l.from f.circuit.3 in
          walk_high l ps f (least_trans laws _ (best o n A (length (transitions_of ps)) l.from l.from) o.one (best_upper laws n A (transitions_of ps) l.from l.from all')
          (subst (λ k. AtMost o (best o n A k l.from l.from) o.one) (sym (transitions_long ps)) h))

      shortest : (ps : List (Link T)) → Faulty o n links ps → length (start ∷ ts) ≤ length ps
      shortest [] f = absurd f.circuit
      shortest (l ∷ ps) f = ⊎_elim
          (λ lt. absurd (low l ps f (sought.shorter (length ps) l.from lt (tokenless_ends n l f.circuit.1).0)))
          (λ ge. omega (arith, long)) (cases_lt (length ps) more)

      first : (ps : List (Link T)) → Faulty o n links ps → length ps ≡ length (start ∷ ts) → NoLater (start ∷ ts) (transitions_of ps)
      first [] f e = absurd f.circuit
      first (l ∷ ps) f e = ⊎_elim
          (λ q. inr (
            q,
            greedy_first laws n A o.one start ts start greedy (transitions_of ps) (transitions_below l.to ps l.from f.circuit.3) (transitions_long ps ∙ len)
                (λ h. walk_high l ps f (subst (λ v. AtMost o v o.one) (laws.product_one _ ∙ ap (λ s. gain o A s (transitions_of ps) s) q) h)),
          ))
          (λ d. ⊎_elim (λ lt. inl lt) (λ gt. absurd (low l ps f (subst (λ k. AtMost o (best o n A k l.from l.from) o.one) (sym (len ∙ long)) (sought.earlier l.from gt)))) d)
          (cases_order start l.from)
        where
          len : length ps ≡ length ts
          len = omega arith

  -- the circuits of at most n places decide
  pub short_suffice : ((ps : List (Link T)) → Circuit n links ps → length ps ≤ n → AtMost o (gain_of o ps) o.one) → Passes o n links
  short_suffice h = pass_by (all_pass laws (arc o n links) n short)
    where
      clash : (t : ℕ) (ts : List ℕ) → length ts < n → Over t ts t o.one → ⊥
      clash t ts lt r =
          let long : length r.1 ≡ length ts = sym (transitions_long r.1) ∙ ap length r.3 in
          r.4 (h (r.0 ∷ r.1) (over_circuit t ts o.one r) (omega arith))

      short : WalksPassTo o n (arc o n links) n
      short t ts tn all lt = ⊎_elim (λ low. low) (λ high. absurd (clash t ts lt (gain_high t ts t o.one high))) (decided laws (gain o (arc o n links) t ts t) o.one)
