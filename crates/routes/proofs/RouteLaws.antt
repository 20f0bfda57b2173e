-- The states of a net are the least upper bounds of what its routes bring.
use Rattle.std.proofs.Common.{◌≡◌, ℕ, zero, suc, ◌+◌, ◌-◌, ◌<◌, ◌≤◌, Bool, true, ◌&&◌, List, [], ◌∷◌, get_or, sym, refl, ap, ◌∙◌, subst, ap₂, inl, inr, ⊎_elim, arith}
use Rattle.std.proofs.lemmas.Bool.{cases_lt}
use Rattle.std.proofs.lemmas.List.{get_or_past}
use Rattle.kinds.specs.Kind.{Ops, Laws, AtMost}
use Rattle.links.specs.Takes.{tokenless, delayed, entry}
use Rattle.links.specs.declared.Link.{Link}
use Rattle.plants.proofs.Order.{least_trans, join_left, join_right, join_least, bottom_least, to_residual, from_residual, times_bottom, product_mono}
use Rattle.walks.specs.Circuits.{Among}
use Rattle.walks.specs.Folds.{gate}
use Rattle.routes.specs.Routes.{Leads, weigh, delay}
use Rattle.routes.specs.Ways.{flow, relaxed, unreached, fed, states, state}
use Rattle.routes.specs.declared.Way.TheVariants.{Forth}
use Rattle.links.proofs.Ends.{tokenless_none, delayed_some}
use Rattle.routes.proofs.Lists.{brought_upper, brought_least}
use Rattle.routes.proofs.Turns.{states_at, states_length}

pub gate_passed : {T : Type 0} (o : Ops T) (b c : Bool) (x : T) → b ≡ true → c ≡ true → x ≡ gate o (b && c) x
gate_passed o b c x p q = sym (ap₂ (λ d e. gate o (d && e) x) p q)

-- a longer last run may be allowed
pub leads_more : {T : Type 0} (n : ℕ) (links : List (Link T)) (cap a s : ℕ) (ps : List (Link T)) (t : ℕ) → Leads n links cap a s ps t → Leads n links cap a (suc s) ps t
leads_more n links cap a s [] t h = h
leads_more n links cap a s (l ∷ ps) t h =
    (h.0, h.1, ⊎_elim (λ g. inl (suc g.0, ap suc g.1, g.2, leads_more n links cap a g.0 ps l.from g.3)) (λ g. inr g) h.2)

module _ {T : Type 0} {o : Ops T} (laws : Laws o) (n : ℕ) (links : List (Link T)) where
  pub relaxed_rises : (s : ℕ) (x : ℕ → T) (t : ℕ) → AtMost o (x t) (relaxed o Forth n links s x t)
  relaxed_rises zero x t = laws.join_idem (x t)
  relaxed_rises (suc s) x t = least_trans laws (x t) (relaxed o Forth n links s x t) _ (relaxed_rises s x t) (join_left laws (relaxed o Forth n links s x t) (flow o Forth n links (relaxed o Forth n links s x) t))

  pub flow_upper : (x : ℕ → T) (t : ℕ) (l : Link T) → Among l links → tokenless n l ≡ true → l.to ≡ t → AtMost o (o.product l.value (x l.from)) (flow o Forth n links x t)
  flow_upper x t = brought_upper laws (tokenless n) (λ k. k.to) (λ k. o.product k.value (x k.from)) links t

-- what one beat gets
module _ {T : Type 0} {o : Ops T} (laws : Laws o) (n m : ℕ) (links : List (Link T)) (v : ℕ → T) (past : List (ℕ → T)) (t : ℕ) where
  abbrev entering : Link T → T
  entering l = o.product l.value (v l.from)

  abbrev waiting : Link T → T
  waiting l = o.product l.value (get_or past (l.tokens - 1) (unreached o Forth) l.from)

  pub fed_by : (b : T)
      → ((l : Link T) → Among l links → entry n m l ≡ true → l.to ≡ t → AtMost o (o.product l.value (v l.from)) b)
      → ((l : Link T) → Among l links → delayed n l ≡ true → l.to ≡ t → AtMost o (o.product l.value (get_or past (l.tokens - 1) (unreached o Forth) l.from)) b)
      → AtMost o (fed o Forth n m links v past t) b
  fed_by b enter wait = join_least laws _ _ b (brought_least laws (entry n m) (λ l. l.to) entering links t b enter) (brought_least laws (delayed n) (λ l. l.to) waiting links t b wait)

  pub fed_enter : (l : Link T) → Among l links → entry n m l ≡ true → l.to ≡ t → AtMost o (o.product l.value (v l.from)) (fed o Forth n m links v past t)
  fed_enter l mem on e = least_trans laws _ _ _ (brought_upper laws (entry n m) (λ k. k.to) entering links t l mem on e) (join_left laws _ _)

  pub fed_wait : (l : Link T) → Among l links → delayed n l ≡ true → l.to ≡ t → AtMost o (o.product l.value (get_or past (l.tokens - 1) (unreached o Forth) l.from)) (fed o Forth n m links v past t)
  fed_wait l mem on e = least_trans laws _ _ _ (brought_upper laws (delayed n) (λ k. k.to) waiting links t l mem on e) (join_right laws _ _)

module _ {T : Type 0} {o : Ops T} (laws : Laws o) (n m : ℕ) (links : List (Link T)) (u : ℕ → ℕ → T) where
  abbrev X : ℕ → ℕ → ℕ → T
  X s k t = relaxed o Forth n links s (fed o Forth n m links (λ i. u i k) (states o Forth n m links u k)) t

  -- what enters by e and goes along ps arrives
  pub reached : (e : Link T) → Among e links → entry n m e ≡ true → (ps : List (Link T)) (s k t : ℕ) → Leads n links (n - 1) e.to s ps t → delay ps ≤ k
      → AtMost o (weigh o ps (o.product e.value (u e.from (k - delay ps)))) (X s k t)
  reached e mem ent [] s k t h d =
      let k0 : k - 0 ≡ k = omega arith in
      let v : ℕ → T = λ i. u i k in
      let past = states o Forth n m links u k in
      subst (λ q. AtMost o (o.product e.value (u e.from q)) (X s k t)) (sym k0)
      (least_trans laws _ (fed o Forth n m links v past t) (X s k t) (fed_enter laws n m links v past t e mem ent h) (relaxed_rises laws n links s (fed o Forth n m links v past) t))
  reached e mem ent (l ∷ ps) s k t h d = ⊎_elim (glide (reached e mem ent ps)) (hop (reached e mem ent ps)) h.2
    where
      Ih : Type 0
      Ih = (s k t : ℕ) → Leads n links (n - 1) e.to s ps t → delay ps ≤ k → AtMost o (weigh o ps (o.product e.value (u e.from (k - delay ps)))) (X s k t)

      Goal : ℕ → ℕ → Type 0
      Goal s q = AtMost o (o.product l.value (weigh o ps (o.product e.value (u e.from q)))) (X s k t)

      glide : Ih → ((r : ℕ) × (s ≡ suc r) × (tokenless n l ≡ true) × Leads n links (n - 1) e.to r ps l.from) → Goal s (k - (l.tokens + delay ps))
      glide ih g =
          let r = g.0 in
          let z = tokenless_none n l g.2 in
          let same : k - delay ps ≡ k - (l.tokens + delay ps) = omega arith in
          let low = ih r k l.from g.3 (omega arith) in
          subst (λ a. Goal a (k - (l.tokens + delay ps))) (sym g.1)
          (subst (Goal (suc r)) same
          (least_trans laws _ (o.product l.value (X r k l.from)) (X (suc r) k t) (product_mono laws l.value _ (X r k l.from) low)
          (least_trans laws (o.product l.value (X r k l.from)) (flow o Forth n links (X r k) t) (X (suc r) k t) (flow_upper laws n links (X r k) t l h.0 g.2 h.1) (join_right laws (X r k t) (flow o Forth n links (X r k) t)))))

      hop : Ih → (delayed n l ≡ true) × Leads n links (n - 1) e.to (n - 1) ps l.from → Goal s (k - (l.tokens + delay ps))
      hop ih g =
          let pos = delayed_some n l g.0 in
          let v : ℕ → T = λ i. u i k in
          let past = states o Forth n m links u k in
          let same : (k - l.tokens) - delay ps ≡ k - (l.tokens + delay ps) = omega arith in
          let low = ih (n - 1) (k - l.tokens) l.from g.1 (omega arith) in
          let back : k - suc (l.tokens - 1) ≡ k - l.tokens = omega arith in
          let at : get_or past (l.tokens - 1) (unreached o Forth) ≡ state o Forth n m links u (k - l.tokens) = states_at o Forth n m links u k (l.tokens - 1) (omega arith) ∙ ap (state o Forth n m links u) back in
          let here : T = o.product l.value (get_or past (l.tokens - 1) (unreached o Forth) l.from) in
          subst (Goal s) same
          (least_trans laws _ here (X s k t)
          (subst (λ f. AtMost o (o.product l.value (weigh o ps (o.product e.value (u e.from ((k - l.tokens) - delay ps))))) (o.product l.value (f l.from))) (sym at)
          (product_mono laws l.value _ (state o Forth n m links u (k - l.tokens) l.from) low))
          (least_trans laws here (fed o Forth n m links v past t) (X s k t) (fed_wait laws n m links v past t l h.0 g.0 h.1) (relaxed_rises laws n links s (fed o Forth n m links v past) t)))

  -- every route to t, at beat k, brings at most b
  abbrev pub Bounded : ℕ → ℕ → ℕ → T → Type 0
  Bounded k s t b = (e : Link T) → Among e links → entry n m e ≡ true → (ps : List (Link T)) → Leads n links (n - 1) e.to s ps t → delay ps ≤ k → AtMost o (weigh o ps (o.product e.value (u e.from (k - delay ps)))) b

  abbrev PastLeast : ℕ → Type 0
  PastLeast k = (d : ℕ) → d < k → (t : ℕ) (b : T) → Bounded (k - suc d) (n - 1) t b → AtMost o (get_or (states o Forth n m links u k) d (unreached o Forth) t) b

  fed_least : (k : ℕ) → PastLeast k → (s t : ℕ) (b : T) → Bounded k s t b → AtMost o (fed o Forth n m links (λ i. u i k) (states o Forth n m links u k) t) b
  fed_least k past s t b h = fed_by laws n m links (λ i. u i k) (states o Forth n m links u k) t b enters waits
    where
      enters : (l : Link T) → Among l links → entry n m l ≡ true → l.to ≡ t → AtMost o (o.product l.value (u l.from k)) b
      enters l mem on e =
          let k0 : k - 0 ≡ k = omega arith in
          subst (λ q. AtMost o (o.product l.value (u l.from q)) b) k0 (h l mem on [] e (omega arith))

      waits : (l : Link T) → Among l links → delayed n l ≡ true → l.to ≡ t → AtMost o (o.product l.value (get_or (states o Forth n m links u k) (l.tokens - 1) (unreached o Forth) l.from)) b
      waits l mem on e =
          let pos = delayed_some n l on in
          ⊎_elim
          (λ late. let len = states_length o Forth n m links u k in
          subst (λ x. AtMost o (o.product l.value (x l.from)) b) (sym (get_or_past (states o Forth n m links u k) (l.tokens - 1) (unreached o Forth) (omega arith)))
          (subst (λ x. AtMost o x b) (sym (times_bottom laws l.value)) (bottom_least laws b)))
          (λ early. from_residual laws l.value _ b
          (past (l.tokens - 1) (omega arith) l.from (o.residual l.value b)
          (λ f emem ent ps lead dl.
          let same : k - (l.tokens + delay ps) ≡ (k - suc (l.tokens - 1)) - delay ps = omega arith in
          to_residual laws l.value _ b
          (subst (λ q. AtMost o (o.product l.value (weigh o ps (o.product f.value (u f.from q)))) b) same
          (h f emem ent (l ∷ ps) (mem, e, inr (on, lead)) (omega arith))))))
          (cases_lt k l.tokens)

  least_at : (k : ℕ) → PastLeast k → (s t : ℕ) (b : T) → Bounded k s t b → AtMost o (X s k t) b
  least_at k past zero t b h = fed_least k past 0 t b h
  least_at k past (suc s) t b h =
      join_least laws (X s k t) (flow o Forth n links (X s k) t) b
      (least_at k past s t b (λ e mem ent ps lead d. h e mem ent ps (leads_more n links (n - 1) e.to s ps t lead) d))
      (brought_least laws (tokenless n) (λ l. l.to) (λ l. o.product l.value (X s k l.from)) links t b (λ l mem on e.
      let z = tokenless_none n l on in
      from_residual laws l.value (X s k l.from) b
      (least_at k past s l.from (o.residual l.value b)
      (λ f fmem ent ps lead dl.
      let same : k - (l.tokens + delay ps) ≡ k - delay ps = omega arith in
      to_residual laws l.value _ b
      (subst (λ q. AtMost o (o.product l.value (weigh o ps (o.product f.value (u f.from q)))) b) same
      (h f fmem ent (l ∷ ps) (mem, e, inl (s, refl, on, lead)) (omega arith)))))))

  past_least : (k : ℕ) → PastLeast k
  past_least zero d h t b r = absurd (omega arith)
  past_least (suc k) zero h t b r = least_at k (past_least k) (n - 1) t b (subst (λ q. Bounded q (n - 1) t b) (let e : suc k - 1 ≡ k = omega arith in e) r)
  past_least (suc k) (suc d) h t b r = past_least k d (omega arith) t b (subst (λ q. Bounded q (n - 1) t b) (let e : suc k - suc (suc d) ≡ k - suc d = omega arith in e) r)

  -- the state at t and beat k is the least value that every route to t stays below
  pub state_least : (k t : ℕ) (b : T) → Bounded k (n - 1) t b → AtMost o (state o Forth n m links u k t) b
  state_least k t b h = least_at k (past_least k) (n - 1) t b h
