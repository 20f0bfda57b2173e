-- In a net that passes, n - 1 rounds suffice.
use Rattle.std.proofs.Common.{◌≡◌, ℕ, zero, suc, ◌+◌, ◌-◌, ◌<◌, ◌&&◌, eqb, ◌⊎◌, List, [], ◌∷◌, ◌++◌, length, sym, refl, ap, ◌∙◌, subst, ap₂, subst₂, inl, inr, ⊎_elim, arith, length-append}
use Rattle.std.proofs.lemmas.Bool.{cases_lt}
use Rattle.kinds.specs.Kind.{Ops, Laws, AtMost}
use Rattle.links.specs.Takes.{tokenless}
use Rattle.links.specs.declared.Link.{Link}
use Rattle.plants.proofs.Order.{least_trans, both_least, join_left, join_right, join_least, to_residual, from_residual, times_one, product_mono, product_mono_left}
use Rattle.walks.specs.Folds.{gate}
use Rattle.walks.specs.Walks.{arc, gain, AllBelow, WalksPass}
use Rattle.routes.specs.Ways.{flow, relaxed}
use Rattle.routes.specs.declared.Way.TheVariants.{Forth}
use Rattle.walks.proofs.Loops.{gain_cut, all_left, all_right, all_join}
use Rattle.links.proofs.Ends.{tokenless_ends}
use Rattle.routes.proofs.Lists.{fold_same, joined_rises, gate_rises, brought_least}
use Rattle.walks.proofs.Pigeons.{pigeons, Twice}
use Rattle.walks.proofs.Bridge.{arc_least, arc_upper}
use Rattle.routes.proofs.RouteLaws.{relaxed_rises, flow_upper}

module _ {T : Type 0} {o : Ops T} (laws : Laws o) (A : ℕ → ℕ → T) (n : ℕ) (passes : WalksPass o n A) where
  -- there is a shorter walk of no less gain, or the walk is a circuit
  abbrev Shorter : ℕ → List ℕ → ℕ → Type 0
  Shorter e ts t = ((ss : List ℕ) × AllBelow n ss × (length ss < length ts) × AtMost o (gain o A e ts t) (gain o A e ss t)) ⊎ ((e ≡ t) × AtMost o (gain o A e ts t) o.one)

  without_left : (v : ℕ) (loop rest : List ℕ) (t : ℕ) → v < n → AllBelow n loop → AtMost o (gain o A v (loop ++ v ∷ rest) t) (gain o A v rest t)
  without_left v loop rest t vn all =
      subst (λ g. AtMost o g (gain o A v rest t)) (sym (gain_cut laws A v loop v rest t))
      (subst (AtMost o (o.product (gain o A v loop v) (gain o A v rest t))) (laws.product_one (gain o A v rest t)) (product_mono_left laws (gain o A v loop v) o.one (gain o A v rest t) (passes v loop vn all)))

  shorten : (e : ℕ) (ts : List ℕ) (t : ℕ) → e < n → AllBelow n ts → t < n → Twice (t ∷ (e ∷ ts)) → Shorter e ts t
  shorten e ts t en all tn ([], v, [], after, q) =
      let tv : t ≡ v = cc in
      let ev : e ≡ v = cc in
      let et : e ≡ t = ev ∙ sym tv in
      inr (et, subst (λ k. AtMost o (gain o A e ts k) o.one) et (passes e ts en all))
  shorten e ts t en all tn ([], v, b ∷ bs, after, q) =
      let tv : t ≡ v = cc in
      let tl : ts ≡ bs ++ v ∷ after = cc in
      let tl' : ts ≡ bs ++ t ∷ after = tl ∙ ap (λ k. bs ++ k ∷ after) (sym tv) in
      let all' : AllBelow n (bs ++ t ∷ after) = subst (AllBelow n) tl' all in
      let long : length ts ≡ length bs + suc (length after) = ap length tl' ∙ length-append bs (t ∷ after) in
      inl (
        bs,
        all_left n bs (t ∷ after) all',
        omega arith,
        subst (λ g. AtMost o g (gain o A e bs t)) (sym (ap (λ k. gain o A e k t) tl' ∙ gain_cut laws A e bs t after t))
            (subst (AtMost o (o.product (gain o A e bs t) (gain o A t after t))) (times_one laws (gain o A e bs t))
            (product_mono laws (gain o A e bs t) (gain o A t after t) o.one (passes t after tn (all_right n bs (t ∷ after) all').1))),
      )
  shorten e ts t en all tn (a ∷ [], v, between, after, q) =
      let ev : e ≡ v = cc in
      let tl : ts ≡ between ++ v ∷ after = cc in
      let tl' : ts ≡ between ++ e ∷ after = tl ∙ ap (λ k. between ++ k ∷ after) (sym ev) in
      let all' : AllBelow n (between ++ e ∷ after) = subst (AllBelow n) tl' all in
      let long : length ts ≡ length between + suc (length after) = ap length tl' ∙ length-append between (e ∷ after) in
      inl (
        after,
        (all_right n between (e ∷ after) all').1,
        omega arith,
        subst (λ k. AtMost o (gain o A e k t) (gain o A e after t)) (sym tl') (without_left e between after t en (all_left n between (e ∷ after) all')),
      )
  shorten e ts t en all tn (a ∷ (b ∷ cs), v, between, after, q) =
      let tl : ts ≡ cs ++ v ∷ (between ++ v ∷ after) = cc in
      let all' : AllBelow n (cs ++ v ∷ (between ++ v ∷ after)) = subst (AllBelow n) tl all in
      let rest = all_right n cs (v ∷ (between ++ v ∷ after)) all' in
      let long : length ts ≡ length cs + suc (length (between ++ v ∷ after)) = ap length tl ∙ length-append cs (v ∷ (between ++ v ∷ after)) in
      let long2 : length (between ++ v ∷ after) ≡ length between + suc (length after) = length-append between (v ∷ after) in
      let long3 : length (cs ++ v ∷ after) ≡ length cs + suc (length after) = length-append cs (v ∷ after) in
      inl (
        cs ++ v ∷ after,
        all_join n cs (v ∷ after) (all_left n cs (v ∷ (between ++ v ∷ after)) all') (all_right n between (v ∷ after) rest.1),
        omega arith,
        subst₂ (AtMost o) (sym (ap (λ k. gain o A e k t) tl ∙ gain_cut laws A e cs v (between ++ v ∷ after) t)) (sym (gain_cut laws A e cs v after t))
            (product_mono laws (gain o A e cs v) (gain o A v (between ++ v ∷ after) t) (gain o A v after t) (without_left v between after t rest.0 (all_left n between (v ∷ after) rest.1))),
      )

module _ {T : Type 0} {o : Ops T} (laws : Laws o) (n : ℕ) (links : List (Link T)) where
  arc_flow : (x : ℕ → T) (e y : ℕ) → AtMost o (o.product (arc o n links e y) (x e)) (flow o Forth n links x y)
  arc_flow x e y =
      subst (λ v. AtMost o v (flow o Forth n links x y)) (laws.product_comm (x e) (arc o n links e y))
      (from_residual laws (x e) (arc o n links e y) (flow o Forth n links x y)
      (arc_least laws n links e y (o.residual (x e) (flow o Forth n links x y)) (λ l mem on f t.
      to_residual laws (x e) l.value (flow o Forth n links x y)
      (subst (λ v. AtMost o v (flow o Forth n links x y)) (ap (λ f. o.product l.value (x f)) f ∙ laws.product_comm l.value (x e)) (flow_upper laws n links x y l mem on t)))))

  -- each link of a flow is within an arc
  flow_least : (x : ℕ → T) (y : ℕ) (b : T) → ((e : ℕ) → e < n → y < n → AtMost o (o.product (arc o n links e y) (x e)) b) → AtMost o (flow o Forth n links x y) b
  flow_least x y b h =
      brought_least laws (tokenless n) (λ l. l.to) (λ l. o.product l.value (x l.from)) links y b (λ l mem on t.
      let f = tokenless_ends n l on in
      least_trans laws _ (o.product (arc o n links l.from y) (x l.from)) b
      (product_mono_left laws l.value (arc o n links l.from y) (x l.from) (arc_upper laws n links l l.from y mem on refl t))
      (h l.from f.0 (omega arith)))

  next : (ℕ → T) → ℕ → T
  next x f = o.join (x f) (flow o Forth n links x f)

  peel : (s : ℕ) (x : ℕ → T) (t : ℕ) → relaxed o Forth n links (suc s) x t ≡ relaxed o Forth n links s (next x) t
  unfolding next
  peel zero x t = refl
  peel (suc s) x t =
      ap₂ o.join (peel s x t) (fold_same o.bottom o.join _ _ links (λ l. ap (λ v. gate o (tokenless n l && eqb l.to t) (o.product l.value v)) (peel s x l.from)))

  turn : (a g x : T) → o.product (o.product a g) x ≡ o.product g (o.product a x)
  turn a g x = ap (λ v. o.product v x) (laws.product_comm a g) ∙ laws.product_assoc g a x

  pub walk_upper : (s : ℕ) (x : ℕ → T) (ts : List ℕ) (e t : ℕ) → length ts < s → AtMost o (o.product (gain o (arc o n links) e ts t) (x e)) (relaxed o Forth n links s x t)
  unfolding next
  walk_upper zero x ts e t h = absurd (omega arith)
  walk_upper (suc s) x [] e t h =
      subst (AtMost o (o.product (arc o n links e t) (x e))) (sym (peel s x t))
      (least_trans laws _ (next x t) (relaxed o Forth n links s (next x) t)
      (least_trans laws _ (flow o Forth n links x t) (next x t) (arc_flow x e t) (join_right laws (x t) (flow o Forth n links x t)))
      (relaxed_rises laws n links s (next x) t))
  walk_upper (suc s) x (y ∷ ys) e t h =
      let G = gain o (arc o n links) y ys t in
      subst₂ (AtMost o) (sym (turn (arc o n links e y) G (x e))) (sym (peel s x t))
      (least_trans laws (o.product G (o.product (arc o n links e y) (x e))) (o.product G (next x y)) (relaxed o Forth n links s (next x) t)
      (product_mono laws G (o.product (arc o n links e y) (x e)) (next x y)
      (least_trans laws _ (flow o Forth n links x y) (next x y) (arc_flow x e y) (join_right laws (x y) (flow o Forth n links x y))))
      (walk_upper s (next x) ys y t (omega arith)))

  pub walk_least : (s : ℕ) (x : ℕ → T) (t : ℕ) (b : T) → AtMost o (x t) b
      → ((e : ℕ) (ts : List ℕ) → e < n → t < n → AllBelow n ts → length ts < s → AtMost o (o.product (gain o (arc o n links) e ts t) (x e)) b) → AtMost o (relaxed o Forth n links s x t) b
  unfolding next
  walk_least zero x t b start h = start
  walk_least (suc s) x t b start h =
      subst (λ v. AtMost o v b) (sym (peel s x t))
      (walk_least s (next x) t b
      (join_least laws (x t) (flow o Forth n links x t) b start (flow_least x t b (λ e en tn. h e [] en tn tt (omega arith))))
      (λ e ts en tn all lt.
      let G = gain o (arc o n links) e ts t in
      from_residual laws G (next x e) b
      (join_least laws (x e) (flow o Forth n links x e) (o.residual G b)
      (to_residual laws G (x e) b (h e ts en tn all (omega arith)))
      (flow_least x e (o.residual G b) (λ f fn en'.
      to_residual laws G (o.product (arc o n links f e) (x f)) b
      (subst (λ v. AtMost o v b) (turn (arc o n links f e) G (x f)) (h f (e ∷ ts) fn tn (en, all) (omega arith))))))))

  -- in a net that passes, one round more changes nothing
  pub stable : WalksPass o n (arc o n links) → (x : ℕ → T) (t : ℕ) → AtMost o (relaxed o Forth n links n x t) (relaxed o Forth n links (n - 1) x t)
  stable passes x t = walk_least n x t (relaxed o Forth n links (n - 1) x t) (relaxed_rises laws n links (n - 1) x t) each
    where
      each : (e : ℕ) (ts : List ℕ) → e < n → t < n → AllBelow n ts → length ts < n → AtMost o (o.product (gain o (arc o n links) e ts t) (x e)) (relaxed o Forth n links (n - 1) x t)
      each e ts en tn all lt =
          ⊎_elim (λ short. walk_upper (n - 1) x ts e t short)
          (λ long. ⊎_elim
          (λ s. least_trans laws _ (o.product (gain o (arc o n links) e s.0 t) (x e)) _ (product_mono_left laws _ (gain o (arc o n links) e s.0 t) (x e) s.3) (walk_upper (n - 1) x s.0 e t (let q = s.2 in omega arith)))
          (λ s. least_trans laws _ (x t) _
          (subst (AtMost o (o.product (gain o (arc o n links) e ts t) (x e))) (laws.product_one (x e) ∙ ap x s.0) (product_mono_left laws _ o.one (x e) s.1))
          (relaxed_rises laws n links (n - 1) x t))
          (shorten laws (arc o n links) n passes e ts t en all tn (pigeons n (t ∷ (e ∷ ts)) (tn, (en, all)) (omega arith))))
          (cases_lt (length ts) (n - 1))

  pub flow_rises : (x y : ℕ → T) → ((f : ℕ) → f < n → AtMost o (x f) (y f)) → (t : ℕ) → AtMost o (flow o Forth n links x t) (flow o Forth n links y t)
  flow_rises x y h t = joined_rises laws _ _ links (λ l. gate_rises laws (tokenless n l) (eqb l.to t) _ _ (λ on. product_mono laws l.value _ _ (h l.from (tokenless_ends n l on).0)))

  within : (s : ℕ) (x : ℕ → T) (t : ℕ) → AtMost o (relaxed o Forth n links s x t) (o.join (x t) (flow o Forth n links (relaxed o Forth n links s x) t))
  within zero x t = join_left laws (x t) _
  within (suc s) x t =
      let up : AtMost o (flow o Forth n links (relaxed o Forth n links s x) t) (flow o Forth n links (relaxed o Forth n links (suc s) x) t) = flow_rises (relaxed o Forth n links s x) (relaxed o Forth n links (suc s) x) (λ f fn. join_left laws _ _) t in
      let right = join_right laws (x t) (flow o Forth n links (relaxed o Forth n links (suc s) x) t) in
      join_least laws (relaxed o Forth n links s x t) (flow o Forth n links (relaxed o Forth n links s x) t) _
      (least_trans laws (relaxed o Forth n links s x t) (o.join (x t) (flow o Forth n links (relaxed o Forth n links s x) t)) _ (within s x t)
      (join_least laws (x t) (flow o Forth n links (relaxed o Forth n links s x) t) _ (join_left laws (x t) _) (least_trans laws _ _ _ up right)))
      (least_trans laws _ _ _ up right)

  -- the settled states solve the equation of the net
  pub solves : 0 < n → WalksPass o n (arc o n links) → (x : ℕ → T) (t : ℕ) → relaxed o Forth n links (n - 1) x t ≡ o.join (x t) (flow o Forth n links (relaxed o Forth n links (n - 1) x) t)
  solves pos passes x t =
      let e : suc (n - 1) ≡ n = omega arith in
      let S = relaxed o Forth n links (n - 1) x in
      both_least laws (S t) (o.join (x t) (flow o Forth n links S t)) (within (n - 1) x t)
      (join_least laws (x t) (flow o Forth n links S t) (S t) (relaxed_rises laws n links (n - 1) x t)
      (least_trans laws (flow o Forth n links S t) (relaxed o Forth n links (suc (n - 1)) x t) (S t) (join_right laws (S t) (flow o Forth n links S t))
      (subst (λ k. AtMost o (relaxed o Forth n links k x t) (S t)) (sym e) (stable passes x t))))
