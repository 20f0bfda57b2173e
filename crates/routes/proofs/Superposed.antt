-- The answer of a net is the superposition of its response.
use Rattle.std.proofs.Common.{◌≡◌, ℕ, ◌+◌, ◌-◌, ◌≤◌, ◌&&◌, eqb, List, [], ◌∷◌, sym, refl, ap, ◌∙◌, subst, ap₂, ⊎_elim, arith}
use Rattle.std.proofs.lemmas.Bool.{and_parts, eqb-true, eq-eqb, cases_Bool}
use Rattle.kinds.specs.Kind.{Ops, Laws, AtMost}
use Rattle.links.specs.Takes.{leaving}
use Rattle.links.specs.declared.Link.{Link}
use Rattle.plants.specs.Meaning.{joins, forward_cell}
use Rattle.plants.proofs.Order.{least_trans, both_least, bottom_least, to_residual, from_residual, times_one, times_bottom, product_mono, product_mono_left, joins_term, joins_least}
use Rattle.walks.specs.Folds.{gate}
use Rattle.routes.specs.Routes.{impulse, response, net_meaning, weigh, delay, Route, weight, ByRoutes}
use Rattle.routes.specs.Ways.{state, answer}
use Rattle.routes.specs.declared.Way.TheVariants.{Forth}
use Rattle.links.proofs.Ends.{entry_ends}
use Rattle.routes.proofs.Lists.{brought_upper, brought_least}
use Rattle.routes.proofs.RouteLaws.{gate_passed, reached, state_least}

module _ {T : Type 0} {o : Ops T} (laws : Laws o) where
  pub weigh_product : (ps : List (Link T)) (x y : T) → weigh o ps (o.product x y) ≡ o.product (weigh o ps x) y
  weigh_product [] x y = refl
  weigh_product (l ∷ ps) x y = ap (o.product l.value) (weigh_product ps x y) ∙ sym (laws.product_assoc l.value (weigh o ps x) y)

module _ {T : Type 0} {o : Ops T} (laws : Laws o) (n m p : ℕ) (links : List (Link T)) where
  pub answer_upper : (u : ℕ → ℕ → T) (e : Link T) (ps : List (Link T)) (f : Link T) (w k : ℕ) → Route n m p links e ps f w → delay ps ≤ k
      → AtMost o (o.product f.value (weigh o ps (o.product e.value (u e.from (k - delay ps))))) (answer o Forth n m p links u w k)
  answer_upper u e ps f w k r d =
      let x = state o Forth n m links u k f.from in
      least_trans laws _ (o.product f.value x) (answer o Forth n m p links u w k)
      (product_mono laws f.value _ x (reached laws n m links u e r.0 r.1 ps (n - 1) k f.from r.2 d))
      (brought_upper laws (leaving n p) (λ l. l.to) (λ l. o.product l.value (state o Forth n m links u k l.from)) links w f r.3 r.4 r.5)

  pub answer_least : (u : ℕ → ℕ → T) (w k : ℕ) (b : T)
      → ((e : Link T) (ps : List (Link T)) (f : Link T) → Route n m p links e ps f w → delay ps ≤ k → AtMost o (o.product f.value (weigh o ps (o.product e.value (u e.from (k - delay ps))))) b)
      → AtMost o (answer o Forth n m p links u w k) b
  answer_least u w k b h =
      brought_least laws (leaving n p) (λ l. l.to) (λ l. o.product l.value (state o Forth n m links u k l.from)) links w b
      (λ f mem on t. from_residual laws f.value (state o Forth n m links u k f.from) b
      (state_least laws n m links u k f.from (o.residual f.value b)
      (λ e emem ent ps lead d. to_residual laws f.value _ b (h e ps f (emem, ent, lead, mem, on, t) d))))

  pub weighs : (e : Link T) (ps : List (Link T)) (f : Link T) (v : T) → o.product f.value (weigh o ps (o.product e.value v)) ≡ o.product (weight o e ps f) v
  weighs e ps f v = ap (o.product f.value) (weigh_product laws ps e.value v) ∙ sym (laws.product_assoc f.value (weigh o ps e.value) v)

  -- the response is at least the weight of each route of its delay
  pub response_upper : (e : Link T) (ps : List (Link T)) (f : Link T) (w : ℕ) → Route n m p links e ps f w → AtMost o (weight o e ps f) (response o n m p links w e.from (delay ps))
  response_upper e ps f w r =
      let on : impulse o e.from e.from (delay ps - delay ps) ≡ o.one =
      sym (gate_passed o (eqb e.from e.from) (eqb (delay ps - delay ps) 0) o.one (eq-eqb e.from e.from refl) (eq-eqb (delay ps - delay ps) 0 (omega arith)))
      in
      let whole = weighs e ps f (impulse o e.from e.from (delay ps - delay ps)) ∙ ap (o.product (weight o e ps f)) on ∙ times_one laws (weight o e ps f) in
      subst (λ v. AtMost o v (response o n m p links w e.from (delay ps))) whole (answer_upper (impulse o e.from) e ps f w (delay ps) r (omega arith))

  -- and the least such value
  pub response_least : (w i d : ℕ) (b : T)
      → ((e : Link T) (ps : List (Link T)) (f : Link T) → Route n m p links e ps f w → e.from ≡ i → delay ps ≡ d → AtMost o (weight o e ps f) b)
      → AtMost o (response o n m p links w i d) b
  response_least w i d b h = answer_least (impulse o i) w d b each
    where
      each : (e : Link T) (ps : List (Link T)) (f : Link T) → Route n m p links e ps f w → delay ps ≤ d → AtMost o (o.product f.value (weigh o ps (o.product e.value (impulse o i e.from (d - delay ps))))) b
      each e ps f r le =
          subst (λ v. AtMost o v b) (sym (weighs e ps f (impulse o i e.from (d - delay ps))))
          (⊎_elim
          (λ on. let a = and_parts (eqb e.from i) (eqb (d - delay ps) 0) on in
          let z = eqb-true (d - delay ps) 0 a.1 in
          subst (λ v. AtMost o v b) (sym (ap (λ q. o.product (weight o e ps f) (gate o q o.one)) on ∙ times_one laws (weight o e ps f)))
          (h e ps f r (eqb-true e.from i a.0) (omega arith)))
          (λ off. subst (λ v. AtMost o v b) (sym (ap (λ q. o.product (weight o e ps f) (gate o q o.one)) off ∙ times_bottom laws (weight o e ps f))) (bottom_least laws b))
          (cases_Bool (eqb e.from i && eqb (d - delay ps) 0)))

  -- the answer is the superposition of the response
  pub answers : (u : ℕ → ℕ → T) (w k : ℕ) → answer o Forth n m p links u w k ≡ forward_cell o (net_meaning o n m p links) u w k
  answers u w k = both_least laws (answer o Forth n m p links u w k) (forward_cell o (net_meaning o n m p links) u w k) down up
    where
      down : AtMost o (answer o Forth n m p links u w k) (forward_cell o (net_meaning o n m p links) u w k)
      down = answer_least u w k (forward_cell o (net_meaning o n m p links) u w k)
          (λ e ps f r d.
          let back : delay ps ≡ k - (k - delay ps) = omega arith in
          let up1 : AtMost o (weight o e ps f) (response o n m p links w e.from (k - (k - delay ps))) = subst (λ q. AtMost o (weight o e ps f) (response o n m p links w e.from q)) back (response_upper e ps f w r) in
          let inner = joins_term laws (k + 1) (λ q. o.product (response o n m p links w e.from (k - q)) (u e.from q)) (k - delay ps) (omega arith) in
          let outer = joins_term laws m (λ q. joins o (k + 1) (λ s. o.product (response o n m p links w q (k - s)) (u q s))) e.from (entry_ends n m e r.1).0 in
          subst (λ v. AtMost o v (forward_cell o (net_meaning o n m p links) u w k)) (sym (weighs e ps f (u e.from (k - delay ps))))
          (least_trans laws _ _ (forward_cell o (net_meaning o n m p links) u w k) (product_mono_left laws (weight o e ps f) _ (u e.from (k - delay ps)) up1)
          (least_trans laws _ _ (forward_cell o (net_meaning o n m p links) u w k) inner outer)))

      up : AtMost o (forward_cell o (net_meaning o n m p links) u w k) (answer o Forth n m p links u w k)
      up = joins_least laws m _ (answer o Forth n m p links u w k) (λ i im. joins_least laws (k + 1) _ (answer o Forth n m p links u w k) (λ j jk.
          subst (λ v. AtMost o v (answer o Forth n m p links u w k)) (laws.product_comm (u i j) (response o n m p links w i (k - j)))
          (from_residual laws (u i j) (response o n m p links w i (k - j)) (answer o Forth n m p links u w k)
          (response_least w i (k - j) (o.residual (u i j) (answer o Forth n m p links u w k))
          (λ e ps f r ei dj.
          let back : k - delay ps ≡ j = omega arith in
          to_residual laws (u i j) (weight o e ps f) (answer o Forth n m p links u w k)
          (subst (λ v. AtMost o v (answer o Forth n m p links u w k))
          (weighs e ps f (u e.from (k - delay ps)) ∙ ap₂ (λ a b. o.product (weight o e ps f) (u a b)) ei back ∙ laws.product_comm (weight o e ps f) (u i j))
          (answer_upper u e ps f w k r (omega arith))))))))

  pub by_routes : ByRoutes o n m p links (response o n m p links)
  by_routes = record { above = response_upper; least = response_least }
