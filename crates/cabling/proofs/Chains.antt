-- A series answers as its parts do one after the other.
use Rattle.std.proofs.Common.{◌≡◌, ℕ, ◌+◌, ◌-◌, ◌<◌, ◌≤◌, sym, ap, ◌∙◌, ⊎_elim, arith}
use Rattle.std.proofs.lemmas.Bool.{cases_lt, lt-ltb, le-ltb, and_left, and_right, and_from, cond-true, cond-false}
use Rattle.kinds.specs.Kind.{Ops, Laws, AtMost}
use Rattle.plants.specs.Meaning.{Meaning, joins, wired, forward_cell, forward_part, backward_cell}
use Rattle.plants.proofs.Order.{least_trans, both_least, same_least, bottom_least, times_bottom, product_mono, product_mono_left, joins_term, joins_least, times_joins, joins_times}
use Rattle.plants.proofs.Galois.{forward_term, meets_score, under_ceiling}
use Rattle.cabling.specs.Series.{joined, chain, passed, allowed, SeriesForward, SeriesBackward}

module _ {T : Type 0} (o : Ops T) (p : Meaning T) where
  pub wired_at : (out inp d : ℕ) → out < p.outputs → inp < p.inputs → wired o p out inp d ≡ p.response out inp d
  wired_at out inp d h g = cond-true _ _ _ (and_from _ _ (lt-ltb out p.outputs h) (lt-ltb inp p.inputs g))

  pub wired_no_input : (out inp d : ℕ) → p.inputs ≤ inp → wired o p out inp d ≡ o.bottom
  wired_no_input out inp d g = cond-false _ _ _ (and_right _ _ (le-ltb inp p.inputs g))

  pub wired_no_output : (out inp d : ℕ) → p.outputs ≤ out → wired o p out inp d ≡ o.bottom
  wired_no_output out inp d g = cond-false _ _ _ (and_left _ _ (le-ltb out p.outputs g))

module _ {T : Type 0} {o : Ops T} (L : Laws o) where
  module _ (a b : Meaning T) where
    -- one way through both plants, as a part of the response of the series
    chain_term : (out i l e c : ℕ) → out < b.outputs → l < b.inputs → l < a.outputs → i < a.inputs
        → AtMost o (o.product (b.response out l e) (a.response l i c)) ((chain o a b).response out i (e + c))
    chain_term out i l e c h g f y =
        let back : e ≡ (e + c) - c = omega arith in
        let eq : o.product (b.response out l e) (a.response l i c) ≡ o.product (wired o b out l ((e + c) - c)) (wired o a l i c)
        = ap (λ d. o.product (b.response out l d) (a.response l i c)) back
        ∙ ap (λ x. o.product x (a.response l i c)) (sym (wired_at o b out l ((e + c) - c) h g))
        ∙ ap (o.product (wired o b out l ((e + c) - c))) (sym (wired_at o a l i c f y)) in
        least_trans L _ _ _ (same_least L _ _ eq) (least_trans L _ _ _
        (joins_term L ((e + c) + 1) (λ c'. o.product (wired o b out l ((e + c) - c')) (wired o a l i c')) c (omega arith))
        (joins_term L (joined a b) (λ l'. joins o ((e + c) + 1) (λ c'. o.product (wired o b out l' ((e + c) - c')) (wired o a l' i c'))) l (omega arith)))

    module _ (K : ℕ) (u mid : ℕ → ℕ → T)
        (some : (l t : ℕ) → l < a.outputs → t < K → mid l t ≡ forward_cell o a u l t)
        (none : (l t : ℕ) → a.outputs ≤ l → l < b.inputs → t < K → mid l t ≡ o.bottom)
        (out k : ℕ) (h : out < b.outputs) (g : k < K) where
      up : AtMost o (forward_cell o b mid out k) (forward_cell o (chain o a b) u out k)
      up = joins_least L b.inputs _ _ (λ l hl. joins_least L (k + 1) _ _ (λ t ht.
          let hb = b.response out l (k - t) in
          ⊎_elim
          (λ lt. least_trans L _ _ _ (same_least L _ _ (ap (o.product hb) (some l t lt (omega arith))))
          (times_joins L a.inputs (forward_part o a u l t) hb _ (λ i hi. times_joins L (t + 1) _ hb _ (λ j hj.
          let d : (k - t) + (t - j) ≡ k - j = omega arith in
          least_trans L _ _ _ (same_least L _ _ (sym (L.product_assoc hb (a.response l i (t - j)) (u i j))))
          (least_trans L _ _ _ (product_mono_left L _ _ (u i j) (chain_term out i l (k - t) (t - j) h hl lt hi))
          (least_trans L _ _ _ (same_least L _ _ (ap (λ e. o.product ((chain o a b).response out i e) (u i j)) d))
          (forward_term L (chain o a b) u out k i j hi (omega arith))))))))
          (λ ge. least_trans L _ _ _ (same_least L _ _ (ap (o.product hb) (none l t ge hl (omega arith)) ∙ times_bottom L hb)) (bottom_least L _))
          (cases_lt l a.outputs)))

      down : AtMost o (forward_cell o (chain o a b) u out k) (forward_cell o b mid out k)
      down = joins_least L a.inputs _ _ (λ i hi. joins_least L (k + 1) _ _ (λ j hj.
          joins_times L (joined a b) _ (u i j) _ (λ l hl. joins_times L ((k - j) + 1) _ (u i j) _ (λ c hc.
          let wb = wired o b out l ((k - j) - c) in
          let wa = wired o a l i c in
          ⊎_elim
          (λ ltb'. ⊎_elim
          (λ lta.
          let d : (k - j) - c ≡ k - (j + c) = omega arith in
          let d' : c ≡ (j + c) - j = omega arith in
          let eq : o.product (o.product wb wa) (u i j) ≡ o.product (b.response out l (k - (j + c))) (o.product (a.response l i ((j + c) - j)) (u i j))
          = ap (λ x. o.product (o.product x wa) (u i j)) (wired_at o b out l ((k - j) - c) h ltb')
          ∙ ap (λ x. o.product (o.product (b.response out l ((k - j) - c)) x) (u i j)) (wired_at o a l i c lta hi)
          ∙ L.product_assoc _ _ _
          ∙ ap (λ e. o.product (b.response out l e) (o.product (a.response l i c) (u i j))) d
          ∙ ap (λ e. o.product (b.response out l (k - (j + c))) (o.product (a.response l i e) (u i j))) d' in
          least_trans L _ _ _ (same_least L _ _ eq) (least_trans L _ _ _
          (product_mono L _ _ (mid l (j + c)) (least_trans L _ _ _ (forward_term L a u l (j + c) i j hi (omega arith)) (same_least L _ _ (sym (some l (j + c) lta (omega arith))))))
          (forward_term L b mid out k l (j + c) ltb' (omega arith))))
          (λ ge. least_trans L _ _ _ (same_least L _ _ (ap (λ x. o.product (o.product wb x) (u i j)) (wired_no_output o a l i c ge) ∙ ap (λ x. o.product x (u i j)) (times_bottom L wb) ∙ L.product_bottom (u i j))) (bottom_least L _))
          (cases_lt l a.outputs))
          (λ ge. least_trans L _ _ _ (same_least L _ _ (ap (λ x. o.product (o.product x wa) (u i j)) (wired_no_input o b out l ((k - j) - c) ge) ∙ ap (λ x. o.product x (u i j)) (L.product_bottom wa) ∙ L.product_bottom (u i j))) (bottom_least L _))
          (cases_lt l b.inputs)))))

      pub chain_forward : forward_cell o b mid out k ≡ forward_cell o (chain o a b) u out k
      chain_forward = both_least L _ _ up down

    passed_forward : (x : ℕ → ℕ → T) (out k : ℕ) → out < b.outputs
        → forward_cell o b (passed o a x) out k ≡ forward_cell o (chain o a b) x out k
    passed_forward x out k h = chain_forward (k + 1) x (passed o a x)
        (λ l t lt _. cond-true _ _ _ (lt-ltb l a.outputs lt)) (λ l t ge _ _. cond-false _ _ _ (le-ltb l a.outputs ge)) out k h (omega arith)

    -- both sides are right adjoints of the same forward answer
    pub chain_backward : (K : ℕ) (z mid : ℕ → ℕ → T)
        → ((l t : ℕ) → l < b.inputs → t < K → mid l t ≡ backward_cell o b K z l t)
        → ((l t : ℕ) → b.inputs ≤ l → l < a.outputs → t < K → mid l t ≡ o.top)
        → (i j : ℕ) → i < a.inputs → j < K → backward_cell o a K mid i j ≡ backward_cell o (chain o a b) K z i j
    chain_backward K z mid some none i j h g = both_least L _ _
        (let x = backward_cell o a K mid in
        under_ceiling L (chain o a b) K x z (λ out k p q. least_trans L _ _ _ (same_least L _ _ (sym (passed_forward x out k p)))
        (meets_score L b K (passed o a x) z (λ l t r s. ⊎_elim
        (λ lt. least_trans L _ _ _ (same_least L _ _ (cond-true _ _ _ (lt-ltb l a.outputs lt)))
        (least_trans L _ _ _ (meets_score L a K x mid (λ _ _ _ _. L.join_idem _) l t lt s) (same_least L _ _ (some l t r s))))
        (λ ge. least_trans L _ _ _ (same_least L _ _ (cond-false _ _ _ (le-ltb l a.outputs ge))) (bottom_least L _))
        (cases_lt l a.outputs)) out k p q)) i j h g)
        (let x = backward_cell o (chain o a b) K z in
        under_ceiling L a K x mid (λ l t p q. ⊎_elim
        (λ lt. least_trans L _ _ _ (same_least L _ _ (sym (cond-true _ _ _ (lt-ltb l a.outputs p))))
        (least_trans L _ _ _ (under_ceiling L b K (passed o a x) z (λ out k r s. least_trans L _ _ _ (same_least L _ _ (passed_forward x out k r))
        (meets_score L (chain o a b) K x z (λ _ _ _ _. L.join_idem _) out k r s)) l t lt q) (same_least L _ _ (sym (some l t lt q)))))
        (λ ge. least_trans L _ _ _ (L.below_top _) (same_least L _ _ (sym (none l t ge p q))))
        (cases_lt l b.inputs)) i j h g)

  pub series_forward : SeriesForward o
  series_forward a b u out k h = sym (passed_forward a b u out k h)

  pub series_backward : SeriesBackward o
  series_backward a b K z inp j h g = sym (chain_backward a b K z (allowed o b K z)
      (λ l t lt _. cond-true _ _ _ (lt-ltb l b.inputs lt)) (λ l t ge _ _. cond-false _ _ _ (le-ltb l b.inputs ge)) inp j h g)
