-- A loop that puts a value into one cell for each active link, by an operation that is a commutative monoid:
-- join from bottom, or meet from top.
use Rattle.std.proofs.Common.{◌≡◌, ℕ, ◌+◌, ◌<◌, Bool, true, false, cond, ◌&&◌, eqb, List, [], ◌∷◌, ◌++◌, length, get_or, take, set, sym, refl, ap, ◌∙◌, subst, ap₂, ⊎_elim, get_or-set_other, get_or-set_same}
use Rattle.std.proofs.lemmas.Bool.{eq-eqb, ne_eqb, cases_eq, cases_Bool}
use Rattle.std.proofs.lemmas.List.{take_more}
use Rattle.kinds.specs.Kind.{Ops, Laws}
use Rattle.plants.proofs.Order.{least_trans, both_least, meet_both, under_left, under_right, bottom_join}
use Rattle.walks.specs.Folds.{fold}

pub record Monoid {T : Type 0} (e : T) (op : T → T → T) : Type 0 where
  pub assoc : (a b c : T) → op (op a b) c ≡ op a (op b c)
  pub comm : (a b : T) → op a b ≡ op b a
  pub unit : (a : T) → op a e ≡ a

pub join_monoid : {T : Type 0} {o : Ops T} → Laws o → Monoid o.bottom o.join
join_monoid laws = record { assoc = laws.join_assoc; comm = laws.join_comm; unit = bottom_join laws }

pub meet_monoid : {T : Type 0} {o : Ops T} → Laws o → Monoid o.top o.meet
meet_monoid {T} {o} laws = record {
  assoc = λ a b c. both_least laws _ _
      (let ab = under_left laws (o.meet a b) c in
      meet_both laws _ _ _ (least_trans laws _ _ _ ab (under_left laws a b))
      (meet_both laws _ _ _ (least_trans laws _ _ _ ab (under_right laws a b)) (under_right laws (o.meet a b) c)))
      (let bc = under_right laws a (o.meet b c) in
      meet_both laws _ _ _ (meet_both laws _ _ _ (under_left laws a (o.meet b c)) (least_trans laws _ _ _ bc (under_left laws b c)))
      (least_trans laws _ _ _ bc (under_right laws b c)));
  comm = λ a b. both_least laws _ _
      (meet_both laws _ _ _ (under_right laws a b) (under_left laws a b))
      (meet_both laws _ _ _ (under_right laws b a) (under_left laws b a));
  unit = λ a. both_least laws _ _ (under_left laws a o.top) (meet_both laws _ _ _ (laws.join_idem a) (laws.below_top a));
}

-- what one link puts into the cell j
abbrev pub part : {T L : Type 0} → T → (L → Bool) → (L → ℕ) → (L → T) → ℕ → L → T
part e act dst val j l = cond (act l && eqb (dst l) j) (val l) e

-- d is what stands beyond the end of a sheet
abbrev pub Spread : {T L : Type 0} → T → T → (T → T → T) → (L → Bool) → (L → ℕ) → (L → T) → List T → List T → List L → Type 0
Spread d e op act dst val before after ls = (j : ℕ) → get_or after j d ≡ op (get_or before j d) (fold e op (part e act dst val j) ls)

part_off : {T : Type 0} (e : T) (b c : Bool) (x : T) → b ≡ false → cond (b && c) x e ≡ e
part_off e b c x h = ap (λ q. cond (q && c) x e) h

part_other : {T : Type 0} (e : T) (b c : Bool) (x : T) → c ≡ false → cond (b && c) x e ≡ e
part_other e true c x h = ap (λ q. cond q x e) h
part_other e false c x h = refl

part_on : {T : Type 0} (e : T) (b c : Bool) (x : T) → b ≡ true → c ≡ true → cond (b && c) x e ≡ x
part_on e b c x p q = ap₂ (λ a b. cond (a && b) x e) p q

module _ {T L : Type 0} (d e : T) (op : T → T → T) (mon : Monoid e op) (act : L → Bool) (dst : L → ℕ) (val : L → T) where
  fold_push : (f : L → T) (xs : List L) (x : L) → fold e op f (xs ++ x ∷ []) ≡ op (fold e op f xs) (f x)
  fold_push f [] x = mon.comm (f x) e
  fold_push f (y ∷ ys) x = ap (op (f y)) (fold_push f ys x) ∙ sym (mon.assoc (f y) (fold e op f ys) (f x))

  fold_none : (f : L → T) (xs : List L) → ((x : L) → f x ≡ e) → fold e op f xs ≡ e
  fold_none f [] h = refl
  fold_none f (x ∷ xs) h = ap₂ op (h x) (fold_none f xs h) ∙ mon.unit e

  pub spread_none : (b : List T) → Spread d e op act dst val b b []
  spread_none b j = sym (mon.unit (get_or b j d))

  push : (b a : List T) (ls : List L) (l : L) (j : ℕ) → get_or a j d ≡ op (op (get_or b j d) (fold e op (part e act dst val j) ls)) (part e act dst val j l)
      → get_or a j d ≡ op (get_or b j d) (fold e op (part e act dst val j) (ls ++ l ∷ []))
  push b a ls l j h =
      h ∙ mon.assoc (get_or b j d) (fold e op (part e act dst val j) ls) (part e act dst val j l)
      ∙ ap (op (get_or b j d)) (sym (fold_push (part e act dst val j) ls l))

  pub spread_skip : (b a : List T) (ls : List L) (l : L) → Spread d e op act dst val b a ls → act l ≡ false → Spread d e op act dst val b a (ls ++ l ∷ [])
  spread_skip b a ls l inv off j =
      push b a ls l j (inv j ∙ sym (ap (op (op (get_or b j d) (fold e op (part e act dst val j) ls))) (part_off e (act l) (eqb (dst l) j) (val l) off) ∙ mon.unit _))

  pub spread_step : (b a : List T) (ls : List L) (l : L) → Spread d e op act dst val b a ls → act l ≡ true → dst l < length a
      → Spread d e op act dst val b (set a (dst l) (op (get_or a (dst l) d) (val l))) (ls ++ l ∷ [])
  spread_step b a ls l inv on within j = ⊎_elim here there (cases_eq j (dst l))
    where
      a' : List T
      a' = set a (dst l) (op (get_or a (dst l) d) (val l))

      goal : Type 0
      goal = get_or a' j d ≡ op (get_or b j d) (fold e op (part e act dst val j) (ls ++ l ∷ []))

      here : j ≡ dst l → goal
      here h =
          push b a' ls l j
          (ap (λ k. get_or a' k d) h ∙ get_or-set_same a (dst l) (op (get_or a (dst l) d) (val l)) d within
          ∙ ap (λ k. op (get_or a k d) (val l)) (sym h)
          ∙ ap₂ op (inv j) (sym (part_on e (act l) (eqb (dst l) j) (val l) on (eq-eqb (dst l) j (sym h)))))

      there : (j ≡ dst l → ⊥) → goal
      there ne =
          push b a' ls l j
          (get_or-set_other a (dst l) j (op (get_or a (dst l) d) (val l)) d ne ∙ inv j
          ∙ sym (ap (op (op (get_or b j d) (fold e op (part e act dst val j) ls))) (part_other e (act l) (eqb (dst l) j) (val l) (ne_eqb (dst l) j (λ q. ne (sym q)))) ∙ mon.unit _))

  -- a cell that no active link writes
  pub spread_unread : (b a : List T) (ls : List L) (s : ℕ) → Spread d e op act dst val b a ls → ((l : L) → act l ≡ true → dst l ≡ s → ⊥) → get_or a s d ≡ get_or b s d
  spread_unread b a ls s inv apart =
      inv s ∙ ap (op (get_or b s d)) (fold_none (part e act dst val s) ls off) ∙ mon.unit (get_or b s d)
    where
      off : (l : L) → part e act dst val s l ≡ e
      off l = ⊎_elim (λ on. part_other e (act l) (eqb (dst l) s) (val l) (ne_eqb (dst l) s (apart l on))) (λ no'. part_off e (act l) (eqb (dst l) s) (val l) no') (cases_Bool (act l))

  -- the next link of a list
  pub next_link : (b a : List T) (links : List L) (i : ℕ) (l : L) → i < length links → l ≡ get_or links i l → Spread d e op act dst val b a (take i links ++ l ∷ []) → Spread d e op act dst val b a (take (i + 1) links)
  next_link b a links i l within read = subst (Spread d e op act dst val b a) (sym (take_more links i l within ∙ ap (λ y. take i links ++ (y ∷ [])) (sym read)))
