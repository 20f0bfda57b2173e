-- Joins and meets over a list, and what links bring and allow.
use Rattle.std.proofs.Common.{◌≡◌, ℕ, Bool, true, false, cond, ◌&&◌, eqb, List, [], ◌∷◌, sym, refl, ap, ◌∙◌, subst, ap₂, inl, inr, ⊎_elim}
use Rattle.std.proofs.lemmas.Bool.{and_parts, eqb-true, eq-eqb, cases_Bool}
use Rattle.kinds.specs.Kind.{Ops, Laws, AtMost}
use Rattle.plants.proofs.Order.{least_trans, join_left, join_right, join_least, meet_both, under_left, under_right}
use Rattle.walks.proofs.Joined.{joined_term, joined_least, gate_least}
use Rattle.walks.specs.Circuits.{Among}
use Rattle.walks.specs.Folds.{fold, gate, joined, pass, met}

-- a fold, term by term
pub fold_same : {T : Type 0} (e : T) (op : T → T → T) {L : Type 0} (f g : L → T) (xs : List L) → ((x : L) → f x ≡ g x) → fold e op f xs ≡ fold e op g xs
fold_same e op f g [] h = refl
fold_same e op f g (x ∷ xs) h = ap₂ op (h x) (fold_same e op f g xs h)

-- a fold over the links that act depends on these only; `end` is the end that they go by
pub acting_same : {T L : Type 0} (e : T) (op : T → T → T) (act : L → Bool) (end : L → ℕ) (val val' : L → T) (links : List L) (t : ℕ) → ((l : L) → act l ≡ true → val l ≡ val' l)
    → fold e op (λ l. cond (act l && eqb (end l) t) (val l) e) links ≡ fold e op (λ l. cond (act l && eqb (end l) t) (val' l) e) links
acting_same e op act end val val' links t h = fold_same e op _ _ links (λ l. ⊎_elim
    (λ on. ap (λ v. cond (act l && eqb (end l) t) v e) (h l on))
    (λ off. ap (λ b. cond (b && eqb (end l) t) (val l) e) off ∙ sym (ap (λ b. cond (b && eqb (end l) t) (val' l) e) off))
    (cases_Bool (act l)))

module _ {T : Type 0} {o : Ops T} (laws : Laws o) where
  pub joined_join : {L : Type 0} (f g : L → T) (xs : List L) → o.join (joined o f xs) (joined o g xs) ≡ joined o (λ l. o.join (f l) (g l)) xs
  joined_join f g [] = laws.join_idem o.bottom
  joined_join f g (x ∷ xs) =
      swap (f x) (joined o f xs) (g x) (joined o g xs) ∙ ap (o.join (o.join (f x) (g x))) (joined_join f g xs)
    where
      swap : (a b c d : T) → o.join (o.join a b) (o.join c d) ≡ o.join (o.join a c) (o.join b d)
      swap a b c d =
          laws.join_assoc a b (o.join c d)
          ∙ ap (o.join a) (sym (laws.join_assoc b c d) ∙ ap (λ z. o.join z d) (laws.join_comm b c) ∙ laws.join_assoc c b d)
          ∙ sym (laws.join_assoc a c (o.join b d))

  pub join_mono : (a b c d : T) → AtMost o a c → AtMost o b d → AtMost o (o.join a b) (o.join c d)
  join_mono a b c d p q = join_least laws a b (o.join c d) (least_trans laws a c _ p (join_left laws c d)) (least_trans laws b d _ q (join_right laws c d))

  pub joined_rises : {L : Type 0} (f g : L → T) (xs : List L) → ((x : L) → AtMost o (f x) (g x)) → AtMost o (joined o f xs) (joined o g xs)
  joined_rises f g [] h = laws.join_idem o.bottom
  joined_rises f g (y ∷ ys) h = join_mono (f y) (joined o f ys) (g y) (joined o g ys) (h y) (joined_rises f g ys h)

  pub gate_rises : (b c : Bool) (x y : T) → (b ≡ true → AtMost o x y) → AtMost o (gate o (b && c) x) (gate o (b && c) y)
  gate_rises true true x y h = h refl
  gate_rises true false x y h = laws.join_idem o.bottom
  gate_rises false c x y h = laws.join_idem o.bottom

module _ {T : Type 0} {o : Ops T} (laws : Laws o) where
  pub met_lower : {L : Type 0} (f : L → T) (xs : List L) (x : L) → Among x xs → AtMost o (met o f xs) (f x)
  met_lower f [] x m = absurd m
  met_lower f (y ∷ ys) x m =
      ⊎_elim (λ e. subst (λ z. AtMost o (met o f (y ∷ ys)) (f z)) (sym e) (under_left laws (f y) (met o f ys)))
      (λ r. least_trans laws (met o f (y ∷ ys)) (met o f ys) (f x) (under_right laws (f y) (met o f ys)) (met_lower f ys x r)) m

  pub met_greatest : {L : Type 0} (f : L → T) (xs : List L) (b : T) → ((x : L) → Among x xs → AtMost o b (f x)) → AtMost o b (met o f xs)
  met_greatest f [] b h = laws.below_top b
  met_greatest f (y ∷ ys) b h = meet_both laws b (f y) (met o f ys) (h y (inl refl)) (met_greatest f ys b (λ x m. h x (inr m)))

  pub pass_greatest : (t : Bool) (x b : T) → (t ≡ true → AtMost o b x) → AtMost o b (pass o t x)
  pass_greatest true x b h = h refl
  pass_greatest false x b h = laws.below_top b

  -- a leg over the links that are active: `end` is the end that it goes by
  module _ {L : Type 0} (act : L → Bool) (end : L → ℕ) (val : L → T) (links : List L) (t : ℕ) where
    pub brought_upper : (l : L) → Among l links → act l ≡ true → end l ≡ t → AtMost o (val l) (joined o (λ k. gate o (act k && eqb (end k) t) (val k)) links)
    brought_upper l mem on e =
        subst (λ v. AtMost o v (joined o (λ k. gate o (act k && eqb (end k) t) (val k)) links)) (ap₂ (λ d q. gate o (d && q) (val l)) on (eq-eqb (end l) t e))
        (joined_term laws (λ k. gate o (act k && eqb (end k) t) (val k)) links l mem)

    pub brought_least : (b : T) → ((l : L) → Among l links → act l ≡ true → end l ≡ t → AtMost o (val l) b) → AtMost o (joined o (λ k. gate o (act k && eqb (end k) t) (val k)) links) b
    brought_least b h = joined_least laws (λ k. gate o (act k && eqb (end k) t) (val k)) links b (λ l mem. gate_least laws (act l && eqb (end l) t) (val l) b
        (λ on. let a = and_parts (act l) (eqb (end l) t) on in h l mem a.0 (eqb-true (end l) t a.1)))

    pub allowed_lower : (l : L) → Among l links → act l ≡ true → end l ≡ t → AtMost o (met o (λ k. pass o (act k && eqb (end k) t) (val k)) links) (val l)
    allowed_lower l mem on e =
        subst (AtMost o (met o (λ k. pass o (act k && eqb (end k) t) (val k)) links)) (ap₂ (λ d q. pass o (d && q) (val l)) on (eq-eqb (end l) t e))
        (met_lower (λ k. pass o (act k && eqb (end k) t) (val k)) links l mem)

    pub allowed_greatest : (b : T) → ((l : L) → Among l links → act l ≡ true → end l ≡ t → AtMost o b (val l)) → AtMost o b (met o (λ k. pass o (act k && eqb (end k) t) (val k)) links)
    allowed_greatest b h = met_greatest (λ k. pass o (act k && eqb (end k) t) (val k)) links b (λ l mem. pass_greatest (act l && eqb (end l) t) (val l) b
        (λ on. let a = and_parts (act l) (eqb (end l) t) on in h l mem a.0 (eqb-true (end l) t a.1)))
