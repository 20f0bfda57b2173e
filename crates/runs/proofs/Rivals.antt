-- What a due, an order and a firing leave is the best plan again.
use Rattle.std.proofs.Common.{◌≡◌, ℕ, ◌+◌, ◌<◌, ◌≤◌, sym, refl, ap, ◌∙◌, subst, ⊎_elim, arith}
use Rattle.std.proofs.lemmas.Bool.{cases_lt, cases_eq}
use Rattle.kinds.specs.Kind.{Ops, Laws, AtMost}
use Rattle.plants.specs.Meaning.{Meaning, forward_cell, backward_cell}
use Rattle.plants.specs.Theorems.{Below, Meets}
use Rattle.runs.specs.Plans.{Block, put, Agrees, Best, NoneLeft}
use Rattle.plants.proofs.Order.{least_trans, both_least}
use Rattle.plants.proofs.Galois.{meets_score, under_ceiling}
use Rattle.runs.proofs.Puts.{put_cases}

module _ {V : Type 0} {o : Ops V} (L : Laws o) (M : Meaning V) (K : ℕ) where
  under_eq : (x y c : V) → x ≡ y → AtMost o y c → AtMost o x c
  under_eq x y c e h = subst (λ v. AtMost o v c) (sym e) h

  -- a score, counts and plan that are the same within the blocks
  pub best_same : (z z' : Block V) (f f' : ℕ → ℕ) (g u u' : Block V) →
      ((y k : ℕ) → y < M.outputs → k < K → z' y k ≡ z y k) → ((i : ℕ) → i < M.inputs → f' i ≡ f i) →
      ((i : ℕ) → i < M.inputs → f i ≤ K) → ((i b : ℕ) → i < M.inputs → b < K → u' i b ≡ u i b) →
      Best o M K z f g u → Best o M K z' f' g u'
  best_same z z' f f' g u u' ez ef few eu old = record {
    meets = meets_score L M K u' z' (λ i b hi hb. under_eq (u' i b) (u i b) _ (eu i b hi hb) (under_ceiling L M K u z' (λ y k hy hk. subst (AtMost o (forward_cell o M u y k)) (sym (ez y k hy hk)) (old.meets y k hy hk)) i b hi hb));
    agrees = λ i b hi hb. let lt : b < f i = omega (arith, ef i hi) in eu i b hi (omega (arith, few i hi)) ∙ old.agrees i b hi lt;
    greatest = λ w ag me i b hi hb. subst (AtMost o (w i b)) (sym (eu i b hi hb)) (old.greatest w (λ j c hj hc. ag j c hj (omega (arith, ef j hj))) (λ y k hy hk. subst (AtMost o (forward_cell o M w y k)) (ez y k hy hk) (me y k hy hk)) i b hi hb);
  }

  -- after an accepted due: the fixed cells stay, at most their new ceiling, and the open ones are the new ceiling
  pub due_best : (z : Block V) (f : ℕ → ℕ) (g u u' : Block V) →
      Agrees M f g u → ((i : ℕ) → i < M.inputs → f i ≤ K) →
      ((i b : ℕ) → i < M.inputs → b < f i → u' i b ≡ u i b) →
      ((i b : ℕ) → i < M.inputs → f i ≤ b → b < K → u' i b ≡ backward_cell o M K z i b) →
      ((i b : ℕ) → i < M.inputs → b < f i → AtMost o (u i b) (backward_cell o M K z i b)) →
      Best o M K z f g u'
  due_best z f g u u' ag few stay free test = record {
    meets = meets_score L M K u' z (λ i b hi hb.
        ⊎_elim (λ lt. under_eq _ _ _ (stay i b hi lt) (test i b hi lt)) (λ ge. under_eq _ _ _ (free i b hi ge hb) (L.join_idem _)) (cases_lt b (f i)));
    agrees = λ i b hi lt. stay i b hi lt ∙ ag i b hi lt;
    greatest = λ w agw me i b hi hb.
        ⊎_elim
        (λ lt. subst (AtMost o (w i b)) (agw i b hi lt ∙ sym (ag i b hi lt) ∙ sym (stay i b hi lt)) (L.join_idem (w i b)))
        (λ ge. subst (AtMost o (w i b)) (sym (free i b hi ge hb)) (under_ceiling L M K w z me i b hi hb))
        (cases_lt b (f i));
  }

  -- a fixed cell that is not at most the new ceiling leaves no plan
  pub due_none : (z : Block V) (f : ℕ → ℕ) (g u : Block V) →
      Agrees M f g u → ((i : ℕ) → i < M.inputs → f i ≤ K) →
      (((i b : ℕ) → i < M.inputs → b < f i → AtMost o (u i b) (backward_cell o M K z i b)) → ⊥) →
      NoneLeft o M K z f g
  due_none z f g u ag few fails w agw me =
      fails (λ i b hi lt. under_eq _ _ _ (ag i b hi lt ∙ sym (agw i b hi lt)) (under_ceiling L M K w z me i b hi (omega (arith, few i hi))))

  -- after an order of input i, which found v at its lowest open beat
  pub order_best : (z : Block V) (f f' : ℕ → ℕ) (g u : Block V) (i : ℕ) (v : V) →
      Best o M K z f g u → v ≡ u i (f i) →
      f' i ≡ f i + 1 → ((j : ℕ) → (j ≡ i → ⊥) → f' j ≡ f j) →
      Best o M K z f' (put i (f i) v g) u
  order_best z f f' g u i v old found at other = record {
    meets = old.meets;
    agrees = λ j b hj hb.
        put_cases i (f i) v g j b (λ x. u j b ≡ x)
        (λ ej eb. (λ n. u (ej n) (eb n)) ∙ sym found)
        (λ ne. old.agrees j b hj (earlier j b hb ne));
    greatest = λ w ag me. old.greatest w (λ j b hj hb. ag j b hj (later j b hb) ∙ put_cases i (f i) v g j b (λ x. x ≡ g j b) (λ ej eb. absurd (omega (arith, ap f ej))) (λ ne. refl)) me;
  }
    where
      earlier : (j b : ℕ) → b < f' j → (j ≡ i → b ≡ f i → ⊥) → b < f j
      earlier j b hb ne =
          ⊎_elim
          (λ e. let ej : f' j ≡ f' i = ap f' e in let fj : f j ≡ f i = ap f e in let nb : b ≡ f i → ⊥ = ne e in ⊎_elim (λ eb. absurd (nb eb)) (λ nb'. omega arith) (cases_eq b (f i)))
          (λ n. omega (arith, other j n))
          (cases_eq j i)

      later : (j b : ℕ) → b < f j → b < f' j
      later j b hb =
          ⊎_elim (λ e. let ej : f' j ≡ f' i = ap f' e in let fj : f j ≡ f i = ap f e in omega arith) (λ n. omega (arith, other j n)) (cases_eq j i)

  -- after v, at most what stood there, is written into a fixed cell
  pub give_best : (z : Block V) (f : ℕ → ℕ) (g u : Block V) (i b : ℕ) (v : V) →
      Best o M K z f g u → i < M.inputs → b < f i → f i ≤ K → AtMost o v (u i b) →
      Best o M K z f (put i b v g) (put i b v u)
  give_best z f g u i b v old hi hb few le = record {
    meets = meets_score L M K (put i b v u) z (λ j k hj hk.
        put_cases i b v u j k (λ x. AtMost o x (backward_cell o M K z j k))
        (λ ej ek. least_trans L v (u j k) _ (subst (λ x. AtMost o v x) (λ n. u (sym ej n) (sym ek n)) le) (below j k hj hk))
        (λ ne. below j k hj hk));
    agrees = λ j k hj hk.
        put_cases i b v u j k (λ x. x ≡ put i b v g j k)
        (λ ej ek. put_cases i b v g j k (λ x. v ≡ x) (λ a c. refl) (λ ne. absurd (ne ej ek)))
        (λ ne. put_cases i b v g j k (λ x. u j k ≡ x) (λ a c. absurd (ne a c)) (λ n. old.agrees j k hj hk));
    greatest = λ w ag me j k hj hk.
        put_cases i b v u j k (λ x. AtMost o (w j k) x)
        (λ ej ek. under_eq _ _ _ (agreed w ag j k hj ej ek) (L.join_idem v))
        (λ ne. put_cases i b (u i b) w j k (λ x. AtMost o x (u j k) → AtMost o (w j k) (u j k)) (λ a c h. absurd (ne a c)) (λ n h. h) (raised w ag me j k hj hk));
  }
    where
      below : Below o M.inputs K u (backward_cell o M K z)
      below = under_ceiling L M K u z old.meets

      agreed : (w : Block V) → Agrees M f (put i b v g) w → (j k : ℕ) → j < M.inputs → j ≡ i → k ≡ b → w j k ≡ v
      agreed w ag j k hj ej ek =
          ag j k hj (let fj : f j ≡ f i = ap f ej in omega arith) ∙ put_cases i b v g j k (λ x. x ≡ v) (λ a c. refl) (λ ne. absurd (ne ej ek))

      -- the rival with our old value at the cell is a rival of the old plan
      raised : (w : Block V) → Agrees M f (put i b v g) w → Meets o M K w z → Below o M.inputs K (put i b (u i b) w) u
      raised w ag me = old.greatest (put i b (u i b) w)
          (λ j k hj hk. put_cases i b (u i b) w j k (λ x. x ≡ g j k)
          (λ ej ek. (λ n. u (sym ej n) (sym ek n)) ∙ old.agrees j k hj hk)
          (λ ne. ag j k hj hk ∙ put_cases i b v g j k (λ x. x ≡ g j k) (λ a c. absurd (ne a c)) (λ n. refl)))
          (meets_score L M K (put i b (u i b) w) z (λ j k hj hk. put_cases i b (u i b) w j k (λ x. AtMost o x (backward_cell o M K z j k))
          (λ ej ek. under_eq _ _ _ (λ n. u (sym ej n) (sym ek n)) (below j k hj hk))
          (λ ne. under_ceiling L M K w z me j k hj hk)))

  -- two best plans are one
  pub best_one : (z : Block V) (f : ℕ → ℕ) (g u u' : Block V) → Best o M K z f g u → Best o M K z f g u' → (i b : ℕ) → i < M.inputs → b < K → u i b ≡ u' i b
  best_one z f g u u' p q i b hi hb = both_least L _ _ (q.greatest u p.agrees p.meets i b hi hb) (p.greatest u' q.agrees q.meets i b hi hb)
