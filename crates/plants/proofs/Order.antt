-- What the laws of a kind give of its order, of joins and of meets.
use Rattle.std.proofs.Common.{◌≡◌, ℕ, zero, suc, ◌<◌, sym, ap, ◌∙◌, ⊎_elim, arith}
use Rattle.std.proofs.lemmas.Bool.{cases_eq}
use Rattle.kinds.specs.Kind.{Ops, Laws, AtMost}
use Rattle.plants.specs.Meaning.{joins, meets}

module _ {T : Type 0} {o : Ops T} (L : Laws o) where
  pub least_trans : (a b c : T) → AtMost o a b → AtMost o b c → AtMost o a c
  least_trans a b c p q = ap (o.join a) (sym q) ∙ sym (L.join_assoc a b c) ∙ ap (λ x. o.join x c) p ∙ q

  pub both_least : (a b : T) → AtMost o a b → AtMost o b a → a ≡ b
  both_least a b p q = sym q ∙ L.join_comm b a ∙ p

  pub same_least : (a b : T) → a ≡ b → AtMost o a b
  same_least a b e = ap (λ x. o.join x b) e ∙ L.join_idem b

  pub join_left : (a b : T) → AtMost o a (o.join a b)
  join_left a b = sym (L.join_assoc a a b) ∙ ap (λ x. o.join x b) (L.join_idem a)

  pub join_right : (a b : T) → AtMost o b (o.join a b)
  join_right a b = ap (o.join b) (L.join_comm a b) ∙ join_left b a ∙ L.join_comm b a

  pub join_least : (a b c : T) → AtMost o a c → AtMost o b c → AtMost o (o.join a b) c
  join_least a b c p q = L.join_assoc a b c ∙ ap (o.join a) q ∙ p

  pub bottom_least : (a : T) → AtMost o o.bottom a
  bottom_least a = L.join_bottom a

  -- the laws of meet, product and residual, as steps
  pub meet_left : (x a b : T) → AtMost o x (o.meet a b) → AtMost o x a
  meet_left x a b h = ((L.below_meet x a b).0 h).0

  pub meet_right : (x a b : T) → AtMost o x (o.meet a b) → AtMost o x b
  meet_right x a b h = ((L.below_meet x a b).0 h).1

  pub meet_both : (x a b : T) → AtMost o x a → AtMost o x b → AtMost o x (o.meet a b)
  meet_both x a b p q = (L.below_meet x a b).1 (p, q)

  pub under_left : (a b : T) → AtMost o (o.meet a b) a
  under_left a b = meet_left (o.meet a b) a b (L.join_idem (o.meet a b))

  pub under_right : (a b : T) → AtMost o (o.meet a b) b
  under_right a b = meet_right (o.meet a b) a b (L.join_idem (o.meet a b))

  pub to_residual : (a x b : T) → AtMost o (o.product a x) b → AtMost o x (o.residual a b)
  to_residual a x b = (L.residuation a x b).0

  pub from_residual : (a x b : T) → AtMost o x (o.residual a b) → AtMost o (o.product a x) b
  from_residual a x b = (L.residuation a x b).1

  -- the units of join and product, on the right
  pub bottom_join : (a : T) → o.join a o.bottom ≡ a
  bottom_join a = L.join_comm a o.bottom ∙ L.join_bottom a

  pub times_one : (a : T) → o.product a o.one ≡ a
  times_one a = L.product_comm a o.one ∙ L.product_one a

  pub times_bottom : (a : T) → o.product a o.bottom ≡ o.bottom
  times_bottom a = L.product_comm a o.bottom ∙ L.product_bottom a

  pub product_mono : (x a b : T) → AtMost o a b → AtMost o (o.product x a) (o.product x b)
  product_mono x a b p = sym (L.product_join x a b) ∙ ap (o.product x) p

  pub product_mono_left : (x y a : T) → AtMost o x y → AtMost o (o.product x a) (o.product y a)
  product_mono_left x y a p = ap (λ z. o.join z (o.product y a)) (L.product_comm x a) ∙ ap (o.join (o.product a x)) (L.product_comm y a) ∙ product_mono a x y p ∙ L.product_comm a y

  pub joins_term : (n : ℕ) (f : ℕ → T) (k : ℕ) → k < n → AtMost o (f k) (joins o n f)
  joins_term zero f k h = absurd (omega arith)
  joins_term (suc n) f k h = ⊎_elim
      (λ e. least_trans _ _ _ (same_least (f k) (f n) (ap f e)) (join_right (joins o n f) (f n)))
      (λ ne. least_trans _ _ _ (joins_term n f k (let g : (k ≡ n → ⊥) = ne in omega arith)) (join_left (joins o n f) (f n)))
      (cases_eq k n)

  pub joins_least : (n : ℕ) (f : ℕ → T) (b : T) → ((k : ℕ) → k < n → AtMost o (f k) b) → AtMost o (joins o n f) b
  joins_least zero f b e = bottom_least b
  joins_least (suc n) f b e = join_least _ _ _ (joins_least n f b (λ k h. e k (omega arith))) (e n (omega arith))

  pub meets_term : (n : ℕ) (f : ℕ → T) (k : ℕ) → k < n → AtMost o (meets o n f) (f k)
  meets_term zero f k h = absurd (omega arith)
  meets_term (suc n) f k h = ⊎_elim
      (λ e. least_trans _ _ _ (meet_right _ (meets o n f) (f n) (L.join_idem _)) (same_least (f n) (f k) (ap f (sym e))))
      (λ ne. least_trans _ _ _ (meet_left _ (meets o n f) (f n) (L.join_idem _)) (meets_term n f k (let g : (k ≡ n → ⊥) = ne in omega arith)))
      (cases_eq k n)

  pub meets_greatest : (n : ℕ) (f : ℕ → T) (b : T) → ((k : ℕ) → k < n → AtMost o b (f k)) → AtMost o b (meets o n f)
  meets_greatest zero f b e = L.below_top b
  meets_greatest (suc n) f b e = meet_both _ _ _ (meets_greatest n f b (λ k h. e k (omega arith))) (e n (omega arith))

  -- a product with a join is at most b where each product is
  pub times_joins : (n : ℕ) (f : ℕ → T) (x b : T) → ((k : ℕ) → k < n → AtMost o (o.product x (f k)) b) → AtMost o (o.product x (joins o n f)) b
  times_joins n f x b e = from_residual x _ b (joins_least n f _ (λ k h. to_residual x (f k) b (e k h)))

  pub joins_times : (n : ℕ) (f : ℕ → T) (y b : T) → ((k : ℕ) → k < n → AtMost o (o.product (f k) y) b) → AtMost o (o.product (joins o n f) y) b
  joins_times n f y b e = ap (λ x. o.join x b) (L.product_comm _ y)
      ∙ times_joins n f y b (λ k h. ap (λ x. o.join x b) (L.product_comm y (f k)) ∙ e k h)
