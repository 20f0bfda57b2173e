-- The best gains by length, and the first walk that is high.
use Rattle.std.proofs.Common.{◌≡◌, ℕ, zero, suc, ◌<◌, ◌⊎◌, List, [], ◌∷◌, length, sym, refl, ap, ◌∙◌, subst, inl, inr, ⊎_elim, arith}
use Rattle.std.proofs.lemmas.Bool.{cases_order}
use Rattle.kinds.specs.Kind.{Ops, Laws, AtMost}
use Rattle.walks.specs.Circuits.{NoLater}
use Rattle.walks.specs.Walks.{gain, AllBelow, WalksPass, best}
use Rattle.walks.specs.Searches.{Greedily}
use Rattle.plants.proofs.Order.{least_trans, product_mono, joins_term, joins_least}
use Rattle.walks.proofs.Loops.{all_pass}

module _ {T : Type 0} {o : Ops T} (laws : Laws o) (n : ℕ) (A : ℕ → ℕ → T) where
  pub best_upper : (ts : List ℕ) (a b : ℕ) → AllBelow n ts → AtMost o (gain o A a ts b) (best o n A (length ts) a b)
  best_upper [] a b all = laws.join_idem (A a b)
  best_upper (x ∷ xs) a b all =
      least_trans laws _ (o.product (A a x) (best o n A (length xs) x b)) (best o n A (suc (length xs)) a b)
      (product_mono laws (A a x) _ (best o n A (length xs) x b) (best_upper xs x b all.1))
      (joins_term laws n (λ y. o.product (A a y) (best o n A (length xs) y b)) x all.0)

  pub best_least : (s a b : ℕ) (c : T) → ((ts : List ℕ) → AllBelow n ts → length ts ≡ s → AtMost o (gain o A a ts b) c) → AtMost o (best o n A s a b) c
  best_least zero a b c h = h [] tt refl
  best_least (suc s) a b c h =
      joins_least laws n (λ x. o.product (A a x) (best o n A s x b)) c
      (λ x lt. (laws.residuation (A a x) (best o n A s x b) c).1
      (best_least s x b (o.residual (A a x) c) (λ ts all len. (laws.residuation (A a x) (gain o A x ts b) c).0 (h (x ∷ ts) (lt, all) (ap suc len)))))

  -- what the check looks at decides
  pub passes_from_best : ((s t : ℕ) → s < n → t < n → AtMost o (best o n A s t t) o.one) → WalksPass o n A
  passes_from_best h = all_pass laws A n (λ t ts tn all lt. least_trans laws (gain o A t ts t) (best o n A (length ts) t t) o.one (best_upper ts t t all) (h (length ts) t lt tn))

  pub greedy_bad : (q : T) (a : ℕ) (xs : List ℕ) (b : ℕ) → Greedily o n A q a xs b → AtMost o (o.product q (gain o A a xs b)) o.one → ⊥
  greedy_bad q a [] b g h = g h
  greedy_bad q a (x ∷ xs) b g h = greedy_bad (o.product q (A a x)) x xs b g.1 (subst (λ v. AtMost o v o.one) (sym (laws.product_assoc q (A a x) (gain o A x xs b))) h)

  pub greedy_first : (q : T) (a : ℕ) (xs : List ℕ) (b : ℕ) → Greedily o n A q a xs b → (ys : List ℕ) → AllBelow n ys → length ys ≡ length xs → (AtMost o (o.product q (gain o A a ys b)) o.one → ⊥) → NoLater xs ys
  greedy_first q a [] b g ys all len bad = tt
  greedy_first q a (x ∷ xs) b g [] all len bad = absurd (omega arith)
  greedy_first q a (x ∷ xs) b g (y ∷ ys) all len bad =
      ⊎_elim (same (λ z k. greedy_first (o.product q (A a x)) x xs b g.1 ys all.1 z k)) other (cases_order x y)
    where
      len' : length ys ≡ length xs
      len' = omega arith

      same : (length ys ≡ length xs → (AtMost o (o.product (o.product q (A a x)) (gain o A x ys b)) o.one → ⊥) → NoLater xs ys) → x ≡ y → (x < y) ⊎ ((x ≡ y) × NoLater xs ys)
      same ih e = inr (e, ih len' (λ h. bad (subst (λ v. AtMost o v o.one) (ap (λ z. o.product (o.product q (A a z)) (gain o A z ys b)) e ∙ laws.product_assoc q (A a y) (gain o A y ys b)) h)))

      other : (x < y) ⊎ (y < x) → (x < y) ⊎ ((x ≡ y) × NoLater xs ys)
      other d = ⊎_elim (λ lt. inl lt) (λ gt. absurd (bad
          (subst (λ v. AtMost o v o.one) (laws.product_assoc q (A a y) (gain o A y ys b))
          (least_trans laws _ (o.product (o.product q (A a y)) (best o n A (length xs) y b)) o.one
          (product_mono laws (o.product q (A a y)) (gain o A y ys b) (best o n A (length xs) y b) (subst (λ k. AtMost o (gain o A y ys b) (best o n A k y b)) len' (best_upper ys y b all.1)))
          (g.0 y gt))))) d
