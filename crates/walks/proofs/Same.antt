-- Walks by equal arcs.
use Rattle.std.proofs.Common.{◌≡◌, ℕ, zero, suc, ◌<◌, List, [], ◌∷◌, length, sym, subst, ap₂, arith}
use Rattle.kinds.specs.Kind.{Ops, AtMost}
use Rattle.plants.proofs.Blocks.{joins_same}
use Rattle.walks.specs.Walks.{AllBelow, best}
use Rattle.walks.specs.Searches.{Greedily, Sought}

module _ {T : Type 0} (o : Ops T) (n : ℕ) where
  pub best_same : (A B : ℕ → ℕ → T) → ((a x : ℕ) → a < n → x < n → A a x ≡ B a x) → (s a b : ℕ) → a < n → b < n → best o n A s a b ≡ best o n B s a b
  best_same A B h zero a b an bn = h a b an bn
  best_same A B h (suc s) a b an bn = joins_same o n _ _ (λ x xn. ap₂ o.product (h a x an xn) (best_same A B h s x b xn bn))

module _ {T : Type 0} (o : Ops T) (n : ℕ) (A B : ℕ → ℕ → T) (same : (a x : ℕ) → a < n → x < n → A a x ≡ B a x) where
  pub sought_by : (start more : ℕ) → start < n → Sought o n A n start more → Sought o n B n start more
  sought_by start more sn h = record {
    within = h.within;
    shorter = λ s t sm tn. subst (λ v. AtMost o v o.one) (best_same o n A B same s t t tn tn) (h.shorter s t sm tn);
    earlier = λ t lt. subst (λ v. AtMost o v o.one) (best_same o n A B same more t t (omega arith) (omega arith)) (h.earlier t lt);
    bad = λ lt. let q = h.bad lt in (q.0, λ k. q.1 (subst (λ v. AtMost o v o.one) (sym (best_same o n A B same more start start q.0 q.0)) k));
  }

  pub greedily_by : (q : T) (a : ℕ) (xs : List ℕ) (b : ℕ) → a < n → AllBelow n xs → b < n → Greedily o n A q a xs b → Greedily o n B q a xs b
  greedily_by q a [] b an all bn g = λ h. g (subst (λ v. AtMost o (o.product q v) o.one) (sym (same a b an bn)) h)
  greedily_by q a (x ∷ xs) b an all bn g = (
    λ y yx.
        let xn : x < n = all.0 in
        let yn : y < n = omega arith in
        subst (λ v. AtMost o v o.one) (ap₂ (λ u v. o.product (o.product q u) v) (same a y an yn) (best_same o n A B same (length xs) y b yn bn)) (g.0 y yx),
    subst (λ u. Greedily o n B (o.product q u) x xs b) (same a x an all.0) (greedily_by (o.product q (A a x)) x xs b all.0 all.1 bn g.1),
  )
