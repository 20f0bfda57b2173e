-- A kind whose values are ranked by numbers, one value to a rank.
use Rattle.std.specs.Prelude.{◌≡◌, ℕ, ◌≤◌, min, max, true, cond, ◌↔◌, nat_le}
use Rattle.std.proofs.Common.{sym, ap, ◌∙◌, arith, leb-true, leb-false, le-leb}
use Rattle.std.proofs.lemmas.Bool.{cond_both}
use Rattle.kinds.specs.Kind.{Ops, AtMost}

pub larger_rank : {T : Type 0} (f : T → ℕ) (a b : T) → f (cond (nat_le (f a) (f b)) b a) ≡ max (f a) (f b)
larger_rank f a b =
    cond_both (nat_le (f a) (f b)) b a (λ r. f r ≡ max (f a) (f b)) (λ e. omega (arith, leb-true (f a) (f b) e)) (λ e. omega (arith, leb-false (f a) (f b) e))

pub smaller_rank : {T : Type 0} (f : T → ℕ) (a b : T) → f (cond (nat_le (f a) (f b)) a b) ≡ min (f a) (f b)
smaller_rank f a b =
    cond_both (nat_le (f a) (f b)) a b (λ r. f r ≡ min (f a) (f b)) (λ e. omega (arith, leb-true (f a) (f b) e)) (λ e. omega (arith, leb-false (f a) (f b) e))

-- join goes by the larger rank, meet by the smaller, and the question compares ranks
pub record Ranked {T : Type 0} (o : Ops T) : Type 0 where
  pub rank : T → ℕ
  pub same : (a b : T) → rank a ≡ rank b → a ≡ b
  pub joins : (a b : T) → rank (o.join a b) ≡ max (rank a) (rank b)
  pub meets : (a b : T) → rank (o.meet a b) ≡ min (rank a) (rank b)
  pub asks : (a b : T) → o.at_most a b ≡ nat_le (rank a) (rank b)
  pub least : rank o.bottom ≡ 0
  pub most : (a : T) → rank a ≤ rank o.top

module _ {T : Type 0} {o : Ops T} (k : Ranked o) where
  pub at_most : (a b : T) → k.rank a ≤ k.rank b → AtMost o a b
  at_most a b h = k.same _ _ (omega (arith, k.joins a b))

  pub ranks : (a b : T) → AtMost o a b → k.rank a ≤ k.rank b
  ranks a b e = omega (arith, k.joins a b, ap k.rank e)

  pub join_assoc : (a b c : T) → o.join (o.join a b) c ≡ o.join a (o.join b c)
  join_assoc a b c = k.same _ _ (omega (arith, k.joins a b, k.joins (o.join a b) c, k.joins b c, k.joins a (o.join b c)))

  pub join_comm : (a b : T) → o.join a b ≡ o.join b a
  join_comm a b = k.same _ _ (omega (arith, k.joins a b, k.joins b a))

  pub join_idem : (a : T) → o.join a a ≡ a
  join_idem a = k.same _ _ (omega (arith, k.joins a a))

  pub join_bottom : (a : T) → o.join o.bottom a ≡ a
  join_bottom a = k.same _ _ (omega (arith, k.joins o.bottom a, k.least))

  pub answers : (a b : T) → (o.at_most a b ≡ true) ↔ AtMost o a b
  answers a b = (
    (λ e. at_most a b (leb-true (k.rank a) (k.rank b) (sym (k.asks a b) ∙ e))),
    (λ e. k.asks a b ∙ le-leb (k.rank a) (k.rank b) (ranks a b e)),
  )

  pub below_top : (a : T) → AtMost o a o.top
  below_top a = at_most a o.top (k.most a)

  pub below_meet : (x a b : T) → AtMost o x (o.meet a b) ↔ (AtMost o x a × AtMost o x b)
  below_meet x a b = (
    (λ e. (at_most x a (omega (arith, ranks x (o.meet a b) e, k.meets a b)), at_most x b (omega (arith, ranks x (o.meet a b) e, k.meets a b)))),
    (λ h. at_most x (o.meet a b) (omega (arith, ranks x a h.0, ranks x b h.1, k.meets a b))),
  )

  -- a law about "at most" from one about ranks
  pub iff : (a b c d : T) → (k.rank a ≤ k.rank b → k.rank c ≤ k.rank d) → (k.rank c ≤ k.rank d → k.rank a ≤ k.rank b) → AtMost o a b ↔ AtMost o c d
  iff a b c d f g = ((λ e. at_most c d (f (ranks a b e))), (λ e. at_most a b (g (ranks c d e))))
