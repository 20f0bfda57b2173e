-- A step of a loop that joins.
use Rattle.std.proofs.Common.{◌≡◌, ℕ, ◌+◌, sym, ap, ◌∙◌, add-one}
use Rattle.kinds.specs.Kind.{Ops}
use Rattle.plants.specs.Meaning.{joins}

module _ {T : Type 0} (o : Ops T) where
  pub joins_more : (n : ℕ) (f : ℕ → T) (a x : T) → a ≡ joins o n f → x ≡ f n → o.join a x ≡ joins o (n + 1) f
  joins_more n f a x e h = ap (λ y. o.join y x) e ∙ ap (o.join (joins o n f)) h ∙ ap (λ k. joins o k f) (sym (add-one n))
