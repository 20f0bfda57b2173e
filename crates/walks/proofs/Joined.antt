-- Joins over a list, and values that count only where a test passes.
use Rattle.std.proofs.Common.{◌≡◌, Bool, true, false, ◌⊎◌, List, [], ◌∷◌, ◌++◌, sym, refl, ap, ◌∙◌, subst, ap₂, inl, inr, ⊎_elim}
use Rattle.std.proofs.lemmas.Bool.{cases_Bool, false≢true}
use Rattle.kinds.specs.Kind.{Ops, Laws, AtMost}
use Rattle.plants.proofs.Order.{least_trans, join_left, join_right, join_least}
use Rattle.walks.specs.Folds.{gate, joined}
use Rattle.walks.specs.Circuits.{Among}

module _ {T : Type 0} {o : Ops T} (laws : Laws o) where
  -- the kind's question decides
  pub decided : (a b : T) → AtMost o a b ⊎ (AtMost o a b → ⊥)
  decided a b = ⊎_elim
      (λ yes. inl ((laws.answers a b).0 yes))
      (λ no. inr (λ h. false≢true (sym no ∙ (laws.answers a b).1 h)))
      (cases_Bool (o.at_most a b))

  pub joined_term : {L : Type 0} (f : L → T) (xs : List L) (x : L) → Among x xs → AtMost o (f x) (joined o f xs)
  joined_term f [] x m = absurd m
  joined_term f (y ∷ ys) x m =
      ⊎_elim (λ e. subst (λ z. AtMost o (f z) (joined o f (y ∷ ys))) (sym e) (join_left laws (f y) (joined o f ys)))
      (λ r. least_trans laws (f x) (joined o f ys) (joined o f (y ∷ ys)) (joined_term f ys x r) (join_right laws (f y) (joined o f ys))) m

  pub joined_least : {L : Type 0} (f : L → T) (xs : List L) (b : T) → ((x : L) → Among x xs → AtMost o (f x) b) → AtMost o (joined o f xs) b
  joined_least f [] b h = laws.join_bottom b
  joined_least f (y ∷ ys) b h = join_least laws (f y) (joined o f ys) b (h y (inl refl)) (joined_least f ys b (λ x m. h x (inr m)))

  pub gate_least : (t : Bool) (x b : T) → (t ≡ true → AtMost o x b) → AtMost o (gate o t x) b
  gate_least true x b h = h refl
  gate_least false x b h = laws.join_bottom b

  pub joined_push : {L : Type 0} (f : L → T) (xs : List L) (x : L) → joined o f (xs ++ x ∷ []) ≡ o.join (joined o f xs) (f x)
  joined_push f [] x = laws.join_comm (f x) o.bottom
  joined_push f (y ∷ ys) x = ap (o.join (f y)) (joined_push f ys x) ∙ sym (laws.join_assoc (f y) (joined o f ys) (f x))

  pub joined_bottom : {L : Type 0} (f : L → T) (xs : List L) → ((x : L) → f x ≡ o.bottom) → joined o f xs ≡ o.bottom
  joined_bottom f [] h = refl
  joined_bottom f (x ∷ xs) h = ap₂ o.join (h x) (joined_bottom f xs h) ∙ laws.join_bottom o.bottom

pub joined_same : {T : Type 0} (o : Ops T) {L : Type 0} (f g : L → T) (xs : List L) → ((x : L) → f x ≡ g x) → joined o f xs ≡ joined o g xs
joined_same o f g [] h = refl
joined_same o f g (x ∷ xs) h = ap₂ o.join (h x) (joined_same o f g xs h)
