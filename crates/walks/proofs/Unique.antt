-- At most one list is named.
use Rattle.std.proofs.Common.{◌≡◌, ℕ, suc, List, [], ◌∷◌, length, sym, refl, ap, ◌∙◌, subst, ap₂, ⊎_elim, arith}
use Rattle.kinds.specs.Kind.{Ops}
use Rattle.walks.specs.Circuits.{NoLater, Named, transitions_of}
use Rattle.links.specs.declared.Link.{Link}

no_later_both : (xs ys : List ℕ) → length xs ≡ length ys → NoLater xs ys → NoLater ys xs → xs ≡ ys
no_later_both [] [] e p q = refl
no_later_both [] (y ∷ ys) e p q = absurd (omega arith)
no_later_both (x ∷ xs) [] e p q = absurd p
no_later_both (x ∷ xs) (y ∷ ys) e p q =
    ⊎_elim (λ lt. ⊎_elim (λ gt. absurd (omega arith)) (λ r. let z : y ≡ x = r.0 in absurd (omega arith)) q)
    (λ s. ⊎_elim (λ gt. let z : x ≡ y = s.0 in absurd (omega arith)) (λ r. ap₂ (λ a rest. a ∷ rest) s.0 (no_later_both xs ys (omega arith) s.1 r.1)) q) p

pub transitions_long : {T : Type 0} (ps : List (Link T)) → length (transitions_of ps) ≡ length ps
transitions_long [] = refl
transitions_long (l ∷ ps) = ap suc (transitions_long ps)

pub named_once : {T : Type 0} (o : Ops T) (n : ℕ) (links : List (Link T)) (ts us : List ℕ) → Named o n links ts → Named o n links us → ts ≡ us
named_once {T = T} o n links ts us a b =
    no_later_both ts us same (subst (NoLater ts) us_is (a.first b.faulty.0 b.faulty.1 (sym us_long ∙ sym same))) (subst (NoLater us) ts_is (b.first a.faulty.0 a.faulty.1 (sym ts_long ∙ same)))
  where
    ts_is : transitions_of a.faulty.0 ≡ ts
    ts_is = a.faulty.2

    us_is : transitions_of b.faulty.0 ≡ us
    us_is = b.faulty.2

    ts_long : length ts ≡ length a.faulty.0
    ts_long = ap length (sym ts_is) ∙ transitions_long a.faulty.0

    us_long : length us ≡ length b.faulty.0
    us_long = ap length (sym us_is) ∙ transitions_long b.faulty.0

    same : length ts ≡ length us
    same =
        let p = a.shortest b.faulty.0 b.faulty.1 in
        let q = b.shortest a.faulty.0 a.faulty.1 in
        let e = ts_long in let f = us_long in omega arith
