-- Among more than n numbers below n two are equal.
use Rattle.std.proofs.Common.{◌≡◌, ℕ, zero, suc, ◌+◌, ◌<◌, ◌≤◌, Bool, true, false, cond, ◌||◌, eqb, ◌⊎◌, List, [], ◌∷◌, ◌++◌, length, sym, refl, ap, ◌∙◌, ap₂, inl, inr, ⊎_elim, arith}
use Rattle.std.proofs.lemmas.Bool.{eq-eqb, ne_eqb, eqb-true, cases_eq, cases_Bool, or_cases, false≢true}
use Rattle.walks.specs.Walks.{AllBelow}

-- how many numbers below n pass the test
abbrev count : (ℕ → Bool) → ℕ → ℕ
count f zero = 0
count f (suc n) = cond (f n) 1 0 + count f n

count_all : (f : ℕ → Bool) (n : ℕ) → count f n ≤ n
count_all f zero = omega arith
count_all f (suc n) = let h = count_all f n in elim (f n) as (λ b. cond b 1 0 + count f n ≤ suc n) [ true ↦ omega arith | false ↦ omega arith ]

abbrev mark : (ℕ → Bool) → ℕ → ℕ → Bool
mark f v k = eqb k v || f k

count_past : (f : ℕ → Bool) (v n : ℕ) → n ≤ v → count (mark f v) n ≡ count f n
count_past f v zero h = refl
count_past f v (suc n) h =
    ap₂ (λ b k. cond (b || f n) 1 0 + k) (ne_eqb n v (λ e. omega arith)) (count_past f v n (omega arith))

count_mark : (f : ℕ → Bool) (v n : ℕ) → v < n → f v ≡ false → count (mark f v) n ≡ suc (count f n)
count_mark f v zero h e = absurd (omega arith)
count_mark f v (suc n) h e = ⊎_elim here (there (λ k. count_mark f v n k e)) (cases_eq n v)
  where
    here : n ≡ v → count (mark f v) (suc n) ≡ suc (count f (suc n))
    here q =
        let fn : f n ≡ false = ap f q ∙ e in
        ap₂ (λ b k. cond (b || f n) 1 0 + k) (eq-eqb n v q) (count_past f v n (omega arith))
        ∙ (let z : 1 + count f n ≡ suc (0 + count f n) = omega arith in z)
        ∙ ap (λ b. suc (cond b 1 0 + count f n)) (sym fn)

    there : (v < n → count (mark f v) n ≡ suc (count f n)) → (n ≡ v → ⊥) → count (mark f v) (suc n) ≡ suc (count f (suc n))
    there ih ne =
        ap₂ (λ b k. cond (b || f n) 1 0 + k) (ne_eqb n v ne) (ih (omega arith))
        ∙ (let z : cond (f n) 1 0 + suc (count f n) ≡ suc (cond (f n) 1 0 + count f n) = omega arith in z)

-- the list is as ++ v ∷ cs, for some v of the test
abbrev pub Meets : (ℕ → Bool) → List ℕ → Type 0
Meets f xs = (before : List ℕ) × (v : ℕ) × (after : List ℕ) × (xs ≡ before ++ v ∷ after) × (f v ≡ true)

-- the list holds a number twice
abbrev pub Twice : List ℕ → Type 0
Twice xs = (before : List ℕ) × (v : ℕ) × (between : List ℕ) × (after : List ℕ) × (xs ≡ before ++ v ∷ (between ++ v ∷ after))

longer_twice : (x : ℕ) (xs : List ℕ) → Twice xs → Twice (x ∷ xs)
longer_twice x xs (b, v, c, d, e) = (x ∷ b, v, c, d, ap (λ l. x ∷ l) e)

clash : (n : ℕ) (seen : ℕ → Bool) (xs : List ℕ) → AllBelow n xs → (Twice xs ⊎ Meets seen xs) ⊎ (count seen n + length xs ≤ n)
clash n seen [] all = let h = count_all seen n in inr (omega arith)
clash n seen (x ∷ xs) all =
    ⊎_elim (λ on. inl (inr ([], x, xs, refl, on))) (λ off. more off (clash n (mark seen x) xs all.1)) (cases_Bool (seen x))
  where
    met : Meets (mark seen x) xs → (Twice (x ∷ xs) ⊎ Meets seen (x ∷ xs)) ⊎ (count seen n + length (x ∷ xs) ≤ n)
    met m =
        let e : xs ≡ m.0 ++ m.1 ∷ m.2 = m.3 in
        ⊎_elim
        (λ q. let vx : m.1 ≡ x = eqb-true m.1 x q in inl (inl ([], x, m.0, m.2, ap (λ l. x ∷ l) (e ∙ ap (λ v. m.0 ++ v ∷ m.2) vx))))
        (λ q. inl (inr (x ∷ m.0, m.1, m.2, ap (λ l. x ∷ l) e, q)))
        (or_cases (eqb m.1 x) (seen m.1) m.4)

    more : seen x ≡ false → (Twice xs ⊎ Meets (mark seen x) xs) ⊎ (count (mark seen x) n + length xs ≤ n) → (Twice (x ∷ xs) ⊎ Meets seen (x ∷ xs)) ⊎ (count seen n + length (x ∷ xs) ≤ n)
    more off (inl (inl t)) = inl (inl (longer_twice x xs t))
    more off (inl (inr m)) = met m
    more off (inr le) = let c = count_mark seen x n all.0 off in inr (omega arith)

pub pigeons : (n : ℕ) (xs : List ℕ) → AllBelow n xs → n < length xs → Twice xs
pigeons n xs all long = done (clash n (λ k. false) xs all)
  where
    done : (Twice xs ⊎ Meets (λ k. false) xs) ⊎ (count (λ k. false) n + length xs ≤ n) → Twice xs
    done (inl (inl t)) = t
    done (inl (inr m)) = absurd (false≢true m.4)
    done (inr le) = absurd (omega arith)
