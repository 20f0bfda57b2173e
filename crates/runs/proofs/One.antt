-- A run fixes the score, the plan and the lanes, and after a lay the calls fix their answers.
use Rattle.std.proofs.Common.{◌≡◌, ℕ, ◌<◌, ◌≤◌, Bool, true, false, ◌⊎◌, List, [], ◌∷◌, sym, refl, ap, ◌∙◌, subst, ap₂, ⊎_elim, arith}
use Rattle.std.proofs.lemmas.Bool.{both_ways}
use Rattle.kinds.specs.Kind.{Ops, Laws}
use Rattle.plants.specs.Meaning.{Meaning}
use Rattle.runs.specs.History.{Run, Deed, laid, asked, ordered, given, started, closed, nothing, deed, laid_by, laid_in, AllFair, Laid, Fair, FairDone, FairOrdered, FairRefused, fixed_of}
use Rattle.runs.specs.Theorems.{RunFixesState, RunFixesAnswers}
use Rattle.runs.proofs.Whys.{why, never}
use Rattle.runs.specs.Performed.{played, calls}
use Rattle.runs.specs.declared.acts.Act.{Act}
use Rattle.runs.specs.declared.acts.Answer.{Answer}
use Rattle.runs.specs.declared.acts.Answer.TheVariants.{Done, Ordered, Refused, Untaken}
use Rattle.runs.specs.declared.acts.Call.{Call}
use Rattle.runs.specs.declared.acts.Call.TheVariants.{Lay, Due, Start, Order, Fire, Miss, Strikes, End}
use Rattle.kinds.specs.declared.refusals.Refusal.{Refusal}
use Rattle.kinds.specs.declared.refusals.Refusal.TheVariants.{Missing, Short, NoPlan, OrderOut, AllFixed, TooHigh, NoOrder}
use Rattle.runs.proofs.Rivals.{best_one}

still_laid : {V : Type 0} (d : Deed V) (b : Bool) → b ≡ true → laid_by d b ≡ true
still_laid laid b e = refl
still_laid (asked y k v) b e = e
still_laid (ordered i k v) b e = e
still_laid (given i k v) b e = e
still_laid started b e = e
still_laid closed b e = e
still_laid nothing b e = e

-- a lay that was accepted stays in the run
pub laid_on : {V : Type 0} (o : Ops V) (acts : List (Act V)) (h : Run V) → Laid o h → Laid o (played acts h)
laid_on o [] h l = l
laid_on o (a ∷ acts) h l = laid_on o acts (a ∷ h) (still_laid (deed o a.call a.answer) (laid_in o h) l)

module _ {V : Type 0} {o : Ops V} (L : Laws o) (M : Meaning V) (K : ℕ) where
  module _ (rm : Bool) (h : Run V) (l : Laid o h) where
    short : {A : Type 0} → rm ≡ true → rm ≡ false → A
    short t f = absurd (both_ways rm f t)

    outside : {A : Type 0} (p y k : ℕ) → y < p → k < K → (p ≤ y) ⊎ (K ≤ k) → A
    outside p y k hy hk e = absurd (⊎_elim (λ a. let z : ⊥ = omega arith in z) (λ b. let z : ⊥ = omega arith in z) e)

    done_ordered : (c : Call V) (b : ℕ) (x : V) → FairDone o M K rm h c → FairOrdered o M K rm h c b x → ⊥
    done_ordered Lay b x f t = t
    done_ordered (Due y k v) b x f t = t
    done_ordered Start b x f t = t
    done_ordered (Order i) b x f t = f
    done_ordered (Fire i k v) b x f t = t
    done_ordered (Miss i k) b x f t = t
    done_ordered Strikes b x f t = t
    done_ordered End b x f t = t

    done_refused : (c : Call V) (e : Refusal) → FairDone o M K rm h c → FairRefused o M K rm h c e → ⊥
    done_refused Lay e f t = why (λ _. ⊥) e t never (short f) never never never never never
    done_refused (Due y k v) e f t = why (λ _. ⊥) e t (λ a. outside M.outputs y k f.1 f.2 a.1) (short f.0) (λ a. f.3 l (a.3 l)) never never never never
    done_refused Start e f t = why (λ _. ⊥) e t never never never never never never never
    done_refused (Order i) e f t = f
    done_refused (Fire i k v) e f t = why (λ _. ⊥) e t never (short f.0) never never never (λ a. a.2 l (f.2 l)) (λ a. a.1 f.1)
    done_refused (Miss i k) e f t = why (λ _. ⊥) e t never (short f.0) never never never never (λ a. a.1 f.1)
    done_refused Strikes e f t = why (λ _. ⊥) e t never (short f) never never never never never
    done_refused End e f t = why (λ _. ⊥) e t never never never never never never never

    ordered_refused : (c : Call V) (b : ℕ) (x : V) (e : Refusal) → FairOrdered o M K rm h c b x → FairRefused o M K rm h c e → ⊥
    ordered_refused Lay b x e f t = f
    ordered_refused (Due y k v) b x e f t = f
    ordered_refused Start b x e f t = f
    ordered_refused (Order i) b x e f t =
        let hi : i < M.inputs = f.1 in
        let hb : b < K = f.3 in
        let at : b ≡ fixed_of o h i = f.4 in
        why (λ _. ⊥) e t (λ a. let le : M.inputs ≤ i = a.1 in omega arith) (short f.0) never (λ a. both_ways _ f.2 a.2) (λ a. let le : K ≤ fixed_of o h i = a.3 in omega arith) never never
    ordered_refused (Fire i k v) b x e f t = f
    ordered_refused (Miss i k) b x e f t = f
    ordered_refused Strikes b x e f t = f
    ordered_refused End b x e f t = f

    ordered_one : (c : Call V) (b b' : ℕ) (x x' : V) → FairOrdered o M K rm h c b x → FairOrdered o M K rm h c b' x' → Ordered b x ≡ Ordered b' x'
    ordered_one Lay b b' x x' f t = absurd f
    ordered_one (Due y k v) b b' x x' f t = absurd f
    ordered_one Start b b' x x' f t = absurd f
    ordered_one (Order i) b b' x x' f t =
        let same : b ≡ b' = f.4 ∙ sym t.4 in
        let p = f.5 l in
        let q = t.5 l in
        let hb : b' < K = t.3 in
        ap₂ Ordered same (sym p.1.1 ∙ ap (p.0 i) same ∙ best_one L M K _ _ _ p.0 q.0 p.1.0 q.1.0 i b' f.1 hb ∙ q.1.1)
    ordered_one (Fire i k v) b b' x x' f t = absurd f
    ordered_one (Miss i k) b b' x x' f t = absurd f
    ordered_one Strikes b b' x x' f t = absurd f
    ordered_one End b b' x x' f t = absurd f

    refused_one : (c : Call V) (e e' : Refusal) → FairRefused o M K rm h c e → FairRefused o M K rm h c e' → e ≡ e'
    refused_one Lay e e' f t = why (λ w. w ≡ e') e f never (λ a. why (λ w. Short ≡ w) e' t never (λ b. refl) never never never never never) never never never never never
    refused_one (Due y k v) e e' f t = why (λ w. w ≡ e') e f
        (λ a. why (λ w. Missing ≡ w) e' t (λ b. refl) (short a.0) (λ b. outside M.outputs y k b.1 b.2 a.1) never never never never)
        (λ a. why (λ w. Short ≡ w) e' t (λ b. short b.0 a) (λ b. refl) (λ b. short b.0 a) never never never never)
        (λ a. why (λ w. NoPlan ≡ w) e' t (λ b. outside M.outputs y k a.1 a.2 b.1) (short a.0) (λ b. refl) never never never never)
        never never never never
    refused_one Start e e' f t = why (λ w. w ≡ e') e f never never never never never never never
    refused_one (Order i) e e' f t = why (λ w. w ≡ e') e f
        (λ a. why (λ w. Missing ≡ w) e' t (λ b. refl) (short a.0) never (λ b. outside_input b.1 a.1) (λ b. outside_input b.1 a.1) never never)
        (λ a. why (λ w. Short ≡ w) e' t (λ b. short b.0 a) (λ b. refl) never (λ b. short b.0 a) (λ b. short b.0 a) never never)
        never
        (λ a. why (λ w. OrderOut ≡ w) e' t (λ b. outside_input a.1 b.1) (short a.0) never (λ b. refl) (λ b. absurd (both_ways _ b.2 a.2)) never never)
        (λ a. why (λ w. AllFixed ≡ w) e' t (λ b. outside_input a.1 b.1) (short a.0) never (λ b. absurd (both_ways _ a.2 b.2)) (λ b. refl) never never)
        never never
      where
        outside_input : {A : Type 0} → i < M.inputs → M.inputs ≤ i → A
        outside_input p q = absurd (let z : ⊥ = omega arith in z)
    refused_one (Fire i k v) e e' f t = why (λ w. w ≡ e') e f never
        (λ a. why (λ w. Short ≡ w) e' t never (λ b. refl) never never never (λ b. short b.0 a) (λ b. short b.0 a))
        never never never
        (λ a. why (λ w. TooHigh ≡ w) e' t never (short a.0) never never never (λ b. refl) (λ b. absurd (b.1 a.1)))
        (λ a. why (λ w. NoOrder ≡ w) e' t never (short a.0) never never never (λ b. absurd (a.1 b.1)) (λ b. refl))
    refused_one (Miss i k) e e' f t = why (λ w. w ≡ e') e f never
        (λ a. why (λ w. Short ≡ w) e' t never (λ b. refl) never never never never (λ b. short b.0 a))
        never never never never
        (λ a. why (λ w. NoOrder ≡ w) e' t never (short a.0) never never never never (λ b. refl))
    refused_one Strikes e e' f t = why (λ w. w ≡ e') e f never (λ a. why (λ w. Short ≡ w) e' t never (λ b. refl) never never never never never) never never never never never
    refused_one End e e' f t = why (λ w. w ≡ e') e f never never never never never never never

    pub one : (c : Call V) (r r' : Answer V) → Fair o M K rm h c r → Fair o M K rm h c r' → r ≡ r'
    one c Done Done f t = refl
    one c Done (Ordered b x) f t = absurd (done_ordered c b x f.1 t.1)
    one c Done (Refused e) f t = absurd (done_refused c e f.1 t.1)
    one c Done Untaken f t = absurd (both_ways _ t f.0)
    one c (Ordered b x) Done f t = absurd (done_ordered c b x t.1 f.1)
    one c (Ordered b x) (Ordered b' x') f t = ordered_one c b b' x x' f.1 t.1
    one c (Ordered b x) (Refused e) f t = absurd (ordered_refused c b x e f.1 t.1)
    one c (Ordered b x) Untaken f t = absurd (both_ways _ t f.0)
    one c (Refused e) Done f t = absurd (done_refused c e t.1 f.1)
    one c (Refused e) (Ordered b x) f t = absurd (ordered_refused c b x e t.1 f.1)
    one c (Refused e) (Refused e') f t = ap Refused (refused_one c e e' f.1 t.1)
    one c (Refused e) Untaken f t = absurd (both_ways _ t f.0)
    one c Untaken Done f t = absurd (both_ways _ f t.0)
    one c Untaken (Ordered b x) f t = absurd (both_ways _ f t.0)
    one c Untaken (Refused e) f t = absurd (both_ways _ f t.0)
    one c Untaken Untaken f t = refl

  pub fair_before : (rm : Bool) (acts : List (Act V)) (h : Run V) → AllFair o M K rm (played acts h) → AllFair o M K rm h
  fair_before rm [] h f = f
  fair_before rm (a ∷ acts) h f = (fair_before rm acts (a ∷ h) f).1

  pub same_act : (a a' : Act V) → a.call ≡ a'.call → a.answer ≡ a'.answer → a ≡ a'
  same_act a a' p q = λ i. record { call = p i; answer = q i }

  equal_answers : (rm : Bool) (h : Run V) → Laid o h → (acts acts' : List (Act V)) → calls acts ≡ calls acts' → AllFair o M K rm (played acts h) → AllFair o M K rm (played acts' h) → acts ≡ acts'
  equal_answers rm h l [] [] e f t = refl
  equal_answers rm h l [] (a' ∷ acts') e f t = let z : ◌≡◌ {A = ℕ} 0 1 = cc in absurd (let y : ⊥ = omega arith in y)
  equal_answers rm h l (a ∷ acts) [] e f t = let z : ◌≡◌ {A = ℕ} 0 1 = cc in absurd (let y : ⊥ = omega arith in y)
  equal_answers rm h l (a ∷ acts) (a' ∷ acts') e f t =
      let head : a.call ≡ a'.call = cc in
      let tail : calls acts ≡ calls acts' = cc in
      let now = (fair_before rm acts (a ∷ h) f).0 in
      let then = (fair_before rm acts' (a' ∷ h) t).0 in
      let same : a ≡ a' = same_act a a' head (one rm h l a.call a.answer a'.answer now (subst (λ c. Fair o M K rm h c a'.answer) (sym head) then)) in
      ap₂ (λ x y. x ∷ y) same
      (equal_answers rm (a ∷ h) (still_laid (deed o a.call a.answer) (laid_in o h) l) acts acts' tail f (subst (λ x. AllFair o M K rm (played acts' (x ∷ h))) (sym same) t))

module _ {V : Type 0} {o : Ops V} (L : Laws o) where
  pub run_fixes_state : RunFixesState o
  run_fixes_state M K rm rm' g g' h z z' u u' f f' t t' l p q = record {
    scores = λ y k hy hk. p.scored l y k hy hk ∙ sym (q.scored l y k hy hk);
    plans = best_one L M K _ _ _ _ _ (p.best l) (q.best l);
    counts = λ i hi. p.counted i hi ∙ sym (q.counted i hi);
    orders = λ i hi. p.lent i hi ∙ sym (q.lent i hi);
  }

  pub run_fixes_answers : RunFixesAnswers o
  run_fixes_answers M K rm h l acts acts' e f t = equal_answers L M K rm h l acts acts' e f t
