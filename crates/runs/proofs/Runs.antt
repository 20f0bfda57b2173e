-- Each call keeps the law of the run.
use Rattle.std.proofs.Common.{◌≡◌, ℕ, ◌+◌, ◌<◌, ◌≤◌, Bool, true, false, cond, eqb, ◌∷◌, sym, refl, ap, ◌∙◌, subst, ⊎_elim, arith}
use Rattle.std.proofs.lemmas.Bool.{cond-true, cond-false, eq-eqb, ne_eqb, cases_eq}
use Rattle.kinds.specs.Kind.{Ops, Laws, AtMost}
use Rattle.plants.specs.Meaning.{Meaning, backward_cell}
use Rattle.runs.specs.Plans.{Block, Same, put, Agrees, Best}
use Rattle.runs.specs.History.{Run, Stage, takes, given, nothing, deed, stage_by, laid_by, score_by, fixed_by, held_by, out_by, stage_of, laid_in, score_of, fixed_of, held_of, out_of, Laid, Ours, Fair, Sound}
use Rattle.runs.specs.declared.acts.Act.{Act}
use Rattle.runs.specs.declared.acts.Answer.{Answer}
use Rattle.runs.specs.declared.acts.Answer.TheVariants.{Done, Ordered, Refused}
use Rattle.runs.specs.declared.acts.Call.{Call}
use Rattle.runs.specs.declared.acts.Call.TheVariants.{Due, Order}
use Rattle.kinds.specs.declared.refusals.Refusal.TheVariants.{NoPlan}
use Rattle.runs.proofs.Puts.{put_congr}
use Rattle.runs.proofs.Rivals.{best_same, due_best, due_none, order_best, give_best}

abbrev pub act : {V : Type 0} → Call V → Answer V → Act V
act c r = record { call = c; answer = r }

module _ {V : Type 0} {o : Ops V} (L : Laws o) (M : Meaning V) (K : ℕ) (room : Bool) where
  abbrev pub Few : (ℕ → ℕ) → Type 0
  Few f = (i : ℕ) → i < M.inputs → f i ≤ K

  module _ (g : Stage) (h : Run V) (z u : Block V) (f : ℕ → ℕ) (t : ℕ → Bool) (few : Few f) (old : Sound o M K room g h z u f t) where
    few_of : (i : ℕ) → i < M.inputs → fixed_of o h i ≤ K
    few_of i hi = omega (arith, few i hi, old.counted i hi)

    pub agrees : Laid o h → Agrees M f (held_of o h) u
    agrees l i b hi hb = (old.best l).agrees i b hi (omega (arith, old.counted i hi))

    pub taken_now : (c : Call V) (b : Bool) → takes c g ≡ b → takes c (stage_of o h) ≡ b
    taken_now c b e = subst (λ x. takes c x ≡ b) old.staged e

    -- the order is out, by the lanes
    pub ours : (i b : ℕ) → i < M.inputs → t i ≡ true → f i ≡ b + 1 → Ours o M h i b
    ours i b hi out at = (hi, sym (old.lent i hi) ∙ out, sym (old.counted i hi) ∙ at)

    -- a call that came to nothing
    pub nothing_step : (c : Call V) (r : Answer V) (z' u' : Block V) → deed o c r ≡ nothing → Fair o M K room h c r → Same K M.outputs z' z → Same K M.inputs u' u → Sound o M K room g (act c r ∷ h) z' u' f t
    nothing_step c r z' u' e fair ez eu =
        let before : Laid o (act c r ∷ h) → Laid o h = λ l. ap (λ d. laid_by d (laid_in o h)) (sym e) ∙ l in
        record {
          staged = old.staged ∙ ap (λ d. stage_by d (stage_of o h)) (sym e);
          counted = λ i hi. old.counted i hi ∙ ap (λ d. fixed_by d (fixed_of o h) i) (sym e);
          lent = λ i hi. old.lent i hi ∙ ap (λ d. out_by d (out_of o h) i) (sym e);
          scored = λ l y k hy hk. ez y k hy hk ∙ old.scored (before l) y k hy hk ∙ ap (λ d. score_by o d (score_of o h) y k) (sym e);
          best = λ l. subst (λ d. Best o M K (score_by o d (score_of o h)) (fixed_by d (fixed_of o h)) (held_by d (held_of o h)) u') (sym e)
              (best_same L M K (score_of o h) (score_of o h) (fixed_of o h) (fixed_of o h) (held_of o h) u u' (λ y k hy hk. refl) (λ i hi. refl) few_of eu (old.best (before l)));
          fair = (fair, old.fair);
        }

    -- an accepted due
    pub due_step : (y k : ℕ) (v : V) (z' u' : Block V) → takes (Due y k v) g ≡ true → room ≡ true → y < M.outputs → k < K → Same K M.outputs z' (put y k v z) →
        ((i b : ℕ) → i < M.inputs → b < f i → u' i b ≡ u i b) →
        ((i b : ℕ) → i < M.inputs → f i ≤ b → b < K → u' i b ≡ backward_cell o M K z' i b) →
        ((i b : ℕ) → i < M.inputs → b < f i → AtMost o (u i b) (backward_cell o M K z' i b)) →
        Sound o M K room g (act (Due y k v) Done ∷ h) z' u' f t
    due_step y k v z' u' tk rm hy hk ez stay free test =
        let same : Laid o h → Same K M.outputs z' (put y k v (score_of o h)) = λ l a c ha hc. ez a c ha hc ∙ put_congr y k v z (score_of o h) a c (old.scored l a c ha hc) in
        let new : Laid o h → Best o M K (put y k v (score_of o h)) (fixed_of o h) (held_of o h) u' = λ l.
        best_same L M K z' (put y k v (score_of o h)) f (fixed_of o h) (held_of o h) u' u' (λ a c ha hc. sym (same l a c ha hc)) (λ i hi. sym (old.counted i hi)) few (λ i b hi hb. refl)
        (due_best L M K z' f (held_of o h) u u' (agrees l) few stay free test) in
        record {
          staged = old.staged;
          counted = old.counted;
          lent = old.lent;
          scored = same;
          best = new;
          fair = ((taken_now (Due y k v) true tk, (rm, hy, hk, (λ l none. none u' (new l).agrees (new l).meets))), old.fair);
        }

    -- a due that is refused with 20: z' is the score so changed
    pub barred_step : (y k : ℕ) (v : V) (z' z'' u'' : Block V) → takes (Due y k v) g ≡ true → room ≡ true → y < M.outputs → k < K → Same K M.outputs z' (put y k v z) →
        (((i b : ℕ) → i < M.inputs → b < f i → AtMost o (u i b) (backward_cell o M K z' i b)) → ⊥) →
        Same K M.outputs z'' z → Same K M.inputs u'' u →
        Sound o M K room g (act (Due y k v) (Refused NoPlan) ∷ h) z'' u'' f t
    barred_step y k v z' z'' u'' tk rm hy hk ez fails ez'' eu'' =
        nothing_step (Due y k v) (Refused NoPlan) z'' u'' refl (
          taken_now (Due y k v) true tk,
          (
            rm,
            hy,
            hk,
            (λ l w ag me. due_none L M K z' f (held_of o h) u (agrees l) few fails w
                (λ i b hi hb. ag i b hi (omega (arith, old.counted i hi)))
                (λ a c ha hc. subst (AtMost o _) (sym (ez a c ha hc ∙ put_congr y k v z (score_of o h) a c (old.scored l a c ha hc))) (me a c ha hc))),
          ),
        )
        ez'' eu''

    -- an order that found v
    pub order_step : (i : ℕ) (v : V) (z' u' : Block V) (f' : ℕ → ℕ) (t' : ℕ → Bool) → takes {V = V} (Order i) g ≡ true → room ≡ true → i < M.inputs → t i ≡ false → v ≡ u i (f i) →
        Same K M.outputs z' z → Same K M.inputs u' u → f i < K →
        ((j : ℕ) → j < M.inputs → f' j ≡ cond (eqb j i) (f j + 1) (f j)) →
        ((j : ℕ) → j < M.inputs → t' j ≡ cond (eqb j i) true (t j)) →
        Sound o M K room g (act (Order i) (Ordered (f i) v) ∷ h) z' u' f' t'
    order_step i v z' u' f' t' tk rm hi home found ez eu space ef et =
        let at : f i ≡ fixed_of o h i = old.counted i hi in
        let n : ℕ → ℕ = λ j. cond (eqb j i) (fixed_of o h j + 1) (fixed_of o h j) in
        let ni : n i ≡ fixed_of o h i + 1 = cond-true (eqb i i) _ _ (eq-eqb i i refl) in
        let nj : (j : ℕ) → (j ≡ i → ⊥) → n j ≡ fixed_of o h j = λ j ne. cond-false (eqb j i) _ _ (ne_eqb j i ne) in
        let found_of : v ≡ u i (fixed_of o h i) = found ∙ ap (u i) at in
        let here : Laid o h → Best o M K (score_of o h) n (put i (fixed_of o h i) v (held_of o h)) u = λ l. order_best L M K (score_of o h) (fixed_of o h) n (held_of o h) u i v (old.best l) found_of ni nj in
        let small : (j : ℕ) → j < M.inputs → n j ≤ K = λ j hj. ⊎_elim
        (λ e. let nn : n j ≡ n i = ap n e in let ff : fixed_of o h j ≡ fixed_of o h i = ap (fixed_of o h) e in omega (arith, ni, at)) (λ ne. omega (arith, nj j ne, few_of j hj)) (cases_eq j i) in
        record {
          staged = old.staged;
          counted = λ j hj. ef j hj ∙ ap (λ n. cond (eqb j i) (n + 1) n) (old.counted j hj);
          lent = λ j hj. et j hj ∙ ap (λ n. cond (eqb j i) true n) (old.lent j hj);
          scored = λ l y k hy hk. ez y k hy hk ∙ old.scored l y k hy hk;
          best = λ l. best_same L M K (score_of o h) (score_of o h) n n _ u u' (λ y k hy hk. refl) (λ j hj. refl) small eu
              (subst (λ n'. Best o M K (score_of o h) n (put i n' v (held_of o h)) u) (sym at) (here l));
          fair = (
            (
              taken_now (Order i) true tk,
              (
                rm,
                hi,
                sym (old.lent i hi) ∙ home,
                space,
                at,
                (λ l. (u, (old.best l, sym found))),
              ),
            ),
            old.fair,
          );
        }

    -- a firing of v, or a miss, at the cell of its order
    pub given_step : (c : Call V) (i b : ℕ) (v : V) (z' u' : Block V) (t' : ℕ → Bool) → deed o c Done ≡ given i b v → Fair o M K room h c Done →
        i < M.inputs → b < f i → AtMost o v (u i b) →
        Same K M.outputs z' z → Same K M.inputs u' (put i b v u) →
        ((j : ℕ) → j < M.inputs → t' j ≡ cond (eqb j i) false (t j)) →
        Sound o M K room g (act c Done ∷ h) z' u' f t'
    given_step c i b v z' u' t' e fair hi hb le ez eu et =
        let lt : b < fixed_of o h i = omega (arith, old.counted i hi) in
        let before : Laid o (act c Done ∷ h) → Laid o h = λ l. ap (λ d. laid_by d (laid_in o h)) (sym e) ∙ l in
        record {
          staged = old.staged ∙ ap (λ d. stage_by d (stage_of o h)) (sym e);
          counted = λ j hj. old.counted j hj ∙ ap (λ d. fixed_by d (fixed_of o h) j) (sym e);
          lent = λ j hj. et j hj ∙ ap (λ n. cond (eqb j i) false n) (old.lent j hj) ∙ ap (λ d. out_by d (out_of o h) j) (sym e);
          scored = λ l y k hy hk. ez y k hy hk ∙ old.scored (before l) y k hy hk ∙ ap (λ d. score_by o d (score_of o h) y k) (sym e);
          best = λ l. subst (λ d. Best o M K (score_by o d (score_of o h)) (fixed_by d (fixed_of o h)) (held_by d (held_of o h)) u') (sym e)
              (best_same L M K (score_of o h) (score_of o h) (fixed_of o h) (fixed_of o h) _ (put i b v u) u' (λ y k hy hk. refl) (λ j hj. refl) few_of eu
              (give_best L M K (score_of o h) (fixed_of o h) (held_of o h) u i b v (old.best (before l)) hi lt (few_of i hi) le));
          fair = (fair, old.fair);
        }
