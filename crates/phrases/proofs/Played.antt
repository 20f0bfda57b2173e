-- One call more of a list that is played.
use Rattle.std.proofs.Common.{◌≡◌, ℕ, ◌+◌, ◌<◌, ◌≤◌, false, List, [], ◌∷◌, ◌++◌, length, get_or, take, set, sym, refl, ap, ◌∙◌, subst, arith}
use Rattle.std.proofs.lemmas.Bool.{both_ways}
use Rattle.std.proofs.lemmas.List.{take_more_set, get_or_default}
use Rattle.kinds.specs.Kind.{Ops}
use Rattle.plants.specs.Meaning.{Meaning}
use Rattle.runs.specs.History.{Run, Stage}
use Rattle.phrases.specs.Steps.{Left}
use Rattle.phrases.specs.Phases.{LeftOf, Advanced, PlayedFrom}
use Rattle.phrases.specs.declared.states.Written.{Written}
use Rattle.phrases.specs.declared.states.phase.Phase.{Phase}
use Rattle.phrases.specs.declared.states.phase.Phase.TheVariants.{Written as at_written}
use Rattle.runs.specs.Performed.{played}
use Rattle.runs.specs.declared.acts.Act.{Act}
use Rattle.runs.specs.declared.acts.Answer.{Answer}
use Rattle.phrases.specs.declared.lanes.Lane.{Lane}

pub played_append : {V : Type 0} (acts more : List (Act V)) (h : Run V) → played (acts ++ more) h ≡ played more (played acts h)
played_append [] more h = refl
played_append (x ∷ acts) more h = played_append acts more (x ∷ h)

pub played_more : {V : Type 0} (acts : List (Act V)) (n : ℕ) (r : Answer V) (d e : Act V) (h : Run V) → n < length acts → played (take (n + 1) (set acts n (record { call = (get_or acts n d).call; answer = r }))) h ≡ record { call = (get_or acts n e).call; answer = r } ∷ played (take n acts) h
played_more acts n r d e h lt =
    ap (λ l. played l h) (take_more_set acts n _ lt) ∙ played_append (take n acts) _ h ∙
    ap (λ a. record { call = a.call; answer = r } ∷ played (take n acts) h) (get_or_default acts n d e lt)

module _ {P V : Type 0} (o : Ops V) (meaning : P → Meaning V) (need : P → ℕ → ℕ) where
  -- the law over a plant and beats that are the same
  pub move : (x y : P) (k l : ℕ) (g : Stage) (h : Run V) (t : List Lane) (s : List V) → x ≡ y → k ≡ l → Left o (meaning x) k (need x k) g h t s → Left o (meaning y) l (need y l) g h t s
  move x y k l g h t s e f m = subst (λ w. Left o (meaning y) w (need y w) g h t s) f (subst (λ w. Left o (meaning w) k (need w k) g h t s) e m)

  -- one call more
  pub played_on : (a b b' : Phase P) (acts : List (Act V)) (n : ℕ) (r : Answer V) (d e : Act V) (s s₁ s₂ : List V) → n < length acts → PlayedFrom o meaning need a b (take n acts) s s₁ →
      Advanced o meaning need b (get_or acts n e).call b' r s₁ s₂ → PlayedFrom o meaning need a b' (take (n + 1) (set acts n (record { call = (get_or acts n d).call; answer = r }))) s s₂
  played_on a b b' acts n r d e s s₁ s₂ lt p q = record {
    plant = q.plant ∙ p.plant;
    beats = q.beats ∙ p.beats;
    law = λ h old.
        subst (λ k. LeftOf o meaning need a b' k s₂) (sym (played_more acts n r d e h lt))
        (move _ _ _ _ _ _ _ _ p.plant p.beats (q.law _ (move _ _ _ _ _ _ _ _ (sym p.plant) (sym p.beats) (p.law h old))));
  }

  -- a written phrase, whatever its sheet, before all calls
  pub begun : (w : Written P) (s : List V) → (meaning w.phrase.plant).inputs ≤ 16 → LeftOf o meaning need (at_written w) (at_written w) [] s
  begun w s few = record {
    staged = refl;
    counted = λ i hi. w.unfixed i (omega arith);
    lent = λ i hi. w.home i (omega arith);
    scored = λ l. absurd (both_ways false refl l);
    best = λ l. absurd (both_ways false refl l);
    fair = tt;
  }
