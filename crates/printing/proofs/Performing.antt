-- From what the calls of a phrase say to the card.
use Rattle.std.proofs.Common.{◌≡◌, ℕ, ◌≤◌, Bool, List, ◌++◌, length, Result, sym, refl, ap, ◌∙◌, subst}
use Rattle.std.proofs.lemmas.Bool.{le-leb}
use Rattle.kinds.specs.Kind.{Ops}
use Rattle.plants.specs.Meaning.{Meaning}
use Rattle.plants.specs.declared.horizon.Horizon.{Horizon}
use Rattle.runs.specs.History.{playing, AllFair}
use Rattle.runs.specs.Performed.{played}
use Rattle.runs.specs.declared.acts.Act.{Act}
use Rattle.runs.proofs.One.{laid_on}
use Rattle.phrases.proofs.Played.{move}
use Rattle.phrases.specs.Cells.{plan, total}
use Rattle.phrases.specs.Events.{Follows}
use Rattle.phrases.specs.Steps.{Left}
use Rattle.phrases.specs.declared.states.Phrase.{Phrase}
use Rattle.texts.specs.declared.faults.Fault.{Fault}
use Rattle.texts.specs.declared.scores.ScoreLine.{ScoreLine}
use Rattle.printing.specs.Plays.{Plays, begun}
use Rattle.printing.specs.Rows.{act_rows}
use Rattle.printing.specs.Performs.{closing, Performed}

module _ {P V : Type 0} (o : Ops V) (text : V → List ℕ) (meaning : P → Meaning V) (need : P → ℕ → ℕ) where
  pub performs : (p₁ p₂ : Phrase P) (net : P) (k : Horizon) (s₁ s₂ : List V) (lines : List (ScoreLine V)) (end : Result (Unit {0}) Fault) (made : List (Act V)) (rows out : List ℕ)
      → p₁.plant ≡ net → p₁.horizon ≡ k → p₂.plant ≡ p₁.plant → p₂.horizon ≡ p₁.horizon
      → Left o (meaning net) k.beats (need net k.beats) playing begun p₁.lanes.table s₁
      → Plays lines made → Follows o meaning need p₁ p₂ made s₁ s₂ → total (meaning net) k.beats (need net k.beats) ≤ length s₂
      → rows ≡ act_rows text o.bottom made → out ≡ rows ++ closing o text (meaning p₂.plant) k.beats end (plan o (meaning p₂.plant) k.beats s₂)
      → Performed o text (meaning net) k.beats lines end out
  performs p₁ p₂ net k s₁ s₂ lines end made rows out is-net is-k same-net same-k left plays follows room acts closed =
      let M = meaning net in
      let K = k.beats in
      let beats = ap (λ z. z.beats) is-k in
      let after = move o meaning need _ _ _ _ _ _ _ _ is-net beats (follows begun (move o meaning need _ _ _ _ _ _ _ _ (sym is-net) (sym beats) left)) in
      record {
        made = made;
        plan = plan o M K s₂;
        called = plays;
        fair = subst (λ (b : Bool). AllFair o M K b (played made begun)) (le-leb (total M K (need net K)) (length s₂) room) after.fair;
        best = after.best (laid_on o made begun refl);
        printed = closed ∙ ap (λ z. z ++ closing o text (meaning p₂.plant) K end (plan o (meaning p₂.plant) K s₂)) acts
            ∙ ap (λ x. act_rows text o.bottom made ++ closing o text (meaning x) K end (plan o (meaning x) K s₂)) (same-net ∙ is-net);
      }
