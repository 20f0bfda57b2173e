-- Lines of a score played one after the other.
use Rattle.std.proofs.Common.{◌≡◌, ℕ, ◌+◌, ◌<◌, ◌≤◌, List, [], ◌∷◌, ◌++◌, length, get_or, drop, sym, refl, ap, ◌∙◌, subst, append_assoc, append-nil}
use Rattle.std.proofs.lemmas.List.{at_drop_more, at_drop_all}
use Rattle.kinds.specs.Kind.{Ops}
use Rattle.plants.specs.Meaning.{Meaning}
use Rattle.runs.specs.History.{playing}
use Rattle.runs.specs.Performed.{played}
use Rattle.runs.specs.declared.acts.Act.{Act}
use Rattle.phrases.proofs.Played.{played_append, move}
use Rattle.phrases.specs.Events.{Follows}
use Rattle.phrases.specs.Steps.{Left}
use Rattle.phrases.specs.declared.states.Phrase.{Phrase}
use Rattle.texts.specs.declared.scores.ScoreLine.{ScoreLine}
use Rattle.printing.specs.Plays.{ComesTo, Plays}

-- the calls so far are those of the lines before these
abbrev pub PlayedTo : {T : Type 0} → List (ScoreLine T) → List (Act T) → List (ScoreLine T) → Type 0
PlayedTo {T} lines made left = (rest : List (Act T)) → Plays left rest → Plays lines (made ++ rest)

pub line_played : {T : Type 0} (lines : List (ScoreLine T)) (i : ℕ) (line : ScoreLine T) (made mine made' : List (Act T)) → i < length lines → line ≡ get_or lines i line
    → ComesTo line mine → made' ≡ made ++ mine → PlayedTo lines made (drop i lines) → PlayedTo lines made' (drop (i + 1) lines)
line_played {T} lines i line made mine made' lt is comes grown before rest plays =
    let here : Plays (line ∷ drop (i + 1) lines) (mine ++ rest) = (mine, (rest, (comes, plays, refl))) in
    let left : line ∷ drop (i + 1) lines ≡ drop i lines = sym (at_drop_more (λ (ls : List (ScoreLine T)). ls) lines i line lt ∙ ap (λ (x : ScoreLine T). x ∷ drop (i + 1) lines) (sym is)) in
    subst (Plays lines) (sym (append_assoc made mine rest) ∙ ap (λ z. z ++ rest) (sym grown))
    (before (mine ++ rest) (subst (λ (ls : List (ScoreLine T)). Plays ls (mine ++ rest)) left here))

pub all_played : {T : Type 0} (lines : List (ScoreLine T)) (i : ℕ) (made : List (Act T)) → length lines ≤ i → PlayedTo lines made (drop i lines) → Plays lines made
all_played {T} lines i made end before =
    subst (Plays lines) (append-nil made) (before [] (subst (λ (ls : List (ScoreLine T)). Plays ls []) (sym (at_drop_all (λ (ls : List (ScoreLine T)). ls) lines i end)) refl))

module _ {P V : Type 0} (o : Ops V) (meaning : P → Meaning V) (need : P → ℕ → ℕ) where
  pub follow_on : (ph ph₁ ph₂ : Phrase P) (made mine made' : List (Act V)) (s s₁ s₂ : List V) → ph₁.plant ≡ ph.plant → ph₁.horizon ≡ ph.horizon → made' ≡ made ++ mine
      → Follows o meaning need ph ph₁ made s s₁ → Follows o meaning need ph₁ ph₂ mine s₁ s₂ → Follows o meaning need ph ph₂ made' s s₂
  follow_on ph ph₁ ph₂ made mine made' s s₁ s₂ p k grown before then h old =
      subst (λ run. Left o (meaning ph.plant) ph.horizon.beats (need ph.plant ph.horizon.beats) playing run ph₂.lanes.table s₂)
      (sym (played_append made mine h) ∙ ap (λ z. played z h) (sym grown))
      (move o meaning need _ _ _ _ _ _ _ _ p (ap (λ z. z.beats) k)
      (then (played made h) (move o meaning need _ _ _ _ _ _ _ _ (sym p) (ap (λ z. z.beats) (sym k)) (before h old))))
