-- One call after another.
use Rattle.std.proofs.Common.{◌≡◌, ℕ, List, [], ◌∷◌, Result, MatchResult, sym, ap}
use Rattle.kinds.specs.Kind.{Ops}
use Rattle.kinds.specs.declared.refusals.Refusal.{Refusal}
use Rattle.plants.specs.Meaning.{Meaning}
use Rattle.runs.specs.History.{playing}
use Rattle.runs.specs.declared.acts.Act.{Act}
use Rattle.phrases.specs.Events.{Follows, OrderThen, ThenFire, ThenMiss}
use Rattle.phrases.specs.Promises.{Law, OrderTaken, OrderFired, OrderMissed}
use Rattle.phrases.specs.declared.lanes.Order.{Order}
use Rattle.phrases.specs.declared.lanes.Returned.{Returned}
use Rattle.phrases.specs.declared.states.Phrase.{Phrase}
use Rattle.phrases.proofs.Played.{move}

module _ {P V : Type 0} (o : Ops V) (meaning : P → Meaning V) (need : P → ℕ → ℕ) where
  -- an act, and then others by what it left
  pub follows_then : (ph ph₁ ph' : Phrase P) (a : Act V) (rest : List (Act V)) (s s₁ s' : List V) → ph₁.plant ≡ ph.plant → ph₁.horizon ≡ ph.horizon
      → Law o meaning need playing playing ph ph₁ a s s₁ → Follows o meaning need ph₁ ph' rest s₁ s' → Follows o meaning need ph ph' (a ∷ rest) s s'
  follows_then ph ph₁ ph' a rest s s₁ s' p k law next h old =
      let beats = ap (λ z. z.beats) k in
      move o meaning need _ _ _ _ _ _ _ _ p beats (next (a ∷ h) (move o meaning need _ _ _ _ _ _ _ _ (sym p) (sym beats) (law h old)))

  pub order_then : (ph ph₁ ph' : Phrase P) (i : ℕ) (s s' : List V) (r : Result Order Refusal) (a : Act V) (rest : List (Act V)) (next : Phrase P → Order → List (Act V) → Type 0)
      → OrderTaken o meaning need ph ph₁ i s r a → MatchResult r (λ order. next ph₁ order rest) (λ _. (rest ≡ []) × (ph' ≡ ph₁) × (s' ≡ s)) → OrderThen o meaning need ph ph' i s s' (a ∷ rest) next
  order_then ph ph₁ ph' i s s' r a rest next t then = (r, (ph₁, (rest, (t.plant, t.horizon, t.answer, t.lanes, ap (λ x. x ∷ rest) t.act, then))))

  pub fire_then : (ph ph₁ ph' : Phrase P) (order : Order) (v : V) (s s₁ s' : List V) (r : Result Unit Returned) (a : Act V) (rest : List (Act V))
      → OrderFired o meaning need ph ph₁ order v s s₁ r a → MatchResult r (λ _. (rest ≡ []) × (ph' ≡ ph₁) × (s' ≡ s₁)) (λ e. ThenMiss o meaning need ph₁ ph' e.order s₁ s' rest)
      → ThenFire o meaning need ph ph' order v s s' (a ∷ rest)
  fire_then ph ph₁ ph' order v s s₁ s' r a rest t then = (r, (ph₁, (s₁, (rest, (t.plant, t.horizon, t.cells, ap (λ x. x ∷ rest) t.act, then)))))

  pub miss_then : (ph ph' : Phrase P) (order : Order) (s s' : List V) (a : Act V) → OrderMissed o meaning need ph ph' order s s' a → ThenMiss o meaning need ph ph' order s s' (a ∷ [])
  miss_then ph ph' order s s' a t = (t.answer, (t.cells, ap (λ x. x ∷ []) t.act))
