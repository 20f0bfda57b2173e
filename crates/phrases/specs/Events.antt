-- What an event of a score comes to: an order that is missed, or one that is fired and, if that is refused, missed.
use Rattle.std.specs.Prelude.{◌≡◌, ℕ, List, [], ◌∷◌, Result, MatchResult}
use Rattle.kinds.specs.Kind.{Ops}
use Rattle.plants.specs.Meaning.{Meaning}
use Rattle.runs.specs.History.{Run, playing}
use Rattle.runs.specs.Performed.{played, calls}
use Rattle.runs.specs.declared.acts.Act.{Act}
use Rattle.runs.specs.declared.acts.Answer.{Answer}
use Rattle.runs.specs.declared.acts.Answer.TheVariants.{Done, Ordered, Refused, Untaken}
use Rattle.runs.specs.declared.acts.Call.TheVariants.{Order, Fire, Miss}
use Rattle.kinds.specs.declared.refusals.Refusal.{Refusal}
use Rattle.phrases.specs.Orders.{ordered}
use Rattle.phrases.specs.Promises.{OrderAnswer, FireCells, MissCells}
use Rattle.phrases.specs.Steps.{Left, order_act, fire_act, miss_act}
use Rattle.phrases.specs.declared.lanes.Order.{Order as Token}
use Rattle.phrases.specs.declared.lanes.Returned.{Returned}
use Rattle.phrases.specs.declared.states.Phrase.{Phrase}
use Rattle.phrases.specs.declared.states.events.Happened.{Happened}
use Rattle.phrases.specs.declared.states.events.Happened.TheVariants.{One, Two, Three}

-- the calls with their answers, the oldest first
abbrev pub acts : {V : Type 0} → Happened V → List (Act V)
acts (One a) = a ∷ []
acts (Two a b) = a ∷ b ∷ []
acts (Three a b c) = a ∷ b ∷ c ∷ []

-- what follows an order: something for the beat that it fixes, or nothing
abbrev pub after_order : {V : Type 0} → Answer V → List (Act V) → (ℕ → Type 0) → Type 0
after_order Done rest next = ⊥
after_order (Ordered b x) rest next = next b
after_order (Refused e) rest next = rest ≡ []
after_order Untaken rest next = ⊥

-- what follows a firing: a miss, if it is refused
abbrev pub after_fire : {V : Type 0} → Answer V → List (Act V) → ℕ → ℕ → Type 0
after_fire Done rest i b = rest ≡ []
after_fire (Ordered k x) rest i b = ⊥
after_fire (Refused e) rest i b = calls rest ≡ Miss i b ∷ []
after_fire Untaken rest i b = ⊥

abbrev pub fires : {V : Type 0} → ℕ → ℕ → V → List (Act V) → Type 0
fires i b v [] = ⊥
fires i b v (a ∷ rest) = (a.call ≡ Fire i b v) × after_fire a.answer rest i b

-- an order of an input, then a miss
abbrev pub MissesNext : {V : Type 0} → ℕ → List (Act V) → Type 0
MissesNext i [] = ⊥
MissesNext i (a ∷ rest) = (a.call ≡ Order i) × after_order a.answer rest (λ b. calls rest ≡ Miss i b ∷ [])

-- an order of an input, then a firing, and a miss if that is refused
abbrev pub FiresNext : {V : Type 0} → ℕ → V → List (Act V) → Type 0
FiresNext i v [] = ⊥
FiresNext i v (a ∷ rest) = (a.call ≡ Order i) × after_order a.answer rest (λ b. fires i b v rest)

-- these calls take every run that left the one to a run that left the other
abbrev pub Follows : {P V : Type 0} → Ops V → (P → Meaning V) → (P → ℕ → ℕ) → Phrase P → Phrase P → List (Act V) → List V → List V → Type 0
Follows {V = V} o meaning need ph ph' made s s' = (h : Run V)
    → Left o (meaning ph.plant) ph.horizon.beats (need ph.plant ph.horizon.beats) playing h ph.lanes.table s
    → Left o (meaning ph.plant) ph.horizon.beats (need ph.plant ph.horizon.beats) playing (played made h) ph'.lanes.table s'

-- what these calls leave, one after the other
module _ {P V : Type 0} (o : Ops V) (meaning : P → Meaning V) (need : P → ℕ → ℕ) where
  abbrev pub ThenMiss : (ph ph' : Phrase P) → Token → (s s' : List V) → List (Act V) → Type 0
  ThenMiss ph ph' order s s' made = (r : Result Unit Returned) × (MissCells o meaning need ph ph' order s s' r × (made ≡ miss_act order r ∷ []))

  abbrev pub ThenFire : (ph ph' : Phrase P) → Token → V → (s s' : List V) → List (Act V) → Type 0
  ThenFire ph ph' order v s s' made =
      (r : Result Unit Returned) × ((ph₁ : Phrase P) × ((s₁ : List V) × ((rest : List (Act V)) ×
      ((ph₁.plant ≡ ph.plant) × (ph₁.horizon ≡ ph.horizon) × FireCells o meaning need ph ph₁ order v s s₁ r × (made ≡ fire_act order v r ∷ rest)
      × MatchResult r (λ _. (rest ≡ []) × (ph' ≡ ph₁) × (s' ≡ s₁)) (λ e. ThenMiss ph₁ ph' e.order s₁ s' rest)))))

  -- an order, and what follows it if it is handed out
  abbrev pub OrderThen : (ph ph' : Phrase P) → ℕ → (s s' : List V) → List (Act V) → (Phrase P → Token → List (Act V) → Type 0) → Type 0
  OrderThen ph ph' i s s' made next =
      (q : Result Token Refusal) × ((ph₁ : Phrase P) × ((rest : List (Act V)) ×
      ((ph₁.plant ≡ ph.plant) × (ph₁.horizon ≡ ph.horizon) × OrderAnswer o meaning need ph i s q × (ph₁.lanes.table ≡ ordered ph.lanes.table q)
      × (made ≡ order_act o (meaning ph.plant) ph.horizon.beats s i q ∷ rest)
      × MatchResult q (λ order. next ph₁ order rest) (λ _. (rest ≡ []) × (ph' ≡ ph₁) × (s' ≡ s)))))

  abbrev pub MissNextCells : (ph ph' : Phrase P) → ℕ → (s s' : List V) → List (Act V) → Type 0
  MissNextCells ph ph' i s s' made = OrderThen ph ph' i s s' made (λ ph₁ order rest. ThenMiss ph₁ ph' order s s' rest)

  abbrev pub FireNextCells : (ph ph' : Phrase P) → ℕ → V → (s s' : List V) → List (Act V) → Type 0
  FireNextCells ph ph' i v s s' made = OrderThen ph ph' i s s' made (λ ph₁ order rest. ThenFire ph₁ ph' order v s s' rest)
