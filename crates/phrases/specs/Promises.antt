-- What each call promises of a phrase and its sheet. `meaning` and `need` are the plant's.
use Rattle.std.specs.Prelude.{◌≡◌, ℕ, ◌+◌, ◌*◌, ◌<◌, ◌≤◌, ◌⊎◌, List, length, Ok, Err, Result, MatchResult}
use Rattle.kinds.specs.Kind.{Ops}
use Rattle.plants.specs.Meaning.{Meaning}
use Rattle.phrases.specs.Orders.{lane_at, ordered, order_answer}
use Rattle.phrases.specs.Cells.{total, plan, spare, cell_of, Placed, Adopted, LaidOut, Struck, Taken, Turned, RefusedShort, Aimed, Fired, Unfired, Missed, Unmissed}
use Rattle.runs.specs.History.{Stage, playing}
use Rattle.runs.specs.Refusals.{by_refusal}
use Rattle.phrases.specs.Steps.{room, Step, order_act, fire_act, miss_act}
use Rattle.runs.specs.declared.acts.Act.{Act}
use Rattle.phrases.specs.declared.lanes.Order.{Order}
use Rattle.phrases.specs.declared.states.Phrase.{Phrase}
use Rattle.phrases.specs.declared.states.blocks.Blocks.{Blocks}
use Rattle.kinds.specs.declared.refusals.Refusal.{Refusal}
use Rattle.kinds.specs.declared.refusals.Refusal.TheVariants.{Short}
use Rattle.phrases.specs.declared.lanes.Returned.{Returned}

-- how many beats of an input are fixed
abbrev pub fixed_in : {P : Type 0} → Phrase P → ℕ → ℕ
fixed_in ph i = (lane_at ph.lanes.table i).fixed

-- a phrase keeps its plant and its beats
abbrev pub Stays : {P : Type 0} → Phrase P → Phrase P → Type 0
Stays ph ph' = (ph'.plant ≡ ph.plant) × (ph'.horizon ≡ ph.horizon)

module _ {P V : Type 0} (o : Ops V) (meaning : P → Meaning V) (need : P → ℕ → ℕ) where
  -- the blocks of a sheet that has all the cells begin here
  abbrev pub BlocksAt : Phrase P → Blocks → List V → Type 0
  BlocksAt ph at s = Placed (meaning ph.plant) ph.horizon.beats (need ph.plant ph.horizon.beats) at s

  -- where the blocks begin in a sheet that has all the cells, or a refusal with 8
  abbrev pub BlocksAnswer : Phrase P → List V → Result Blocks Refusal → Type 0
  BlocksAnswer ph s r = MatchResult r (λ at. BlocksAt ph at s) (λ e. (e ≡ Short) × (length s < total (meaning ph.plant) ph.horizon.beats (need ph.plant ph.horizon.beats)))

  abbrev pub Adopts : Phrase P → List V → List V → Type 0
  Adopts ph s s' = Adopted o (meaning ph.plant) ph.horizon.beats (need ph.plant ph.horizon.beats) (fixed_in ph) (spare o (meaning ph.plant) ph.horizon.beats s) s s'

  abbrev pub LayCells : Phrase P → List V → List V → Result Unit Refusal → Type 0
  LayCells ph s s' r = MatchResult r (λ _. LaidOut o (meaning ph.plant) ph.horizon.beats (need ph.plant ph.horizon.beats) s s') (λ e. RefusedShort o (meaning ph.plant) ph.horizon.beats (need ph.plant ph.horizon.beats) s s' e)

  abbrev pub StrikesCells : Phrase P → List V → List V → Result Unit Refusal → Type 0
  StrikesCells ph s s' r = MatchResult r (λ _. Struck o (meaning ph.plant) ph.horizon.beats (need ph.plant ph.horizon.beats) s s') (λ e. RefusedShort o (meaning ph.plant) ph.horizon.beats (need ph.plant ph.horizon.beats) s s' e)

  abbrev pub DueCells : Phrase P → ℕ → ℕ → V → List V → List V → Result Unit Refusal → Type 0
  DueCells ph y k v s s' r = MatchResult r
      (λ _. Taken o (meaning ph.plant) ph.horizon.beats (need ph.plant ph.horizon.beats) (fixed_in ph) y k v s s')
      (λ e. Turned o (meaning ph.plant) ph.horizon.beats (need ph.plant ph.horizon.beats) (fixed_in ph) y k v s s' e)

  -- where the blocks begin and a cell of the score, or why there is none
  abbrev pub ScoreAnswer : Phrase P → ℕ → ℕ → List V → Result (Blocks × ℕ) Refusal → Type 0
  ScoreAnswer ph y k s r = MatchResult r
      (λ p. BlocksAt ph p.0 s × (y < (meaning ph.plant).outputs) × (k < ph.horizon.beats) × (p.1 ≡ y * ph.horizon.beats + k) × (p.1 < length s))
      (λ e. by_refusal
      ((total (meaning ph.plant) ph.horizon.beats (need ph.plant ph.horizon.beats) ≤ length s) × (((meaning ph.plant).outputs ≤ y) ⊎ (ph.horizon.beats ≤ k)))
      (length s < total (meaning ph.plant) ph.horizon.beats (need ph.plant ph.horizon.beats))
      ⊥ ⊥ ⊥ ⊥ ⊥ e)

  abbrev pub OrderAnswer : Phrase P → ℕ → List V → Result Order Refusal → Type 0
  OrderAnswer ph i s r = r ≡ order_answer (room (meaning ph.plant) ph.horizon.beats (need ph.plant ph.horizon.beats) s) (meaning ph.plant).inputs ph.horizon.beats i (lane_at ph.lanes.table i)

  -- the cell of an input's lowest open beat, if its order can be handed out
  abbrev pub NextAnswer : Phrase P → ℕ → List V → Result ℕ Refusal → Type 0
  NextAnswer ph i s r =
      let order : Order = record { input = i; beat = fixed_in ph i } in
      MatchResult r
      (λ at. (i < (meaning ph.plant).inputs) × (fixed_in ph i < ph.horizon.beats) × OrderAnswer ph i s (Ok order) × (at ≡ cell_of (meaning ph.plant) ph.horizon.beats order) × (at < length s))
      (λ e. OrderAnswer ph i s (Err e))

  -- the answer to an order, and what the plan has there if it is handed out
  abbrev pub FoundAnswer : Phrase P → Phrase P → ℕ → List V → Result (Order × V) Refusal → Type 0
  FoundAnswer ph ph' i s r = MatchResult r
      (λ p. OrderAnswer ph i s (Ok p.0) × (p.1 ≡ plan o (meaning ph.plant) ph.horizon.beats s p.0.input p.0.beat) × (ph'.lanes.table ≡ ordered ph.lanes.table (Ok p.0)))
      (λ e. OrderAnswer ph i s (Err e) × (ph'.lanes.table ≡ ph.lanes.table))

  -- the cell that a firing writes, or why it is refused
  abbrev pub AimAnswer : Phrase P → Order → V → List V → Result ℕ Refusal → Type 0
  AimAnswer ph order v s r = MatchResult r
      (λ at. Aimed o (meaning ph.plant) ph.horizon.beats (need ph.plant ph.horizon.beats) order v ph.lanes.table s at)
      (λ e. Unfired o (meaning ph.plant) ph.horizon.beats (need ph.plant ph.horizon.beats) order v ph.lanes.table s e)

  abbrev pub FireCells : Phrase P → Phrase P → Order → V → List V → List V → Result Unit Returned → Type 0
  FireCells ph ph' order v s s' r = MatchResult r
      (λ _. Fired o (meaning ph.plant) ph.horizon.beats (need ph.plant ph.horizon.beats) order v ph.lanes.table ph'.lanes.table s s')
      (λ e. (e.order ≡ order) × (s' ≡ s) × (ph'.lanes.table ≡ ph.lanes.table) × Unfired o (meaning ph.plant) ph.horizon.beats (need ph.plant ph.horizon.beats) order v ph.lanes.table s e.refusal)

  abbrev pub MissCells : Phrase P → Phrase P → Order → List V → List V → Result Unit Returned → Type 0
  MissCells ph ph' order s s' r = MatchResult r
      (λ _. Missed o (meaning ph.plant) ph.horizon.beats (need ph.plant ph.horizon.beats) order ph.lanes.table ph'.lanes.table s s')
      (λ e. (e.order ≡ order) × (s' ≡ s) × (ph'.lanes.table ≡ ph.lanes.table) × Unmissed o (meaning ph.plant) ph.horizon.beats (need ph.plant ph.horizon.beats) order ph.lanes.table s e.refusal)

  -- the act takes every run that left the one to a run that left the other
  abbrev pub Law : Stage → Stage → Phrase P → Phrase P → Act V → List V → List V → Type 0
  Law g g' ph ph' a s s' = Step o (meaning ph.plant) ph.horizon.beats (need ph.plant ph.horizon.beats) g g' a ph.lanes.table ph'.lanes.table s s'

  abbrev pub OrderLaw : Stage → Phrase P → Phrase P → ℕ → List V → Result Order Refusal → Type 0
  OrderLaw g ph ph' i s r = Law g g ph ph' (order_act o (meaning ph.plant) ph.horizon.beats s i r) s s

  -- an order was answered so, and came to this act
  pub record OrderTaken (ph ph' : Phrase P) (i : ℕ) (s : List V) (r : Result Order Refusal) (a : Act V) : Type 0 where
    pub plant : ph'.plant ≡ ph.plant
    pub horizon : ph'.horizon ≡ ph.horizon
    pub answer : OrderAnswer ph i s r
    pub lanes : ph'.lanes.table ≡ ordered ph.lanes.table r
    pub act : a ≡ order_act o (meaning ph.plant) ph.horizon.beats s i r
    pub law : Law playing playing ph ph' a s s

  -- an order was given back with v, and came to this act
  pub record OrderFired (ph ph' : Phrase P) (order : Order) (v : V) (s s' : List V) (r : Result Unit Returned) (a : Act V) : Type 0 where
    pub plant : ph'.plant ≡ ph.plant
    pub horizon : ph'.horizon ≡ ph.horizon
    pub cells : FireCells ph ph' order v s s' r
    pub act : a ≡ fire_act order v r
    pub law : Law playing playing ph ph' a s s'

  -- an order was given back unfired, and came to this act
  pub record OrderMissed (ph ph' : Phrase P) (order : Order) (s s' : List V) (a : Act V) : Type 0 where
    pub plant : ph'.plant ≡ ph.plant
    pub horizon : ph'.horizon ≡ ph.horizon
    pub answer : Result Unit Returned
    pub cells : MissCells ph ph' order s s' answer
    pub act : a ≡ miss_act order answer
    pub law : Law playing playing ph ph' a s s'
