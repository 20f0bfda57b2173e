-- Each call keeps the law of its phrase, at every stage that takes it.
use Rattle.std.proofs.Common.{◌≡◌, ℕ, ◌<◌, ◌≤◌, true, List, length, Result, arith}
use Rattle.kinds.specs.Kind.{Ops, Laws}
use Rattle.kinds.specs.declared.refusals.Refusal.{Refusal}
use Rattle.plants.specs.Meaning.{Meaning, Counted}
use Rattle.runs.specs.History.{Stage, takes}
use Rattle.runs.specs.declared.acts.Call.TheVariants.{Due, Order, Fire, Miss, Strikes}
use Rattle.phrases.specs.Orders.{ordered}
use Rattle.phrases.specs.Promises.{fixed_in, StrikesCells, DueCells, OrderAnswer, FireCells, MissCells, Law}
use Rattle.phrases.specs.Steps.{due_act, strikes_act, fire_act, miss_act, order_act}
use Rattle.phrases.specs.declared.lanes.Order.{Order as Token}
use Rattle.phrases.specs.declared.lanes.Returned.{Returned}
use Rattle.phrases.specs.declared.states.Phrase.{Phrase}
use Rattle.phrases.proofs.Places.{few_fixed}
use Rattle.phrases.proofs.Lawful.{strikes_law, due_law, order_law, fire_law, miss_law}

module _ {P V : Type 0} {o : Ops V} (L : Laws o) (meaning : P → Meaning V) (need : P → ℕ → ℕ) (counted : (p : P) → Counted (meaning p)) (ph : Phrase P) where
  few : (i : ℕ) → i < (meaning ph.plant).inputs → fixed_in ph i ≤ ph.horizon.beats
  few = few_fixed (meaning ph.plant) ph (counted ph.plant)

  all : (meaning ph.plant).inputs ≤ length ph.lanes.table
  all = let many = (counted ph.plant).few_inputs in let long = ph.sixteen in omega arith

  module _ (s s' : List V) (len : length s' ≡ length s) (g : Stage) where
    pub strikes_kept : takes {V = V} Strikes g ≡ true → (r : Result Unit Refusal) → StrikesCells o meaning need ph s s' r → Law o meaning need g g ph ph (strikes_act r) s s'
    strikes_kept tk r t h old = strikes_law L (meaning ph.plant) ph.horizon.beats (need ph.plant ph.horizon.beats) g h ph.lanes.table s few old s' len tk r t

    pub due_kept : (y k : ℕ) (v : V) → takes (Due y k v) g ≡ true → (r : Result Unit Refusal) → DueCells o meaning need ph y k v s s' r → Law o meaning need g g ph ph (due_act y k v r) s s'
    due_kept y k v tk r t h old = due_law L (meaning ph.plant) ph.horizon.beats (need ph.plant ph.horizon.beats) g h ph.lanes.table s few old y k v s' len tk r t

    pub fire_kept : (ph' : Phrase P) (order : Token) (v : V) → takes (Fire order.input order.beat v) g ≡ true → (r : Result Unit Returned) → FireCells o meaning need ph ph' order v s s' r → Law o meaning need g g ph ph' (fire_act order v r) s s'
    fire_kept ph' order v tk r t h old = fire_law L (meaning ph.plant) ph.horizon.beats (need ph.plant ph.horizon.beats) g h ph.lanes.table s few old order ph'.lanes.table s' len all v tk r t

    pub miss_kept : (ph' : Phrase P) (order : Token) → takes {V = V} (Miss order.input order.beat) g ≡ true → (r : Result Unit Returned) → MissCells o meaning need ph ph' order s s' r → Law o meaning need g g ph ph' (miss_act order r) s s'
    miss_kept ph' order tk r t h old = miss_law L (meaning ph.plant) ph.horizon.beats (need ph.plant ph.horizon.beats) g h ph.lanes.table s few old order ph'.lanes.table s' len all tk r t

  pub order_kept : (s : List V) (g : Stage) (ph' : Phrase P) (i : ℕ) → takes {V = V} (Order i) g ≡ true → (r : Result Token Refusal) → OrderAnswer o meaning need ph i s r → ph'.lanes.table ≡ ordered ph.lanes.table r
      → Law o meaning need g g ph ph' (order_act o (meaning ph.plant) ph.horizon.beats s i r) s s
  order_kept s g ph' i tk r e t h old = order_law L (meaning ph.plant) ph.horizon.beats (need ph.plant ph.horizon.beats) g h ph.lanes.table s few old i tk all r ph'.lanes.table e t
