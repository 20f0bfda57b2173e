-- The law of a phrase and its sheet, and the act that each call comes to.
use Rattle.std.specs.Prelude.{ℕ, Bool, List, ◌∷◌, length, Ok, Err, Result, nat_le}
use Rattle.kinds.specs.Kind.{Ops}
use Rattle.plants.specs.Meaning.{Meaning}
use Rattle.runs.specs.History.{Run, Stage, Sound}
use Rattle.runs.specs.Told.{told}
use Rattle.phrases.specs.Cells.{score, plan, total}
use Rattle.phrases.specs.Orders.{lane_at}
use Rattle.runs.specs.declared.acts.Act.{Act}
use Rattle.runs.specs.declared.acts.Answer.{Answer}
use Rattle.runs.specs.declared.acts.Answer.TheVariants.{Done, Ordered, Refused}
use Rattle.runs.specs.declared.acts.Call.TheVariants.{Lay, Due, Start, Order, Fire, Miss, Strikes, End}
use Rattle.phrases.specs.declared.lanes.Lane.{Lane}
use Rattle.phrases.specs.declared.lanes.Order.{Order as Token}
use Rattle.kinds.specs.declared.refusals.Refusal.{Refusal}
use Rattle.phrases.specs.declared.lanes.Returned.{Returned}

-- whether a sheet has all the cells
abbrev pub room : {V : Type 0} → Meaning V → (K need : ℕ) → List V → Bool
room M K need s = nat_le (total M K need) (length s)

module _ {V : Type 0} (o : Ops V) (M : Meaning V) (K need : ℕ) where
  -- the run h left a phrase at this stage with these lanes, and this sheet
  abbrev pub Left : Stage → Run V → List Lane → List V → Type 0
  Left g h table s = Sound o M K (room M K need s) g h (score o K s) (plan o M K s) (λ i. (lane_at table i).fixed) (λ i. (lane_at table i).out)

  -- a call with its answer takes every run that left the one to a run that left the other
  abbrev pub Step : Stage → Stage → Act V → List Lane → List Lane → List V → List V → Type 0
  Step g g' a table table' s s' = (h : Run V) → Left g h table s → Left g' (a ∷ h) table' s'

module _ {V : Type 0} (o : Ops V) (M : Meaning V) (K : ℕ) where
  -- what an order is answered: its beat, and what the plan has there
  abbrev pub ordered_as : List V → Result Token Refusal → Answer V
  ordered_as s (Ok order) = Ordered order.beat (plan o M K s order.input order.beat)
  ordered_as s (Err e) = Refused e

  abbrev pub order_act : List V → ℕ → Result Token Refusal → Act V
  order_act s i r = record { call = Order i; answer = ordered_as s r }

abbrev pub told_back : {V X : Type 0} → Result X Returned → Answer V
told_back (Ok x) = Done
told_back (Err e) = Refused e.refusal

abbrev pub lay_act : {V X : Type 0} → Result X Refusal → Act V
lay_act r = record { call = Lay; answer = told r }

abbrev pub due_act : {V X : Type 0} → ℕ → ℕ → V → Result X Refusal → Act V
due_act y k v r = record { call = Due y k v; answer = told r }

abbrev pub strikes_act : {V X : Type 0} → Result X Refusal → Act V
strikes_act r = record { call = Strikes; answer = told r }

abbrev pub fire_act : {V X : Type 0} → Token → V → Result X Returned → Act V
fire_act order v r = record { call = Fire order.input order.beat v; answer = told_back r }

abbrev pub miss_act : {V X : Type 0} → Token → Result X Returned → Act V
miss_act order r = record { call = Miss order.input order.beat; answer = told_back r }

abbrev pub start_act : {V : Type 0} → Act V
start_act = record { call = Start; answer = Done }

abbrev pub end_act : {V : Type 0} → Act V
end_act = record { call = End; answer = Done }
