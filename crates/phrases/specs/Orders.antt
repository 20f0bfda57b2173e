-- The lanes, and what an order is answered.
use Rattle.std.specs.Prelude.{ℕ, ◌+◌, ◌-◌, Bool, true, false, cond, ◌&&◌, List, [], ◌∷◌, map, Some, None, Ok, Err, Option, Result, ◌==◌, nat_lt, slice_index_or, slice_set}
use Rattle.phrases.specs.declared.lanes.Lane.{Lane}
use Rattle.phrases.specs.declared.lanes.Order.{Order}
use Rattle.kinds.specs.declared.refusals.Refusal.{Refusal}
use Rattle.kinds.specs.declared.refusals.Refusal.TheVariants.{Missing, Short, OrderOut, AllFixed}

abbrev pub idle : Lane
idle = record { fixed = 0; out = false }

abbrev pub lane_at : List Lane → ℕ → Lane
lane_at table i = slice_index_or table i idle

-- the answer to an order of an input, of m, whose lane is l, at k beats
abbrev pub order_answer : (fits : Bool) (m k i : ℕ) → Lane → Result Order Refusal
order_answer fits m k i l =
    cond fits (cond (nat_lt i m) (cond l.out (Err OrderOut) (cond (nat_lt l.fixed k) (Ok (record { input = i; beat = l.fixed })) (Err AllFixed))) (Err Missing)) (Err Short)

-- the lanes after an order was answered
abbrev pub ordered : List Lane → Result Order Refusal → List Lane
ordered table (Ok o) = slice_set table o.input (record { fixed = o.beat + 1; out = true })
ordered table (Err e) = table

-- an order for this input and beat is out here: m inputs
abbrev pub is_out : (m : ℕ) → List Lane → Order → Bool
is_out m table o = nat_lt o.input m && ((lane_at table o.input).out && (lane_at table o.input).fixed == o.beat + 1)

-- the lane of an order that came back
abbrev pub back : List Lane → Order → List Lane
back table o = slice_set table o.input (record { fixed = (lane_at table o.input).fixed; out = false })

-- the order of a lane that is out; those of all sixteen lanes
abbrev pub order_out : Lane → ℕ → Option Order
order_out l i = cond l.out (Some (record { input = i; beat = l.fixed - 1 })) None

abbrev pub orders_out : List Lane → List (Option Order)
orders_out table = map (λ i. order_out (lane_at table i) i) (0 ∷ 1 ∷ 2 ∷ 3 ∷ 4 ∷ 5 ∷ 6 ∷ 7 ∷ 8 ∷ 9 ∷ 10 ∷ 11 ∷ 12 ∷ 13 ∷ 14 ∷ 15 ∷ [])
