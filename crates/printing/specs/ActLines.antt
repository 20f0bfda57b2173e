-- The line of a call of a run.
use Rattle.std.specs.Prelude.{ℕ, Some, None, Ok, Err, Option, Result}
use Rattle.kinds.specs.declared.refusals.Refusal.{Refusal}
use Rattle.runs.specs.declared.acts.Act.{Act}
use Rattle.runs.specs.declared.acts.Answer.{Answer}
use Rattle.runs.specs.declared.acts.Answer.TheVariants.{Done, Ordered, Refused, Untaken}
use Rattle.runs.specs.declared.acts.Call.{Call}
use Rattle.runs.specs.declared.acts.Call.TheVariants.{Lay, Due, Start, Order, Fire, Miss, Strikes, End}
use Rattle.listing.specs.declared.lines.CardLine.{CardLine}
use Rattle.listing.specs.declared.lines.CardLine.TheVariants.{Answered}
use Rattle.listing.specs.declared.lines.Event.TheVariants as event
use Rattle.listing.specs.declared.lines.Spot.{Spot}

abbrev pub spot : {T : Type 0} → ℕ → T → Option (Spot T)
spot b v = Some (record { beat = b; value = v })

-- a call that was done or refused: a miss has bottom for its value, an order no beat and no value; the other calls have no line
abbrev pub call_line : {T : Type 0} → T → Call T → Result Unit Refusal → Option (CardLine T)
call_line bottom Lay answer = None
call_line bottom (Due y k v) answer = Some (Answered event.Due y (spot k v) answer)
call_line bottom Start answer = None
call_line bottom (Order i) answer = Some (Answered event.Order i None answer)
call_line bottom (Fire i b v) answer = Some (Answered event.Fire i (spot b v) answer)
call_line bottom (Miss i b) answer = Some (Answered event.Miss i (spot b bottom) answer)
call_line bottom Strikes answer = None
call_line bottom End answer = None

-- an order that was handed out: the beat that it fixed, and what the plan has there
abbrev pub order_line : {T : Type 0} → Call T → ℕ → T → Option (CardLine T)
order_line Lay b x = None
order_line (Due y k v) b x = None
order_line Start b x = None
order_line (Order i) b x = Some (Answered event.Order i (spot b x) (Ok tt))
order_line (Fire i k v) b x = None
order_line (Miss i k) b x = None
order_line Strikes b x = None
order_line End b x = None

abbrev pub line_by : {T : Type 0} → T → Call T → Answer T → Option (CardLine T)
line_by bottom c Done = call_line bottom c (Ok tt)
line_by bottom c (Ordered b x) = order_line c b x
line_by bottom c (Refused e) = call_line bottom c (Err e)
line_by bottom c Untaken = None

abbrev pub act_line : {T : Type 0} → T → Act T → Option (CardLine T)
act_line bottom a = line_by bottom a.call a.answer
