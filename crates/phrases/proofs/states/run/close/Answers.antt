use Rattle.std.proofs.Common.{None, refl, rules}
use Rattle.phrases.specs.Orders.{lane_at, order_out}
use Rattle.phrases.specs.Phases.{table_of}
use Rattle.phrases.proofs.Made.{made_from}
use Rattle.phrases.proofs.states.run.close.Goals as goal

pub returns : goal.returns
returns g c = (refl, made_from _ _ (λ i. order_out (lane_at (table_of c.args.phase) i) i) (λ i y q k. search rules) _ _ None c.from_fn-orders.ensures.items)
