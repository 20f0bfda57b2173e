use Rattle.std.proofs.Common.{ℕ, ◌<◌}
use Rattle.kinds.specs.Kind.{AtMost}
use Rattle.phrases.specs.Cells.{plan, spare}
use Rattle.phrases.specs.Promises.{fixed_in}
use Rattle.phrases.proofs.states.Phrase.holds.Given as goal

abbrev pub invariant-loop-wire : goal.invariant-loop-wire
invariant-loop-wire g l =
    let M = g.P.Plant.meaning l.self.plant in
    let K = l.self.horizon.beats in
    (i b : ℕ) → i < l.wire → b < fixed_in l.self i → AtMost g.P.Value.Kind.ops (plan g.P.Value.Kind.ops M K l.sheet i b) (spare g.P.Value.Kind.ops M K l.sheet i b)
