use Rattle.std.proofs.Common.{◌-◌}
use Rattle.nets.specs.Stages.{Swept}
use Rattle.nets.specs.Turns.{Settled}
use Rattle.nets.specs.declared.stage.Leg.TheVariants.{Wait, Out}
use Rattle.nets.proofs.Floors.{floor_more, at_floor}
use Rattle.nets.proofs.Plays.{plays}
use Rattle.nets.proofs.floor.Floor.play.Goals as goal

pub returns-clause-played : goal.returns-clause-played
returns-clause-played g c =
    let o = g.T.Kind.ops in
    let f0 = c.args.self.now in
    let f1 = c.sweep.new.self in
    let f2 = c.sweep-2.new.self in
    let f3 = c.settle.new.self in
    let f4 = c.sweep-3.new.self in
    let same1 = c.sweep.ensures.floor in
    let same2 = floor_more f0 f1 f2 same1 c.sweep-2.ensures.floor in
    let same3 = floor_more f0 f2 f3 same2 c.settle.ensures.floor in
    plays g.met.T.Kind.laws f0.stage _ f0.laid f0.links.now f0.sheet.now f1.sheet.now f2.sheet.now f3.sheet.now f4.sheet.now c.sweep.ensures.swept
    (at_floor (λ s links. Swept o Wait s links f1.sheet.now f2.sheet.now) f0 f1 same1 c.sweep-2.ensures.swept)
    (at_floor (λ s links. Settled o s links (s.n - 1) f2.sheet.now f3.sheet.now) f0 f2 same2 c.settle.ensures.settled)
    (at_floor (λ s links. Swept o Out s links f3.sheet.now f4.sheet.now) f0 f3 same3 c.sweep-3.ensures.swept)
    c.requires
