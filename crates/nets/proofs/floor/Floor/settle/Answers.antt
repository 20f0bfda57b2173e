use Rattle.std.proofs.Common.{◌≡◌, suc, ◌+◌, ◌-◌, ◌≤◌, arith}
use Rattle.nets.proofs.Settles.{settling_round, settling_early}
use Rattle.nets.proofs.floor.Floor.settle.Goals as goal

pub loop-round-preserved : goal.loop-round-preserved
loop-round-preserved g c =
    let up : suc (c.loop-round._round - 1) ≡ c.loop-round._round + 1 - 1 = omega arith in
    settling_round g.T.Kind.ops c.args.self.now c.loop-round.self c.relax.new.self c.relax.result _ _ c.loop-round.invariant c.relax.ensures.floor c.relax.ensures.relaxed up

pub returns-then-relax-clause-settled : goal.returns-then-relax-clause-settled
returns-then-relax-clause-settled g c =
    let low : c.loop-round._round - 1 ≤ c.args.self.now.stage.n - 1 = omega arith in
    (settling_early g.T.Kind.ops c.args.self.now c.loop-round.self c.relax.new.self c.relax.result _ _ c.loop-round.invariant c.relax.ensures.floor c.relax.ensures.relaxed low c.if-relax.true).settled
