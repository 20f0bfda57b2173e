use Rattle.std.proofs.Common.{[], ◌∷◌, ◌++◌, take, sym, refl, subst, rules}
use Rattle.nets.proofs.Sweeps.{Sweeping, sweeping_skip, sweeping_step, swept_none, swept_next}
use Rattle.nets.proofs.floor.Floor.sweep.Goals as goal
use Rattle.nets.proofs.floor.Floor.sweep.Goals.{in-Some, in_default}

pub loop-link-init : goal.loop-link-init
loop-link-init g c = let b = c.args.self.now in record { floor = (refl, refl, refl); swept = swept_none g.met.T.Kind.laws c.args.leg b.stage b.sheet.now }

pub loop-link-preserved : goal.loop-link-preserved
loop-link-preserved g c =
    let laws = g.met.T.Kind.laws in
    let b = c.args.self.now in
    let s = c.loop-link.self in
    let l = c.link-item.result in
    let ls = take c.loop-link.link-index b.links.now in
    let Rel = Sweeping g.T.Kind.ops c.args.leg b (ls ++ l ∷ []) in
    let step : Rel c.match-ends.self =
    elim c.match-ends.branch [
      | in-Some w ↦ subst Rel (sym w.self-is)
          (sweeping_step laws c.args.leg b s ls l c.ends.result c.loop-link.invariant c.ends.ensures.ends w.carry.new.self w.in-Some.from w.in-Some.to w.in-Some.is
          w.carry.ensures.floor w.carry.ensures.carried)
      | in_default w ↦ subst Rel (sym w.self-is) (sweeping_skip laws c.args.leg b s ls l c.ends.result c.loop-link.invariant c.ends.ensures.ends w.in_default.is)
    ]
    in
    record {
      floor = step.floor;
      swept = swept_next laws c.args.leg b.stage b.sheet.now c.match-ends.self.sheet.now b.links.now c.loop-link.link-index l c.loop-link-test.true (search rules) step.swept;
    }
