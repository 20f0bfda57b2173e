use Rattle.std.proofs.Common.{◌+◌, ◌<◌, subst, arith, rules}
use Rattle.nets.specs.Turns.{Played}
use Rattle.nets.proofs.Drives.{driven_more, driven_back}
use Rattle.nets.proofs.net.Net.play_all.Goals as goal

pub loop-turn-preserved : goal.loop-turn-preserved
loop-turn-preserved g c =
    let o = g.T.Kind.ops in
    let s = c.args.self.now in
    let y = c.play.new.self.sheet.now in
    let below : c.loop-turn.turn < c.args.k.beats = omega arith in
    driven_back c.args.sheet.now _ y (search rules) s c.args.way c.args.k.beats c.args.at (c.loop-turn.turn + 1)
    (driven_more g.met.T.Kind.laws s c.args.way c.args.k.beats c.args.at _ c.requires.fits c.loop-turn.turn below c.args.sheet.now c.loop-turn.sheet y c.loop-turn.invariant
    (subst (λ st. Played o st s.links.now c.loop-turn.sheet y) c.stage-stage.ensures c.play.ensures.played))
