use Rattle.std.proofs.Common.{rules}
use Rattle.nets.proofs.Drives.{driven_all, blank_back}
use Rattle.nets.proofs.net.Net.answer.Goals as goal

pub returns : goal.returns
returns g c =
    let before = c.args.sheet.now in
    let fits = c.in_ok-check_places.ensures in (
      fits,
      driven_all g.met.T.Kind.laws c.args.self.now c.args.way c.args.k.beats c.args.at _ fits 0 before _ c.play_all.new.sheet
          (blank_back before _ c.clear.new.self.sheet.now (search rules) c.stage-stage.result _ c.stage-stage.ensures c.clear.ensures.blank) c.play_all.ensures,
    )
