use Rattle.loading.proofs.Readings.{resized}
use Rattle.loading.proofs.copies.copies_of.Goals as goal

pub returns : goal.returns
returns g c = resized c.args.count _ c.args.value _ _ c.new-all.ensures.items c.new-all.ensures.len c.in_ok-resize.ensures.items
