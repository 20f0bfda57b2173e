use Rattle.std.proofs.Common.{refl, ◌∙◌}
use Rattle.nets.specs.Nets.{meant, net_need}
use Rattle.loading.proofs.Readings.{so_many}
use Rattle.printing.proofs.Rooms.{suffices}
use Rattle.printing.proofs.cards.play_score.Goals as goal

pub card_on-requires : goal.card_on-requires
card_on-requires g c =
    let o = g.T.Kind.ops in
    let net = c.plant-plant.result in
    let K = c.args.k.beats in
    suffices (meant o net) K (net_need net K) c.inputs.result c.outputs.result c.beats.result c.need.result _ _
    c.inputs.ensures c.outputs.ensures c.beats.ensures.0 c.need.ensures refl
    (so_many _ c.bottom.result _ (c.as_mut_slice.ensures.value ∙ c.in_ok-sheet.ensures))
