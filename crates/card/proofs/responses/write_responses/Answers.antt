use Rattle.std.proofs.Common.{◌∙◌, arith}
use Rattle.loading.proofs.Readings.{so_many}
use Rattle.card.proofs.responses.write_responses.Goals as goal

pub respond-requires : goal.respond-requires
respond-requires g c =
    let long = so_many _ c.bottom.result c.as_mut_slice.result.now (c.as_mut_slice.ensures.value ∙ c.in_ok-sheet.ensures) in
    simp (long, c.inputs.ensures, c.outputs.ensures, c.beats.ensures.0, c.need.ensures) (omega arith)
