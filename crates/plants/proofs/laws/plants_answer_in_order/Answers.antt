use Rattle.plants.proofs.Galois.{exact, greatest, forward_rises, backward_rises, top_ceiling}
use Rattle.plants.proofs.laws.plants_answer_in_order.Goals as goal

pub returns : goal.returns
returns g c =
    let laws = g.met.T.Kind.laws in
    record { exact = exact laws; greatest = greatest laws; forward = forward_rises laws; backward = backward_rises laws; top = top_ceiling laws }
