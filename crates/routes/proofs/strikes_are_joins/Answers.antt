use Rattle.routes.proofs.Superposed.{answers}
use Rattle.routes.proofs.strikes_are_joins.Goals as goal

pub returns : goal.returns
returns g c = answers g.met.T.Kind.laws
