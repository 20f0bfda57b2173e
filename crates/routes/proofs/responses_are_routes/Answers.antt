use Rattle.routes.proofs.Superposed.{by_routes}
use Rattle.routes.proofs.responses_are_routes.Goals as goal

pub returns : goal.returns
returns g c = by_routes g.met.T.Kind.laws
