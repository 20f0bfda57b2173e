use Rattle.routes.proofs.Residuals.{bounded}
use Rattle.routes.proofs.ceilings_bound_solutions.Goals as goal

pub returns : goal.returns
returns g c = bounded g.met.T.Kind.laws
