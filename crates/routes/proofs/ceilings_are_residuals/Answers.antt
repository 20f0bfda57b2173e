use Rattle.routes.proofs.Adjoint.{latest_is}
use Rattle.routes.proofs.ceilings_are_residuals.Goals as goal

pub returns : goal.returns
returns g c = latest_is g.met.T.Kind.laws
