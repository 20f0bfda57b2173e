use Rattle.routes.proofs.Solutions.{solved}
use Rattle.routes.proofs.strikes_are_solutions.Goals as goal

pub returns : goal.returns
returns g c = λ n m p links u K. solved g.met.T.Kind.laws n m links p u K
