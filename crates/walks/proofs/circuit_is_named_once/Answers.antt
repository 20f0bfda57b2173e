use Rattle.walks.proofs.Unique.{named_once}
use Rattle.walks.proofs.circuit_is_named_once.Goals as goal

pub returns : goal.returns
returns g c = named_once g.T.Kind.ops
