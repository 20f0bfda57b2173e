use Rattle.walks.proofs.Bridge.{short_suffice}
use Rattle.walks.proofs.short_circuits_suffice.Goals as goal

pub returns : goal.returns
returns g c = short_suffice g.met.T.Kind.laws
