use Rattle.std.proofs.Common.{rules}
use Rattle.nets.proofs.Strikes.{ceilings_bound}
use Rattle.nets.proofs.net.Net.ceiling.Goals as goal

pub returns-clause-residual : goal.returns-clause-residual
returns-clause-residual g c = ceilings_bound g.met.T.Kind.laws c.args.self.now c.args.k.beats c.args.at c.args.sheet.now _ c.backward.result (search rules)
