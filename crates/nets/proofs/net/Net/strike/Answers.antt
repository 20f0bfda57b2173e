use Rattle.std.proofs.Common.{rules}
use Rattle.routes.proofs.Superposed.{by_routes}
use Rattle.nets.proofs.Strikes.{strikes_solve}
use Rattle.nets.proofs.net.Net.strike.Goals as goal

pub returns-clause-routes : goal.returns-clause-routes
returns-clause-routes g c = let s = c.args.self.now in by_routes g.met.T.Kind.laws s.transitions s.inputs s.outputs s.links.now

pub returns-clause-solution : goal.returns-clause-solution
returns-clause-solution g c = strikes_solve g.met.T.Kind.laws c.args.self.now c.args.k.beats c.args.at c.args.sheet.now _ c.forward.result (search rules)
