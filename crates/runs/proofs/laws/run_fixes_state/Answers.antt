use Rattle.runs.proofs.One.{run_fixes_state}
use Rattle.runs.proofs.laws.run_fixes_state.Goals as goal

pub returns : goal.returns
returns g c = run_fixes_state g.met.T.Kind.laws
