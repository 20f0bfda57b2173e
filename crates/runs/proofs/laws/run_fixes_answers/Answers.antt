use Rattle.runs.proofs.One.{run_fixes_answers}
use Rattle.runs.proofs.laws.run_fixes_answers.Goals as goal

pub returns : goal.returns
returns g c = run_fixes_answers g.met.T.Kind.laws
