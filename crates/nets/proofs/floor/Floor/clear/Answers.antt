use Rattle.std.proofs.Common.{◌+◌, ◌*◌, subst, arith}
use Rattle.plants.specs.Calls.{Flooded}
use Rattle.nets.proofs.Plays.{blanked}
use Rattle.nets.proofs.floor.Floor.clear.Goals as goal

pub returns-clause-blank : goal.returns-clause-blank
returns-clause-blank g c =
    let o = g.T.Kind.ops in
    let f = c.args.self.now in
    let st = f.stage in
    let s1 = c.fill.new.sheet in
    let s2 = c.fill-2.new.sheet in
    blanked o st f.sheet.now s1 s2 f.laid (omega arith)
    (subst (λ v. Flooded o st.asked (st.writes * st.beats) v f.sheet.now s1) c.blank-value.ensures c.fill.ensures)
    (subst (λ v. Flooded o st.working ((st.beats + 1) * st.n) v s1 s2) c.blank-value.ensures c.fill-2.ensures)
