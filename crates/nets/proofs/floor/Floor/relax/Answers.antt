use Rattle.std.proofs.Common.{◌≡◌, ℕ, ◌+◌, ◌*◌, ◌^◌, ◌<◌, true, length, subst, arith, rules}
use Rattle.nets.proofs.Rows.{row_end, turn_row}
use Rattle.nets.proofs.Settles.{copied_over, relaxes}
use Rattle.nets.specs.Stages.{cell}
use Rattle.nets.specs.Turns.{Still}
use Rattle.nets.proofs.floor.Floor.relax.Goals as goal

pub overflow_add-row-2 : goal.overflow_add-row-2
overflow_add-row-2 g c =
    let f = c.args.self.now in
    let long : length f.sheet.now < 2 ^ 64 = search rules in
    let b = turn_row f.stage _ f.laid in
    let r = row_end f.stage _ f.laid in
    record { fits = omega arith }

pub copy_within-requires-clause-in_bounds : goal.copy_within-requires-clause-in_bounds
copy_within-requires-clause-in_bounds g c =
    let f = c.args.self.now in
    let b = turn_row f.stage _ f.laid in
    let r = row_end f.stage _ f.laid in
    omega arith

pub returns-clause-relaxed : goal.returns-clause-relaxed
returns-clause-relaxed g c =
    let o = g.T.Kind.ops in
    let f = c.args.self.now in
    let st = f.stage in
    let row = st.working + st.turn * st.n in
    let spare = st.working + st.beats * st.n in
    let d = c.sweep.new.self in
    let copied = copied_over o row spare st.n f.sheet.now c.copy_within.new.self c.copy_within.ensures.by_index in
    relaxes g.met.T.Kind.laws st _ f.laid f.links.now f.sheet.now c.copy_within.new.self d.sheet.now c.is_stable.result copied.0 copied.1 c.sweep.ensures.swept
    (subst (λ q. c.is_stable.result ≡ true → (t : ℕ) → t < q.n → Still o q.way (cell o d.sheet.now (row + t)) (cell o d.sheet.now (spare + t))) c.sweep.ensures.floor.0 c.is_stable.ensures)
