use Rattle.std.proofs.Common.{◌≡◌, ℕ, suc, ◌+◌, ◌-◌, ◌<◌, sym, ap, ◌∙◌, subst, arith}
use Rattle.kinds.specs.Kind.{AtMost}
use Rattle.walks.specs.Walks.{best}
use Rattle.circuits.specs.Grids.{spot, Stays, FirstFailing}
use Rattle.circuits.proofs.Lines.{some_first}
use Rattle.circuits.proofs.Steps.{length-slots, partly_none, partly_more, next_exists}
use Rattle.circuits.proofs.grid.Grid.name.Goals as goal

pub loop-i-init : goal.loop-i-init
loop-i-init g c =
    let grid = c.args.self.now in
    let k = c.args.walk in
    partly_none g.met.T.Kind.laws grid.n (spot g.T.Kind.ops grid.n grid.cells.now) k.start k.more _ c.one-so_far.result c.one-so_far.ensures c.requires.start_within c.requires.bad

pub unwrap-x-requires : goal.unwrap-x-requires
unwrap-x-requires g c =
    let o = g.T.Kind.ops in
    let n = c.args.self.now.n in
    let k = c.args.walk in
    let at = c.loop-i.at in
    let q = c.loop-i.so_far in
    let row = k.more - 1 - c.loop-i.i in
    let A : ℕ → ℕ → g.row.T.Denot = spot o n c.args.self.now.cells.now in
    let mn : k.more < n = c.requires.more_within in
    let room = length-slots c.args.list.now k.start k.more (omega (arith, c.requires.space)) in
    let up : suc row ≡ k.more - c.loop-i.i = omega arith in
    some_first (Stays o n c.args.self.now.cells.now q at (n + row)) n c.next.result c.next.ensures
    (next_exists g.met.T.Kind.laws n A k.start k.more c.args.self.now.cells.now row q at c.requires.tabled (omega arith)
    (λ h. c.loop-i.invariant.bad (subst (λ s. AtMost o (o.product q (best o n A s at k.start)) o.one) up h)))

pub loop-i-preserved : goal.loop-i-preserved
loop-i-preserved g c =
    let o = g.T.Kind.ops in
    let n = c.args.self.now.n in
    let k = c.args.walk in
    let at = c.loop-i.at in
    let q = c.loop-i.so_far in
    let x = c.unwrap-x.result in
    let row = k.more - 1 - c.loop-i.i in
    let A : ℕ → ℕ → g.row.T.Denot = spot o n c.args.self.now.cells.now in
    let mn : k.more < n = c.requires.more_within in
    let room = length-slots c.args.list.now k.start k.more (omega (arith, c.requires.space)) in
    let sn : row < n = omega arith in
    let first = subst (FirstFailing (Stays o n c.args.self.now.cells.now q at (n + row)) n) c.unwrap-x.ensures c.next.ensures in
    let Low : ℕ → g.row.T.Denot → Type 0 = λ y v. AtMost o (o.product (o.product q (A at y)) v) o.one in
    partly_more g.met.T.Kind.laws n A k.start k.more _ c.loop-i.slot-items c.loop-i.i at q c.product-so_far.result x c.loop-i.invariant (omega arith) c.loop-i-test.true
    (c.product-so_far.ensures ∙ ap (o.product q) c.read.ensures) (
      first.0,
      (λ y yx. subst (Low y) (c.requires.tabled row y sn (omega (arith, first.0))) (first.1 y yx)),
      (λ h. first.2 (subst (Low x) (sym (c.requires.tabled row x sn first.0)) h)),
    )
