use Rattle.std.proofs.Common.{[], ◌∷◌, ◌++◌, take, sym, ◌∙◌, subst, arith, rules}
use Rattle.walks.proofs.Spreads.{join_monoid, next_link}
use Rattle.circuits.proofs.Spots.{Loading, loading_all, loading_skip, loading_step, loaded_arcs, loaded_beyond, square_below}
use Rattle.circuits.proofs.grid.Grid.load.Goals as goal
use Rattle.circuits.proofs.grid.Grid.load.Goals.{then-is_tokenless, else-is_tokenless}

pub loop-link-preserved : goal.loop-link-preserved
loop-link-preserved g c =
    let laws = g.met.T.Kind.laws in
    let o = g.T.Kind.ops in
    let b = c.args.self.now in
    let l = c.link-item.result in
    let ls = take c.loop-link.link-index c.args.links.now in
    let Rel = Loading o b c.fill.new.sheet (ls ++ l ∷ []) in
    let step : Rel c.if-is_tokenless.self =
    elim c.if-is_tokenless.branch [
      | then-is_tokenless w ↦ subst Rel (sym w.self-is)
          (loading_step laws b c.fill.new.sheet ls c.loop-link.self l c.loop-link.invariant w.add.new.self w.from.result w.from-then-is_tokenless.result
          (sym w.if-is_tokenless.ensures) w.from.ensures w.from-then-is_tokenless.ensures w.add.ensures.loan w.add.ensures.added)
      | else-is_tokenless w ↦ subst Rel (sym w.self-is) (loading_skip laws b c.fill.new.sheet ls c.loop-link.self l c.loop-link.invariant (sym w.if-is_tokenless.ensures))
    ]
    in
    record {
      loan = step.loan;
      loaded = next_link o.bottom o.bottom o.join (join_monoid laws) _ _ _ _ _ c.args.links.now c.loop-link.link-index l c.loop-link-test.true (search rules) step.loaded;
    }

pub returns-clause-loaded : goal.returns-clause-loaded
returns-clause-loaded g c =
    let b = c.args.self.now in
    let square = square_below b.n in
    let room = b.room in
    let done = loading_all b c.fill.new.sheet c.args.links.now c.loop-link.link-index c.loop-link.self c.loop-link-test.false c.loop-link.invariant in
    loaded_arcs g.met.T.Kind.laws b.n c.fill.new.sheet c.loop-link.self.cells.now c.args.links.now (λ j lt. c.fill.ensures.inside j (omega arith) (omega arith) (omega arith) ∙ c.bottom.ensures) done

pub returns-clause-beyond : goal.returns-clause-beyond
returns-clause-beyond g c =
    let b = c.args.self.now in
    let links = c.args.links.now in
    let done = loading_all b c.fill.new.sheet links c.loop-link.link-index c.loop-link.self c.loop-link-test.false c.loop-link.invariant in
    λ j le. loaded_beyond g.met.T.Kind.laws b.n c.fill.new.sheet c.loop-link.self.cells.now links done j le ∙ c.fill.ensures.outside j (λ h k. omega arith)
