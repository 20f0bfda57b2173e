use Rattle.std.proofs.Common.{◌<◌, refl, subst, ◌∙◌, arith, rules}
use Rattle.walks.specs.Searches.{Sought}
use Rattle.circuits.specs.Grids.{spot, SameTo, Listed}
use Rattle.circuits.proofs.Tables.{kept_on}
use Rattle.circuits.proofs.Verdicts.{accepted, refused, spared, tabled_again, high_again}
use Rattle.circuits.proofs.check.Goals as goal

pub returns-in_default : goal.returns-in_default
returns-in_default g c =
    let o = g.T.Kind.ops in
    let n = c.args.n in
    let x = c.load.new.self in
    let y = c.search.new.self in
    let a = c.load.ensures.loan in
    let b = c.search.ensures.kept.loan in (
      (c.if-cells-n.false, c.if-list-lt64.false),
      spared o n c.args.cells.now _ x y (search rules) (search rules) a.0 c.load.ensures.beyond c.search.ensures.kept,
      accepted g.met.T.Kind.laws n c.args.links.now x.cells.now c.load.ensures.loaded (subst (λ k. Sought o k (spot o k x.cells.now) k 0 k) a.0 c.in_default.ensures.found),
      refl,
    )

pub name-requires-clause-tabled : goal.name-requires-clause-tabled
name-requires-clause-tabled g c =
    let bad = c.in-Some.ensures.found.1.bad c.in-Some.ensures.found.0 in
    tabled_again g.T.Kind.ops c.search.new.self c.fill_rows.new.self c.in-Some.walk.start (omega (arith, bad.0, c.search.ensures.kept.loan)) c.fill_rows.ensures.kept c.fill_rows.ensures.tabled

pub name-requires-clause-bad : goal.name-requires-clause-bad
name-requires-clause-bad g c =
    let bad = c.in-Some.ensures.found.1.bad c.in-Some.ensures.found.0 in
    let kept = kept_on c.load.new.self c.search.new.self c.fill_rows.new.self c.search.ensures.kept c.fill_rows.ensures.kept in
    high_again g.T.Kind.ops c.load.new.self c.fill_rows.new.self c.in-Some.walk.start bad.0 kept c.in-Some.walk.more bad.1

pub returns : goal.returns
returns g c =
    let o = g.T.Kind.ops in
    let n = c.args.n in
    let k = c.in-Some.walk in
    let x = c.load.new.self in
    let z = c.fill_rows.new.self in
    let a = c.load.ensures.loan in
    let b = c.search.ensures.kept.loan in
    let d = c.fill_rows.ensures.kept.loan in
    let kept = kept_on x c.search.new.self z c.search.ensures.kept c.fill_rows.ensures.kept in
    let sought = subst (λ m. Sought o m (spot o m x.cells.now) m k.start k.more) a.0 c.in-Some.ensures.found.1 in
    let less : k.more < n = omega (arith, c.in-Some.ensures.found.0, a.0) in (
      (c.if-cells-n.false, c.if-list-lt64.false),
      spared o n c.args.cells.now _ x z (search rules) (search rules) a.0 c.load.ensures.beyond kept,
      refused g.met.T.Kind.laws n c.args.links.now x.cells.now z.cells.now c.args.list.now c.name.new.list k.start k.more c.load.ensures.loaded
          (subst (λ m. SameTo o m m x.cells.now z.cells.now) a.0 kept.same) sought (sought.bad less).0
          (subst (λ m. Listed o m (spot o m z.cells.now) k.start k.more c.args.list.now c.name.new.list) (kept.loan.0 ∙ a.0) c.name.ensures),
    )
