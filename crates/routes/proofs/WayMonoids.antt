-- What arrives either way is put together by a commutative monoid.
use Rattle.kinds.specs.Kind.{Ops, Laws}
use Rattle.walks.proofs.Spreads.{Monoid, join_monoid, meet_monoid}
use Rattle.routes.specs.Ways.{none, both}
use Rattle.routes.specs.declared.Way.{Way}
use Rattle.routes.specs.declared.Way.TheVariants.{Forth, Back}

pub monoid : {T : Type 0} {o : Ops T} → Laws o → (way : Way) → Monoid (none o way) (both o way)
monoid laws Forth = join_monoid laws
monoid laws Back = meet_monoid laws
