-- The ends by which a link starts and arrives.
use Rattle.std.proofs.Common.{◌≡◌, ℕ, ◌<◌, true}
use Rattle.links.specs.Takes.{tokenless, delayed}
use Rattle.links.specs.declared.Link.{Link}
use Rattle.links.proofs.Ends.{tokenless_ends, delayed_ends, entry_ends, leaving_ends}
use Rattle.routes.specs.Ways.{tail, head, into, out}
use Rattle.routes.specs.declared.Way.{Way}
use Rattle.routes.specs.declared.Way.TheVariants.{Forth, Back}

module _ {T : Type 0} where
  pub tail_ends : (way : Way) (n : ℕ) (l : Link T) → tokenless n l ≡ true → (tail way l < n) × (head way l < n)
  tail_ends Forth n l on = tokenless_ends n l on
  tail_ends Back n l on = let e = tokenless_ends n l on in (e.1, e.0)

  pub wait_ends : (way : Way) (n : ℕ) (l : Link T) → delayed n l ≡ true → (tail way l < n) × (head way l < n)
  wait_ends Forth n l on = delayed_ends n l on
  wait_ends Back n l on = let e = delayed_ends n l on in (e.1, e.0)

  pub into_ends : (way : Way) (n w : ℕ) (l : Link T) → into way n w l ≡ true → (tail way l < w) × (head way l < n)
  into_ends Forth n w l on = entry_ends n w l on
  into_ends Back n w l on = let e = leaving_ends n w l on in (e.1, e.0)

  pub out_ends : (way : Way) (n w : ℕ) (l : Link T) → out way n w l ≡ true → (tail way l < n) × (head way l < w)
  out_ends Forth n w l on = leaving_ends n w l on
  out_ends Back n w l on = let e = entry_ends n w l on in (e.1, e.0)
