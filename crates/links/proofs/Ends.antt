-- The ends and the tokens of links that take part.
use Rattle.std.proofs.Common.{◌≡◌, ℕ, ◌<◌, Bool, true, ◌&&◌, eqb, ltb}
use Rattle.std.proofs.lemmas.Bool.{and_parts, ltb-true, eqb-true}
use Rattle.links.specs.Takes.{tokenless, delayed, entry, leaving}
use Rattle.links.specs.Tallies.{same_sort}
use Rattle.links.specs.declared.Link.{Link}
use Rattle.links.specs.declared.Sort.TheVariants.{Place, Input, Output}

ends : (b z : Bool) (f m t n : ℕ) → (b && (ltb f m && (ltb t n && z))) ≡ true → (f < m) × (t < n) × (z ≡ true)
ends b z f m t n on =
    let a = (and_parts b (ltb f m && (ltb t n && z)) on).1 in
    let c = and_parts (ltb f m) (ltb t n && z) a in
    let d = and_parts (ltb t n) z c.1 in
    (ltb-true f m c.0, ltb-true t n d.0, d.1)

module _ {T : Type 0} (n : ℕ) (l : Link T) where
  pub tokenless_ends : tokenless n l ≡ true → (l.from < n) × (l.to < n)
  tokenless_ends on = let e = ends (same_sort Place l.sort) (eqb l.tokens 0) l.from n l.to n on in (e.0, e.1)

  pub tokenless_none : tokenless n l ≡ true → l.tokens ≡ 0
  tokenless_none on = eqb-true l.tokens 0 (ends (same_sort Place l.sort) (eqb l.tokens 0) l.from n l.to n on).2

  pub delayed_ends : delayed n l ≡ true → (l.from < n) × (l.to < n)
  delayed_ends on = let e = ends (same_sort Place l.sort) (ltb 0 l.tokens && ltb l.tokens 16) l.from n l.to n on in (e.0, e.1)

  pub delayed_some : delayed n l ≡ true → 0 < l.tokens
  delayed_some on =
      let e = ends (same_sort Place l.sort) (ltb 0 l.tokens && ltb l.tokens 16) l.from n l.to n on in
      ltb-true 0 l.tokens (and_parts (ltb 0 l.tokens) (ltb l.tokens 16) e.2).0

pub entry_ends : {T : Type 0} (n m : ℕ) (l : Link T) → entry n m l ≡ true → (l.from < m) × (l.to < n)
entry_ends n m l on = let e = ends (same_sort Input l.sort) (eqb l.tokens 0) l.from m l.to n on in (e.0, e.1)

pub leaving_ends : {T : Type 0} (n p : ℕ) (l : Link T) → leaving n p l ≡ true → (l.from < n) × (l.to < p)
leaving_ends n p l on = let e = ends (same_sort Output l.sort) (eqb l.tokens 0) l.from n l.to p on in (e.0, e.1)
