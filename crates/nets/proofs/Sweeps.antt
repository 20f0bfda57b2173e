-- One sweep, link by link.
use Rattle.std.proofs.Common.{◌≡◌, ℕ, ◌+◌, ◌<◌, Bool, true, false, cond, Option, Some, None, List, [], ◌∷◌, ◌++◌, length, get_or, take, set, sym, refl, ap, ◌∙◌, subst, arith}
use Rattle.kinds.specs.Kind.{Ops, Laws}
use Rattle.links.specs.declared.Link.{Link}
use Rattle.routes.specs.Ways.{none, both, along}
use Rattle.walks.proofs.Spreads.{spread_none, spread_skip, spread_step, spread_unread, next_link}
use Rattle.routes.proofs.WayMonoids.{monoid}
use Rattle.nets.specs.Floors.{SameFloor}
use Rattle.nets.specs.Stages.{cell, takes_part, source, target, Laid, Swept}
use Rattle.nets.specs.declared.floor.Floor.{Floor}
use Rattle.nets.specs.declared.stage.Leg.{Leg}
use Rattle.nets.specs.declared.stage.Stage.{Stage}
use Rattle.nets.proofs.Floors.{floor_more}
use Rattle.nets.proofs.Geometry.{target_below, reads_apart}

module _ {T : Type 0} {o : Ops T} (laws : Laws o) (leg : Leg) (g : Stage) (before : List T) where
  abbrev val : Link T → T
  val k = along o g.way k.value (cell o before (source leg g k))

  pub swept_none : Swept o leg g [] before before
  swept_none = spread_none o.bottom (none o g.way) (both o g.way) (monoid laws g.way) (takes_part leg g) (target leg g) val before

  pub swept_skip : (after : List T) (ls : List (Link T)) (l : Link T) → Swept o leg g ls before after → takes_part leg g l ≡ false → Swept o leg g (ls ++ l ∷ []) before after
  swept_skip after ls l = spread_skip o.bottom (none o g.way) (both o g.way) (monoid laws g.way) (takes_part leg g) (target leg g) val before after ls l

  -- a cell that no link writes
  pub swept_unread : (after : List T) (ls : List (Link T)) (a : ℕ) → Swept o leg g ls before after → ((l : Link T) → takes_part leg g l ≡ true → target leg g l ≡ a → ⊥) → cell o after a ≡ cell o before a
  swept_unread after ls a inv apart = spread_unread o.bottom (none o g.way) (both o g.way) (monoid laws g.way) (takes_part leg g) (target leg g) val before after ls a inv apart

  pub swept_step : (end : ℕ) → Laid g end → (after : List T) (ls : List (Link T)) (l : Link T) (from to : ℕ) → length after ≡ end → Swept o leg g ls before after → takes_part leg g l ≡ true
      → from ≡ source leg g l → to ≡ target leg g l
      → Swept o leg g (ls ++ l ∷ []) before (set after to (both o g.way (cell o after to) (along o g.way l.value (cell o after from))))
  swept_step end laid after ls l from to len inv on f t =
      let b = target_below g end laid leg l on in
      let src : cell o after from ≡ cell o before (source leg g l) = ap (cell o after) f ∙ swept_unread after ls (source leg g l) inv (λ k kon e. reads_apart g end laid leg l k on kon e) in
      subst (λ v. Swept o leg g (ls ++ l ∷ []) before (set after to (both o g.way (cell o after to) (along o g.way l.value v)))) (sym src)
      (subst (λ q. Swept o leg g (ls ++ l ∷ []) before (set after q (both o g.way (cell o after q) (val l)))) (sym t)
      (spread_step o.bottom (none o g.way) (both o g.way) (monoid laws g.way) (takes_part leg g) (target leg g) val before after ls l inv on (omega arith)))

  pub swept_next : (after : List T) (links : List (Link T)) (i : ℕ) (l : Link T) → i < length links → l ≡ get_or links i l → Swept o leg g (take i links ++ l ∷ []) before after → Swept o leg g (take (i + 1) links) before after
  swept_next after links i l = next_link o.bottom (none o g.way) (both o g.way) (monoid laws g.way) (takes_part leg g) (target leg g) val before after links i l

-- a sweep of a floor b that has come as far as the links
pub record Sweeping {T : Type 0} (o : Ops T) (leg : Leg) (b : Floor T) (ls : List (Link T)) (s : Floor T) : Type 0 where
  pub floor : SameFloor b s
  pub swept : Swept o leg b.stage ls b.sheet.now s.sheet.now

none_off : {A : Type 0} (b : Bool) (p : A) → cond b (Some p) None ≡ None → b ≡ false
none_off true p e = cc
none_off false p e = refl

some_on : {A : Type 0} (b : Bool) (p q : A) → cond b (Some p) None ≡ Some q → (b ≡ true) × (p ≡ q)
some_on true p q e = (refl, cc)
some_on false p q e = cc

module _ {T : Type 0} {o : Ops T} (laws : Laws o) (leg : Leg) (b s : Floor T) (ls : List (Link T)) (l : Link T) (r : Option (ℕ × ℕ)) (inv : Sweeping o leg b ls s)
    (ends : r ≡ cond (takes_part leg s.stage l) (Some (source leg s.stage l, target leg s.stage l)) None) where
  at_start : r ≡ cond (takes_part leg b.stage l) (Some (source leg b.stage l, target leg b.stage l)) None
  at_start = ends ∙ ap (λ g. cond (takes_part leg g l) (Some (source leg g l, target leg g l)) None) inv.floor.0

  pub sweeping_skip : r ≡ None → Sweeping o leg b (ls ++ l ∷ []) s
  sweeping_skip off = record { floor = inv.floor; swept = swept_skip laws leg b.stage b.sheet.now s.sheet.now ls l inv.swept (none_off _ _ (sym at_start ∙ off)) }

  pub sweeping_step : (d : Floor T) (from to : ℕ) → r ≡ Some (from, to) → SameFloor s d
      → d.sheet.now ≡ set s.sheet.now to (both o s.stage.way (cell o s.sheet.now to) (along o s.stage.way l.value (cell o s.sheet.now from))) → Sweeping o leg b (ls ++ l ∷ []) d
  sweeping_step d from to on same e =
      let p = some_on _ _ _ (sym at_start ∙ on) in
      let f : from ≡ source leg b.stage l = sym (ap (λ q. q.0) p.1) in
      let t : to ≡ target leg b.stage l = sym (ap (λ q. q.1) p.1) in
      record {
        floor = floor_more b s d inv.floor same;
        swept = subst (Swept o leg b.stage (ls ++ l ∷ []) b.sheet.now)
            (sym (e ∙ ap (λ g. set s.sheet.now to (both o g.way (cell o s.sheet.now to) (along o g.way l.value (cell o s.sheet.now from)))) inv.floor.0))
            (swept_step laws leg b.stage b.sheet.now (length s.sheet.now) (subst (λ g. Laid g (length s.sheet.now)) inv.floor.0 s.laid) s.sheet.now ls l from to refl inv.swept p.0 f t);
      }
