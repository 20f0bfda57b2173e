-- The rounds of a turn, in the sheet.
use Rattle.std.proofs.Common.{◌≡◌, ℕ, zero, suc, ◌+◌, ◌-◌, ◌*◌, ◌<◌, ◌≤◌, Bool, true, false, List, length, sym, refl, ap, ◌∙◌, ap₂, subst, subst₂, ⊎_elim, arith}
use Rattle.std.proofs.lemmas.Bool.{cases_lt}
use Rattle.std.proofs.lemmas.List.Edits.{length-between, get_or-between}
use Rattle.std.proofs.lemmas.Slice.Zip.{length-zip, get_or-zip}
use Rattle.std.specs.Bool.{MatchBool}
use Rattle.std.specs.List.{CopiedTo, SameBelow, SameFrom, slice_range, zip, AllWithin, HoldsAt}
use Rattle.kinds.specs.Kind.{Ops, Laws}
use Rattle.links.specs.declared.Link.{Link}
use Rattle.plants.specs.Calls.{Outside}
use Rattle.routes.specs.Ways.{both, flow, relaxed}
use Rattle.routes.specs.declared.Way.{Way}
use Rattle.routes.proofs.Turns.{flow_same}
use Rattle.nets.specs.Floors.{SameFloor}
use Rattle.nets.specs.Stages.{cell, row_cell, Laid, Swept}
use Rattle.nets.specs.declared.floor.Floor.{Floor}
use Rattle.nets.specs.Turns.{Still, Relaxed, Settled}
use Rattle.nets.specs.declared.stage.Leg.TheVariants.{Glide}
use Rattle.nets.specs.declared.stage.Stage.{Stage}
use Rattle.nets.proofs.Floors.{floor_more, at_floor}
use Rattle.nets.proofs.Legs.{still_same, row_glide, glide_kept}
use Rattle.nets.proofs.Rows.{turn_row}

-- a row of n cells is copied to another place
pub copied_over : {T : Type 0} (o : Ops T) (row spare n : ℕ) (before after : List T)
    → CopiedTo before after row spare (row + n - row) × SameBelow before after spare × SameFrom before after (spare + (row + n - row))
    → ((t : ℕ) → t < n → cell o after (spare + t) ≡ cell o before (row + t)) × ((a : ℕ) → Outside spare n a → cell o after a ≡ cell o before a)
copied_over o row spare n before after h = (
  (λ t tn. h.0 (spare + t) o.bottom (omega arith) (omega arith) ∙ ap (λ k. cell o before (row + k)) (let e : spare + t - spare ≡ t = omega arith in e)),
  (λ a out. ⊎_elim (λ lt. h.1 a o.bottom lt) (λ le. h.2 a o.bottom (let beyond : a < spare + n → ⊥ = λ q. out le q in omega arith)) (cases_lt a spare)),
)

module _ {T : Type 0} {o : Ops T} (laws : Laws o) (g : Stage) (end : ℕ) (laid : Laid g end) (links : List (Link T)) (s0 s1 s2 : List T) (stable : Bool) where
  -- the row is copied to the spare row, swept, and compared with it
  pub relaxes : ((t : ℕ) → t < g.n → cell o s1 (g.working + g.beats * g.n + t) ≡ cell o s0 (g.working + g.turn * g.n + t))
      → ((a : ℕ) → Outside (g.working + g.beats * g.n) g.n a → cell o s1 a ≡ cell o s0 a)
      → Swept o Glide g links s1 s2
      → (stable ≡ true → (t : ℕ) → t < g.n → Still o g.way (cell o s2 (g.working + g.turn * g.n + t)) (cell o s2 (g.working + g.beats * g.n + t)))
      → Relaxed o g links s0 s2 stable
  relaxes copied kept swept still = record {
    row = turned;
    others = λ a p q. glide_kept laws g end laid links s1 s2 swept a p ∙ kept a q;
    rest = λ e t h.
        let row : g.working + g.turn * g.n + t ≡ g.working + (g.turn * g.n + t) = omega arith in
        let low = turn_row g end laid in
        let before : cell o s2 (g.working + g.beats * g.n + t) ≡ row_cell o g s0 t =
        glide_kept laws g end laid links s1 s2 swept (g.working + g.beats * g.n + t) (λ a b. omega arith) ∙ copied t h ∙ ap (cell o s0) row in
        turned t h ∙ still_same laws g.way _ _ (subst₂ (Still o g.way) (ap (cell o s2) row ∙ turned t h) before (still e t h));
  }
    where
      turned : (t : ℕ) → t < g.n → row_cell o g s2 t ≡ both o g.way (row_cell o g s0 t) (flow o g.way g.n links (row_cell o g s0) t)
      turned t h = row_glide laws g end laid links s1 s2 swept t ∙ ap₂ (both o g.way)
          (kept (g.working + (g.turn * g.n + t)) (λ a b. let r = turn_row g end laid in omega arith))
          (flow_same o g.way g.n links _ (row_cell o g s0) (λ f lt.
          let p : g.working + (g.beats * g.n + f) ≡ g.working + g.beats * g.n + f = omega arith in
          let q : g.working + g.turn * g.n + f ≡ g.working + (g.turn * g.n + f) = omega arith in
          ap (cell o s1) p ∙ copied f lt ∙ ap (cell o s0) q) t)

-- a round that changes nothing is the last that does
settled_stop : {T : Type 0} (o : Ops T) (way : Way) (n : ℕ) (links : List (Link T)) (x : ℕ → T) (s : ℕ) → ((t : ℕ) → t < n → relaxed o way n links (suc s) x t ≡ relaxed o way n links s x t)
    → (d t : ℕ) → t < n → relaxed o way n links (d + s) x t ≡ relaxed o way n links s x t
settled_stop o way n links x s still zero t h = ap (λ k. relaxed o way n links k x t) (let e : 0 + s ≡ s = omega arith in e)
settled_stop o way n links x s still (suc d) t h =
    ap (λ k. relaxed o way n links k x t) (let e : suc d + s ≡ suc (d + s) = omega arith in e)
    ∙ ap₂ (both o way) (settled_stop o way n links x s still d t h) (flow_same o way n links (relaxed o way n links (d + s) x) (relaxed o way n links s x) (settled_stop o way n links x s still d) t)
    ∙ still t h

module _ {T : Type 0} (o : Ops T) (g : Stage) (links : List (Link T)) (before s0 s2 : List T) (stable : Bool) where
  pub settled_round : (s r : ℕ) → suc s ≡ r → Settled o g links s before s0 → Relaxed o g links s0 s2 stable → Settled o g links r before s2
  settled_round s r e inv rel = record {
    row = λ t h. rel.row t h
        ∙ ap₂ (both o g.way) (inv.row t h) (flow_same o g.way g.n links (row_cell o g s0) (relaxed o g.way g.n links s (row_cell o g before)) inv.row t)
        ∙ ap (λ k. relaxed o g.way g.n links k (row_cell o g before) t) e;
    others = λ a p q. rel.others a p q ∙ inv.others a p q;
  }

  pub settled_early : (s r : ℕ) → s ≤ r → stable ≡ true → Settled o g links s before s0 → Relaxed o g links s0 s2 stable → Settled o g links r before s2
  settled_early s r le e inv rel =
      let next = settled_round s (suc s) refl inv rel in
      let back : (r - s) + s ≡ r = omega arith in
      record {
        row = λ t h. rel.rest e t h ∙ inv.row t h
            ∙ sym (settled_stop o g.way g.n links (row_cell o g before) s (λ q w. sym (next.row q w) ∙ rel.rest e q w ∙ inv.row q w) (r - s) t h)
            ∙ ap (λ k. relaxed o g.way g.n links k (row_cell o g before) t) back;
        others = next.others;
      }

-- a floor b after s rounds
pub record Settling {T : Type 0} (o : Ops T) (b : Floor T) (s : ℕ) (f : Floor T) : Type 0 where
  pub floor : SameFloor b f
  pub settled : Settled o b.stage b.links.now s b.sheet.now f.sheet.now

module _ {T : Type 0} (o : Ops T) (b f d : Floor T) (stable : Bool) (s r : ℕ) (inv : Settling o b s f) (same : SameFloor f d)
    (round : Relaxed o f.stage f.links.now f.sheet.now d.sheet.now stable) where
  again : Relaxed o b.stage b.links.now f.sheet.now d.sheet.now stable
  again = at_floor (λ g links. Relaxed o g links f.sheet.now d.sheet.now stable) b f inv.floor round

  pub settling_round : suc s ≡ r → Settling o b r d
  settling_round e = record {
    floor = floor_more b f d inv.floor same;
    settled = settled_round o b.stage b.links.now b.sheet.now f.sheet.now d.sheet.now stable s r e inv.settled again;
  }

  pub settling_early : s ≤ r → stable ≡ true → Settling o b r d
  settling_early le e = record {
    floor = floor_more b f d inv.floor same;
    settled = settled_early o b.stage b.links.now b.sheet.now f.sheet.now d.sheet.now stable s r le e inv.settled again;
  }

-- two rows compared cell by cell
pub stable_rows : {T : Type 0} (o : Ops T) (way : Way) (xs : List T) (row spare n : ℕ) (r : Bool) → row + n ≤ length xs → spare + n ≤ length xs
    → (let all = zip (slice_range xs row (row + n)) (slice_range xs spare (spare + n)) in
    MatchBool r (AllWithin (λ p. Still o way p.0 p.1) all 0 (length all)) ((k : ℕ) × (k < length all) × HoldsAt (λ p. Unit {0}) all k))
    → r ≡ true → (t : ℕ) → t < n → Still o way (cell o xs (row + t)) (cell o xs (spare + t))
stable_rows {T} o way xs row spare n false fa fb h e t tn = cc
stable_rows {T} o way xs row spare n true fa fb h e t tn =
    let d : T × T = (o.bottom, o.bottom) in
    let a = slice_range xs row (row + n) in
    let b = slice_range xs spare (spare + n) in
    let la = length-between xs row (row + n) fa in
    let lb = length-between xs spare (spare + n) fb in
    let pair = get_or-zip a b t d (omega arith) (omega arith)
    ∙ ap₂ (λ x y. (x, y)) (get_or-between xs row (row + n) t o.bottom (omega arith)) (get_or-between xs spare (spare + n) t o.bottom (omega arith))
    in
    subst (λ p. Still o way p.0 p.1) pair (h t d (omega arith) (omega (arith, length-zip a b)))
