-- The turns of a call one after the other.
-- where the blocks lie, by the way
use Rattle.std.proofs.Common.{◌≡◌, ℕ, suc, ◌+◌, ◌-◌, ◌*◌, ◌<◌, ◌≤◌, ◌⊎◌, List, get_or, sym, ap, ◌∙◌, subst, ap₂, inl, inr, ⊎_elim, add-mul, arith}
use Rattle.std.proofs.lemmas.Bool.{cases_eq, cases_lt}
use Rattle.std.proofs.lemmas.List.{get_or_past}
use Rattle.std.proofs.lemmas.Nat.{mul-add-lt}
use Rattle.kinds.specs.Kind.{Ops, Laws}
use Rattle.links.specs.Takes.{delayed}
use Rattle.plants.specs.Calls.{Outside, Filled}
use Rattle.plants.specs.Fits.{Fits}
use Rattle.plants.specs.Meaning.{block}
use Rattle.plants.specs.declared.places.Places.{Places}
use Rattle.plants.proofs.Blocks.{forward_same, backward_same}
use Rattle.routes.specs.Ways.{none, both, along, tail, head, into, out, unreached, fed, states, state, answer, beat_of}
use Rattle.routes.specs.declared.Way.{Way}
use Rattle.routes.specs.declared.Way.TheVariants.{Forth, Back}
use Rattle.routes.proofs.Adjoint.{latest_is}
use Rattle.routes.proofs.Ends.{wait_ends, into_ends, out_ends}
use Rattle.routes.proofs.Lists.{acting_same}
use Rattle.routes.proofs.Superposed.{answers}
use Rattle.routes.proofs.Turns.{relaxed_same, states_at, states_length}
use Rattle.nets.specs.Nets.{meant, net_need, given_of, asked_of, reads_of, writes_of, answer_cell, staged, driven_by, Driven}
use Rattle.nets.specs.Stages.{cell}
use Rattle.nets.specs.Turns.{rows, Played, Blank}
use Rattle.nets.specs.declared.net.Net.{Net}
use Rattle.nets.specs.declared.stage.Stage.{Stage}
use Rattle.nets.proofs.Legs.{rows_at, rows_length, none_both}
use Rattle.nets.proofs.Rows.{other_beat, row_before, row_apart, beat_below, beat_twice, beat_other}

pub record Placed {T : Type 0} (s : Net T) (way : Way) (K : ℕ) (at : Places) (len : ℕ) : Type 0 where
  pub apart : (given_of way at + reads_of way s * K ≤ asked_of way at) ⊎ (asked_of way at + writes_of way s * K ≤ given_of way at)
  pub given_before : given_of way at + reads_of way s * K ≤ at.working
  pub asked_before : asked_of way at + writes_of way s * K ≤ at.working
  pub covered : at.working + net_need s K ≤ len

pub placed : {T : Type 0} (s : Net T) (way : Way) (K : ℕ) (at : Places) (len : ℕ) → Fits s.inputs s.outputs K (net_need s K) at len → Placed s way K at len
placed s Forth K at len f = record { apart = f.apart; given_before = f.input_before; asked_before = f.output_before; covered = f.covered }
placed s Back K at len f = record { apart = ⊎_elim (λ x. inr x) (λ x. inl x) f.apart; given_before = f.output_before; asked_before = f.input_before; covered = f.covered }

module _ {T : Type 0} {o : Ops T} (laws : Laws o) (s : Net T) (way : Way) (K : ℕ) (at : Places) (len : ℕ) (fits : Fits s.inputs s.outputs K (net_need s K) at len) where
  -- the cells asked for and the given cells stand before the working cells, and apart
  asked_low : (w b : ℕ) → w < writes_of way s → b < K → asked_of way at + (w * K + b) < at.working
  asked_low w b h g = let e = (placed s way K at len fits).asked_before in omega (arith, mul-add-lt w K b (writes_of way s) h g)

  given_out : (i b : ℕ) → i < reads_of way s → b < K → Outside (asked_of way at) (writes_of way s * K) (given_of way at + (i * K + b))
  given_out i b h g p q = let e = (placed s way K at len fits).apart in omega (arith, mul-add-lt i K b (reads_of way s) h g)

  given_low : (i b : ℕ) → i < reads_of way s → b < K → Outside at.working (net_need s K) (given_of way at + (i * K + b))
  given_low i b h g p q = let e = (placed s way K at len fits).given_before in omega (arith, mul-add-lt i K b (reads_of way s) h g)

  module _ (k : ℕ) (now : k < K) (before x y : List T) (dr : Driven o s way K at k before x) (pl : Played o (staged s way K at k) s.links.now x y) where
    kept_row : (j t : ℕ) → j < K → t < s.transitions → (j ≡ k → ⊥) → cell o y (at.working + (j * s.transitions + t)) ≡ cell o x (at.working + (j * s.transitions + t))
    kept_row j t jK tn ne =
        pl.others (at.working + (j * s.transitions + t))
        (λ p q. row_apart s.transitions j k t tn ne (omega arith) (omega arith))
        (λ p q. omega (arith, mul-add-lt j s.transitions t K jK tn))
        (λ w h e. let b = asked_low w (beat_of way K k) h (beat_below way K k now) in omega arith)

    kept_strike : (w j : ℕ) → w < writes_of way s → j < K → (j ≡ k → ⊥) → cell o y (asked_of way at + (w * K + beat_of way K j)) ≡ cell o x (asked_of way at + (w * K + beat_of way K j))
    kept_strike w j h jK ne =
        let b = asked_low w (beat_of way K j) h (beat_below way K j jK) in
        pl.others (asked_of way at + (w * K + beat_of way K j)) (λ p q. omega arith) (λ p q. omega arith)
        (λ v _ e. other_beat (asked_of way at) K w v (beat_of way K j) (beat_of way K k) (beat_below way K j jK) (beat_below way K k now) (beat_other way K j k jK now ne) e)

    -- the states of the turns before, as they stand in the sheet
    past_same : (d f : ℕ) → f < s.transitions
        → get_or (rows o x at.working s.transitions k) d (unreached o way) f ≡ get_or (states o way s.transitions (reads_of way s) s.links.now (driven_by o way K at before) k) d (unreached o way) f
    past_same d f h =
        let u = driven_by o way K at before in
        ⊎_elim
        (λ lt. rows_at o way x at.working s.transitions k d f lt ∙ dr.rows (k - suc d) f (omega arith) h
        ∙ sym (ap (λ r. r f) (states_at o way s.transitions (reads_of way s) s.links.now u k d lt)))
        (λ ge. ap (λ r. r f) (get_or_past (rows o x at.working s.transitions k) d (unreached o way) (let q = rows_length o x at.working s.transitions k in omega arith))
        ∙ sym (ap (λ r. r f) (get_or_past (states o way s.transitions (reads_of way s) s.links.now u k) d (unreached o way)
        (let q = states_length o way s.transitions (reads_of way s) s.links.now u k in omega arith))))
        (cases_lt d k)

    fed_same : (t : ℕ) → fed o way s.transitions (reads_of way s) s.links.now (λ i. cell o x (given_of way at + (i * K + beat_of way K k))) (rows o x at.working s.transitions k) t
        ≡ fed o way s.transitions (reads_of way s) s.links.now (λ i. driven_by o way K at before i k) (states o way s.transitions (reads_of way s) s.links.now (driven_by o way K at before) k) t
    fed_same t = ap₂ (both o way)
        (acting_same (none o way) (both o way) (into way s.transitions (reads_of way s)) (head way) _ _ s.links.now t (λ l on.
        let f = (into_ends way s.transitions (reads_of way s) l on).0 in
        let b = beat_below way K k now in
        ap (along o way l.value) (dr.others (given_of way at + (tail way l * K + beat_of way K k)) (given_out (tail way l) (beat_of way K k) f b) (given_low (tail way l) (beat_of way K k) f b))))
        (acting_same (none o way) (both o way) (delayed s.transitions) (head way) _ _ s.links.now t (λ l on.
        ap (along o way l.value) (past_same (l.tokens - 1) (tail way l) (wait_ends way s.transitions l on).0)))

    new_row : (t : ℕ) → t < s.transitions → cell o y (at.working + (k * s.transitions + t)) ≡ state o way s.transitions (reads_of way s) s.links.now (driven_by o way K at before) k t
    new_row t h = pl.row t h ∙ relaxed_same o way s.transitions s.links.now (s.transitions - 1) _ _ (λ f fn. fed_same f) t h

    new_strike : (w : ℕ) → w < writes_of way s → cell o y (asked_of way at + (w * K + beat_of way K k))
        ≡ answer o way s.transitions (reads_of way s) (writes_of way s) s.links.now (driven_by o way K at before) w k
    new_strike w h =
        pl.strikes w h
        ∙ ap₂ (both o way) (dr.silent w k h (omega arith) now)
        (acting_same (none o way) (both o way) (out way s.transitions (writes_of way s)) (head way) _ _ s.links.now w
        (λ l on. ap (along o way l.value) (new_row (tail way l) (out_ends way s.transitions (writes_of way s) l on).0)))
        ∙ none_both laws way _

    pub driven_more : Driven o s way K at (k + 1) before y
    driven_more = record {
      rows = λ j t jk tn. ⊎_elim
          (λ e. subst (λ q. cell o y (at.working + (q * s.transitions + t)) ≡ state o way s.transitions (reads_of way s) s.links.now (driven_by o way K at before) q t) (sym e) (new_row t tn))
          (λ ne. kept_row j t (omega arith) tn ne ∙ dr.rows j t (let no = ne in omega arith) tn) (cases_eq j k);
      blank = λ j t kj jK tn. kept_row j t jK tn (λ e. omega arith) ∙ dr.blank j t (omega arith) jK tn;
      strikes = λ w j h jk. ⊎_elim
          (λ e. subst (λ q. cell o y (asked_of way at + (w * K + beat_of way K q)) ≡ answer o way s.transitions (reads_of way s) (writes_of way s) s.links.now (driven_by o way K at before) w q) (sym e) (new_strike w h))
          (λ ne. kept_strike w j h (omega arith) ne ∙ dr.strikes w j h (let no = ne in omega arith)) (cases_eq j k);
      silent = λ w j h kj jK. kept_strike w j h jK (λ e. omega arith) ∙ dr.silent w j h (omega arith) jK;
      others = λ a oo ow.
          let m = row_before k K s.transitions now in
          let d = add-mul K 1 s.transitions in
          pl.others a (λ p q. ow (omega arith) (omega arith)) (λ p q. ow (omega arith) (omega arith))
          (λ w h e. let low = mul-add-lt w K (beat_of way K k) (writes_of way s) h (beat_below way K k now) in oo (omega arith) (omega arith)) ∙ dr.others a oo ow;
    }

-- the answer by turns is the answer of the plant
answered : {T : Type 0} {o : Ops T} (laws : Laws o) (s : Net T) (way : Way) (K : ℕ) (at : Places) (sheet : List T) (w k : ℕ) → w < writes_of way s → k < K
    → answer o way s.transitions (reads_of way s) (writes_of way s) s.links.now (driven_by o way K at sheet) w (beat_of way K k) ≡ answer_cell o way s K (block o sheet (given_of way at) K) w k
answered laws s Forth K at sheet w k h g = answers laws s.transitions s.inputs s.outputs s.links.now _ w k
answered {o = o} laws s Back K at sheet w k h g = latest_is laws s.transitions s.inputs s.outputs s.links.now (block o sheet at.output K) K w k h g

-- it depends on the given block only
answer_same : {T : Type 0} (o : Ops T) (s : Net T) (way : Way) (K : ℕ) (u v : ℕ → ℕ → T) (w k : ℕ) → k < K → ((i j : ℕ) → i < reads_of way s → j < K → u i j ≡ v i j)
    → answer_cell o way s K u w k ≡ answer_cell o way s K v w k
answer_same o s Forth K u v w k h e = forward_same o (meant o s) u v K w k h e
answer_same o s Back K u v w k h e = backward_same o (meant o s) u v K w k e

module _ {T : Type 0} {o : Ops T} (laws : Laws o) (s : Net T) (way : Way) (K : ℕ) (at : Places) (len : ℕ) (fits : Fits s.inputs s.outputs K (net_need s K) at len) where
  -- the call ends with the answer to the given block
  pub driven_all : (turn : ℕ) (s0 s1 s2 : List T) → Blank o (staged s way K at turn) s0 s1 → Driven o s way K at K s1 s2
      → Filled o K (asked_of way at) (writes_of way s) at.working (net_need s K) (answer_cell o way s K (block o s0 (given_of way at) K)) s0 s2
  driven_all turn s0 s1 s2 blank dr = record {
    cells = λ w k h g.
        ap (λ b. cell o s2 (asked_of way at + (w * K + b))) (sym (beat_twice way K k g))
        ∙ dr.strikes w (beat_of way K k) h (beat_below way K k g)
        ∙ answered laws s way K at s1 w k h g
        ∙ answer_same o s way K _ _ w k g (λ i j im jK. blank.others (given_of way at + (i * K + j)) (given_out laws s way K at len fits i j im jK) (given_low laws s way K at len fits i j im jK));
    others = λ a oo ow. dr.others a oo ow ∙ blank.others a oo ow;
  }

-- the sheet that a floor gives back
module _ {T : Type 0} {o : Ops T} (before x y : List T) (back : x ≡ y) where
  pub driven_back : (s : Net T) (way : Way) (K : ℕ) (at : Places) (k : ℕ) → Driven o s way K at k before y → Driven o s way K at k before x
  driven_back s way K at k = subst (Driven o s way K at k before) (sym back)

  pub blank_back : (g h : Stage) → g ≡ h → Blank o g before y → Blank o h before x
  blank_back g h e b = subst (Blank o h before) (sym back) (subst (λ st. Blank o st before y) e b)
