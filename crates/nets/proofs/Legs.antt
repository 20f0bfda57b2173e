-- The legs of a turn, cell by cell.
use Rattle.std.proofs.Common.{◌≡◌, ℕ, zero, suc, ◌+◌, ◌-◌, ◌*◌, ◌<◌, ◌≤◌, Bool, true, false, cond, ◌&&◌, eqb, leb, List, length, get_or, sym, refl, ap, ◌∙◌, ap₂, ⊎_elim, arith}
use Rattle.std.proofs.lemmas.Bool.{and_from, cases_lt, cases_Bool, le-leb, lt-leb}
use Rattle.std.proofs.lemmas.List.{get_or_past}
use Rattle.kinds.specs.Kind.{Ops, Laws}
use Rattle.links.specs.Takes.{delayed}
use Rattle.links.specs.declared.Link.{Link}
use Rattle.plants.specs.Calls.{Outside}
use Rattle.plants.proofs.Order.{both_least, join_left, to_residual, times_bottom, under_left}
use Rattle.routes.specs.Ways.{none, both, along, tail, head, into, out, arrives, flow, unreached, fed}
use Rattle.routes.specs.declared.Way.{Way}
use Rattle.routes.specs.declared.Way.TheVariants.{Forth, Back}
use Rattle.links.proofs.Ends.{delayed_some}
use Rattle.routes.proofs.Ends.{tail_ends, into_ends, out_ends}
use Rattle.routes.proofs.Lists.{fold_same}
use Rattle.routes.proofs.WayMonoids.{monoid}
use Rattle.nets.specs.Stages.{cell, takes_part, source, row_cell, given_cell, asked_at, Laid, Swept}
use Rattle.nets.specs.Turns.{rows, Still}
use Rattle.nets.specs.declared.stage.Leg.TheVariants.{Into, Wait, Glide, Out}
use Rattle.nets.specs.declared.stage.Stage.{Stage}
use Rattle.nets.proofs.Geometry.{wait_parts, wait_source}
use Rattle.nets.proofs.Rows.{same_cell, same_wire}
use Rattle.nets.proofs.Sweeps.{swept_unread}

pub rows_at : {T : Type 0} (o : Ops T) (way : Way) (xs : List T) (base n k d f : ℕ) → d < k → get_or (rows o xs base n k) d (unreached o way) f ≡ cell o xs (base + ((k - suc d) * n + f))
rows_at o way xs base n zero d f h = absurd (omega arith)
rows_at o way xs base n (suc k) zero f h = ap (λ q. cell o xs (base + (q * n + f))) (let e : k ≡ suc k - 1 = omega arith in e)
rows_at o way xs base n (suc k) (suc d) f h = rows_at o way xs base n k d f (omega arith) ∙ ap (λ q. cell o xs (base + (q * n + f))) (let e : k - suc d ≡ suc k - suc (suc d) = omega arith in e)

pub rows_length : {T : Type 0} (o : Ops T) (xs : List T) (base n k : ℕ) → length (rows o xs base n k) ≡ k
rows_length o xs base n zero = refl
rows_length o xs base n (suc k) = ap suc (rows_length o xs base n k)

module _ {T : Type 0} {o : Ops T} (laws : Laws o) where
  pub none_both : (way : Way) (a : T) → both o way (none o way) a ≡ a
  none_both way a = (monoid laws way).comm (none o way) a ∙ (monoid laws way).unit a

  along_none : (way : Way) (v : T) → along o way v (none o way) ≡ none o way
  along_none Forth v = times_bottom laws v
  along_none Back v = both_least laws _ _ (laws.below_top _) (to_residual laws v o.top o.top (laws.below_top _))

  -- a cell that is still is as it was
  pub still_same : (way : Way) (a b : T) → Still o way (both o way a b) a → both o way a b ≡ a
  still_same Forth a b h = both_least laws _ _ h (join_left laws a b)
  still_same Back a b h = both_least laws _ _ (under_left laws a b) h

  module _ (g : Stage) (end : ℕ) (laid : Laid g end) (links : List (Link T)) where
    row_into : (s0 s1 : List T) → Swept o Into g links s0 s1 → (t : ℕ)
        → row_cell o g s1 t ≡ both o g.way (row_cell o g s0 t) (arrives o g.way (into g.way g.n g.reads) (λ l. given_cell o g s0 (tail g.way l)) links t)
    row_into s0 s1 sw t = sw (g.working + (g.turn * g.n + t)) ∙ ap (both o g.way (row_cell o g s0 t))
        (fold_same (none o g.way) (both o g.way) _ _ links (λ l. ap (λ b. cond (takes_part Into g l && b) (along o g.way l.value (cell o s0 (source Into g l))) (none o g.way))
        (same_cell g.working (g.turn * g.n) (head g.way l) t)))

    pub row_glide : (s0 s1 : List T) → Swept o Glide g links s0 s1 → (t : ℕ)
        → row_cell o g s1 t ≡ both o g.way (row_cell o g s0 t) (flow o g.way g.n links (λ f. cell o s0 (g.working + (g.beats * g.n + f))) t)
    row_glide s0 s1 sw t = sw (g.working + (g.turn * g.n + t)) ∙ ap (both o g.way (row_cell o g s0 t))
        (fold_same (none o g.way) (both o g.way) _ _ links (λ l. ap (λ b. cond (takes_part Glide g l && b) (along o g.way l.value (cell o s0 (source Glide g l))) (none o g.way))
        (same_cell g.working (g.turn * g.n) (head g.way l) t)))

    pub asked_out : (s0 s1 : List T) → Swept o Out g links s0 s1 → (w : ℕ)
        → cell o s1 (asked_at g w) ≡ both o g.way (cell o s0 (asked_at g w)) (arrives o g.way (out g.way g.n g.writes) (λ l. row_cell o g s0 (tail g.way l)) links w)
    asked_out s0 s1 sw w = sw (asked_at g w) ∙ ap (both o g.way (cell o s0 (asked_at g w)))
        (fold_same (none o g.way) (both o g.way) _ _ links (λ l. ap (λ b. cond (takes_part Out g l && b) (along o g.way l.value (cell o s0 (source Out g l))) (none o g.way))
        (same_wire g.asked g.beats g.beat (head g.way l) w laid.beat_within)))

    -- the cells that a leg leaves as they are
    pub into_kept : (s0 s1 : List T) → Swept o Into g links s0 s1 → (a : ℕ) → Outside (g.working + g.turn * g.n) g.n a → cell o s1 a ≡ cell o s0 a
    into_kept s0 s1 sw a beyond = swept_unread laws Into g s0 s1 links a sw (λ l on e. let f = into_ends g.way g.n g.reads l on in beyond (omega arith) (omega arith))

    pub wait_kept : (s0 s1 : List T) → Swept o Wait g links s0 s1 → (a : ℕ) → Outside (g.working + g.turn * g.n) g.n a → cell o s1 a ≡ cell o s0 a
    wait_kept s0 s1 sw a beyond = swept_unread laws Wait g s0 s1 links a sw (λ l on e. let f = wait_parts g end laid l on in beyond (omega arith) (omega arith))

    pub glide_kept : (s0 s1 : List T) → Swept o Glide g links s0 s1 → (a : ℕ) → Outside (g.working + g.turn * g.n) g.n a → cell o s1 a ≡ cell o s0 a
    glide_kept s0 s1 sw a beyond = swept_unread laws Glide g s0 s1 links a sw (λ l on e. let f = tail_ends g.way g.n l on in beyond (omega arith) (omega arith))

    pub out_kept : (s0 s1 : List T) → Swept o Out g links s0 s1 → (a : ℕ) → ((w : ℕ) → w < g.writes → a ≡ asked_at g w → ⊥) → cell o s1 a ≡ cell o s0 a
    out_kept s0 s1 sw a beyond = swept_unread laws Out g s0 s1 links a sw (λ l on e. beyond (head g.way l) (out_ends g.way g.n g.writes l on).1 (sym e))

    -- what waited, as the rows of the turns before hold it
    waited : (s0 s1 : List T) → Swept o Into g links s0 s1 → (t : ℕ) (l : Link T)
        → cond ((delayed g.n l && leb l.tokens g.turn) && eqb (head g.way l) t) (along o g.way l.value (cell o s1 (source Wait g l))) (none o g.way)
        ≡ cond (delayed g.n l && eqb (head g.way l) t) (along o g.way l.value (get_or (rows o s0 g.working g.n g.turn) (l.tokens - 1) (unreached o g.way) (tail g.way l))) (none o g.way)
    waited s0 s1 sw t l = ⊎_elim on off (cases_Bool (delayed g.n l))
      where
        old : T
        old = get_or (rows o s0 g.working g.n g.turn) (l.tokens - 1) (unreached o g.way) (tail g.way l)

        Goal : Type 0
        Goal = cond ((delayed g.n l && leb l.tokens g.turn) && eqb (head g.way l) t) (along o g.way l.value (cell o s1 (source Wait g l))) (none o g.way)
            ≡ cond (delayed g.n l && eqb (head g.way l) t) (along o g.way l.value (get_or (rows o s0 g.working g.n g.turn) (l.tokens - 1) (unreached o g.way) (tail g.way l))) (none o g.way)

        off : delayed g.n l ≡ false → Goal
        off e = ap (λ d. cond ((d && leb l.tokens g.turn) && eqb (head g.way l) t) (along o g.way l.value (cell o s1 (source Wait g l))) (none o g.way)) e
            ∙ sym (ap (λ d. cond (d && eqb (head g.way l) t) (along o g.way l.value old) (none o g.way)) e)

        shut : (b : Bool) → cond b (none o g.way) (none o g.way) ≡ none o g.way
        shut true = refl
        shut false = refl

        on : delayed g.n l ≡ true → Goal
        on e = ⊎_elim late early (cases_lt g.turn l.tokens)
          where
            late : g.turn < l.tokens → Goal
            late lt =
                ap₂ (λ d q. cond ((d && q) && eqb (head g.way l) t) (along o g.way l.value (cell o s1 (source Wait g l))) (none o g.way)) e (lt-leb l.tokens g.turn lt)
                ∙ sym (ap (λ r. cond (delayed g.n l && eqb (head g.way l) t) (along o g.way l.value (r (tail g.way l))) (none o g.way))
                (get_or_past (rows o s0 g.working g.n g.turn) (l.tokens - 1) (unreached o g.way) (let q = rows_length o s0 g.working g.n g.turn in omega arith))
                ∙ ap (λ v. cond (delayed g.n l && eqb (head g.way l) t) v (none o g.way)) (along_none g.way l.value) ∙ shut (delayed g.n l && eqb (head g.way l) t))

            early : l.tokens ≤ g.turn → Goal
            early le =
                let part : takes_part Wait g l ≡ true = and_from (delayed g.n l) (leb l.tokens g.turn) e (le-leb l.tokens g.turn le) in
                let some = delayed_some g.n l e in
                let back : g.turn - suc (l.tokens - 1) ≡ g.turn - l.tokens = omega arith in
                let far = wait_source g end laid l part in
                let read : cell o s1 (source Wait g l) ≡ get_or (rows o s0 g.working g.n g.turn) (l.tokens - 1) (unreached o g.way) (tail g.way l) =
                into_kept s0 s1 sw (source Wait g l) (λ a b. omega arith)
                ∙ sym (rows_at o g.way s0 g.working g.n g.turn (l.tokens - 1) (tail g.way l) (omega arith) ∙ ap (λ q. cell o s0 (g.working + (q * g.n + tail g.way l))) back)
                in
                ap₂ (λ d v. cond (d && eqb (head g.way l) t) (along o g.way l.value v) (none o g.way)) (part ∙ sym e) read

    row_wait : (s0 s1 s2 : List T) → Swept o Into g links s0 s1 → Swept o Wait g links s1 s2 → (t : ℕ)
        → row_cell o g s2 t ≡ both o g.way (row_cell o g s1 t)
        (arrives o g.way (delayed g.n) (λ l. get_or (rows o s0 g.working g.n g.turn) (l.tokens - 1) (unreached o g.way) (tail g.way l)) links t)
    row_wait s0 s1 s2 first sw t = sw (g.working + (g.turn * g.n + t)) ∙ ap (both o g.way (row_cell o g s1 t))
        (fold_same (none o g.way) (both o g.way) _ _ links (λ l.
        ap (λ b. cond (takes_part Wait g l && b) (along o g.way l.value (cell o s1 (source Wait g l))) (none o g.way)) (same_cell g.working (g.turn * g.n) (head g.way l) t)
        ∙ waited s0 s1 first t l))

    -- a blank row holds what enters and what waited
    pub row_fed : (s0 s1 s2 : List T) → Swept o Into g links s0 s1 → Swept o Wait g links s1 s2 → (t : ℕ) → row_cell o g s0 t ≡ none o g.way
        → row_cell o g s2 t ≡ fed o g.way g.n g.reads links (given_cell o g s0) (rows o s0 g.working g.n g.turn) t
    row_fed s0 s1 s2 first sw t clear = row_wait s0 s1 s2 first sw t
        ∙ ap (λ v. both o g.way v (arrives o g.way (delayed g.n) (λ l. get_or (rows o s0 g.working g.n g.turn) (l.tokens - 1) (unreached o g.way) (tail g.way l)) links t))
        (row_into s0 s1 first t ∙ ap (λ v. both o g.way v (arrives o g.way (into g.way g.n g.reads) (λ l. given_cell o g s0 (tail g.way l)) links t)) clear ∙ none_both g.way _)
