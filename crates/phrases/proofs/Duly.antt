-- What the steps of a lay, of strikes and of a due come to.
use Rattle.std.proofs.Common.{◌≡◌, ℕ, ◌+◌, ◌-◌, ◌*◌, ◌<◌, ◌≤◌, true, false, cond, Decides, ltb, ◌≢◌, List, length, get_or, take, drop, set, Ok, Err, Result, sym, refl, ap, ◌∙◌, subst, ap₂, subst₂, ⊎_elim, zero-add, add-mul, length-drop, length-set, below_more, arith, get_or-set_other, get_or-set_same}
use Rattle.kinds.specs.Kind.{Ops, AtMost}
use Rattle.plants.specs.Meaning.{Meaning, block, backward_cell}
use Rattle.plants.specs.Calls.{Filled, Outcome, Outside}
use Rattle.kinds.specs.declared.refusals.Refusal.{Refusal}
use Rattle.runs.specs.Plans.{put}
use Rattle.phrases.specs.Sheets.{working_at}
use Rattle.phrases.specs.Cells.{plan_from, spare_from, total, score, plan, spare, cell_of, Placed, Aimed, Kept, Holds, mixed, Adopted, Taken, Turned}
use Rattle.std.proofs.lemmas.Bool.{both_ways, cases_eq, cases_lt, cond-true, cond-false, lt-ltb, le-ltb}
use Rattle.plants.proofs.Blocks.{backward_same}
use Rattle.std.proofs.lemmas.List.{get_or-take, get_or-drop, get_or_default, get_or_read, length-take}
use Rattle.std.proofs.lemmas.Nat.{mul-le}
use Rattle.std.specs.List.{CopiedTo, SameBelow, SameFrom}
use Rattle.kinds.specs.declared.refusals.Refusal.TheVariants.{NoPlan}
use Rattle.runs.proofs.Puts.{put_cases}
use Rattle.phrases.proofs.Places.{cell_in, place_inj, spread, plan_cell_in, out_cell, climb_fits}
use Rattle.plants.specs.Fits.{Fits}
use Rattle.phrases.specs.Orders.{lane_at, is_out}
use Rattle.phrases.specs.declared.lanes.Lane.{Lane}
use Rattle.phrases.specs.declared.lanes.Order.{Order}
use Rattle.phrases.specs.declared.states.blocks.Blocks.{Blocks}

-- a call of the plant that fits was accepted
pub accepted : {T : Type 0} (r : Result Unit Refusal) (F D : Type 0) (s t : List T) → Outcome r F D s t → F → D
accepted (Ok _) F D s t e f = e.1
accepted (Err _) F D s t e f = absurd (e.1 f)

-- a question that is answered no
pub answered_no : {P : Type 0} → (P → false ≡ true) → Decides false P
answered_no h = ((λ e. absurd (both_ways false refl e)), h)

module _ {V : Type 0} (o : Ops V) (M : Meaning V) (K need : ℕ) where
  -- the ceiling of the score stands in the spare block
  record Climbed (s s' : List V) : Type 0 where
    pub ceiled : (i b : ℕ) → i < M.inputs → b < K → spare o M K s' i b ≡ backward_cell o M K (score o K s) i b
    pub kept : Kept o (λ n. n < spare_from M K) s s'
    pub beyond : Kept o (λ n. total M K need ≤ n) s s'

  climbed : (s s' : List V) → Filled o K (spare_from M K) M.inputs (working_at M.outputs M.inputs K) need (backward_cell o M K (block o s 0 K)) s s' → Climbed s s'
  climbed s s' f =
      let sp = spread M.outputs M.inputs K need in
      record {
        ceiled = λ i b hi hb. f.cells i b hi hb ∙ backward_same o M (block o s 0 K) (score o K s) K i b (λ y k hy hk. ap (λ n. get_or s n o.bottom) (zero-add (y * K + k)));
        kept = λ n lt. f.others n (λ a b. omega arith) (λ a b. omega (arith, sp.at_spare, sp.at_working));
        beyond = λ n le. f.others n (λ a b. omega (arith, sp.at_spare, sp.in_all)) (λ a b. omega (arith, sp.at_working, sp.in_all));
      }

  -- the plan cell of an order that is out: c cells lie before its wire
  module _ (s : List V) (at : Blocks) (table : List Lane) (order : Order) (c : ℕ) (few : M.inputs ≤ 16) (within : (i : ℕ) → i < 16 → (lane_at table i).fixed ≤ K)
      (p : Placed M K need at s) (e : c ≡ order.input * K) (out : true ≡ is_out M.inputs table order) where
    pub out_at : at.plan + (c + order.beat) < length s
    out_at =
        let cell = out_cell M.inputs K table order few within (sym out) in
        omega (arith, p.plan, plan_cell_in M.outputs M.inputs K need (length s) order.input order.beat p.fits cell.0 cell.1)

    pub aimed : (v x : V) → x ≡ get_or s (at.plan + (c + order.beat)) x → AtMost o v x → Aimed o M K need order v table s (at.plan + (c + order.beat))
    aimed v x read low =
        let place : at.plan + (c + order.beat) ≡ cell_of M K order = omega (arith, p.plan) in
        record {
          fits = p.fits;
          ours = sym out;
          low = subst (AtMost o v) (get_or_read s _ x out_at read o.bottom ∙ ap (λ n. get_or s n o.bottom) place) low;
          place = place;
          inside = out_at;
        }

  -- cells cut out of a sheet
  part_at : (s : List V) (a n k : ℕ) (d : V) → k < n → get_or (take n (drop a s)) k d ≡ get_or s (a + k) d
  part_at s a n k d lt = get_or-take n (drop a s) k d lt ∙ get_or-drop a s k d

  -- the first n cells of a wire, cut out of the plan and of the spare block
  module _ (s : List V) (i n a b x y : ℕ) (fits : total M K need ≤ length s) (hi : i < M.inputs) (few : n ≤ K)
      (ea : a ≡ plan_from M K + i * K) (eb : b ≡ spare_from M K + i * K) (ex : x ≡ n) (ey : y ≡ n) where
    row : i * K + K ≤ M.inputs * K
    row = omega (arith, mul-le (i + 1) K M.inputs K (omega arith) (omega arith), add-mul i 1 K)

    long : length (take x (drop a s)) ≡ n
    long = let r = row in let sp = spread M.outputs M.inputs K need in simp (length-take, length-drop) (omega (arith, sp.in_all))

    low : (k : ℕ) (d : V) → k < n → get_or (take x (drop a s)) k d ≡ plan o M K s i k
    low k d lt =
        let r = row in
        let sp = spread M.outputs M.inputs K need in
        part_at s a x k d (omega arith) ∙ get_or_default s (a + k) d o.bottom (omega (arith, sp.in_all)) ∙ ap (λ j. get_or s j o.bottom) (let e : a + k ≡ plan_from M K + (i * K + k) = omega arith in e)

    high : (k : ℕ) (d : V) → k < n → get_or (take y (drop b s)) k d ≡ spare o M K s i k
    high k d lt =
        let r = row in
        let sp = spread M.outputs M.inputs K need in
        part_at s b y k d (omega arith) ∙ get_or_default s (b + k) d o.bottom (omega (arith, sp.in_all, sp.at_spare)) ∙ ap (λ j. get_or s j o.bottom) (let e : b + k ≡ spare_from M K + (i * K + k) = omega arith in e)

    pub parts_hold : ((k : ℕ) (d : V) → k < length (take x (drop a s)) → AtMost o (get_or (take x (drop a s)) k d) (get_or (take y (drop b s)) k d)) → (k : ℕ) → k < n → AtMost o (plan o M K s i k) (spare o M K s i k)
    parts_hold h k lt = let l = long in subst₂ (AtMost o) (low k o.bottom lt) (high k o.bottom lt) (h k o.bottom (omega arith))

    pub hold_parts : ((k : ℕ) → k < n → AtMost o (plan o M K s i k) (spare o M K s i k)) → (k : ℕ) (d : V) → k < length (take x (drop a s)) → AtMost o (get_or (take x (drop a s)) k d) (get_or (take y (drop b s)) k d)
    hold_parts h k d lt = let l = long in let in_n : k < n = omega arith in subst₂ (AtMost o) (sym (low k d in_n)) (sym (high k d in_n)) (h k in_n)

  -- the lane of an input, among those of the inputs
  pub lane_in : (table : List Lane) (m i : ℕ) → i < m → (lane_at (take m table) i).fixed ≡ (lane_at table i).fixed
  lane_in table m i lt = ap (λ (x : Lane). x.fixed) (get_or-take m table i _ lt)

  module _ (f : ℕ → ℕ) where
    -- the fixed cells of one wire more
    pub holds_more : (s : List V) (n : ℕ) → ((i b : ℕ) → i < n → b < f i → AtMost o (plan o M K s i b) (spare o M K s i b)) → ((b : ℕ) → b < f n → AtMost o (plan o M K s n b) (spare o M K s n b))
        → (i b : ℕ) → i < n + 1 → b < f i → AtMost o (plan o M K s i b) (spare o M K s i b)
    holds_more s n old new i b hi hb = below_more (λ i. (b : ℕ) → b < f i → AtMost o (plan o M K s i b) (spare o M K s i b)) n (λ i lt b hb. old i b lt hb) new i hi b hb

    -- the open cells of the first n wires are copied, and no other cell is changed
    pub record Adopting (n : ℕ) (s s' : List V) : Type 0 where
      pub planned : (i b : ℕ) → i < n → b < K → plan o M K s' i b ≡ mixed f (plan o M K s) (spare o M K s) i b
      pub others : (a : ℕ) → Outside (plan_from M K) (n * K) a → get_or s' a o.bottom ≡ get_or s a o.bottom

    -- one wire more
    pub adopt_more : (s s₁ s₂ : List V) (n src dest len : ℕ) → n < M.inputs → f n ≤ K → Adopting n s s₁ →
        src ≡ spare_from M K + (n * K + f n) → dest ≡ plan_from M K + (n * K + f n) → len ≡ K - f n →
        CopiedTo s₁ s₂ src dest len → SameBelow s₁ s₂ dest → SameFrom s₁ s₂ (dest + len) → Adopting (n + 1) s s₂
    adopt_more s s₁ s₂ n src dest len hn hf p es ed el copied below from =
        let sp = spread M.outputs M.inputs K need in
        let more : (n + 1) * K ≡ n * K + K = omega (arith, add-mul n 1 K) in
        record {
          planned = λ i b hi hb. ⊎_elim
              (λ lt. below _ o.bottom (omega (arith, cell_in n K i b lt hb)) ∙ p.planned i b lt hb)
              (λ ge. subst (λ i. plan o M K s₂ i b ≡ mixed f (plan o M K s) (spare o M K s) i b) (let e : n ≡ i = omega arith in e) (⊎_elim
              (λ fixed. below _ o.bottom (omega arith) ∙ p.others _ (λ x y. omega arith) ∙ sym (cond-true _ _ _ (lt-ltb _ _ fixed)))
              (λ free. copied _ o.bottom (omega arith) (omega arith)
              ∙ ap (λ a. get_or s₁ a o.bottom) (let e : src + (plan_from M K + (n * K + b) - dest) ≡ spare_from M K + (n * K + b) = omega arith in e)
              ∙ p.others _ (λ x y. omega (arith, sp.at_spare, cell_in M.inputs K n b hn hb))
              ∙ sym (cond-false _ _ _ (le-ltb _ _ free)))
              (cases_lt b (f n))))
              (cases_lt i n);
          others = λ a out. ⊎_elim
              (λ lt. below a o.bottom (omega arith) ∙ p.others a (λ x y. omega arith))
              (λ ge. let high : plan_from M K + (n + 1) * K ≤ a = ⊎_elim (λ lt. absurd (out ge lt)) (λ h. h) (cases_lt a (plan_from M K + (n + 1) * K)) in
              from a o.bottom (omega arith) ∙ p.others a (λ x y. omega arith))
              (cases_lt a (plan_from M K));
        }

  -- a due writes its cell, and then the plant writes the ceiling
  module _ (f : ℕ → ℕ) (few : (i : ℕ) → i < M.inputs → f i ≤ K) (y k : ℕ) (v : V) (s s₂ : List V) (at : Blocks) (cell : ℕ)
      (there : Placed M K need at s × (y < M.outputs) × (k < K) × (cell ≡ y * K + k) × (cell < length s)) (r : Result Unit Refusal)
      (done : Outcome r (Fits M.inputs M.outputs K need (record { input = at.spare; output = 0; working = at.working }) (length (set s cell v)))
      (Filled o K at.spare M.inputs at.working need (backward_cell o M K (block o (set s cell v) 0 K)) (set s cell v) s₂) (set s cell v) s₂) where
    abbrev s₁ : List V
    s₁ = set s cell v

    fits : total M K need ≤ length s
    fits = there.0.fits

    hy : y < M.outputs
    hy = there.1

    hk : k < K
    hk = there.2

    written : s₁ ≡ set s (y * K + k) v
    written = ap (λ n. set s n v) there.3

    up : Climbed s₁ s₂
    up = climbed s₁ s₂ (accepted r _ _ s₁ s₂ (simp (there.0.spare, there.0.working) at done) (climb_fits M.outputs M.inputs K need (length s₁) (simp length-set fits)))

    score₁ : (a c : ℕ) → a < M.outputs → c < K → score o K s₁ a c ≡ put y k v (score o K s) a c
    score₁ a c ha hc =
        ap (λ l. get_or l (a * K + c) o.bottom) written ∙
        put_cases y k v (score o K s) a c (λ x. get_or (set s (y * K + k) v) (a * K + c) o.bottom ≡ x)
        (λ ea ec. ap (λ n. get_or (set s (y * K + k) v) n o.bottom) (ap₂ (λ p q. p * K + q) ea ec) ∙ get_or-set_same s (y * K + k) v o.bottom (let lt = there.4 in let place = there.3 in omega arith))
        (λ ne. let apart : a * K + c ≢ y * K + k = λ e. let both = place_inj K a c y k hc hk e in ne both.0 both.1 in get_or-set_other s (y * K + k) (a * K + c) v o.bottom apart)

    -- a cell past the score, below the working cells
    past : (n : ℕ) → plan_from M K ≤ n → n < spare_from M K → get_or s₂ n o.bottom ≡ get_or s n o.bottom
    past n lo hi =
        let at : y * K + k < M.outputs * K = cell_in M.outputs K y k hy hk in
        let apart : n ≢ y * K + k = omega arith in
        up.kept n hi ∙ ap (λ l. get_or l n o.bottom) written ∙ get_or-set_other s (y * K + k) n v o.bottom apart

    beyond₂ : (n : ℕ) → total M K need ≤ n → get_or s₂ n o.bottom ≡ get_or s n o.bottom
    beyond₂ n lo =
        let at : y * K + k < M.outputs * K = cell_in M.outputs K y k hy hk in
        let sp = spread M.outputs M.inputs K need in
        let apart : n ≢ y * K + k = omega (arith, sp.in_all) in
        up.beyond n lo ∙ ap (λ l. get_or l n o.bottom) written ∙ get_or-set_other s (y * K + k) n v o.bottom apart

    plan₂ : (i b : ℕ) → i < M.inputs → b < K → plan o M K s₂ i b ≡ plan o M K s i b
    plan₂ i b hi hb =
        let at : i * K + b < M.inputs * K = cell_in M.inputs K i b hi hb in
        let sp = spread M.outputs M.inputs K need in
        past _ (omega arith) (omega (arith, sp.at_spare))

    spare₂ : (i b : ℕ) → i < M.inputs → b < K → spare o M K s₂ i b ≡ backward_cell o M K (put y k v (score o K s)) i b
    spare₂ i b hi hb = up.ceiled i b hi hb ∙ backward_same o M (score o K s₁) (put y k v (score o K s)) K i b score₁

    held : Holds o M f (plan o M K s₂) (spare o M K s₂) → Holds o M f (plan o M K s) (backward_cell o M K (put y k v (score o K s)))
    held h i b hi hb =
        let low : b < K = omega (arith, few i hi) in
        subst₂ (AtMost o) (plan₂ i b hi low) (spare₂ i b hi low) (h i b hi hb)

    held⁻ : Holds o M f (plan o M K s) (backward_cell o M K (put y k v (score o K s))) → Holds o M f (plan o M K s₂) (spare o M K s₂)
    held⁻ h i b hi hb =
        let low : b < K = omega (arith, few i hi) in
        subst₂ (AtMost o) (sym (plan₂ i b hi low)) (sym (spare₂ i b hi low)) (h i b hi hb)

    pub taken : (s₃ : List V) → Holds o M f (plan o M K s₂) (spare o M K s₂) → Adopted o M K need f (spare o M K s₂) s₂ s₃ → Taken o M K need f y k v s s₃
    taken s₃ h a =
        let sp = spread M.outputs M.inputs K need in
        record {
          fits = fits;
          inside = (hy, hk);
          scored = λ b c hb hc. let at : b * K + c < M.outputs * K = cell_in M.outputs K b c hb hc in a.below _ at ∙ up.kept _ (omega (arith, sp.at_spare)) ∙ score₁ b c hb hc;
          held = held h;
          planned = λ i b hi hb. a.planned i b hi hb ∙ ap₂ (λ p q. cond (ltb b (f i)) p q) (plan₂ i b hi hb) (spare₂ i b hi hb);
          between = λ n r. a.above n r.0 ∙ past n (omega (arith, r.0, sp.at_strikes)) r.1;
          beyond = λ n r. a.above n (omega (arith, sp.at_strikes, sp.in_all)) ∙ beyond₂ n r;
        }

    pub turned : (was : V) → was ≡ get_or s cell was → length s₂ ≡ length s₁ → (Holds o M f (plan o M K s₂) (spare o M K s₂) → ⊥) → Turned o M K need f y k v s (set s₂ cell was) NoPlan
    turned was read kept fails =
        let long : length s₂ ≡ length s = kept ∙ length-set s cell v in
        let old : was ≡ get_or s (y * K + k) o.bottom = get_or_read s cell was there.4 read o.bottom ∙ ap (λ n. get_or s n o.bottom) there.3 in
        let s₃ = set s₂ cell was in
        let back : s₃ ≡ set s₂ (y * K + k) was = ap (λ n. set s₂ n was) there.3 in
        let sp = spread M.outputs M.inputs K need in
        let at : y * K + k < M.outputs * K = cell_in M.outputs K y k hy hk in
        let inside : y * K + k < length s₂ = let lt = there.4 in let place = there.3 in omega arith in
        let elsewhere : (n : ℕ) → n ≢ y * K + k → get_or s₃ n o.bottom ≡ get_or s₂ n o.bottom = λ n ne. ap (λ l. get_or l n o.bottom) back ∙ get_or-set_other s₂ (y * K + k) n was o.bottom ne in (
          fits,
          hy,
          hk,
          (λ h. fails (held⁻ h)),
          (λ n lt. ⊎_elim
              (λ e. ap (λ l. get_or l n o.bottom) back ∙ ap (λ j. get_or (set s₂ (y * K + k) was) j o.bottom) e ∙ get_or-set_same s₂ (y * K + k) was o.bottom inside ∙ old ∙ ap (λ j. get_or s j o.bottom) (sym e))
              (λ ne. elsewhere n ne ∙ up.kept n lt ∙ ap (λ l. get_or l n o.bottom) written ∙ get_or-set_other s (y * K + k) n v o.bottom ne)
              (cases_eq n (y * K + k))),
          (λ n r. let ne : n ≢ y * K + k = omega (arith, sp.in_all) in elsewhere n ne ∙ beyond₂ n r),
        )
