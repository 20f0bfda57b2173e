-- Each call keeps the law of the phrase and its sheet, from what it promises of the lanes and cells.
use Rattle.std.proofs.Common.{◌≡◌, ℕ, ◌+◌, ◌*◌, ◌<◌, ◌≤◌, Bool, true, false, cond, eqb, ltb, leb, List, ◌∷◌, length, get_or, set, Ok, Err, Result, sym, refl, ap, ◌∙◌, subst, ap₂, ⊎_elim, arith, get_or-set_other, get_or-set_same, MatchResult}
use Rattle.std.proofs.lemmas.Bool.{cond_both, cond-true, cond-false, and_from, both_ways, eq-eqb, ne_eqb, ltb-true, ltb-false, lt-ltb, le-ltb, le-leb, lt-leb, cases_eq}
use Rattle.kinds.specs.Kind.{Ops, Laws, AtMost}
use Rattle.plants.specs.Meaning.{Meaning}
use Rattle.plants.proofs.Order.{bottom_least}
use Rattle.runs.specs.Plans.{Block, Same, put}
use Rattle.runs.proofs.Whys.{why, never}
use Rattle.phrases.specs.Orders.{lane_at, is_out, back, ordered, order_answer}
use Rattle.runs.specs.History.{Run, Stage, takes, stage_of, nothing, given, deed, Laid, Ours, held_of, Fair, Sound}
use Rattle.phrases.specs.Cells.{total, plan_from, score, plan, cell_of, RefusedShort, Struck, Taken, Turned, Fired, Unfired, Missed, Unmissed}
use Rattle.phrases.specs.Steps.{room, Left, due_act, strikes_act, fire_act, miss_act, order_act}
use Rattle.runs.specs.declared.acts.Answer.{Answer}
use Rattle.runs.specs.declared.acts.Answer.TheVariants.{Done, Refused}
use Rattle.runs.specs.declared.acts.Call.{Call}
use Rattle.runs.specs.declared.acts.Call.TheVariants.{Due, Order, Fire, Miss, Strikes}
use Rattle.phrases.specs.declared.lanes.Lane.{Lane}
use Rattle.phrases.specs.declared.lanes.Order.{Order as Token}
use Rattle.kinds.specs.declared.refusals.Refusal.{Refusal}
use Rattle.kinds.specs.declared.refusals.Refusal.TheVariants.{Missing, Short, OrderOut, AllFixed, TooHigh, NoOrder}
use Rattle.phrases.specs.declared.lanes.Returned.{Returned}
use Rattle.phrases.proofs.Places.{cell_in, spread, place_inj, plan_cell_in, out_parts, same_fixed}
use Rattle.runs.proofs.Puts.{put_cases}
use Rattle.runs.proofs.Runs.{act, taken_now, agrees, ours, nothing_step, due_step, barred_step, order_step, given_step}

-- a lane that is changed, and the others
pub set_lane : (table : List Lane) (i j : ℕ) (x : Lane) → i < length table → lane_at (set table i x) j ≡ cond (eqb j i) x (lane_at table j)
set_lane table i j x lt =
    ⊎_elim
    (λ e. ap (λ n. lane_at (set table i x) n) e ∙ get_or-set_same table i x _ lt ∙ sym (cond-true (eqb j i) _ _ (eq-eqb j i e)))
    (λ ne. get_or-set_other table i j x _ ne ∙ sym (cond-false (eqb j i) _ _ (ne_eqb j i ne)))
    (cases_eq j i)

cond_ap : {A B : Type 0} (f : A → B) (b : Bool) (x y : A) → f (cond b x y) ≡ cond b (f x) (f y)
cond_ap f true x y = refl
cond_ap f false x y = refl

-- a value that depends on j, where j is i
cond_here : {A : Type 0} (j i : ℕ) (p : ℕ → A) (y : A) → cond (eqb j i) (p i) y ≡ cond (eqb j i) (p j) y
cond_here j i p y = ⊎_elim
    (λ e. cond-true (eqb j i) _ _ (eq-eqb j i e) ∙ ap p (sym e) ∙ sym (cond-true (eqb j i) _ _ (eq-eqb j i e)))
    (λ ne. cond-false (eqb j i) _ _ (ne_eqb j i ne) ∙ sym (cond-false (eqb j i) _ _ (ne_eqb j i ne)))
    (cases_eq j i)

module _ {V : Type 0} {o : Ops V} (L : Laws o) (M : Meaning V) (K need : ℕ) (g : Stage) (h : Run V) (table : List Lane) (s : List V) (few : (i : ℕ) → i < M.inputs → (lane_at table i).fixed ≤ K) (old : Left o M K need g h table s) where
  -- a sheet of the same length has the same room
  at_sheet : (g' : Stage) (h' : Run V) (table' : List Lane) (s' : List V) → length s' ≡ length s → Sound o M K (room M K need s) g' h' (score o K s') (plan o M K s') (λ i. (lane_at table' i).fixed) (λ i. (lane_at table' i).out) → Left o M K need g' h' table' s'
  at_sheet g' h' table' s' len x = subst (λ n. Sound o M K (leb (total M K need) n) g' h' (score o K s') (plan o M K s') (λ i. (lane_at table' i).fixed) (λ i. (lane_at table' i).out)) (sym len) x

  -- the law looks only at the cells and lanes that there are
  restate : (g' : Stage) (h' : Run V) (z z' u : Block V) (f f' : ℕ → ℕ) (t t' : ℕ → Bool) → Same K M.outputs z' z → ((i : ℕ) → i < M.inputs → f' i ≡ f i) → ((i : ℕ) → i < M.inputs → t' i ≡ t i) →
      Sound o M K (room M K need s) g' h' z u f t → Sound o M K (room M K need s) g' h' z' u f' t'
  restate g' h' z z' u f f' t t' ez ef et x = record {
    staged = x.staged;
    counted = λ i hi. ef i hi ∙ x.counted i hi;
    lent = λ i hi. et i hi ∙ x.lent i hi;
    scored = λ l y k hy hk. ez y k hy hk ∙ x.scored l y k hy hk;
    best = x.best;
    fair = x.fair;
  }

  -- a call that came to nothing and left lanes and sheet as they were
  pub quiet : (c : Call V) (r : Answer V) (table' : List Lane) (s' : List V) → deed o c r ≡ nothing → Fair o M K (room M K need s) h c r → table' ≡ table → s' ≡ s → Left o M K need g (act c r ∷ h) table' s'
  quiet c r table' s' d fair et es =
      subst (λ l. Left o M K need g (act c r ∷ h) l s') (sym et)
      (subst (λ l. Left o M K need g (act c r ∷ h) table l) (sym es) (nothing_step L M K (room M K need s) g h _ _ _ _ few old c r _ _ d fair (λ a c ha hc. refl) (λ a c ha hc. refl)))

  now_taken : (c : Call V) → takes c g ≡ true → takes c (stage_of o h) ≡ true
  now_taken c tk = taken_now L M K (room M K need s) g h _ _ _ _ few old c true tk

  pub strikes_law : {X : Type 0} (s' : List V) → length s' ≡ length s → takes {V = V} Strikes g ≡ true → (r : Result X Refusal) →
      MatchResult r (λ _. Struck o M K need s s') (λ e. RefusedShort o M K need s s' e) → Left o M K need g (strikes_act r ∷ h) table s'
  strikes_law s' len tk (Ok x) t =
      let sp = spread M.outputs M.inputs K need in
      at_sheet g _ table s' len (nothing_step L M K (room M K need s) g h _ _ _ _ few old Strikes Done _ _ refl (now_taken Strikes tk, le-leb _ _ t.fits)
      (λ a c ha hc. t.below _ (omega (arith, cell_in M.outputs K a c ha hc, sp.at_strikes)))
      (λ a c ha hc. t.below _ (omega (arith, cell_in M.inputs K a c ha hc, sp.at_strikes))))
  strikes_law s' len tk (Err e) t = why (λ w. Left o M K need g (act Strikes (Refused w) ∷ h) table s') e t never (λ p. quiet Strikes (Refused Short) table s' refl (now_taken Strikes tk, lt-leb _ _ p.0) refl p.1) never never never never never

  module _ (y k : ℕ) (v : V) (s' : List V) (len : length s' ≡ length s) (tk : takes (Due y k v) g ≡ true) where
    turned_law : (e : Refusal) → Turned o M K need (λ i. (lane_at table i).fixed) y k v s s' e → Left o M K need g (act (Due y k v) (Refused e) ∷ h) table s'
    turned_law e t = why (λ w. Left o M K need g (act (Due y k v) (Refused w) ∷ h) table s') e t
        (λ p. quiet (Due y k v) (Refused Missing) table s' refl (now_taken (Due y k v) tk, (le-leb _ _ p.0, p.1)) refl p.2)
        (λ p. quiet (Due y k v) (Refused Short) table s' refl (now_taken (Due y k v) tk, lt-leb _ _ p.0) refl p.1)
        (λ p. let sp = spread M.outputs M.inputs K need in
        at_sheet g _ table s' len
        (barred_step L M K (room M K need s) g h _ _ _ _ few old y k v (put y k v (score o K s)) _ _ tk (le-leb _ _ p.0) p.1 p.2 (λ a c ha hc. refl) p.3
        (λ a c ha hc. p.4 _ (omega (arith, cell_in M.outputs K a c ha hc, sp.at_spare)))
        (λ a c ha hc. p.4 _ (omega (arith, cell_in M.inputs K a c ha hc, sp.at_spare)))))
        never never never never

    pub due_law : {X : Type 0} (r : Result X Refusal) →
        MatchResult r (λ _. Taken o M K need (λ i. (lane_at table i).fixed) y k v s s') (λ e. Turned o M K need (λ i. (lane_at table i).fixed) y k v s s' e) → Left o M K need g (due_act y k v r ∷ h) table s'
    due_law (Ok x) t =
        at_sheet g _ table s' len
        (restate g _ (put y k v (score o K s)) (score o K s') (plan o M K s') _ _ _ _ t.scored (λ i hi. refl) (λ i hi. refl)
        (due_step L M K (room M K need s) g h _ _ _ _ few old y k v (put y k v (score o K s)) (plan o M K s') tk (le-leb _ _ t.fits) t.inside.0 t.inside.1 (λ a c ha hc. refl)
        (λ i b hi hb. t.planned i b hi (omega (arith, few i hi)) ∙ cond-true _ _ _ (lt-ltb b _ hb))
        (λ i b hi lo hb. t.planned i b hi hb ∙ cond-false _ _ _ (le-ltb b _ lo))
        t.held))
    due_law (Err e) t = turned_law e t

  -- an order: the lanes are sixteen
  pub order_law : (i : ℕ) → takes {V = V} (Order i) g ≡ true → M.inputs ≤ length table → (r : Result Token Refusal) (table' : List Lane) → r ≡ order_answer (room M K need s) M.inputs K i (lane_at table i) → table' ≡ ordered table r → Left o M K need g (order_act o M K s i r ∷ h) table' s
  order_law i tk all r table' er et =
      let P : Result Token Refusal → Type 0 = λ r. Left o M K need g (order_act o M K s i r ∷ h) (ordered table r) s in
      let l = lane_at table i in
      let refuse : (e : Refusal) → Fair o M K (room M K need s) h (Order i) (Refused e) → P (Err e) = λ e fair. quiet (Order i) (Refused e) table s refl fair refl refl in
      let now = now_taken (Order i) tk in
      let here : P (order_answer (room M K need s) M.inputs K i l) =
      cond_both (room M K need s) _ _ P
      (λ rm. cond_both (ltb i M.inputs) _ _ P
      (λ hi. let lt : i < M.inputs = ltb-true _ _ hi in cond_both l.out _ _ P
      (λ out. refuse OrderOut (now, (rm, lt, sym (old.lent i lt) ∙ out)))
      (λ home. cond_both (ltb l.fixed K) _ _ P
      (λ low. order_step L M K (room M K need s) g h _ _ _ _ few old i _ _ _ _ _ tk rm lt home refl (λ a c ha hc. refl) (λ a c ha hc. refl) (ltb-true _ _ low)
      (λ j hj. ap (λ (x : Lane). x.fixed) (set_lane table i j _ (omega arith)) ∙ cond_ap {A = Lane} (λ x. x.fixed) (eqb j i) _ _ ∙ cond_here j i (λ n. (lane_at table n).fixed + 1) _)
      (λ j hj. ap (λ (x : Lane). x.out) (set_lane table i j _ (omega arith)) ∙ cond_ap {A = Lane} (λ x. x.out) (eqb j i) _ _))
      (λ full. refuse AllFixed (now, (rm, lt, sym (old.lent i lt) ∙ home, (let le : K ≤ l.fixed = ltb-false _ _ full in subst (λ n. K ≤ n) (old.counted i lt) le))))))
      (λ hi. refuse Missing (now, (rm, ltb-false _ _ hi))))
      (λ rm. refuse Short (now, rm)) in
      subst (λ x. Left o M K need g (order_act o M K s i r ∷ h) x s) (sym et) (subst P (sym er) here)

  module _ (order : Token) (table' : List Lane) (s' : List V) (len : length s' ≡ length s) (all : M.inputs ≤ length table) where
    -- by the lanes and by the run, the order is out here
    out_ours : is_out M.inputs table order ≡ true → Ours o M h order.input order.beat
    out_ours out = let p = out_parts M.inputs table order out in ours L M K (room M K need s) g h _ _ _ _ few old order.input order.beat p.0 p.1 p.2

    not_ours : is_out M.inputs table order ≡ false → Ours o M h order.input order.beat → ⊥
    not_ours away p =
        both_ways _ away (and_from _ _ (lt-ltb _ _ p.0) (and_from _ _ (old.lent _ p.0 ∙ p.1) (eq-eqb _ _ (old.counted _ p.0 ∙ p.2))))

    -- the plan value of the order's cell is what its order found
    cell_held : is_out M.inputs table order ≡ true → Laid o h → plan o M K s order.input order.beat ≡ held_of o h order.input order.beat
    cell_held out l = let p = out_parts M.inputs table order out in agrees L M K (room M K need s) g h _ _ _ _ few old l order.input order.beat p.0 (omega (arith, p.2))

    given_law : (c : Call V) (v : V) → deed o c Done ≡ given order.input order.beat v → Fair o M K (room M K need s) h c Done →
        total M K need ≤ length s → is_out M.inputs table order ≡ true → AtMost o v (plan o M K s order.input order.beat) → s' ≡ set s (cell_of M K order) v → table' ≡ back table order →
        Left o M K need g (act c Done ∷ h) table' s'
    given_law c v d fair fits out low es et =
        let i = order.input in
        let b = order.beat in
        let p = out_parts M.inputs table order out in
        let hi = p.0 in
        let hf : b < (lane_at table i).fixed = omega (arith, p.2) in
        let hb : b < K = omega (arith, few i hi) in
        let there : cell_of M K order < length s = plan_cell_in M.outputs M.inputs K need _ i b fits hi hb in
        at_sheet g _ table' s' len
        (restate g _ (score o K s') (score o K s') (plan o M K s') (λ j. (lane_at table j).fixed) (λ j. (lane_at table' j).fixed) (λ j. (lane_at table' j).out) (λ j. (lane_at table' j).out) (λ a c ha hc. refl)
        (λ j hj. ap (λ t. (lane_at t j).fixed) et ∙ same_fixed table i j) (λ j hj. refl)
        (given_step L M K (room M K need s) g h _ _ _ _ few old c i b v (score o K s') (plan o M K s') (λ j. (lane_at table' j).out) d fair hi hf low
        (λ a k ha hk. ap (λ l. get_or l (a * K + k) o.bottom) es ∙ get_or-set_other s (cell_of M K order) (a * K + k) v o.bottom (let at = cell_in M.outputs K a k ha hk in omega arith))
        (λ j k hj hk. ap (λ l. get_or l (plan_from M K + (j * K + k)) o.bottom) es ∙
        put_cases i b v (plan o M K s) j k (λ x. get_or (set s (cell_of M K order) v) (plan_from M K + (j * K + k)) o.bottom ≡ x)
        (λ ej ek. ap (λ n. get_or (set s (cell_of M K order) v) (plan_from M K + n) o.bottom) (ap₂ (λ p q. p * K + q) ej ek) ∙ get_or-set_same s (cell_of M K order) v o.bottom there)
        (λ ne. get_or-set_other s (cell_of M K order) (plan_from M K + (j * K + k)) v o.bottom (λ e. let both = place_inj K j k i b hk hb (omega arith) in ne both.0 both.1)))
        (λ j hj. ap (λ t. (lane_at t j).out) et ∙ ap (λ (x : Lane). x.out) (set_lane table i j _ (omega arith)) ∙ cond_ap {A = Lane} (λ x. x.out) (eqb j i) _ _)))

    module _ (v : V) (tk : takes (Fire order.input order.beat v) g ≡ true) where
      unfired_law : (e : Refusal) → Unfired o M K need order v table s e → table' ≡ table → s' ≡ s → Left o M K need g (act (Fire order.input order.beat v) (Refused e) ∷ h) table' s'
      unfired_law e t et es = why (λ w. Left o M K need g (act (Fire order.input order.beat v) (Refused w) ∷ h) table' s') e t
          never
          (λ p. quiet (Fire order.input order.beat v) (Refused Short) table' s' refl (now_taken (Fire order.input order.beat v) tk, lt-leb _ _ p) et es)
          never never never
          (λ p. quiet (Fire order.input order.beat v) (Refused TooHigh) table' s' refl
          (now_taken (Fire order.input order.beat v) tk, (le-leb _ _ p.0, out_ours p.1, (λ l a. p.2 (subst (AtMost o v) (sym (cell_held p.1 l)) a)))) et es)
          (λ p. quiet (Fire order.input order.beat v) (Refused NoOrder) table' s' refl (now_taken (Fire order.input order.beat v) tk, (le-leb _ _ p.0, not_ours p.1)) et es)

      pub fire_law : {X : Type 0} (r : Result X Returned) →
          MatchResult r (λ _. Fired o M K need order v table table' s s') (λ e. (e.order ≡ order) × (s' ≡ s) × (table' ≡ table) × Unfired o M K need order v table s e.refusal) → Left o M K need g (fire_act order v r ∷ h) table' s'
      fire_law (Ok x) t = given_law (Fire order.input order.beat v) v refl
          (now_taken (Fire order.input order.beat v) tk, (le-leb _ _ t.fits, out_ours t.ours, (λ l. subst (AtMost o v) (cell_held t.ours l) t.low)))
          t.fits t.ours t.low t.written t.returned
      fire_law (Err e) t = unfired_law e.refusal t.3 t.2 t.1

    module _ (tk : takes {V = V} (Miss order.input order.beat) g ≡ true) where
      unmissed_law : (e : Refusal) → Unmissed o M K need order table s e → table' ≡ table → s' ≡ s → Left o M K need g (act (Miss order.input order.beat) (Refused e) ∷ h) table' s'
      unmissed_law e t et es = why (λ w. Left o M K need g (act (Miss order.input order.beat) (Refused w) ∷ h) table' s') e t
          never
          (λ p. quiet (Miss order.input order.beat) (Refused Short) table' s' refl (now_taken (Miss order.input order.beat) tk, lt-leb _ _ p) et es)
          never never never never
          (λ p. quiet (Miss order.input order.beat) (Refused NoOrder) table' s' refl (now_taken (Miss order.input order.beat) tk, (le-leb _ _ p.0, not_ours p.1)) et es)

      pub miss_law : {X : Type 0} (r : Result X Returned) →
          MatchResult r (λ _. Missed o M K need order table table' s s') (λ e. (e.order ≡ order) × (s' ≡ s) × (table' ≡ table) × Unmissed o M K need order table s e.refusal) → Left o M K need g (miss_act order r ∷ h) table' s'
      miss_law (Ok x) t = given_law (Miss order.input order.beat) o.bottom refl (now_taken (Miss order.input order.beat) tk, (le-leb _ _ t.fits, out_ours t.ours)) t.fits t.ours (bottom_least L _) t.written t.returned
      miss_law (Err e) t = unmissed_law e.refusal t.3 t.2 t.1
