-- What each call leaves on the sheet.
use Rattle.std.specs.Prelude.{◌≡◌, ℕ, ◌+◌, ◌*◌, ◌<◌, ◌≤◌, true, false, cond, ◌⊎◌, List, length, nat_lt, slice_index_or, slice_set}
use Rattle.kinds.specs.Kind.{Ops, AtMost}
use Rattle.plants.specs.Meaning.{Meaning, block, forward_cell, backward_cell}
use Rattle.runs.specs.Plans.{Block, put}
use Rattle.phrases.specs.Sheets.{plan_at, strikes_at, spare_at, working_at, whole}
use Rattle.runs.specs.Refusals.{by_refusal}
use Rattle.phrases.specs.Orders.{is_out, back}
use Rattle.phrases.specs.declared.lanes.Lane.{Lane}
use Rattle.phrases.specs.declared.lanes.Order.{Order}
use Rattle.phrases.specs.declared.states.blocks.Blocks.{Blocks}
use Rattle.kinds.specs.declared.refusals.Refusal.{Refusal}

-- where the blocks begin
module _ {V : Type 0} (M : Meaning V) (K : ℕ) where
  abbrev pub plan_from : ℕ
  plan_from = plan_at M.outputs M.inputs K

  abbrev pub strikes_from : ℕ
  strikes_from = strikes_at M.outputs M.inputs K

  abbrev pub spare_from : ℕ
  spare_from = spare_at M.outputs M.inputs K

  -- the cells that a sheet has at least
  abbrev pub total : ℕ → ℕ
  total need = whole M.outputs M.inputs K need

  -- the plan cell of an order
  abbrev pub cell_of : Order → ℕ
  cell_of order = plan_from + (order.input * K + order.beat)

abbrev pub score : {V : Type 0} → Ops V → ℕ → List V → Block V
score o K s w b = slice_index_or s (w * K + b) o.bottom

-- all cells that P names are as they were
abbrev pub Kept : {V : Type 0} → Ops V → (ℕ → Type 0) → List V → List V → Type 0
Kept o P s s' = (n : ℕ) → P n → slice_index_or s' n o.bottom ≡ slice_index_or s n o.bottom

-- every fixed cell of u is at most c
abbrev pub Holds : {V : Type 0} → Ops V → Meaning V → (ℕ → ℕ) → Block V → Block V → Type 0
Holds o M f u c = (i b : ℕ) → i < M.inputs → b < f i → AtMost o (u i b) (c i b)

-- the fixed cells of u, and c in the open ones
abbrev pub mixed : {V : Type 0} → (ℕ → ℕ) → Block V → Block V → Block V
mixed f u c i b = cond (nat_lt b (f i)) (u i b) (c i b)

module _ {V : Type 0} (o : Ops V) (M : Meaning V) (K : ℕ) where
  abbrev pub plan : List V → Block V
  plan s = block o s (plan_from M K) K

  abbrev pub strikes : List V → Block V
  strikes s = block o s (strikes_from M K) K

  abbrev pub spare : List V → Block V
  spare s = block o s (spare_from M K) K

-- a sheet that has all the cells, and where its blocks begin
pub record Placed {V : Type 0} (M : Meaning V) (K need : ℕ) (at : Blocks) (s : List V) : Type 0 where
  pub fits : total M K need ≤ length s
  pub plan : at.plan ≡ plan_from M K
  pub strikes : at.strikes ≡ strikes_from M K
  pub spare : at.spare ≡ spare_from M K
  pub working : at.working ≡ working_at M.outputs M.inputs K

module _ {V : Type 0} (o : Ops V) (M : Meaning V) (K need : ℕ) where
  -- the fixed plan cells stay and the open ones become c
  pub record Adopted (f : ℕ → ℕ) (c : Block V) (s s' : List V) : Type 0 where
    pub planned : (i b : ℕ) → i < M.inputs → b < K → plan o M K s' i b ≡ mixed f (plan o M K s) c i b
    pub below : Kept o (λ n. n < plan_from M K) s s'
    pub above : Kept o (λ n. strikes_from M K ≤ n) s s'

  -- a call whose only refusal is 8
  abbrev pub RefusedShort : List V → List V → Refusal → Type 0
  RefusedShort s s' = by_refusal ⊥ ((length s < total M K need) × (s' ≡ s)) ⊥ ⊥ ⊥ ⊥ ⊥

  -- an accepted lay
  pub record LaidOut (s s' : List V) : Type 0 where
    pub fits : total M K need ≤ length s
    pub scored : (y k : ℕ) → y < M.outputs → k < K → score o K s' y k ≡ o.top
    pub planned : (i b : ℕ) → i < M.inputs → b < K → plan o M K s' i b ≡ o.top
    pub struck : (y k : ℕ) → y < M.outputs → k < K → strikes o M K s' y k ≡ o.bottom
    pub beyond : Kept o (λ n. spare_from M K ≤ n) s s'

  -- an accepted strikes
  pub record Struck (s s' : List V) : Type 0 where
    pub fits : total M K need ≤ length s
    pub struck : (y k : ℕ) → y < M.outputs → k < K → strikes o M K s' y k ≡ forward_cell o M (plan o M K s) y k
    pub below : Kept o (λ n. n < strikes_from M K) s s'
    pub beyond : Kept o (λ n. total M K need ≤ n) s s'

  -- an accepted due
  pub record Taken (f : ℕ → ℕ) (y k : ℕ) (v : V) (s s' : List V) : Type 0 where
    pub fits : total M K need ≤ length s
    pub inside : (y < M.outputs) × (k < K)
    pub scored : (a c : ℕ) → a < M.outputs → c < K → score o K s' a c ≡ put y k v (score o K s) a c
    pub held : Holds o M f (plan o M K s) (backward_cell o M K (put y k v (score o K s)))
    pub planned : (i b : ℕ) → i < M.inputs → b < K → plan o M K s' i b ≡ mixed f (plan o M K s) (backward_cell o M K (put y k v (score o K s))) i b
    pub between : Kept o (λ n. (strikes_from M K ≤ n) × (n < spare_from M K)) s s'
    pub beyond : Kept o (λ n. total M K need ≤ n) s s'

  -- a refused due, by its number
  abbrev pub Turned : (f : ℕ → ℕ) (y k : ℕ) (v : V) (s s' : List V) → Refusal → Type 0
  Turned f y k v s s' = by_refusal
      ((total M K need ≤ length s) × ((M.outputs ≤ y) ⊎ (K ≤ k)) × (s' ≡ s))
      ((length s < total M K need) × (s' ≡ s))
      ((total M K need ≤ length s) × (y < M.outputs) × (k < K) × (Holds o M f (plan o M K s) (backward_cell o M K (put y k v (score o K s))) → ⊥) × Kept o (λ n. n < spare_from M K) s s' × Kept o (λ n. total M K need ≤ n) s s')
      ⊥ ⊥ ⊥ ⊥

  -- a firing of v that is taken writes this cell
  pub record Aimed (order : Order) (v : V) (table : List Lane) (s : List V) (at : ℕ) : Type 0 where
    pub fits : total M K need ≤ length s
    pub ours : is_out M.inputs table order ≡ true
    pub low : AtMost o v (plan o M K s order.input order.beat)
    pub place : at ≡ cell_of M K order
    pub inside : at < length s

  -- an accepted firing of v
  pub record Fired (order : Order) (v : V) (table table' : List Lane) (s s' : List V) : Type 0 where
    pub fits : total M K need ≤ length s
    pub ours : is_out M.inputs table order ≡ true
    pub low : AtMost o v (plan o M K s order.input order.beat)
    pub written : s' ≡ slice_set s (cell_of M K order) v
    pub returned : table' ≡ back table order

  -- why a firing is refused
  abbrev pub Unfired : Order → V → List Lane → List V → Refusal → Type 0
  Unfired order v table s = by_refusal ⊥ (length s < total M K need) ⊥ ⊥ ⊥
      ((total M K need ≤ length s) × (is_out M.inputs table order ≡ true) × (AtMost o v (plan o M K s order.input order.beat) → ⊥))
      ((total M K need ≤ length s) × (is_out M.inputs table order ≡ false))

  -- an accepted miss
  pub record Missed (order : Order) (table table' : List Lane) (s s' : List V) : Type 0 where
    pub fits : total M K need ≤ length s
    pub ours : is_out M.inputs table order ≡ true
    pub written : s' ≡ slice_set s (cell_of M K order) o.bottom
    pub returned : table' ≡ back table order

  -- why a miss is refused
  abbrev pub Unmissed : Order → List Lane → List V → Refusal → Type 0
  Unmissed order table s = by_refusal ⊥ (length s < total M K need) ⊥ ⊥ ⊥ ⊥
      ((total M K need ≤ length s) × (is_out M.inputs table order ≡ false))
