-- A run: the calls with their answers, the newest first. What the accepted ones since the last accepted lay come to, and how each call is answered.
use Rattle.std.specs.Prelude.{◌≡◌, ℕ, ◌+◌, ◌<◌, ◌≤◌, Bool, true, false, cond, ◌⊎◌, List, [], ◌∷◌, ◌==◌}
use Rattle.kinds.specs.Kind.{Ops, AtMost}
use Rattle.plants.specs.Meaning.{Meaning}
use Rattle.runs.specs.Plans.{Block, put, NoneLeft, Best}
use Rattle.runs.specs.Refusals.{by_refusal}
use Rattle.runs.specs.declared.acts.Act.{Act}
use Rattle.runs.specs.declared.acts.Answer.{Answer}
use Rattle.runs.specs.declared.acts.Answer.TheVariants.{Done, Ordered, Refused, Untaken}
use Rattle.runs.specs.declared.acts.Call.{Call}
use Rattle.runs.specs.declared.acts.Call.TheVariants.{Lay, Due, Start, Order, Fire, Miss, Strikes, End}
use Rattle.kinds.specs.declared.refusals.Refusal.{Refusal}

-- what a call and its answer come to: a lay, a due, an order that fixed a cell at what it found, a value written into a fixed cell, a start, an end, or nothing
pub data Deed (V : Type 0) : Type 0 where
  laid : Deed V
  asked : ℕ → ℕ → V → Deed V
  ordered : ℕ → ℕ → V → Deed V
  given : ℕ → ℕ → V → Deed V
  started : Deed V
  closed : Deed V
  nothing : Deed V

abbrev pub done : {V : Type 0} → Ops V → Call V → Deed V
done o Lay = laid
done o (Due y k v) = asked y k v
done o Start = started
done o (Order i) = nothing
done o (Fire i b v) = given i b v
done o (Miss i b) = given i b o.bottom
done o Strikes = nothing
done o End = closed

abbrev pub handed : {V : Type 0} → Call V → ℕ → V → Deed V
handed Lay b v = nothing
handed (Due y k x) b v = nothing
handed Start b v = nothing
handed (Order i) b v = ordered i b v
handed (Fire i k x) b v = nothing
handed (Miss i k) b v = nothing
handed Strikes b v = nothing
handed End b v = nothing

abbrev pub deed : {V : Type 0} → Ops V → Call V → Answer V → Deed V
deed o c Done = done o c
deed o c (Ordered b v) = handed c b v
deed o c (Refused e) = nothing
deed o c Untaken = nothing

abbrev pub Run : Type 0 → Type 0
Run V = List (Act V)

-- a phrase is written, playing or ended
pub data Stage : Type 0 where
  written : Stage
  playing : Stage
  ended : Stage

abbrev pub stage_by : {V : Type 0} → Deed V → Stage → Stage
stage_by laid g = g
stage_by (asked y k v) g = g
stage_by (ordered i b v) g = g
stage_by (given i b v) g = g
stage_by started g = playing
stage_by closed g = ended
stage_by nothing g = g

abbrev by_stage : Bool → Bool → Bool → Stage → Bool
by_stage a b c written = a
by_stage a b c playing = b
by_stage a b c ended = c

-- whether a phrase that is written, playing or ended takes a call
abbrev pub takes : {V : Type 0} → Call V → Stage → Bool
takes Lay = by_stage true false false
takes (Due y k v) = by_stage true true false
takes Start = by_stage true false false
takes (Order i) = by_stage false true false
takes (Fire i b v) = by_stage false true false
takes (Miss i b) = by_stage false true true
takes Strikes = by_stage false true true
takes End = by_stage false true false

-- whether a lay was accepted
abbrev pub laid_by : {V : Type 0} → Deed V → Bool → Bool
laid_by laid b = true
laid_by (asked y k v) b = b
laid_by (ordered i k v) b = b
laid_by (given i k v) b = b
laid_by started b = b
laid_by closed b = b
laid_by nothing b = b

-- a score cell is the value of the last due there, else top
abbrev pub score_by : {V : Type 0} → Ops V → Deed V → Block V → Block V
score_by o laid z = λ y k. o.top
score_by o (asked y k v) z = put y k v z
score_by o (ordered i b v) z = z
score_by o (given i b v) z = z
score_by o started z = z
score_by o closed z = z
score_by o nothing z = z

-- an input's fixed cells are its lowest beats, one for each of its orders
abbrev pub fixed_by : {V : Type 0} → Deed V → (ℕ → ℕ) → ℕ → ℕ
fixed_by laid f = λ i. 0
fixed_by (asked y k v) f = f
fixed_by (ordered i b v) f = λ j. cond (j == i) (f j + 1) (f j)
fixed_by (given i b v) f = f
fixed_by started f = f
fixed_by closed f = f
fixed_by nothing f = f

-- a fixed cell holds what its order found, until a firing or a miss writes there
abbrev pub held_by : {V : Type 0} → Deed V → Block V → Block V
held_by laid g = g
held_by (asked y k v) g = g
held_by (ordered i b v) g = put i b v g
held_by (given i b v) g = put i b v g
held_by started g = g
held_by closed g = g
held_by nothing g = g

-- an order is out until it is given back
abbrev pub out_by : {V : Type 0} → Deed V → (ℕ → Bool) → ℕ → Bool
out_by laid t = λ i. false
out_by (asked y k v) t = t
out_by (ordered i b v) t = λ j. cond (j == i) true (t j)
out_by (given i b v) t = λ j. cond (j == i) false (t j)
out_by started t = t
out_by closed t = t
out_by nothing t = t

module _ {V : Type 0} (o : Ops V) where
  abbrev pub stage_of : Run V → Stage
  stage_of [] = written
  stage_of (a ∷ h) = stage_by (deed o a.call a.answer) (stage_of h)

  abbrev pub laid_in : Run V → Bool
  laid_in [] = false
  laid_in (a ∷ h) = laid_by (deed o a.call a.answer) (laid_in h)

  abbrev pub score_of : Run V → Block V
  score_of [] = λ y k. o.top
  score_of (a ∷ h) = score_by o (deed o a.call a.answer) (score_of h)

  abbrev pub fixed_of : Run V → ℕ → ℕ
  fixed_of [] = λ i. 0
  fixed_of (a ∷ h) = fixed_by (deed o a.call a.answer) (fixed_of h)

  abbrev pub held_of : Run V → Block V
  held_of [] = λ i b. o.bottom
  held_of (a ∷ h) = held_by (deed o a.call a.answer) (held_of h)

  abbrev pub out_of : Run V → ℕ → Bool
  out_of [] = λ i. false
  out_of (a ∷ h) = out_by (deed o a.call a.answer) (out_of h)

  -- an accepted lay stands in the run: only then are score and plan pinned
  abbrev pub Laid : Run V → Type 0
  Laid h = laid_in h ≡ true

  -- the order for this input and beat is out
  abbrev pub Ours : Meaning V → Run V → ℕ → ℕ → Type 0
  Ours M h i b = (i < M.inputs) × (out_of h i ≡ true) × (fixed_of h i ≡ b + 1)

  -- no plan is left for a changed score
  abbrev pub Barred : Meaning V → ℕ → Run V → ℕ → ℕ → V → Type 0
  Barred M K h y k v = NoneLeft o M K (put y k v (score_of h)) (fixed_of h) (held_of h)

-- how each call is answered after a run; `room` says whether the sheet has all the cells
module _ {V : Type 0} (o : Ops V) (M : Meaning V) (K : ℕ) (room : Bool) where
  abbrev pub FairDone : Run V → Call V → Type 0
  FairDone h Lay = room ≡ true
  FairDone h (Due y k v) = (room ≡ true) × (y < M.outputs) × (k < K) × (Laid o h → Barred o M K h y k v → ⊥)
  FairDone h Start = Unit {0}
  FairDone h (Order i) = ⊥
  FairDone h (Fire i b v) = (room ≡ true) × Ours o M h i b × (Laid o h → AtMost o v (held_of o h i b))
  FairDone h (Miss i b) = (room ≡ true) × Ours o M h i b
  FairDone h Strikes = room ≡ true
  FairDone h End = Unit {0}

  -- the lowest open beat, and what the best plan has there
  abbrev pub FairOrdered : Run V → Call V → ℕ → V → Type 0
  FairOrdered h Lay b x = ⊥
  FairOrdered h (Due y k v) b x = ⊥
  FairOrdered h Start b x = ⊥
  FairOrdered h (Order i) b x = (room ≡ true) × (i < M.inputs) × (out_of o h i ≡ false) × (b < K) × (b ≡ fixed_of o h i) × (Laid o h → (u : Block V) × (Best o M K (score_of o h) (fixed_of o h) (held_of o h) u × (u i b ≡ x)))
  FairOrdered h (Fire i k v) b x = ⊥
  FairOrdered h (Miss i k) b x = ⊥
  FairOrdered h Strikes b x = ⊥
  FairOrdered h End b x = ⊥

  abbrev pub FairRefused : Run V → Call V → Refusal → Type 0
  FairRefused h Lay = by_refusal ⊥ (room ≡ false) ⊥ ⊥ ⊥ ⊥ ⊥
  FairRefused h (Due y k v) = by_refusal
      ((room ≡ true) × ((M.outputs ≤ y) ⊎ (K ≤ k)))
      (room ≡ false)
      ((room ≡ true) × (y < M.outputs) × (k < K) × (Laid o h → Barred o M K h y k v))
      ⊥ ⊥ ⊥ ⊥
  FairRefused h Start = by_refusal ⊥ ⊥ ⊥ ⊥ ⊥ ⊥ ⊥
  FairRefused h (Order i) = by_refusal
      ((room ≡ true) × (M.inputs ≤ i))
      (room ≡ false)
      ⊥
      ((room ≡ true) × (i < M.inputs) × (out_of o h i ≡ true))
      ((room ≡ true) × (i < M.inputs) × (out_of o h i ≡ false) × (K ≤ fixed_of o h i))
      ⊥ ⊥
  FairRefused h (Fire i b v) = by_refusal ⊥ (room ≡ false) ⊥ ⊥ ⊥
      ((room ≡ true) × Ours o M h i b × (Laid o h → AtMost o v (held_of o h i b) → ⊥))
      ((room ≡ true) × (Ours o M h i b → ⊥))
  FairRefused h (Miss i b) = by_refusal ⊥ (room ≡ false) ⊥ ⊥ ⊥ ⊥ ((room ≡ true) × (Ours o M h i b → ⊥))
  FairRefused h Strikes = by_refusal ⊥ (room ≡ false) ⊥ ⊥ ⊥ ⊥ ⊥
  FairRefused h End = by_refusal ⊥ ⊥ ⊥ ⊥ ⊥ ⊥ ⊥

  abbrev pub Fair : Run V → Call V → Answer V → Type 0
  Fair h c Done = (takes c (stage_of o h) ≡ true) × FairDone h c
  Fair h c (Ordered b x) = (takes c (stage_of o h) ≡ true) × FairOrdered h c b x
  Fair h c (Refused e) = (takes c (stage_of o h) ≡ true) × FairRefused h c e
  Fair h c Untaken = takes c (stage_of o h) ≡ false

  -- every call of the run was answered so
  abbrev pub AllFair : Run V → Type 0
  AllFair [] = Unit {0}
  AllFair (a ∷ h) = Fair h a.call a.answer × AllFair h

  -- the law of a run that left this stage, score, plan, counts of fixed beats and orders out
  pub record Sound (g : Stage) (h : Run V) (z u : Block V) (f : ℕ → ℕ) (t : ℕ → Bool) : Type 0 where
    pub staged : g ≡ stage_of o h
    pub counted : (i : ℕ) → i < M.inputs → f i ≡ fixed_of o h i
    pub lent : (i : ℕ) → i < M.inputs → t i ≡ out_of o h i
    pub scored : Laid o h → (y k : ℕ) → y < M.outputs → k < K → z y k ≡ score_of o h y k
    pub best : Laid o h → Best o M K (score_of o h) (fixed_of o h) (held_of o h) u
    pub fair : AllFair h
