-- One turn of a call in the sheet.
use Rattle.std.specs.Prelude.{◌≡◌, ℕ, ◌+◌, ◌-◌, ◌*◌, ◌<◌, ◌≤◌, Bool, cond, ◌&&◌, List, ◌==◌, nat_le, slice_index_or}
use Rattle.kinds.specs.Kind.{Ops}
use Rattle.links.specs.Takes.{tokenless, delayed}
use Rattle.links.specs.declared.Link.{Link}
use Rattle.walks.specs.Folds.{fold}
use Rattle.routes.specs.Ways.{none, both, along, tail, head, into, out}
use Rattle.nets.specs.declared.stage.Leg.{Leg}
use Rattle.nets.specs.declared.stage.Leg.TheVariants.{Into, Wait, Glide, Out}
use Rattle.nets.specs.declared.stage.Stage.{Stage}

-- a cell of a sheet, bottom beyond its end
abbrev pub cell : {T : Type 0} → Ops T → List T → ℕ → T
cell o xs i = slice_index_or xs i o.bottom

-- whether the link takes part in this leg
abbrev pub takes_part : {T : Type 0} → Leg → Stage → Link T → Bool
takes_part Into g l = into g.way g.n g.reads l
takes_part Wait g l = delayed g.n l && nat_le l.tokens g.turn
takes_part Glide g l = tokenless g.n l
takes_part Out g l = out g.way g.n g.writes l

-- the cell that it reads
abbrev pub source : {T : Type 0} → Leg → Stage → Link T → ℕ
source Into g l = g.given + (tail g.way l * g.beats + g.beat)
source Wait g l = g.working + ((g.turn - l.tokens) * g.n + tail g.way l)
source Glide g l = g.working + (g.beats * g.n + tail g.way l)
source Out g l = g.working + (g.turn * g.n + tail g.way l)

-- the cell that it writes
abbrev pub target : {T : Type 0} → Leg → Stage → Link T → ℕ
target Into g l = g.working + (g.turn * g.n + head g.way l)
target Wait g l = g.working + (g.turn * g.n + head g.way l)
target Glide g l = g.working + (g.turn * g.n + head g.way l)
target Out g l = g.asked + (head g.way l * g.beats + g.beat)

-- a cell of the row of the turn, a given cell of its beat, and the place of one asked for
abbrev pub row_cell : {T : Type 0} → Ops T → Stage → List T → ℕ → T
row_cell o g s t = cell o s (g.working + (g.turn * g.n + t))

abbrev pub given_cell : {T : Type 0} → Ops T → Stage → List T → ℕ → T
given_cell o g s w = cell o s (g.given + (w * g.beats + g.beat))

abbrev pub asked_at : Stage → ℕ → ℕ
asked_at g w = g.asked + (w * g.beats + g.beat)

-- the blocks end before the working cells, and these within `end`
pub record Laid (g : Stage) (end : ℕ) : Type 0 where
  pub turn_within : g.turn < g.beats
  pub beat_within : g.beat < g.beats
  pub few_beats : g.beats ≤ 64
  pub given_fits : g.given + g.reads * g.beats ≤ g.working
  pub asked_fits : g.asked + g.writes * g.beats ≤ g.working
  pub working_fits : g.working + (g.beats + 1) * g.n ≤ end

-- after a sweep each cell has got what the links bring there
abbrev pub Swept : {T : Type 0} → Ops T → Leg → Stage → List (Link T) → List T → List T → Type 0
Swept o leg g links before after =
    (j : ℕ) → cell o after j ≡ both o g.way (cell o before j)
    (fold (none o g.way) (both o g.way) (λ l. cond (takes_part leg g l && target leg g l == j) (along o g.way l.value (cell o before (source leg g l))) (none o g.way)) links)
