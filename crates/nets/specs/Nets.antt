-- An event net as a plant, and its turns in the sheet.
use Rattle.std.specs.Prelude.{◌≡◌, ℕ, ◌+◌, ◌*◌, ◌<◌, ◌≤◌, ◌↔◌, List, length, Ok, Err, Result}
use Rattle.kinds.specs.Kind.{Ops}
use Rattle.kinds.specs.declared.refusals.Refusal.{Refusal}
use Rattle.plants.specs.Calls.{Outside, Filled, Outcome}
use Rattle.plants.specs.Fits.{Fits}
use Rattle.plants.specs.Meaning.{Meaning, Counted, block, forward_cell, backward_cell}
use Rattle.plants.specs.Theorems.{Below}
use Rattle.plants.specs.declared.places.Places.{Places}
use Rattle.routes.specs.Routes.{net_meaning}
use Rattle.routes.specs.Solutions.{LeavesLeast}
use Rattle.routes.specs.Ways.{none, state, answer, beat_of}
use Rattle.routes.specs.declared.Way.{Way}
use Rattle.routes.specs.declared.Way.TheVariants.{Forth, Back}
use Rattle.nets.specs.Stages.{cell}
use Rattle.nets.specs.declared.net.Net.{Net}
use Rattle.nets.specs.declared.stage.Stage.{Stage}

abbrev pub meant : {T : Type 0} → Ops T → Net T → Meaning T
meant o s = net_meaning o s.transitions s.inputs s.outputs s.links.now

pub meant_counted : {T : Type 0} (o : Ops T) (s : Net T) → Counted (meant o s)
meant_counted o s = record { some_input = s.ins.0; few_inputs = s.ins.1; some_output = s.outs.0; few_outputs = s.outs.1 }

-- a row of states for each beat, and a spare row
abbrev pub net_need : {T : Type 0} → Net T → ℕ → ℕ
net_need s K = (K + 1) * s.transitions

-- the block that is given and the block asked for, by the way
abbrev pub given_of : Way → Places → ℕ
given_of Forth at = at.input
given_of Back at = at.output

abbrev pub asked_of : Way → Places → ℕ
asked_of Forth at = at.output
asked_of Back at = at.input

-- the wires of the two
abbrev pub reads_of : {T : Type 0} → Way → Net T → ℕ
reads_of Forth s = s.inputs
reads_of Back s = s.outputs

abbrev pub writes_of : {T : Type 0} → Way → Net T → ℕ
writes_of Forth s = s.outputs
writes_of Back s = s.inputs

-- what the block asked for is to hold, z being the block that is given
abbrev pub answer_cell : {T : Type 0} → Ops T → Way → Net T → ℕ → (ℕ → ℕ → T) → ℕ → ℕ → T
answer_cell o Forth s K z = forward_cell o (meant o s) z
answer_cell o Back s K z = backward_cell o (meant o s) K z

-- a turn of a call with K beats
abbrev pub staged : {T : Type 0} → Net T → Way → ℕ → Places → ℕ → Stage
staged s way K at turn = record {
  way = way;
  n = s.transitions;
  beats = K;
  turn = turn;
  beat = beat_of way K turn;
  given = given_of way at;
  reads = reads_of way s;
  asked = asked_of way at;
  writes = writes_of way s;
  working = at.working;
}

-- the given block by turns
abbrev pub driven_by : {T : Type 0} → Ops T → Way → ℕ → Places → List T → ℕ → ℕ → T
driven_by o way K at sheet i turn = cell o sheet (given_of way at + (i * K + beat_of way K turn))

-- the turns below k are played: their rows hold the states, and their cells of the block asked for the answers; in those of
-- the other turns nothing has arrived; no cell is changed but that block and the working cells
pub record Driven {T : Type 0} (o : Ops T) (s : Net T) (way : Way) (K : ℕ) (at : Places) (k : ℕ) (before after : List T) : Type 0 where
  pub rows : (j t : ℕ) → j < k → t < s.transitions → cell o after (at.working + (j * s.transitions + t)) ≡ state o way s.transitions (reads_of way s) s.links.now (driven_by o way K at before) j t
  pub blank : (j t : ℕ) → k ≤ j → j < K → t < s.transitions → cell o after (at.working + (j * s.transitions + t)) ≡ none o way
  pub strikes : (w j : ℕ) → w < writes_of way s → j < k → cell o after (asked_of way at + (w * K + beat_of way K j))
      ≡ answer o way s.transitions (reads_of way s) (writes_of way s) s.links.now (driven_by o way K at before) w j
  pub silent : (w j : ℕ) → w < writes_of way s → k ≤ j → j < K → cell o after (asked_of way at + (w * K + beat_of way K j)) ≡ none o way
  pub others : (a : ℕ) → Outside (asked_of way at) (writes_of way s * K) a → Outside at.working (net_need s K) a → cell o after a ≡ cell o before a

-- a call is accepted exactly when its places suit the sheet, and then the block asked for holds the answer to the given block
abbrev pub Answer : {T : Type 0} → Ops T → Net T → Way → ℕ → Places → List T → List T → Result (Unit {0}) Refusal → Type 0
Answer o s way K at before after r = Outcome r (Fits s.inputs s.outputs K (net_need s K) at (length before))
    (Filled o K (asked_of way at) (writes_of way s) at.working (net_need s K) (answer_cell o way s K (block o before (given_of way at) K)) before after) before after

-- after an accepted call the output block holds what leaves by the least solution for the input block
abbrev pub Solved : {T : Type 0} → Ops T → Net T → ℕ → Places → List T → List T → Result (Unit {0}) Refusal → Type 0
Solved o s K at before after (Ok _) =
    LeavesLeast o s.transitions s.inputs s.outputs s.links.now (block o before at.input K) K (block o after at.output K)
Solved o s K at before after (Err e) = Unit {0}

-- after an accepted call the input block is the residual of that map: what leaves by the least solution for u is at most the
-- output block exactly when u is at most the input block
abbrev pub Bounded : {T : Type 0} → Ops T → Net T → ℕ → Places → List T → List T → Result (Unit {0}) Refusal → Type 0
Bounded {T} o s K at before after (Ok _) = (u y : ℕ → ℕ → T) → LeavesLeast o s.transitions s.inputs s.outputs s.links.now u K y
    → Below o s.outputs K y (block o before at.output K) ↔ Below o s.inputs K u (block o after at.input K)
Bounded o s K at before after (Err e) = Unit {0}
