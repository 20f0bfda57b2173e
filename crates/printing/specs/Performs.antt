-- The card of a score on a laid and started phrase over a plant.
use Rattle.std.specs.Prelude.{◌≡◌, ℕ, ◌*◌, true, List, ◌++◌, Ok, Err, Result}
use Rattle.kinds.specs.Kind.{Ops}
use Rattle.plants.specs.Meaning.{Meaning, forward_cell}
use Rattle.runs.specs.Plans.{Block, Best}
use Rattle.runs.specs.History.{AllFair, score_of, fixed_of, held_of}
use Rattle.runs.specs.Performed.{played}
use Rattle.runs.specs.declared.acts.Act.{Act}
use Rattle.texts.specs.declared.faults.Fault.{Fault}
use Rattle.texts.specs.declared.scores.ScoreLine.{ScoreLine}
use Rattle.listing.specs.declared.lines.Block.TheVariants.{Plan, Strikes}
use Rattle.printing.specs.Plays.{Plays, begun}
use Rattle.listing.specs.FaultRows.{fault_row}
use Rattle.printing.specs.Rows.{act_rows, cell_rows}

module _ {T : Type 0} (o : Ops T) (text : T → List ℕ) (M : Meaning T) (K : ℕ) where
  -- a plan, and the strikes that it drives
  abbrev pub block_rows : Block T → List ℕ
  block_rows u = cell_rows text Plan K u (M.inputs * K) ++ cell_rows text Strikes K (forward_cell o M u) (M.outputs * K)

  -- what follows the events: plan and strikes at the end of the text, or its fault
  abbrev pub closing : Result (Unit {0}) Fault → Block T → List ℕ
  closing (Ok _) u = block_rows u
  closing (Err f) u = fault_row f

  -- these bytes are the card of these lines: the rows of their calls, each answered as the rules fix it, and what follows for the best plan
  pub record Performed (lines : List (ScoreLine T)) (end : Result (Unit {0}) Fault) (out : List ℕ) : Type 0 where
    pub made : List (Act T)
    pub plan : Block T
    pub called : Plays lines made
    pub fair : AllFair o M K true (played made begun)
    pub best : Best o M K (score_of o (played made begun)) (fixed_of o (played made begun)) (held_of o (played made begun)) plan
    pub printed : out ≡ act_rows text o.bottom made ++ closing end plan
