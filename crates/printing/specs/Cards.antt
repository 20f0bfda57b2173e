-- The printed card of a net's and a score's text.
use Rattle.std.specs.Prelude.{◌≡◌, ℕ, List, drop, Ok, Err, vec_items, Result}
use Rattle.kinds.specs.Kind.{Ops}
use Rattle.kinds.specs.Dates.{date_ops}
use Rattle.kinds.specs.Levels.{level_ops}
use Rattle.kinds.specs.Sets.{set_ops}
use Rattle.numerals.specs.declared.cards.Misread.{Misread}
use Rattle.numerals.specs.Texts.{date_of, date_text, level_of, level_text, channels_of, channels_text}
use Rattle.plants.specs.Meaning.{Meaning}
use Rattle.texts.specs.declared.faults.Fault.{Fault}
use Rattle.texts.specs.declared.positions.Position.{Position}
use Rattle.texts.specs.declared.scores.ScoreLine.{ScoreLine}
use Rattle.texts.specs.Lines.{past}
use Rattle.texts.specs.Scores.{beats_from}
use Rattle.loading.specs.declared.checked_nets.AnyNet.{AnyNet}
use Rattle.loading.specs.declared.checked_nets.AnyNet.TheVariants.{Dates, Levels, Sets}
use Rattle.loading.specs.Loads.{Loaded, net_of}
use Rattle.printing.specs.Reads.{Reads}
use Rattle.listing.specs.FaultRows.{fault_row}
use Rattle.printing.specs.Performs.{Performed}

-- a score from a position on, over K beats: its lines, and their card
abbrev pub Played : {T : Type 0} → Ops T → (T → List ℕ) → (List ℕ → Result T Misread) → Meaning T → ℕ → List ℕ → Position → List ℕ → Type 0
Played {T} o text reading M K score at out =
    (lines : List (ScoreLine T)) × ((end : Result (Unit {0}) Fault) × (Reads reading score at lines end × Performed o text M K lines end out))

-- the first line of a score gives the beats, or the fault
abbrev pub ByBeats : {T : Type 0} → Ops T → (T → List ℕ) → (List ℕ → Result T Misread) → Meaning T → List ℕ → Position → Result ℕ Fault → List ℕ → Type 0
ByBeats o text reading M score at (Ok K) out = Played o text reading M K score (past at (drop at.place score)) out
ByBeats o text reading M score at (Err f) out = out ≡ fault_row f

-- the card of a score's text over a plant
abbrev pub Card : {T : Type 0} → Ops T → (T → List ℕ) → (List ℕ → Result T Misread) → Meaning T → List ℕ → List ℕ → Type 0
Card o text reading M score out = ByBeats o text reading M score (record { place = 0; line = 0 }) (beats_from score (record { place = 0; line = 0 })) out

-- the card of a score's text over a net that was loaded: its kind says how values are read and written
abbrev pub CardOf : AnyNet → List ℕ → List ℕ → Type 0
CardOf (Dates n) score out = Card date_ops date_text date_of (net_of date_ops n.counts (vec_items n.links)) score out
CardOf (Levels n) score out = Card level_ops level_text level_of (net_of level_ops n.counts (vec_items n.links)) score out
CardOf (Sets n) score out = Card set_ops channels_text channels_of (net_of set_ops n.counts (vec_items n.links)) score out

-- a net that is refused has its fault for a card
abbrev pub ByNet : Result AnyNet Fault → List ℕ → List ℕ → Type 0
ByNet (Ok n) score out = CardOf n score out
ByNet (Err f) score out = out ≡ fault_row f

-- these bytes are the card of the two texts
abbrev pub Printed : List ℕ → List ℕ → List ℕ → Type 0
Printed net score out = (found : Result AnyNet Fault) × (Loaded net found × ByNet found score out)
