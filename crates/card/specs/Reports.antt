-- What is told of a net's text: its fault, or what the net holds and how it responds.
use Rattle.std.specs.Prelude.{◌≡◌, ℕ, List, [], ◌∷◌, ◌++◌, Ok, Err, codes, vec_items, Result}
use Rattle.kinds.specs.Kind.{Ops}
use Rattle.kinds.specs.Dates.{date_ops}
use Rattle.kinds.specs.Levels.{level_ops}
use Rattle.kinds.specs.Sets.{set_ops}
use Rattle.links.specs.declared.Sort.TheVariants.{Place, Input, Output}
use Rattle.links.specs.declared.Link.{Link}
use Rattle.links.specs.declared.Counts.{Counts}
use Rattle.links.specs.Tallies.{how_many}
use Rattle.numerals.specs.Decimals.{text_of}
use Rattle.numerals.specs.Texts.{date_text, level_text, channels_text}
use Rattle.texts.specs.declared.faults.Fault.{Fault}
use Rattle.texts.specs.declared.nets.ValueKind.{ValueKind}
use Rattle.texts.specs.declared.nets.ValueKind.TheVariants.{Dates, Levels, Sets}
use Rattle.texts.specs.declared.nets.Header.{Header}
use Rattle.loading.specs.declared.checked_nets.AnyNet.{AnyNet}
use Rattle.loading.specs.declared.checked_nets.AnyNet.TheVariants.{Dates as OfDates, Levels as OfLevels, Sets as OfSets}
use Rattle.loading.specs.Loads.{Loaded}
use Rattle.listing.specs.FaultRows.{fault_row}
use Rattle.card.specs.Responses.{response_rows}

-- each row ends with the byte 10
abbrev pub kind_row : ValueKind → List ℕ
kind_row Dates = codes "kind: dates\n"
kind_row Levels = codes "kind: levels\n"
kind_row Sets = codes "kind: sets\n"

abbrev pub row : List ℕ → ℕ → List ℕ
row label n = (label ++ text_of n) ++ (10 ∷ [])

abbrev pub count_rows : Counts → List ℕ
count_rows n = (row (codes "transitions: ") n.transitions ++ row (codes "inputs: ") n.inputs) ++ row (codes "outputs: ") n.outputs

-- how many links of each sort there are
abbrev pub link_rows : {T : Type 0} → List (Link T) → List ℕ
link_rows links =
    (row (codes "places: ") (how_many Place links) ++ row (codes "input links: ") (how_many Input links))
    ++ row (codes "output links: ") (how_many Output links)

-- a good net: its kind, its counts, and its links by sort
abbrev pub net_words : {T : Type 0} → Header → List (Link T) → List ℕ
net_words h links = (kind_row h.kind ++ count_rows h.counts) ++ link_rows links

-- what a net holds, and its first responses
abbrev pub Held : {T : Type 0} → Ops T → (T → List ℕ) → Header → List (Link T) → List ℕ → Type 0
Held o text h links out = out ≡ net_words h links ++ response_rows o text h.counts links

-- the kind says how values are written
abbrev pub HeldBy : AnyNet → List ℕ → Type 0
HeldBy (OfDates n) out = Held date_ops date_text (record { kind = Dates; counts = n.counts }) (vec_items n.links) out
HeldBy (OfLevels n) out = Held level_ops level_text (record { kind = Levels; counts = n.counts }) (vec_items n.links) out
HeldBy (OfSets n) out = Held set_ops channels_text (record { kind = Sets; counts = n.counts }) (vec_items n.links) out

-- a net that is refused is told of by its fault
abbrev pub Told : Result AnyNet Fault → List ℕ → Type 0
Told (Ok n) out = HeldBy n out
Told (Err f) out = out ≡ fault_row f

-- these bytes are what is told of a whole text
abbrev pub Reported : List ℕ → List ℕ → Type 0
Reported net out = (found : Result AnyNet Fault) × (Loaded net found × Told found out)
