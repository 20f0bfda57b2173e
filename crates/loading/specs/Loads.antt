-- What loading a net's text gives: its net over the kind that it names, or its fault.
use Rattle.std.specs.Prelude.{◌≡◌, ℕ, min, max, List, take, drop, IsErrAnd, Ok, Err, vec_items, Result, MatchResult}
use Rattle.kinds.specs.Kind.{Ops}
use Rattle.kinds.specs.Dates.{date_ops}
use Rattle.kinds.specs.Levels.{level_ops}
use Rattle.kinds.specs.Sets.{set_ops}
use Rattle.kinds.specs.declared.dates.Date.{Date}
use Rattle.kinds.specs.declared.levels.Level.{Level}
use Rattle.kinds.specs.declared.channels.Channels.{Channels}
use Rattle.kinds.specs.declared.refusals.Refusal.TheVariants.{Circuit}
use Rattle.links.specs.declared.Sort.TheVariants.{Place}
use Rattle.links.specs.declared.Link.{Link}
use Rattle.links.specs.declared.Counts.{Counts}
use Rattle.numerals.specs.declared.cards.Misread.{Misread}
use Rattle.numerals.specs.Texts.{date_of, level_of, channels_of}
use Rattle.plants.specs.Meaning.{Meaning}
use Rattle.walks.specs.Circuits.{Passes}
use Rattle.routes.specs.Routes.{net_meaning}
use Rattle.texts.specs.declared.faults.Fault.{Fault}
use Rattle.texts.specs.declared.faults.TextName.TheVariants.{Net}
use Rattle.texts.specs.declared.positions.Position.{Position}
use Rattle.texts.specs.declared.nets.ValueKind.{ValueKind}
use Rattle.texts.specs.declared.nets.ValueKind.TheVariants.{Dates, Levels, Sets}
use Rattle.texts.specs.declared.nets.Header.{Header}
use Rattle.texts.specs.Lines.{past}
use Rattle.texts.specs.NetTexts.{After, header_from, links_from}
use Rattle.loading.specs.declared.errors.LoadError.{LoadError}
use Rattle.loading.specs.declared.errors.LoadError.TheVariants.{Faulty, OutOfMemory}
use Rattle.loading.specs.declared.checked_nets.CheckedNet.{CheckedNet}
use Rattle.loading.specs.declared.checked_nets.AnyNet.{AnyNet}
use Rattle.loading.specs.declared.checked_nets.AnyNet.TheVariants.{Dates as OfDates, Levels as OfLevels, Sets as OfSets}
use Rattle.loading.specs.Copies.{copies}

-- where memory suffices, P holds of the net or the fault
abbrev pub OnText : {N : Type 0} → Result N LoadError → (Result N Fault → Type 0) → Type 0
OnText (Ok net) P = P (Ok net)
OnText (Err (Faulty f)) P = P (Err f)
OnText (Err (OutOfMemory want)) P = Unit {0}

-- a circuit that cannot settle is a fault of the whole text
abbrev pub circuit_fault : Fault
circuit_fault = record { refusal = Circuit; text = Net; line = 0; field = 0 }

-- every circuit of a net of so many transitions and these links has a gain of at most one
abbrev pub Settles : {T : Type 0} → Ops T → Counts → List (Link T) → Type 0
Settles o n links = Passes o (max 1 (min n.transitions 64)) links

-- a net of these counts and links
abbrev pub net_of : {T : Type 0} → Ops T → Counts → List (Link T) → Meaning T
net_of o n links = net_meaning o (max 1 (min n.transitions 64)) (max 1 (min n.inputs 16)) (max 1 (min n.outputs 16)) links

-- the net that links make, if it settles, else the circuit
abbrev pub Checked : {T : Type 0} → Ops T → Counts → List (Link T) → Result (CheckedNet T) Fault → Type 0
Checked o n links a = MatchResult a
    (λ net. (net.counts ≡ n) × (vec_items net.links ≡ links) × Settles o n links)
    (λ f. (f ≡ circuit_fault) × (Settles o n links → ⊥))

-- a fault of reading is the answer; links that were read are checked
abbrev pub ByAnswer : {T : Type 0} → Ops T → Counts → Result (Unit {0}) Fault → List (Link T) → Result (CheckedNet T) Fault → Type 0
ByAnswer o n (Ok _) links a = Checked o n links a
ByAnswer o n (Err f) links a = IsErrAnd a (λ e. e ≡ f)

abbrev pub Read : {T : Type 0} → Ops T → Counts → After T → Result (CheckedNet T) Fault → Type 0
Read o n r a = ByAnswer o n r.answer (take r.count r.table) a

-- reading the links of a text from a position on into a table, and checking them
abbrev pub ReadAs : {T : Type 0} → Ops T → (List ℕ → Result T Misread) → Counts → List ℕ → Position → List (Link T) → Result (CheckedNet T) Fault → Type 0
ReadAs o reading n net at table a = Read o n (links_from reading n net at table 0) a

-- a table is blank before reading writes over it
abbrev pub blank : {T : Type 0} → Ops T → Link T
blank o = record { sort = Place; from = 0; to = 0; tokens = 0; value = o.bottom }

-- a net of this kind, or a fault, of which P holds
abbrev pub IsDates : (Result (CheckedNet Date) Fault → Type 0) → Result AnyNet Fault → Type 0
IsDates P (Ok (OfDates net)) = P (Ok net)
IsDates P (Ok (OfLevels net)) = ⊥
IsDates P (Ok (OfSets net)) = ⊥
IsDates P (Err f) = P (Err f)

abbrev pub IsLevels : (Result (CheckedNet Level) Fault → Type 0) → Result AnyNet Fault → Type 0
IsLevels P (Ok (OfDates net)) = ⊥
IsLevels P (Ok (OfLevels net)) = P (Ok net)
IsLevels P (Ok (OfSets net)) = ⊥
IsLevels P (Err f) = P (Err f)

abbrev pub IsSets : (Result (CheckedNet Channels) Fault → Type 0) → Result AnyNet Fault → Type 0
IsSets P (Ok (OfDates net)) = ⊥
IsSets P (Ok (OfLevels net)) = ⊥
IsSets P (Ok (OfSets net)) = P (Ok net)
IsSets P (Err f) = P (Err f)

-- the kind letter says how values are read
abbrev pub ByKind : ValueKind → Counts → List ℕ → Position → Result AnyNet Fault → Type 0
ByKind Dates n net at a = IsDates (λ d. ReadAs date_ops date_of n net at (copies 320 (blank date_ops)) d) a
ByKind Levels n net at a = IsLevels (λ l. ReadAs level_ops level_of n net at (copies 320 (blank level_ops)) l) a
ByKind Sets n net at a = IsSets (λ s. ReadAs set_ops channels_of n net at (copies 320 (blank set_ops)) s) a

abbrev pub ByHeader : List ℕ → Position → Result Header Fault → Result AnyNet Fault → Type 0
ByHeader net at (Err f) a = IsErrAnd a (λ e. e ≡ f)
ByHeader net at (Ok h) a = ByKind h.kind h.counts net (past at (drop at.place net)) a

-- this is what loading a whole text gives
abbrev pub Loaded : List ℕ → Result AnyNet Fault → Type 0
Loaded net a = ByHeader net (record { place = 0; line = 0 }) (header_from net (record { place = 0; line = 0 })) a
