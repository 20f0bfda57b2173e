-- What a line of a net says: its letter, then the number of its fields, then each field from the left.
use Rattle.std.specs.Prelude.{ℕ, cond, List, Some, None, Ok, Option, Result, ◌==◌, ok_or}
use Rattle.kinds.specs.declared.refusals.Refusal.TheVariants.{Spelling}
use Rattle.links.specs.declared.Sort.{Sort}
use Rattle.links.specs.declared.Sort.TheVariants.{Place, Input, Output}
use Rattle.links.specs.declared.Link.{Link}
use Rattle.links.specs.declared.Counts.{Counts}
use Rattle.numerals.specs.declared.cards.Misread.{Misread}
use Rattle.texts.specs.declared.faults.Wrong.{Wrong}
use Rattle.texts.specs.declared.nets.ValueKind.{ValueKind}
use Rattle.texts.specs.declared.nets.ValueKind.TheVariants.{Dates, Levels, Sets}
use Rattle.texts.specs.declared.nets.Header.{Header}
use Rattle.texts.specs.Splits.{fields}
use Rattle.texts.specs.Faults.{then}
use Rattle.texts.specs.Fields.{letter_at, index_at, count_at, value_at}
use Rattle.texts.specs.Letters.{opened, first_by}

-- the kind letter: D, L or S
abbrev pub kind_by : ℕ → Option ValueKind
kind_by c = cond (c == 68) (Some Dates) (cond (c == 76) (Some Levels) (cond (c == 83) (Some Sets) None))

abbrev pub kind_at : List (List ℕ) → Result ValueKind Wrong
kind_at fs = then (letter_at fs 2 Spelling) (λ b. ok_or (kind_by b) (record { refusal = Spelling; field = 2 }))

abbrev pub header_of : List (List ℕ) → Result Header Wrong
header_of fs =
    then (kind_at fs) (λ kind.
    then (count_at fs 3 64) (λ transitions.
    then (count_at fs 4 16) (λ inputs.
    then (count_at fs 5 16) (λ outputs.
    Ok (record { kind = kind; counts = record { transitions = transitions; inputs = inputs; outputs = outputs } })))))

-- `N,kind,transitions,inputs,outputs`
abbrev pub header_line : List ℕ → Result Header Wrong
header_line line = first_by 78 5 header_of (fields line)

-- the letters P, I and O
abbrev pub sort_by : ℕ → Option Sort
sort_by c = cond (c == 80) (Some Place) (cond (c == 73) (Some Input) (cond (c == 79) (Some Output) None))

-- `P,from,to,tokens,value`, `I,input,to,value` and `O,from,output,value`: the value stands last
abbrev pub arity : Sort → ℕ
arity Place = 5
arity Input = 4
arity Output = 4

-- the ends of a link go by the counts of the first line
abbrev pub from_bound : Counts → Sort → ℕ
from_bound n Place = n.transitions
from_bound n Input = n.inputs
from_bound n Output = n.transitions

abbrev pub to_bound : Counts → Sort → ℕ
to_bound n Place = n.transitions
to_bound n Input = n.transitions
to_bound n Output = n.outputs

-- a place has 0 to 15 tokens, other links none
abbrev pub tokens_at : Sort → List (List ℕ) → Result ℕ Wrong
tokens_at Place fs = index_at fs 4 16
tokens_at Input fs = Ok 0
tokens_at Output fs = Ok 0

abbrev pub link_of : {T : Type 0} → (List ℕ → Result T Misread) → Counts → Sort → List (List ℕ) → Result (Link T) Wrong
link_of reading n s fs =
    then (index_at fs 2 (from_bound n s)) (λ from.
    then (index_at fs 3 (to_bound n s)) (λ to.
    then (tokens_at s fs) (λ tokens.
    then (value_at reading fs (arity s)) (λ value.
    Ok (record { sort = s; from = from; to = to; tokens = tokens; value = value })))))

abbrev pub net_line : {T : Type 0} → (List ℕ → Result T Misread) → Counts → List ℕ → Result (Link T) Wrong
net_line reading n line = then (opened sort_by arity (fields line)) (λ s. link_of reading n s (fields line))
