-- What reading a net's text gives, line by line, for every text.
use Rattle.std.specs.Prelude.{ℕ, ◌+◌, Bool, cond, ◌&&◌, List, [], ◌∷◌, length, drop, Ok, Err, Result, ◌==◌, nat_le, nat_lt, slice_set}
use Rattle.kinds.specs.declared.refusals.Refusal.TheVariants.{Shape, Full}
use Rattle.links.specs.declared.Link.{Link}
use Rattle.links.specs.declared.Counts.{Counts}
use Rattle.numerals.specs.declared.cards.Misread.{Misread}
use Rattle.texts.specs.declared.faults.Wrong.{Wrong}
use Rattle.texts.specs.declared.faults.Fault.{Fault}
use Rattle.texts.specs.declared.faults.TextName.TheVariants.{Net}
use Rattle.texts.specs.declared.positions.Position.{Position}
use Rattle.texts.specs.declared.nets.Header.{Header}
use Rattle.texts.specs.Splits.{pieces}
use Rattle.texts.specs.Faults.{then, check, fault_at}
use Rattle.texts.specs.Lines.{within, line_of, line_from}
use Rattle.texts.specs.NetLines.{header_line, net_line}

-- the header that the line at a position gives
abbrev pub header_from : List ℕ → Position → Result Header Fault
header_from text at = line_from Net header_line text at

-- the table has a free cell, and fewer than 320 links stand in it
abbrev pub has_space : ℕ → ℕ → Bool
has_space size count = nat_lt count size && nat_lt count 320

-- the link of a line, where `space` tells if the table has space
abbrev pub fitting : {T : Type 0} → (List ℕ → Result T Misread) → Counts → Bool → List ℕ → Result (Link T) Wrong
fitting reading n space l =
    then (net_line reading n l) (λ link.
    check space Full 0 (Ok link))

abbrev pub linked : {T : Type 0} → (List ℕ → Result T Misread) → Counts → Result (List ℕ) Wrong → Bool → Result (Link T) Wrong
linked reading n line space = then line (fitting reading n space)

-- the link that the next line gives to a table of `size` cells in which `count` links stand
abbrev pub step_of : {T : Type 0} → (List ℕ → Result T Misread) → Counts → List ℕ → Position → ℕ → ℕ → Result (Link T) Wrong
step_of reading n text at size count = linked reading n (line_of (drop at.place text)) (has_space size count)

-- what reading leaves: its answer, the reader's position, and the table with the number of its links
pub record After (T : Type 0) : Type 0 where
  pub answer : Result (Unit {0}) Fault
  pub at : Position
  pub table : List (Link T)
  pub count : ℕ

-- after an accepted line reading goes on; a refused one ends it, and leaves all as it was before that line
abbrev pub onward : {T : Type 0} → Result (Link T) Wrong → Position → List (Link T) → ℕ → (Link T → After T) → After T
onward (Ok link) at table count next = next link
onward (Err w) at table count next = record { answer = Err (fault_at Net (at.line + 1) w); at = at; table = table; count = count }

-- a piece between the bytes 10 as a line; the last piece has no end
abbrev pub line_in : List ℕ → List (List ℕ) → Result (List ℕ) Wrong
line_in l more =
    check (nat_lt 0 (length more)) Shape 0
    (check (nat_lt 0 (length l)) Shape 0
    (check (nat_le (length l) 64) Shape 0
    (Ok l)))

abbrev pub past_line : Position → List ℕ → Position
past_line at l = record { place = at.place + (length l + 1); line = at.line + 1 }

-- the links of the lines; nothing stands after the last byte 10
abbrev pub links_read : {T : Type 0} → (List ℕ → Result T Misread) → Counts → List (List ℕ) → Position → List (Link T) → ℕ → After T
links_read reading n [] at table count = record { answer = Ok tt; at = at; table = table; count = count }
links_read reading n (l ∷ more) at table count =
    cond (length l + length more == 0)
    (record { answer = Ok tt; at = at; table = table; count = count })
    (onward (linked reading n (line_in l more) (has_space (length table) count)) at table count
    (λ link. links_read reading n more (past_line at l) (slice_set table count link) (count + 1)))

-- the links of a text from a position on
abbrev pub links_on : {T : Type 0} → (List ℕ → Result T Misread) → Counts → List ℕ → Position → List (Link T) → ℕ → After T
links_on reading n text at table count = links_read reading n (pieces 10 (drop at.place text)) at table count

abbrev pub links_by : {T : Type 0} → (List ℕ → Result T Misread) → Counts → List ℕ → Position → List (Link T) → ℕ → Result (Unit {0}) Fault → After T
links_by reading n text at table count (Err f) = record { answer = Err f; at = at; table = table; count = count }
links_by reading n text at table count (Ok _) = links_on reading n text at table count

abbrev pub links_from : {T : Type 0} → (List ℕ → Result T Misread) → Counts → List ℕ → Position → List (Link T) → ℕ → After T
links_from reading n text at table count = links_by reading n text at table count (within Net text)
