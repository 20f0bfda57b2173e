-- Refused lines and texts, and the order of checks.
use Rattle.std.specs.Prelude.{ℕ, Bool, cond, Ok, Err, Result}
use Rattle.kinds.specs.declared.refusals.Refusal.{Refusal}
use Rattle.texts.specs.declared.faults.Wrong.{Wrong}
use Rattle.texts.specs.declared.faults.Fault.{Fault}
use Rattle.texts.specs.declared.faults.TextName.{TextName}
use Rattle.texts.specs.declared.faults.TextName.TheVariants.{Net, Score}

-- the letter of a text: N or S
abbrev pub name_of : TextName → ℕ
name_of Net = 78
name_of Score = 83

-- a refusal at field k, from 1, or at the whole line, 0
abbrev pub wrong : {A : Type 0} → Refusal → ℕ → Result A Wrong
wrong why k = Err (record { refusal = why; field = k })

-- one check, then the next on what it found
abbrev pub then : {A B : Type 0} → Result A Wrong → (A → Result B Wrong) → Result B Wrong
then (Err w) next = Err w
then (Ok x) next = next x

abbrev pub check : {A : Type 0} → Bool → Refusal → ℕ → Result A Wrong → Result A Wrong
check b why k next = cond b next (wrong why k)

abbrev pub fault_at : TextName → ℕ → Wrong → Fault
fault_at t line w = record { refusal = w.refusal; text = t; line = line; field = w.field }

abbrev pub faulted : {A : Type 0} → TextName → ℕ → Result A Wrong → Result A Fault
faulted t line (Ok x) = Ok x
faulted t line (Err w) = Err (fault_at t line w)
