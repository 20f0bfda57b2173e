-- The printed line of a fault.
use Rattle.std.specs.Prelude.{ℕ, List, [], ◌∷◌, ◌++◌}
use Rattle.kinds.specs.Refusals.{code}
use Rattle.numerals.specs.Decimals.{text_of}
use Rattle.texts.specs.declared.faults.Fault.{Fault}
use Rattle.texts.specs.Faults.{name_of}

-- `R,text,line,field,number`
abbrev pub fault_text : Fault → List ℕ
fault_text f =
    (((82 ∷ 44 ∷ name_of f.text ∷ [])
    ++ (44 ∷ text_of f.line))
    ++ (44 ∷ text_of f.field))
    ++ (44 ∷ text_of (code f.refusal))
