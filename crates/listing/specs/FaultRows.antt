-- The printed line of a fault, with its end.
use Rattle.std.specs.Prelude.{ℕ, List, [], ◌∷◌, ◌++◌}
use Rattle.texts.specs.declared.faults.Fault.{Fault}
use Rattle.texts.specs.FaultLines.{fault_text}

abbrev pub fault_row : Fault → List ℕ
fault_row f = fault_text f ++ (10 ∷ [])
