-- A list of calls with their answers, played on a run.
use Rattle.std.specs.Prelude.{List, [], ◌∷◌, map}
use Rattle.runs.specs.History.{Run}
use Rattle.runs.specs.declared.acts.Act.{Act}
use Rattle.runs.specs.declared.acts.Call.{Call}

-- the run h and then these, the oldest of them first
abbrev pub played : {V : Type 0} → List (Act V) → Run V → Run V
played [] h = h
played (a ∷ rest) h = played rest (a ∷ h)

abbrev pub calls : {V : Type 0} → List (Act V) → List (Call V)
calls = map (λ a. a.call)
