-- The calls that the lines of a score come to.
use Rattle.std.specs.Prelude.{◌≡◌, List, [], ◌∷◌, ◌++◌}
use Rattle.runs.specs.History.{Run}
use Rattle.runs.specs.Performed.{calls}
use Rattle.runs.specs.declared.acts.Act.{Act}
use Rattle.runs.specs.declared.acts.Answer.TheVariants.{Done}
use Rattle.runs.specs.declared.acts.Call.TheVariants as call
use Rattle.phrases.specs.Events.{MissesNext, FiresNext}
use Rattle.texts.specs.declared.scores.ScoreLine.{ScoreLine}
use Rattle.texts.specs.declared.scores.ScoreLine.TheVariants.{Due, Fire, Miss}

-- a due; an order that is fired, and missed if the firing is refused; an order that is missed
abbrev pub ComesTo : {T : Type 0} → ScoreLine T → List (Act T) → Type 0
ComesTo (Due output beat value) made = calls made ≡ call.Due output beat value ∷ []
ComesTo (Fire input value) made = FiresNext input value made
ComesTo (Miss input) made = MissesNext input made

-- the calls of these lines, one line after the other
abbrev pub Plays : {T : Type 0} → List (ScoreLine T) → List (Act T) → Type 0
Plays [] made = made ≡ []
Plays {T} (line ∷ more) made = (mine : List (Act T)) × ((rest : List (Act T)) × (ComesTo line mine × Plays more rest × (made ≡ mine ++ rest)))

-- a phrase that was laid and started, the newest call first
abbrev pub begun : {T : Type 0} → Run T
begun = record { call = call.Start; answer = Done } ∷ record { call = call.Lay; answer = Done } ∷ []
