-- What a call that hands nothing out is answered.
use Rattle.std.specs.Prelude.{Ok, Err, Result}
use Rattle.kinds.specs.declared.refusals.Refusal.{Refusal}
use Rattle.runs.specs.declared.acts.Answer.{Answer}
use Rattle.runs.specs.declared.acts.Answer.TheVariants.{Done, Refused}

abbrev pub told : {V X : Type 0} → Result X Refusal → Answer V
told (Ok x) = Done
told (Err e) = Refused e
