-- The refusal that a fault of the check stands for.
use Rattle.kinds.specs.declared.refusals.Refusal.{Refusal}
use Rattle.kinds.specs.declared.refusals.Refusal.TheVariants.{Short as ShortSpace, Circuit as HighCircuit}
use Rattle.circuits.specs.declared.CircuitFault.{CircuitFault}
use Rattle.circuits.specs.declared.CircuitFault.TheVariants.{Short, Circuit}

abbrev pub refusal_of : CircuitFault → Refusal
refusal_of Short = ShortSpace
refusal_of (Circuit start count) = HighCircuit
