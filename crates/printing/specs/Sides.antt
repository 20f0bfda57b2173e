-- The sides and beats of a phrase over a net.
use Rattle.std.specs.Prelude.{◌≡◌}
use Rattle.nets.specs.declared.net.Net.{Net}
use Rattle.phrases.specs.declared.states.Phrase.{Phrase}
use Rattle.printing.specs.declared.perform.Sides.{Sides}

pub record AreSides {T : Type 0} (phrase : Phrase (Net T)) (sides : Sides) : Type 0 where
  pub inputs : sides.inputs ≡ phrase.plant.inputs
  pub outputs : sides.outputs ≡ phrase.plant.outputs
  pub beats : sides.k ≡ phrase.horizon
