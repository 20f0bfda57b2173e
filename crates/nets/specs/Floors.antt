-- What a call of a floor leaves as it was.
use Rattle.std.specs.Prelude.{◌≡◌}
use Rattle.nets.specs.declared.floor.Floor.{Floor}

-- the same turn of the same net, in the same sheet
abbrev pub SameFloor : {T : Type 0} → Floor T → Floor T → Type 0
SameFloor before after = (after.stage ≡ before.stage) × (after.links ≡ before.links) × (after.sheet.ghost_name ≡ before.sheet.ghost_name)
