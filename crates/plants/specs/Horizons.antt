-- Making a horizon.
use Rattle.std.specs.Prelude.{◌≡◌, ℕ, ◌≤◌, Ok, Err, Result}
use Rattle.kinds.specs.declared.refusals.Refusal.{Refusal}
use Rattle.kinds.specs.declared.refusals.Refusal.TheVariants.{Range}
use Rattle.plants.specs.declared.horizon.Horizon.{Horizon}

-- 1 to 64 beats make a horizon; any other number is refused as out of range
abbrev pub Made : ℕ → Result Horizon Refusal → Type 0
Made beats (Ok k) = k.beats ≡ beats
Made beats (Err e) = (e ≡ Range) × (1 ≤ beats → beats ≤ 64 → ⊥)
