-- When the places of a call suit the sheet.
use Rattle.std.specs.Prelude.{ℕ, ◌+◌, ◌*◌, ◌≤◌, ◌⊎◌}
use Rattle.plants.specs.declared.places.Places.{Places}

-- m inputs, p outputs, K beats, `need` working cells, a sheet of `len` cells
pub record Fits (m p K need : ℕ) (at : Places) (len : ℕ) : Type 0 where
  pub apart : (at.input + m * K ≤ at.output) ⊎ (at.output + p * K ≤ at.input)
  pub input_before : at.input + m * K ≤ at.working
  pub output_before : at.output + p * K ≤ at.working
  pub covered : at.working + need ≤ len
