-- Where the blocks of a sheet lie, for p outputs, m inputs and k beats: score, plan, strikes, a spare block, the plant's working cells.
use Rattle.std.specs.Prelude.{ℕ, ◌+◌, ◌*◌}

abbrev pub plan_at : (p m k : ℕ) → ℕ
plan_at p m k = p * k

abbrev pub strikes_at : (p m k : ℕ) → ℕ
strikes_at p m k = (p + m) * k

abbrev pub spare_at : (p m k : ℕ) → ℕ
spare_at p m k = (p + m + p) * k

abbrev pub working_at : (p m k : ℕ) → ℕ
working_at p m k = (p + m + p + m) * k

-- how many cells a sheet has at least
abbrev pub whole : (p m k need : ℕ) → ℕ
whole p m k need = (p + m + p + m) * k + need
