-- The levels 0 to 127.
use Rattle.std.specs.Prelude.{ℕ, min, cond, Some, None, Option, nat_le}
use Rattle.std.proofs.Math.Nat.{min-le_right}
use Rattle.kinds.specs.Kind.{Ops}
use Rattle.kinds.specs.declared.levels.Level.{Level}

-- the level n; every use has n at most 127, past which it is the last level
abbrev pub level : ℕ → Level
level n = record { value = min n 127; ok = min-le_right n 127 }

abbrev pub new_level : ℕ → Option Level
new_level n = cond (nat_le n 127) (Some (level n)) None

abbrev pub larger : Level → Level → Level
larger a b = cond (nat_le a.value b.value) b a

abbrev pub smaller : Level → Level → Level
smaller a b = cond (nat_le a.value b.value) a b

-- 127 if a is at most b, else b
abbrev pub ceiling : Level → Level → Level
ceiling a b = cond (nat_le a.value b.value) (level 127) b

abbrev pub level_ops : Ops Level
level_ops = record {
  bottom = level 0;
  one = level 127;
  top = level 127;
  join = larger;
  meet = smaller;
  product = smaller;
  residual = ceiling;
  at_most = λ a b. nat_le a.value b.value;
}
