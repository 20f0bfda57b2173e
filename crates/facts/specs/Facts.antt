-- Worked examples of the definitions, one table.
use Rattle.std.specs.Prelude.{◌≡◌, ℕ, List, [], ◌∷◌, drop, Err, Result, slice_index}
use Rattle.kinds.specs.declared.dates.Date.{Date}
use Rattle.kinds.specs.declared.dates.Date.TheVariants.{Never, Open}
use Rattle.kinds.specs.Dates.{at, date_ops}
use Rattle.kinds.specs.Levels.{level, level_ops}
use Rattle.kinds.specs.Sets.{of_bits, set_ops}
use Rattle.links.specs.declared.Sort.{Sort}
use Rattle.links.specs.declared.Sort.TheVariants.{Place, Input, Output}
use Rattle.links.specs.declared.Link.{Link}
use Rattle.plants.specs.Meaning.{Meaning, forward_cell, backward_cell}
use Rattle.walks.specs.Circuits.{Named}
use Rattle.circuits.specs.declared.CircuitFault.{CircuitFault}
use Rattle.circuits.specs.declared.CircuitFault.TheVariants.{Circuit}
use Rattle.circuits.specs.Checks.{Roomy, Checked}
use Rattle.routes.specs.Routes.{net_meaning}

abbrev pub link : Sort → ℕ → ℕ → ℕ → ℕ → Link Date
link sort from to tokens ms = record { sort = sort; from = from; to = to; tokens = tokens; value = at ms }

-- I,0,0,0 · P,0,1,0,30 · P,1,0,1,120 · O,1,0,0
abbrev pub beater : List (Link Date)
beater = link Input 0 0 0 0 ∷ link Place 0 1 0 30 ∷ link Place 1 0 1 120 ∷ link Output 1 0 0 0 ∷ []

-- two transitions, one input, one output
abbrev pub beater_plant : Meaning Date
beater_plant = net_meaning date_ops 2 1 1 beater

-- a block of one wire
abbrev pub ticks : List ℕ → ℕ → ℕ → Date
ticks ts wire k = at (slice_index ts k)

-- tokenless places from 0 to 1 and back
abbrev pub ring : List (Link Date)
ring = link Place 0 1 0 30 ∷ link Place 1 0 0 0 ∷ []

-- a check of the ring that has its space answers this circuit, and lists it
abbrev pub RingRefused : Type 0
RingRefused = (cells cells' : List Date) (list list' : List ℕ) (r : Result (Unit {0}) CircuitFault)
    → Roomy 2 cells list → Checked date_ops 2 ring cells cells' list list' r → (r ≡ Err (Circuit 0 2)) × (list' ≡ 0 ∷ 1 ∷ drop 2 list)

pub record Facts : Type 0 where
  pub sum_fits : date_ops.product (at 700000) (at 300000) ≡ at 1000000
  pub sum_passes : date_ops.product (at 700000) (at 300001) ≡ Open
  pub too_late : date_ops.residual (at 30) (at 20) ≡ Never
  pub both_open : date_ops.residual Open Open ≡ Open
  pub level_down : level_ops.residual (level 90) (level 64) ≡ level 64
  pub level_up : level_ops.residual (level 64) (level 90) ≡ level 127
  pub set_over : set_ops.residual (of_bits 0x000f) (of_bits 0x0003) ≡ of_bits 0xfff3
  pub response_0 : beater_plant.response 0 0 0 ≡ at 30
  pub response_1 : beater_plant.response 0 0 1 ≡ at 180
  pub response_2 : beater_plant.response 0 0 2 ≡ at 330
  pub plan_0 : backward_cell date_ops beater_plant 3 (ticks (500 ∷ 600 ∷ 900 ∷ [])) 0 0 ≡ at 420
  pub plan_1 : backward_cell date_ops beater_plant 3 (ticks (500 ∷ 600 ∷ 900 ∷ [])) 0 1 ≡ at 570
  pub plan_2 : backward_cell date_ops beater_plant 3 (ticks (500 ∷ 600 ∷ 900 ∷ [])) 0 2 ≡ at 870
  pub strike_0 : forward_cell date_ops beater_plant (ticks (420 ∷ 570 ∷ 870 ∷ [])) 0 0 ≡ at 450
  pub strike_1 : forward_cell date_ops beater_plant (ticks (420 ∷ 570 ∷ 870 ∷ [])) 0 1 ≡ at 600
  pub strike_2 : forward_cell date_ops beater_plant (ticks (420 ∷ 570 ∷ 870 ∷ [])) 0 2 ≡ at 900
  pub ring_named : Named date_ops 2 ring (0 ∷ 1 ∷ [])
  pub ring_refused : RingRefused
