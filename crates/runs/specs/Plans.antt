-- Plans and scores as blocks: the plans that keep the fixed cells, and the best of them.
use Rattle.std.specs.Prelude.{◌≡◌, ℕ, ◌<◌, cond, ◌&&◌, ◌==◌}
use Rattle.kinds.specs.Kind.{Ops}
use Rattle.plants.specs.Meaning.{Meaning}
use Rattle.plants.specs.Theorems.{Below, Meets}

-- a block's value at a wire and a beat
abbrev pub Block : Type 0 → Type 0
Block V = ℕ → ℕ → V

-- the block z with v at one cell
abbrev pub put : {V : Type 0} → ℕ → ℕ → V → Block V → Block V
put w b v z i k = cond (i == w && k == b) v (z i k)

-- two blocks of w wires and K beats that are the same
abbrev pub Same : {V : Type 0} → (K w : ℕ) → Block V → Block V → Type 0
Same K w x y = (i b : ℕ) → i < w → b < K → x i b ≡ y i b

-- u holds g in the fixed cells, the lowest f(i) beats of each input i
abbrev pub Agrees : {V : Type 0} → Meaning V → (ℕ → ℕ) → Block V → Block V → Type 0
Agrees M f g u = (i b : ℕ) → i < M.inputs → b < f i → u i b ≡ g i b

module _ {V : Type 0} (o : Ops V) (M : Meaning V) (K : ℕ) where
  -- u meets the score z, holds g in the fixed cells, and every other such plan lies at or below it
  pub record Best (z : Block V) (f : ℕ → ℕ) (g : Block V) (u : Block V) : Type 0 where
    pub meets : Meets o M K u z
    pub agrees : Agrees M f g u
    pub greatest : (w : Block V) → Agrees M f g w → Meets o M K w z → Below o M.inputs K w u

  -- no plan is left that holds g in the fixed cells and meets z
  abbrev pub NoneLeft : Block V → (ℕ → ℕ) → Block V → Type 0
  NoneLeft z f g = (w : Block V) → Agrees M f g w → Meets o M K w z → ⊥
