-- What a turn leaves in the sheet.
use Rattle.std.specs.Prelude.{◌≡◌, ℕ, zero, suc, ◌+◌, ◌-◌, ◌*◌, ◌<◌, Bool, true, List, [], ◌∷◌, ◌≢◌}
use Rattle.kinds.specs.Kind.{Ops, AtMost}
use Rattle.links.specs.declared.Link.{Link}
use Rattle.plants.specs.Calls.{Outside}
use Rattle.routes.specs.Ways.{none, both, tail, out, arrives, flow, relaxed, fed}
use Rattle.routes.specs.declared.Way.{Way}
use Rattle.routes.specs.declared.Way.TheVariants.{Forth, Back}
use Rattle.nets.specs.Stages.{cell, row_cell, given_cell, asked_at}
use Rattle.nets.specs.declared.stage.Stage.{Stage}

-- the rows of the turns below k, of n cells each from base on, the latest first
abbrev pub rows : {T : Type 0} → Ops T → List T → ℕ → ℕ → ℕ → List (ℕ → T)
rows o xs base n zero = []
rows o xs base n (suc k) = (λ f. cell o xs (base + (k * n + f))) ∷ rows o xs base n k

-- nothing new has arrived in a cell: it has not risen forth, not fallen back
abbrev pub Still : {T : Type 0} → Ops T → Way → T → T → Type 0
Still o Forth now before = AtMost o now before
Still o Back now before = AtMost o before now

-- one round: the row gets what flows to it; where `stable`, it is as it was
pub record Relaxed {T : Type 0} (o : Ops T) (g : Stage) (links : List (Link T)) (before after : List T) (stable : Bool) : Type 0 where
  pub row : (t : ℕ) → t < g.n → row_cell o g after t ≡ both o g.way (row_cell o g before t) (flow o g.way g.n links (row_cell o g before) t)
  pub others : (a : ℕ) → Outside (g.working + g.turn * g.n) g.n a → Outside (g.working + g.beats * g.n) g.n a → cell o after a ≡ cell o before a
  pub rest : stable ≡ true → (t : ℕ) → t < g.n → row_cell o g after t ≡ row_cell o g before t

-- the row is relaxed s times, and no cell but it and the spare row is changed
pub record Settled {T : Type 0} (o : Ops T) (g : Stage) (links : List (Link T)) (s : ℕ) (before after : List T) : Type 0 where
  pub row : (t : ℕ) → t < g.n → row_cell o g after t ≡ relaxed o g.way g.n links s (row_cell o g before) t
  pub others : (a : ℕ) → Outside (g.working + g.turn * g.n) g.n a → Outside (g.working + g.beats * g.n) g.n a → cell o after a ≡ cell o before a

-- the row holds the states of the turn, the cells asked for get what goes out, and no cell but these and the spare row is changed
pub record Played {T : Type 0} (o : Ops T) (g : Stage) (links : List (Link T)) (before after : List T) : Type 0 where
  pub row : (t : ℕ) → t < g.n → row_cell o g after t
      ≡ relaxed o g.way g.n links (g.n - 1) (fed o g.way g.n g.reads links (given_cell o g before) (rows o before g.working g.n g.turn)) t
  pub strikes : (w : ℕ) → w < g.writes → cell o after (asked_at g w)
      ≡ both o g.way (cell o before (asked_at g w)) (arrives o g.way (out g.way g.n g.writes) (λ l. row_cell o g after (tail g.way l)) links w)
  pub others : (a : ℕ) → Outside (g.working + g.turn * g.n) g.n a → Outside (g.working + g.beats * g.n) g.n a → ((w : ℕ) → w < g.writes → a ≢ asked_at g w) → cell o after a ≡ cell o before a

-- nothing has arrived in the rows and in the block asked for
pub record Blank {T : Type 0} (o : Ops T) (g : Stage) (before after : List T) : Type 0 where
  pub rows : (k t : ℕ) → k < g.beats → t < g.n → cell o after (g.working + (k * g.n + t)) ≡ none o g.way
  pub asked : (w k : ℕ) → w < g.writes → k < g.beats → cell o after (g.asked + (w * g.beats + k)) ≡ none o g.way
  pub others : (a : ℕ) → Outside g.asked (g.writes * g.beats) a → Outside g.working ((g.beats + 1) * g.n) a → cell o after a ≡ cell o before a
