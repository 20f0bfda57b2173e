-- What is true of every net, for every kind.
use Rattle.std.specs.Prelude.{◌≡◌, ℕ, ◌<◌, ◌≤◌, ◌↔◌, List}
use Rattle.kinds.specs.Kind.{Ops}
use Rattle.links.specs.declared.Link.{Link}
use Rattle.plants.specs.Meaning.{forward_cell, backward_cell}
use Rattle.plants.specs.Theorems.{Below}
use Rattle.walks.specs.Circuits.{Passes}
use Rattle.routes.specs.Routes.{response, net_meaning, ByRoutes}
use Rattle.routes.specs.Solutions.{LeavesLeast}
use Rattle.routes.specs.Ways.{answer, latest}
use Rattle.routes.specs.declared.Way.TheVariants.{Forth}

-- the response is the join of the weights of the routes
abbrev pub ResponsesAreRoutes : {T : Type 0} → Ops T → Type 0
ResponsesAreRoutes {T} o = (n m p : ℕ) (links : List (Link T)) → ByRoutes o n m p links (response o n m p links)

-- the states beat by beat give the forward answer of the net
abbrev pub AnswersAreForward : {T : Type 0} → Ops T → Type 0
AnswersAreForward {T} o = (n m p : ℕ) (links : List (Link T)) (u : ℕ → ℕ → T) (w k : ℕ) → answer o Forth n m p links u w k ≡ forward_cell o (net_meaning o n m p links) u w k

-- the states turn by turn, from the last beat back, give its backward answer
abbrev pub LatestIsBackward : {T : Type 0} → Ops T → Type 0
LatestIsBackward {T} o = (n m p : ℕ) (links : List (Link T)) (z : ℕ → ℕ → T) (K i j : ℕ) → i < m → j < K
    → latest o n m p links z K i j ≡ backward_cell o (net_meaning o n m p links) K z i j

-- where every circuit passes, the forward answer is what leaves by the least solution of the net's equations
abbrev pub AnswersSolve : {T : Type 0} → Ops T → Type 0
AnswersSolve {T} o = (n m p : ℕ) (links : List (Link T)) (u : ℕ → ℕ → T) (K : ℕ) → 1 ≤ n → Passes o n links
    → LeavesLeast o n m p links u K (forward_cell o (net_meaning o n m p links) u)

-- and the backward answer is the residual of that map: what leaves by the least solution for u is at most z exactly when u is at most the backward answer to z
abbrev pub CeilingsBoundSolutions : {T : Type 0} → Ops T → Type 0
CeilingsBoundSolutions {T} o = (n m p : ℕ) (links : List (Link T)) (K : ℕ) (u y z : ℕ → ℕ → T) → 1 ≤ n → Passes o n links → LeavesLeast o n m p links u K y
    → Below o p K y z ↔ Below o m K u (backward_cell o (net_meaning o n m p links) K z)
