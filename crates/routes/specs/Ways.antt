-- The two ways through a net: forth from the inputs to the outputs, by joins of products,
-- and back from the outputs to the inputs, by meets of residuals.
use Rattle.std.specs.Prelude.{ℕ, zero, suc, ◌-◌, Bool, cond, ◌&&◌, List, [], ◌∷◌, ◌==◌, slice_index_or}
use Rattle.kinds.specs.Kind.{Ops}
use Rattle.links.specs.Takes.{tokenless, delayed, entry, leaving}
use Rattle.links.specs.declared.Link.{Link}
use Rattle.walks.specs.Folds.{fold}
use Rattle.routes.specs.declared.Way.{Way}
use Rattle.routes.specs.declared.Way.TheVariants.{Forth, Back}

-- where nothing arrives
abbrev pub none : {T : Type 0} → Ops T → Way → T
none o Forth = o.bottom
none o Back = o.top

-- of two that arrive
abbrev pub both : {T : Type 0} → Ops T → Way → T → T → T
both o Forth = o.join
both o Back = o.meet

-- what comes over a link: `along o way value x`
abbrev pub along : {T : Type 0} → Ops T → Way → T → T → T
along o Forth = o.product
along o Back = o.residual

-- the end of a link where it starts, and the end where it arrives
abbrev pub tail : {T : Type 0} → Way → Link T → ℕ
tail Forth = λ l. l.from
tail Back = λ l. l.to

abbrev pub head : {T : Type 0} → Way → Link T → ℕ
head Forth = λ l. l.to
head Back = λ l. l.from

-- a link from one of the w given wires to one of the n transitions, and one from these to the w wires asked for
abbrev pub into : {T : Type 0} → Way → ℕ → ℕ → Link T → Bool
into Forth n w = entry n w
into Back n w = leaving n w

abbrev pub out : {T : Type 0} → Way → ℕ → ℕ → Link T → Bool
out Forth n w = leaving n w
out Back n w = entry n w

-- what arrives at t over the links that act, x l being what link l starts from
abbrev pub arrives : {T : Type 0} → Ops T → Way → (Link T → Bool) → (Link T → T) → List (Link T) → ℕ → T
arrives o way act x links t = fold (none o way) (both o way) (λ l. cond (act l && head way l == t) (along o way l.value (x l)) (none o way)) links

-- what arrives over the tokenless places from the states x
abbrev pub flow : {T : Type 0} → Ops T → Way → ℕ → List (Link T) → (ℕ → T) → ℕ → T
flow o way n links x t = arrives o way (tokenless n) (λ l. x (tail way l)) links t

-- the states after s rounds, each from the states of the round before
abbrev pub relaxed : {T : Type 0} → Ops T → Way → ℕ → List (Link T) → ℕ → (ℕ → T) → ℕ → T
relaxed o way n links zero x t = x t
relaxed o way n links (suc s) x t = both o way (relaxed o way n links s x t) (flow o way n links (relaxed o way n links s x) t)

-- nothing arrives at a transition
abbrev pub unreached : {T : Type 0} → Ops T → Way → ℕ → T
unreached o way t = none o way

-- what arrives at t in one turn without the tokenless places: v are the w given wires of the turn,
-- past the states of the turns before, the latest first
abbrev pub fed : {T : Type 0} → Ops T → Way → ℕ → ℕ → List (Link T) → (ℕ → T) → List (ℕ → T) → ℕ → T
fed o way n w links v past t = both o way
    (arrives o way (into way n w) (λ l. v (tail way l)) links t)
    (arrives o way (delayed n) (λ l. slice_index_or past (l.tokens - 1) (unreached o way) (tail way l)) links t)

-- the states of the turns below k, the latest first; u i k is the value at wire i in turn k
abbrev pub states : {T : Type 0} → Ops T → Way → ℕ → ℕ → List (Link T) → (ℕ → ℕ → T) → ℕ → List (ℕ → T)
states o way n w links u zero = []
states o way n w links u (suc k) =
    relaxed o way n links (n - 1) (fed o way n w links (λ i. u i k) (states o way n w links u k)) ∷ states o way n w links u k

abbrev pub state : {T : Type 0} → Ops T → Way → ℕ → ℕ → List (Link T) → (ℕ → ℕ → T) → ℕ → ℕ → T
state o way n w links u k = relaxed o way n links (n - 1) (fed o way n w links (λ i. u i k) (states o way n w links u k))

-- the answer at wire b of the a wires asked for, in turn k
abbrev pub answer : {T : Type 0} → Ops T → Way → ℕ → ℕ → ℕ → List (Link T) → (ℕ → ℕ → T) → ℕ → ℕ → T
answer o way n w a links u b k = arrives o way (out way n a) (λ l. state o way n w links u k (tail way l)) links b

-- the beat of a turn: back begins with the last of K beats
abbrev pub beat_of : Way → ℕ → ℕ → ℕ
beat_of Forth K turn = turn
beat_of Back K turn = K - 1 - turn

-- the backward answer to z at input i and beat k of K
abbrev pub latest : {T : Type 0} → Ops T → ℕ → ℕ → ℕ → List (Link T) → (ℕ → ℕ → T) → ℕ → ℕ → ℕ → T
latest o n m p links z K i k = answer o Back n p m links (λ w turn. z w (beat_of Back K turn)) i (beat_of Back K k)
