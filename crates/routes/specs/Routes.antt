-- The response of an event net, and its routes.
use Rattle.std.specs.Prelude.{◌≡◌, ℕ, suc, ◌+◌, ◌-◌, true, ◌&&◌, ◌⊎◌, List, [], ◌∷◌, ◌==◌}
use Rattle.kinds.specs.Kind.{Ops, AtMost}
use Rattle.links.specs.Takes.{tokenless, delayed, entry, leaving}
use Rattle.links.specs.declared.Link.{Link}
use Rattle.plants.specs.Meaning.{Meaning}
use Rattle.walks.specs.Circuits.{Among}
use Rattle.walks.specs.Folds.{gate}
use Rattle.routes.specs.Ways.{answer}
use Rattle.routes.specs.declared.Way.TheVariants.{Forth}

-- one at input i and beat 0, bottom elsewhere
abbrev pub impulse : {T : Type 0} → Ops T → ℕ → ℕ → ℕ → T
impulse o i j k = gate o (j == i && k == 0) o.one

abbrev pub response : {T : Type 0} → Ops T → ℕ → ℕ → ℕ → List (Link T) → ℕ → ℕ → ℕ → T
response o n m p links w i d = answer o Forth n m p links (impulse o i) w d

-- n transitions, m inputs, p outputs and these links, as a plant
abbrev pub net_meaning : {T : Type 0} → Ops T → ℕ → ℕ → ℕ → List (Link T) → Meaning T
net_meaning o n m p links = record { inputs = m; outputs = p; response = response o n m p links }

-- Places ps, the last first, lead end to end from the transition a to the transition t;
-- no run of tokenless places is longer than cap, and the last run not longer than s.
abbrev pub Leads : {T : Type 0} → ℕ → List (Link T) → ℕ → ℕ → ℕ → List (Link T) → ℕ → Type 0
Leads n links cap a s [] t = a ≡ t
Leads n links cap a s (l ∷ ps) t =
    Among l links × (l.to ≡ t)
    × (((r : ℕ) × (s ≡ suc r) × (tokenless n l ≡ true) × Leads n links cap a r ps l.from)
    ⊎ ((delayed n l ≡ true) × Leads n links cap a cap ps l.from))

-- the product of the values of the places, times v
abbrev pub weigh : {T : Type 0} → Ops T → List (Link T) → T → T
weigh o [] v = v
weigh o (l ∷ ps) v = o.product l.value (weigh o ps v)

abbrev pub delay : {T : Type 0} → List (Link T) → ℕ
delay [] = 0
delay (l ∷ ps) = l.tokens + delay ps

-- a route enters by e, goes along the places ps and leaves by f to the output w; no run of tokenless places is longer than n - 1
abbrev pub Route : {T : Type 0} → ℕ → ℕ → ℕ → List (Link T) → Link T → List (Link T) → Link T → ℕ → Type 0
Route n m p links e ps f w =
    Among e links × (entry n m e ≡ true) × Leads n links (n - 1) e.to (n - 1) ps f.from × Among f links × (leaving n p f ≡ true) × (f.to ≡ w)

-- its weight
abbrev pub weight : {T : Type 0} → Ops T → Link T → List (Link T) → Link T → T
weight o e ps f = o.product f.value (weigh o ps e.value)

-- the response at output w, input i and delay d is the join of the weights of the routes from i to w of that delay: their least upper bound
pub record ByRoutes {T : Type 0} (o : Ops T) (n m p : ℕ) (links : List (Link T)) (h : ℕ → ℕ → ℕ → T) : Type 0 where
  pub above : (e : Link T) (ps : List (Link T)) (f : Link T) (w : ℕ) → Route n m p links e ps f w → AtMost o (weight o e ps f) (h w e.from (delay ps))
  pub least : (w i d : ℕ) (b : T) → ((e : Link T) (ps : List (Link T)) (f : Link T) → Route n m p links e ps f w → e.from ≡ i → delay ps ≡ d → AtMost o (weight o e ps f) b) → AtMost o (h w i d) b
