-- Circuits of tokenless places.
use Rattle.std.specs.Prelude.{◌≡◌, ℕ, ◌<◌, ◌≤◌, true, ◌⊎◌, List, [], ◌∷◌, length}
use Rattle.kinds.specs.Kind.{Ops, AtMost}
use Rattle.links.specs.declared.Link.{Link}
use Rattle.links.specs.Takes.{tokenless}

-- the element stands in the list
abbrev pub Among : {L : Type 0} → L → List L → Type 0
Among l [] = ⊥
Among l (x ∷ xs) = (l ≡ x) ⊎ Among l xs

-- tokenless places of the table, end to end from the transition a to the transition b
abbrev pub EndToEnd : {T : Type 0} → ℕ → List (Link T) → ℕ → List (Link T) → ℕ → Type 0
EndToEnd n links a [] b = a ≡ b
EndToEnd n links a (l ∷ ps) b = Among l links × (tokenless n l ≡ true) × (l.from ≡ a) × EndToEnd n links l.to ps b

-- one or more of them, back to the start
abbrev pub Circuit : {T : Type 0} → ℕ → List (Link T) → List (Link T) → Type 0
Circuit n links [] = ⊥
Circuit n links (l ∷ ps) = EndToEnd n links l.from (l ∷ ps) l.from

-- the gain of places: the product of their values
abbrev pub gain_of : {T : Type 0} → Ops T → List (Link T) → T
gain_of o [] = o.one
gain_of o (l ∷ ps) = o.product l.value (gain_of o ps)

-- the transitions from which the places run
abbrev pub transitions_of : {T : Type 0} → List (Link T) → List ℕ
transitions_of [] = []
transitions_of (l ∷ ps) = l.from ∷ transitions_of ps

-- the net passes: every circuit's gain is at most one
abbrev pub Passes : {T : Type 0} → Ops T → ℕ → List (Link T) → Type 0
Passes {T = T} o n links = (ps : List (Link T)) → Circuit n links ps → AtMost o (gain_of o ps) o.one

-- a circuit whose gain is not at most one
pub record Faulty {T : Type 0} (o : Ops T) (n : ℕ) (links ps : List (Link T)) : Type 0 where
  pub circuit : Circuit n links ps
  pub high : AtMost o (gain_of o ps) o.one → ⊥

-- the first list is the second or comes before it in dictionary order
abbrev pub NoLater : List ℕ → List ℕ → Type 0
NoLater [] ys = Unit {0}
NoLater (x ∷ xs) [] = ⊥
NoLater (x ∷ xs) (y ∷ ys) = (x < y) ⊎ ((x ≡ y) × NoLater xs ys)

-- ts are the transitions of a faulty circuit, no faulty circuit is shorter, and none of the same length comes before it
pub record Named {T : Type 0} (o : Ops T) (n : ℕ) (links : List (Link T)) (ts : List ℕ) : Type 0 where
  pub faulty : (ps : List (Link T)) × Faulty o n links ps × (transitions_of ps ≡ ts)
  pub shortest : (ps : List (Link T)) → Faulty o n links ps → length ts ≤ length ps
  pub first : (ps : List (Link T)) → Faulty o n links ps → length ps ≡ length ts → NoLater ts (transitions_of ps)

-- at most one list of transitions is the named one
abbrev pub CircuitIsNamedOnce : {T : Type 0} → Ops T → Type 0
CircuitIsNamedOnce {T = T} o = (n : ℕ) (links : List (Link T)) (ts us : List ℕ) → Named o n links ts → Named o n links us → ts ≡ us

-- if the circuits of at most n places have gains of at most one, so have those of every length
abbrev pub ShortCircuitsSuffice : {T : Type 0} → Ops T → Type 0
ShortCircuitsSuffice {T = T} o = (n : ℕ) (links : List (Link T))
    → ((ps : List (Link T)) → Circuit n links ps → length ps ≤ n → AtMost o (gain_of o ps) o.one) → Passes o n links
