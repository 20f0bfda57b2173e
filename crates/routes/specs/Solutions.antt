-- The equations of a net, and their least solution.
use Rattle.std.specs.Prelude.{◌≡◌, ℕ, ◌-◌, ◌<◌, Bool, ◌&&◌, List, ◌==◌, nat_le, nat_lt}
use Rattle.kinds.specs.Kind.{Ops, AtMost}
use Rattle.links.specs.Takes.{entry, leaving}
use Rattle.links.specs.Tallies.{same_sort}
use Rattle.links.specs.declared.Link.{Link}
use Rattle.links.specs.declared.Sort.TheVariants.{Place}
use Rattle.walks.specs.Folds.{gate, joined}

-- a place of 0 to 15 tokens between two of the n transitions
abbrev pub place : {T : Type 0} → ℕ → Link T → Bool
place n l = same_sort Place l.sort && (nat_lt l.from n && (nat_lt l.to n && nat_lt l.tokens 16))

-- the state of t that is d beats before k, and bottom before beat 0
abbrev pub earlier : {T : Type 0} → Ops T → (ℕ → ℕ → T) → ℕ → ℕ → ℕ → T
earlier o x t k d = gate o (nat_le d k) (x t (k - d))

-- what its places and its input links bring to t at beat k
abbrev pub brought : {T : Type 0} → Ops T → ℕ → ℕ → List (Link T) → (ℕ → ℕ → T) → (ℕ → ℕ → T) → ℕ → ℕ → T
brought o n m links u x t k = o.join
    (joined o (λ l. gate o (place n l && l.to == t) (o.product l.value (earlier o x l.from k l.tokens))) links)
    (joined o (λ l. gate o (entry n m l && l.to == t) (o.product l.value (u l.from k))) links)

-- the states x are what is brought, at every transition and every beat below K
abbrev pub Solves : {T : Type 0} → Ops T → ℕ → ℕ → List (Link T) → (ℕ → ℕ → T) → ℕ → (ℕ → ℕ → T) → Type 0
Solves o n m links u K x = (t k : ℕ) → t < n → k < K → x t k ≡ brought o n m links u x t k

pub record LeastSolution {T : Type 0} (o : Ops T) (n m : ℕ) (links : List (Link T)) (u : ℕ → ℕ → T) (K : ℕ) (x : ℕ → ℕ → T) : Type 0 where
  pub solves : Solves o n m links u K x
  pub least : (y : ℕ → ℕ → T) → Solves o n m links u K y → (t k : ℕ) → t < n → k < K → AtMost o (x t k) (y t k)

-- what the output links bring to output w at beat k
abbrev pub leaves : {T : Type 0} → Ops T → ℕ → ℕ → List (Link T) → (ℕ → ℕ → T) → ℕ → ℕ → T
leaves o n p links x w k = joined o (λ l. gate o (leaving n p l && l.to == w) (o.product l.value (x l.from k))) links

-- the strikes h of K beats are what leaves by the least solution for the inputs u
abbrev pub LeavesLeast : {T : Type 0} → Ops T → ℕ → ℕ → ℕ → List (Link T) → (ℕ → ℕ → T) → ℕ → (ℕ → ℕ → T) → Type 0
LeavesLeast {T} o n m p links u K h = (x : ℕ → ℕ → T) × LeastSolution o n m links u K x × ((w k : ℕ) → w < p → k < K → h w k ≡ leaves o n p links x w k)
