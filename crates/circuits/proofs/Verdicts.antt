-- What the search has found, in terms of circuits.
use Rattle.std.proofs.Common.{◌≡◌, ℕ, suc, ◌+◌, ◌*◌, ◌<◌, List, ◌∷◌, ◌++◌, length, drop, sym, ap, ◌∙◌, subst, arith}
use Rattle.kinds.specs.Kind.{Ops, Laws, AtMost}
use Rattle.links.specs.declared.Link.{Link}
use Rattle.walks.specs.Circuits.{Passes, Named}
use Rattle.walks.specs.Walks.{arc, best}
use Rattle.walks.specs.Searches.{Sought}
use Rattle.walks.proofs.Same.{best_same, sought_by, greedily_by}
use Rattle.walks.proofs.Bridge.{circuits_pass, names}
use Rattle.circuits.specs.Checks.{Spared}
use Rattle.circuits.specs.Grids.{spot, Beyond, SameTo, Kept, Tabled, Listed}
use Rattle.circuits.specs.declared.grid.Grid.{Grid}
use Rattle.circuits.proofs.Spots.{square_below}
use Rattle.circuits.proofs.Tables.{beyond_drop}

module _ {T : Type 0} {o : Ops T} (laws : Laws o) (n : ℕ) (links : List (Link T)) where
  pub accepted : (cells : List T) → ((a b : ℕ) → a < n → b < n → spot o n cells a b ≡ arc o n links a b) → Sought o n (spot o n cells) n 0 n → Passes o n links
  accepted cells loaded sought =
      circuits_pass laws n links (λ s t sn tn. subst (λ v. AtMost o v o.one) (best_same o n (spot o n cells) (arc o n links) loaded s t t tn tn) (sought.shorter s t sn tn))

  pub refused : (cells cells' : List T) (list list' : List ℕ) (start more : ℕ) → ((a b : ℕ) → a < n → b < n → spot o n cells a b ≡ arc o n links a b) → SameTo o n n cells cells'
      → Sought o n (spot o n cells) n start more → start < n → Listed o n (spot o n cells') start more list list'
      → (ts : List ℕ) × Named o n links (start ∷ ts) × (more + 1 ≡ length (start ∷ ts)) × (list' ≡ (start ∷ ts) ++ drop (more + 1) list)
  refused cells cells' list list' start more loaded same sought sn listed =
      let up : suc more ≡ more + 1 = omega arith in (
        listed.ts,
        names laws n links start more listed.ts (sought_by o n (spot o n cells) (arc o n links) loaded start more sn sought) sn listed.long listed.below
            (greedily_by o n (spot o n cells') (arc o n links) (λ a x an xn. same a x an xn ∙ loaded a x an xn) o.one start listed.ts start sn listed.below sn listed.greedy),
        sym up ∙ ap suc (sym listed.long),
        listed.written ∙ ap (λ k. (start ∷ listed.ts) ++ drop k list) up,
      )

-- what lies after the table, where a grid was lent the cells
pub spared : {T : Type 0} (o : Ops T) (n : ℕ) (before after : List T) (a c : Grid T) → after ≡ c.cells.now → length after ≡ length before → a.n ≡ n
    → Beyond o (n * n) before a.cells.now → Kept o a.n a c → Spared n before after
spared o n before after a c e same m first kept =
    ap (drop (2 * n * n)) e
    ∙ beyond_drop o (2 * n * n) before c.cells.now (ap length (sym e) ∙ same)
    (λ j le. let small = square_below n in subst (λ k. Beyond o (2 * k * k) a.cells.now c.cells.now) m kept.beyond j le ∙ first j (omega arith))

module _ {T : Type 0} (o : Ops T) (a b : Grid T) (start : ℕ) (within : start < a.n) (kept : Kept o a.n a b) where
  -- what the first rows of a tell, those of b tell
  pub tabled_again : Tabled o a.n (spot o a.n a.cells.now) start a.n b.cells.now → Tabled o b.n (spot o b.n b.cells.now) start b.n b.cells.now
  tabled_again tabled = subst (λ k. Tabled o k (spot o k b.cells.now) start k b.cells.now) (sym kept.loan.0)
      (λ s t sn tn. tabled s t sn tn ∙ sym (best_same o a.n (spot o a.n b.cells.now) (spot o a.n a.cells.now) kept.same s t start tn within))

  pub high_again : (more : ℕ) → (AtMost o (best o a.n (spot o a.n a.cells.now) more start start) o.one → ⊥)
      → AtMost o (best o b.n (spot o b.n b.cells.now) more start start) o.one → ⊥
  high_again more high low =
      high (subst (λ v. AtMost o v o.one) (best_same o a.n (spot o a.n b.cells.now) (spot o a.n a.cells.now) kept.same more start start within within)
      (subst (λ k. AtMost o (best o k (spot o k b.cells.now) more start start) o.one) kept.loan.0 low))
