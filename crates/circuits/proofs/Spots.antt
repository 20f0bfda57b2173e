-- Cells by row and column, and the table of the arcs.
use Rattle.std.proofs.Common.{◌≡◌, ℕ, ◌+◌, ◌*◌, ◌/◌, ◌%◌, ◌<◌, ◌≤◌, ◌&&◌, true, false, eqb, List, [], ◌∷◌, ◌++◌, length, take, set, subst, take_all, sym, ap, ◌∙◌, ap₂, ⊎_elim, arith}
use Rattle.std.proofs.lemmas.Bool.{eq-eqb, ne_eqb, cases_eq, cases_Bool}
use Rattle.std.proofs.lemmas.Nat.{mul-le, mul-add-lt, div-mul-add, mod-mul-add}
use Rattle.kinds.specs.Kind.{Ops, Laws}
use Rattle.walks.specs.Folds.{gate, joined}
use Rattle.links.specs.Takes.{tokenless}
use Rattle.walks.specs.Walks.{arc}
use Rattle.circuits.specs.Grids.{cell, spot, Beyond, SameLoan}
use Rattle.circuits.specs.declared.grid.Grid.{Grid}
use Rattle.links.specs.declared.Link.{Link}
use Rattle.walks.proofs.Joined.{joined_same}
use Rattle.links.proofs.Ends.{tokenless_ends}
use Rattle.walks.proofs.Spreads.{Spread, part, join_monoid, spread_unread, spread_skip, spread_step}

pub spot_below : (n rows r t long : ℕ) → rows * n ≤ long → r < rows → t < n → r * n + t < long
spot_below n rows r t long fits a b = omega (arith, mul-add-lt r n t rows a b)

-- one row and one column for each place
pub same_spot : (n a b c d : ℕ) → b < n → d < n → eqb (a * n + b) (c * n + d) ≡ (eqb a c && eqb b d)
same_spot n a b c d bn dn = ⊎_elim rows_same rows_other (cases_eq a c)
  where
    columns_other : (b ≡ d → ⊥) → a * n + b ≡ c * n + d → ⊥
    columns_other ne e = ne (sym (mod-mul-add a n b bn) ∙ ap (λ x. x % n) e ∙ mod-mul-add c n d dn)

    rows_same : a ≡ c → eqb (a * n + b) (c * n + d) ≡ (eqb a c && eqb b d)
    rows_same e = ⊎_elim
        (λ f. eq-eqb (a * n + b) (c * n + d) (ap₂ (λ x y. x * n + y) e f) ∙ sym (ap₂ ◌&&◌ (eq-eqb a c e) (eq-eqb b d f)))
        (λ ne. ne_eqb (a * n + b) (c * n + d) (columns_other ne) ∙ sym (ap₂ ◌&&◌ (eq-eqb a c e) (ne_eqb b d ne)))
        (cases_eq b d)

    rows_other : (a ≡ c → ⊥) → eqb (a * n + b) (c * n + d) ≡ (eqb a c && eqb b d)
    rows_other ne =
        ne_eqb (a * n + b) (c * n + d) (λ e. ne (sym (div-mul-add a n b bn) ∙ ap (λ x. x / n) e ∙ div-mul-add c n d dn))
        ∙ sym (ap (λ x. x && eqb b d) (ne_eqb a c ne))

-- the links joined into the cells of their ends
abbrev pub Loaded : {T : Type 0} → Ops T → ℕ → List T → List T → List (Link T) → Type 0
Loaded o n before after ls = Spread o.bottom o.bottom o.join (tokenless n) (λ l. l.from * n + l.to) (λ l. l.value) before after ls

pub loaded_arcs : {T : Type 0} {o : Ops T} (laws : Laws o) (n : ℕ) (before after : List T) (links : List (Link T))
    → ((j : ℕ) → j < n * n → cell o before j ≡ o.bottom) → Loaded o n before after links
    → (a b : ℕ) → a < n → b < n → spot o n after a b ≡ arc o n links a b
loaded_arcs {T = T} {o = o} laws n before after links clear inv a b an bn =
    inv (a * n + b)
    ∙ ap (λ v. o.join v (joined o (part o.bottom (tokenless n) (λ l. l.from * n + l.to) (λ l. l.value) (a * n + b)) links)) (clear (a * n + b) (omega (arith, mul-add-lt a n b n an bn)))
    ∙ laws.join_bottom _
    ∙ joined_same o _ _ links gates
  where
    gates : (l : Link T) → gate o (tokenless n l && eqb (l.from * n + l.to) (a * n + b)) l.value ≡ gate o (tokenless n l && (eqb l.from a && eqb l.to b)) l.value
    gates l = ⊎_elim
        (λ on. let e = tokenless_ends n l on in ap (λ q. gate o (tokenless n l && q) l.value) (same_spot n l.from l.to a b e.1 bn))
        (λ off. ap (λ p. gate o (p && eqb (l.from * n + l.to) (a * n + b)) l.value) off ∙ sym (ap (λ p. gate o (p && (eqb l.from a && eqb l.to b)) l.value) off))
        (cases_Bool (tokenless n l))

pub loaded_beyond : {T : Type 0} {o : Ops T} (laws : Laws o) (n : ℕ) (before after : List T) (links : List (Link T)) → Loaded o n before after links → Beyond o (n * n) before after
loaded_beyond {o = o} laws n before after links inv j le =
    spread_unread o.bottom o.bottom o.join (join_monoid laws) (tokenless n) (λ l. l.from * n + l.to) (λ l. l.value) before after links j inv
    (λ l on e. let f = tokenless_ends n l on in omega (arith, mul-add-lt l.from n l.to n f.0 f.1))

pub square_below : (n : ℕ) → n * n ≤ 2 * n * n
square_below n = mul-le n n (2 * n) n (omega arith) (omega arith)

-- a grid b, once cleared, has got the links
pub record Loading {T : Type 0} (o : Ops T) (b : Grid T) (clear : List T) (ls : List (Link T)) (s : Grid T) : Type 0 where
  pub loan : SameLoan b s
  pub loaded : Loaded o b.n clear s.cells.now ls

module _ {T : Type 0} {o : Ops T} (laws : Laws o) (b : Grid T) (clear : List T) (ls : List (Link T)) (s : Grid T) (l : Link T) (inv : Loading o b clear ls s) where
  pub loading_skip : tokenless b.n l ≡ false → Loading o b clear (ls ++ l ∷ []) s
  loading_skip off = record {
    loan = inv.loan;
    loaded = spread_skip o.bottom o.bottom o.join (join_monoid laws) (tokenless b.n) (λ k. k.from * b.n + k.to) (λ k. k.value) clear s.cells.now ls l inv.loaded off;
  }

  pub loading_step : (d : Grid T) (from to : ℕ) → tokenless b.n l ≡ true → from ≡ l.from → to ≡ l.to
      → SameLoan s d → d.cells.now ≡ set s.cells.now (from * s.n + to) (o.join (spot o s.n s.cells.now from to) l.value) → Loading o b clear (ls ++ l ∷ []) d
  loading_step d from to on f t loan e =
      let n = b.n in
      let m = inv.loan.0 in
      let x = s.cells.now in
      let ends = tokenless_ends n l on in
      let room : 2 * n * n ≤ length x = subst (λ k. 2 * k * k ≤ length x) m s.room in
      let at : from * s.n + to ≡ l.from * n + l.to = ap₂ (λ p k. p * k + to) f m ∙ ap (λ q. l.from * n + q) t in
      record {
        loan = (loan.0 ∙ m, loan.1 ∙ inv.loan.1);
        loaded = subst (λ y. Loaded o n clear y (ls ++ l ∷ [])) (sym (e ∙ ap (λ p. set x p (o.join (cell o x p) l.value)) at))
            (spread_step o.bottom o.bottom o.join (join_monoid laws) (tokenless n) (λ k. k.from * n + k.to) (λ k. k.value) clear x ls l inv.loaded on
            (spot_below n n _ _ (length x) (omega (arith, square_below n)) ends.0 ends.1));
      }

pub loading_all : {T : Type 0} {o : Ops T} (b : Grid T) (clear : List T) (links : List (Link T)) (i : ℕ) (s : Grid T) → length links ≤ i → Loading o b clear (take i links) s
    → Loaded o b.n clear s.cells.now links
loading_all {o = o} b clear links i s le inv = (subst (λ ls. Loading o b clear ls s) (take_all i links le) inv).loaded
