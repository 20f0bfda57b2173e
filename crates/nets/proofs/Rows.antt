-- Where the rows and the blocks of a turn lie.
use Rattle.std.proofs.Common.{◌≡◌, ℕ, ◌+◌, ◌*◌, ◌/◌, ◌%◌, ◌<◌, ◌≤◌, eqb, sym, refl, ap, ◌∙◌, ⊎_elim, add-mul, arith}
use Rattle.std.proofs.lemmas.Bool.{eq-eqb, ne_eqb, cases_eq, cases_lt}
use Rattle.std.proofs.lemmas.Nat.{mul-le, div-mul-add, mod-mul-add}
use Rattle.routes.specs.Ways.{beat_of}
use Rattle.routes.specs.declared.Way.{Way}
use Rattle.routes.specs.declared.Way.TheVariants.{Forth, Back}
use Rattle.nets.specs.Stages.{Laid}
use Rattle.nets.specs.declared.stage.Stage.{Stage}

pub same_shift : (r a b : ℕ) → eqb (r + a) (r + b) ≡ eqb a b
same_shift r a b = ⊎_elim (λ e. eq-eqb (r + a) (r + b) (ap (λ x. r + x) e) ∙ sym (eq-eqb a b e)) (λ ne. ne_eqb (r + a) (r + b) (λ e. ne (omega arith)) ∙ sym (ne_eqb a b ne)) (cases_eq a b)

-- two cells of one row
pub same_cell : (w r a b : ℕ) → eqb (w + (r + a)) (w + (r + b)) ≡ eqb a b
same_cell w r a b = same_shift w (r + a) (r + b) ∙ same_shift r a b

-- two cells of one beat of a block
pub same_wire : (s K k a b : ℕ) → k < K → eqb (s + (a * K + k)) (s + (b * K + k)) ≡ eqb a b
same_wire s K k a b h = same_shift s (a * K + k) (b * K + k) ∙ ⊎_elim
    (λ e. eq-eqb (a * K + k) (b * K + k) (ap (λ x. x * K + k) e) ∙ sym (eq-eqb a b e))
    (λ ne. ne_eqb (a * K + k) (b * K + k) (λ q. ne (sym (div-mul-add a K k h) ∙ ap (λ x. x / K) q ∙ div-mul-add b K k h)) ∙ sym (ne_eqb a b ne))
    (cases_eq a b)

-- the cells of other beats of a block
pub other_beat : (s K a b j k : ℕ) → j < K → k < K → (j ≡ k → ⊥) → s + (a * K + j) ≡ s + (b * K + k) → ⊥
other_beat s K a b j k h g ne e =
    let q : a * K + j ≡ b * K + k = omega arith in
    ne (sym (mod-mul-add a K j h) ∙ ap (λ x. x % K) q ∙ mod-mul-add b K k g)

-- a row ends where a later one begins, or before
pub row_before : (a b n : ℕ) → a < b → a * n + n ≤ b * n
row_before a b n h = omega (arith, mul-le (a + 1) n b n (omega arith) (omega arith), add-mul a 1 n)

-- a cell of one row stands in no other row
pub row_apart : (n j k t : ℕ) → t < n → (j ≡ k → ⊥) → k * n ≤ j * n + t → j * n + t < k * n + n → ⊥
row_apart n j k t h ne p q = ⊎_elim
    (λ lt. let b = row_before j k n lt in omega arith)
    (λ ge. let less : k < j = (let no = ne in omega arith) in let b = row_before k j n less in omega arith)
    (cases_lt j k)

pub row_end : (g : Stage) (end : ℕ) → Laid g end → g.working + (g.beats * g.n + g.n) ≤ end
row_end g end laid = let w = laid.working_fits in omega (arith, add-mul g.beats 1 g.n)

pub turn_row : (g : Stage) (end : ℕ) → Laid g end → g.turn * g.n + g.n ≤ g.beats * g.n
turn_row g end laid = row_before g.turn g.beats g.n laid.turn_within

-- the beats of the turns
pub beat_below : (way : Way) (K j : ℕ) → j < K → beat_of way K j < K
beat_below Forth K j h = h
beat_below Back K j h = omega arith

pub beat_twice : (way : Way) (K j : ℕ) → j < K → beat_of way K (beat_of way K j) ≡ j
beat_twice Forth K j h = refl
beat_twice Back K j h = omega arith

pub beat_other : (way : Way) (K j k : ℕ) → j < K → k < K → (j ≡ k → ⊥) → beat_of way K j ≡ beat_of way K k → ⊥
beat_other way K j k h g ne e = ne (sym (beat_twice way K j h) ∙ ap (beat_of way K) e ∙ beat_twice way K k g)
