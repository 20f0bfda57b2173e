-- From the links that a table holds after reading to the net that they make.
use Rattle.std.proofs.Common.{◌≡◌, ℕ, zero, suc, List, [], ◌∷◌, ◌-◌, ◌++◌, take, length, replicate, Ok, Err, Result, sym, refl, ap, ap₂, ◌∙◌, subst}
use native.Mathlib.Nat.{sub-zero}
use lib.ListN.{length-replicate}
use Rattle.kinds.specs.Kind.{Ops}
use Rattle.links.specs.declared.Link.{Link}
use Rattle.links.specs.declared.Counts.{Counts}
use Rattle.numerals.specs.declared.cards.Misread.{Misread}
use Rattle.texts.specs.declared.faults.Fault.{Fault}
use Rattle.texts.specs.declared.positions.Position.{Position}
use Rattle.texts.specs.NetTexts.{After, links_from}
use Rattle.loading.specs.declared.errors.LoadError.{LoadError}
use Rattle.loading.specs.declared.errors.LoadError.TheVariants.{Faulty, OutOfMemory}
use Rattle.loading.specs.declared.checked_nets.CheckedNet.{CheckedNet}
use Rattle.loading.specs.Copies.{copies}
use Rattle.loading.specs.Loads.{OnText, Checked, Read, ReadAs}

none_of : {X : Type 0} (n : ℕ) (xs : List X) → xs ≡ [] → take n xs ≡ []
none_of zero xs e = refl
none_of (suc n) [] e = refl
none_of (suc n) (x ∷ xs) e = cc

-- a list that was empty, brought to length n
pub resized : {X : Type 0} (n len : ℕ) (x : X) (was now : List X) → was ≡ [] → len ≡ 0 → now ≡ take n was ++ replicate (n - len) x → now ≡ copies n x
unfolding copies
resized {X} n len x was now none empty is =
    is ∙ ap₂ (λ (w : List X) (k : ℕ). w ++ replicate (n - k) x) (none_of n was none) empty ∙ ap (λ (k : ℕ). replicate k x) (sub-zero n)

pub so_many : {X : Type 0} (n : ℕ) (x : X) (xs : List X) → xs ≡ copies n x → length xs ≡ n
unfolding copies
so_many n x xs e = ap length e ∙ length-replicate n x

-- what follows of the net or the fault
pub text_then : {N : Type 0} (P Q : Result N Fault → Type 0) (r : Result N LoadError) → ((a : Result N Fault) → P a → Q a) → OnText r P → OnText r Q
text_then P Q (Ok net) f h = f (Ok net) h
text_then P Q (Err (Faulty fault)) f h = f (Err fault) h
text_then P Q (Err (OutOfMemory want)) f h = tt

-- reading the text into blank links came to r
pub read_into : {T : Type 0} (o : Ops T) (reading : List ℕ → Result T Misread) (n : Counts) (text : List ℕ) (at : Position)
    (blanks table : List (Link T)) (r : After T) (a : Result (CheckedNet T) Fault) → table ≡ blanks → links_from reading n text at table 0 ≡ r
    → Read o n r a → ReadAs o reading n text at blanks a
read_into {T} o reading n text at blanks table r a is-blank read h =
    subst (λ (t : List (Link T)). ReadAs o reading n text at t a) is-blank (subst (λ (x : After T). Read o n x a) (sym read) h)

-- no line was refused: the links that were read were checked
pub read_all : {T : Type 0} (o : Ops T) (reading : List ℕ → Result T Misread) (n : Counts) (text : List ℕ) (at at' : Position)
    (blanks table after links : List (Link T)) (count : ℕ) (a : Result (CheckedNet T) Fault) → table ≡ blanks
    → links_from reading n text at table 0 ≡ record { answer = Ok tt; at = at'; table = after; count = count } → links ≡ take count after
    → Checked o n links a → ReadAs o reading n text at blanks a
read_all {T} o reading n text at at' blanks table after links count a is-blank read is-first checked =
    read_into o reading n text at blanks table _ a is-blank read (subst (λ (l : List (Link T)). Checked o n l a) is-first checked)
