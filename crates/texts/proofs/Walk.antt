-- How reading goes on from line to line.
use Rattle.std.proofs.Common.{◌≡◌, ℕ, suc, ◌+◌, ◌<◌, ◌≤◌, min, Bool, true, false, cond, eqb, ltb, List, [], ◌∷◌, length, drop, set, Some, None, Ok, Err, Option, Result, nat_lt, IfOk, OnSome, sym, refl, ap, ◌∙◌, arith, length-drop}
use Rattle.std.proofs.lemmas.List.{drop_all, drop-drop}
use Rattle.std.proofs.lemmas.Bool.{lt-ltb, le-ltb, ltb-true, ltb-false, ne_eqb}
use Rattle.std.proofs.lemmas.Bool.Decides.{nat_tests}
use Rattle.std.specs.List.{onto_first}
use Rattle.kinds.specs.declared.refusals.Refusal.TheVariants.{Full}
use Rattle.numerals.specs.declared.cards.Misread.{Misread}
use Rattle.links.specs.declared.Counts.{Counts}
use Rattle.links.specs.declared.Link.{Link}
use Rattle.texts.specs.declared.faults.Wrong.{Wrong}
use Rattle.texts.specs.declared.faults.Fault.{Fault}
use Rattle.texts.specs.declared.faults.TextName.{TextName}
use Rattle.texts.specs.declared.faults.TextName.TheVariants.{Net}
use Rattle.texts.specs.declared.positions.Position.{Position}
use Rattle.texts.specs.Splits.{before, after, pieces}
use Rattle.texts.specs.Faults.{then, check, faulted}
use Rattle.texts.specs.Lines.{within, some, line_of, past, line_from, next_by, next_from, next_past}
use Rattle.texts.specs.NetLines.{net_line}
use Rattle.texts.specs.NetTexts.{has_space, fitting, linked, step_of, After, onward, links_read, links_on, links_by, links_from}
use Rattle.texts.proofs.Splits.{drop_after, pieces_some}

-- before the end, the next line is the line there
pub next_is : {A : Type 0} (name : TextName) (says : List ℕ → Result A Wrong) (text : List ℕ) (at : Position) → within name text ≡ Ok tt → at.place < length text
    → next_from name says text at ≡ some (line_from name says text at)
next_is name says text at fits inside =
    let a = lt-ltb at.place (length text) inside in
    rw (fits, a)

-- the space of a table, as code asks for it
pub space_is : (size count : ℕ) → nat_lt count (min size 320) ≡ has_space size count
space_is size count = grind (arith, nat_tests)

-- the pieces of a text, by whether its first line has an end
pub pieces_cut : (c : ℕ) (bs : List ℕ) → length (before c bs) < length bs → pieces c bs ≡ before c bs ∷ pieces c (after c bs)
pieces_cut c [] = λ h. absurd (omega arith)
pieces_cut c (b ∷ bs) =
    elim (eqb b c) as (λ v. length (cond v [] (b ∷ before c bs)) < suc (length bs) → cond v ([] ∷ pieces c bs) (onto_first b (pieces c bs)) ≡ cond v [] (b ∷ before c bs) ∷ pieces c (cond v bs (after c bs)))
    [ true ↦ λ h. refl | false ↦ λ h. ap (onto_first b) (pieces_cut c bs (omega arith)) ]

pub pieces_whole : (c : ℕ) (bs : List ℕ) → length bs ≤ length (before c bs) → pieces c bs ≡ before c bs ∷ []
pieces_whole c [] = λ h. refl
pieces_whole c (b ∷ bs) =
    elim (eqb b c) as (λ v. suc (length bs) ≤ length (cond v [] (b ∷ before c bs)) → cond v ([] ∷ pieces c bs) (onto_first b (pieces c bs)) ≡ cond v [] (b ∷ before c bs) ∷ [])
    [ true ↦ λ h. absurd (omega arith) | false ↦ λ h. ap (onto_first b) (pieces_whole c bs (omega arith)) ]

module _ {T : Type 0} (reading : List ℕ → Result T Misread) (n : Counts) where
  -- at the end of the text nothing is left to read
  pub walk_end : (text : List ℕ) (at : Position) (t : List (Link T)) (k : ℕ) → length text ≤ at.place → links_on reading n text at t k ≡ record { answer = Ok tt; at = at; table = t; count = k }
  walk_end text at t k h = ap (λ rest. links_read reading n (pieces 10 rest) at t k) (drop_all at.place text h)

  -- a text whose first line has an end
  walk_cut : (rest : List ℕ) (at : Position) (t : List (Link T)) (k : ℕ) → length (before 10 rest) < length rest →
      links_read reading n (pieces 10 rest) at t k
      ≡ onward (linked reading n (line_of rest) (has_space (length t) k)) at t k (λ link. links_read reading n (pieces 10 (after 10 rest)) (past at rest) (set t k link) (k + 1))
  walk_cut rest at t k h =
      let a : ltb (length (before 10 rest)) (length rest) ≡ true = lt-ltb (length (before 10 rest)) (length rest) h in
      let some = pieces_some 10 (after 10 rest) in
      let b : ltb 0 (length (pieces 10 (after 10 rest))) ≡ true = lt-ltb 0 (length (pieces 10 (after 10 rest))) some in
      let d : eqb (length (before 10 rest) + length (pieces 10 (after 10 rest))) 0 ≡ false = ne_eqb (length (before 10 rest) + length (pieces 10 (after 10 rest))) 0 (λ e. omega arith) in
      ap (λ ls. links_read reading n ls at t k) (pieces_cut 10 rest h) ∙ rw (a, b, d)

  walk_whole : (rest : List ℕ) (at : Position) (t : List (Link T)) (k : ℕ) (next : Link T → After T) → 0 < length rest → length rest ≤ length (before 10 rest) →
      links_read reading n (pieces 10 rest) at t k ≡ onward (linked reading n (line_of rest) (has_space (length t) k)) at t k next
  walk_whole rest at t k next some h =
      let a : ltb (length (before 10 rest)) (length rest) ≡ false = le-ltb (length (before 10 rest)) (length rest) h in
      let d : eqb (length (before 10 rest) + 0) 0 ≡ false = ne_eqb (length (before 10 rest) + 0) 0 (λ e. omega arith) in
      ap (λ ls. links_read reading n ls at t k) (pieces_whole 10 rest h) ∙ rw (a, d)

  -- the walk from a position inside the text takes one step
  pub walk_on : (text : List ℕ) (at : Position) (t : List (Link T)) (k : ℕ) → at.place < length text →
      links_on reading n text at t k
      ≡ onward (step_of reading n text at (length t) k) at t k (λ link. links_on reading n text (past at (drop at.place text)) (set t k link) (k + 1))
  walk_on text at t k h =
      let rest : List ℕ = drop at.place text in
      by_end text at t k (omega (arith, length-drop at.place text)) (ltb (length (before 10 rest)) (length rest)) refl
    where
      beyond : (text : List ℕ) (at : Position) → after 10 (drop at.place text) ≡ drop (past at (drop at.place text)).place text
      beyond text at =
          sym (drop_after 10 (drop at.place text))
          ∙ drop-drop (suc (length (before 10 (drop at.place text)))) at.place text
          ∙ ap (λ i. drop i text) (omega arith)

      by_end : (text : List ℕ) (at : Position) (t : List (Link T)) (k : ℕ) → 0 < length (drop at.place text) → (v : Bool) → ltb (length (before 10 (drop at.place text))) (length (drop at.place text)) ≡ v →
          links_on reading n text at t k
          ≡ onward (step_of reading n text at (length t) k) at t k (λ link. links_on reading n text (past at (drop at.place text)) (set t k link) (k + 1))
      by_end text at t k some true e =
          walk_cut (drop at.place text) at t k (ltb-true (length (before 10 (drop at.place text))) (length (drop at.place text)) e)
          ∙ ap (λ z. onward (step_of reading n text at (length t) k) at t k (λ link. links_read reading n (pieces 10 z) (past at (drop at.place text)) (set t k link) (k + 1))) (beyond text at)
      by_end text at t k some false e =
          walk_whole (drop at.place text) at t k _ some (ltb-false (length (before 10 (drop at.place text))) (length (drop at.place text)) e)

  -- what the loop does with an answer
  abbrev step : Result (Option (Link T)) Fault → Position → List (Link T) → ℕ → (Link T → After T) → After T
  step (Err f) at t k next = record { answer = Err f; at = at; table = t; count = k }
  step (Ok None) at t k next = record { answer = Ok tt; at = at; table = t; count = k }
  step (Ok (Some link)) at t k next = next link

  step_on : (r : Result (Link T) Wrong) (at : Position) (t : List (Link T)) (k : ℕ) (next : Link T → After T) → onward r at t k next ≡ step (some (faulted Net (at.line + 1) r)) at t k next
  step_on (Ok link) at t k next = refl
  step_on (Err w) at t k next = refl

  step_is : (text : List ℕ) (at : Position) (t : List (Link T)) (k : ℕ) →
      links_from reading n text at t k
      ≡ step (next_from Net (fitting reading n (has_space (length t) k)) text at) at t k (λ link. links_from reading n text (past at (drop at.place text)) (set t k link) (k + 1))
  step_is text at t k = by_length text at t k (within Net text)
    where
      by_place : (text : List ℕ) (at : Position) (t : List (Link T)) (k : ℕ) (v : Bool) → ltb at.place (length text) ≡ v →
          links_on reading n text at t k
          ≡ step (cond v (some (faulted Net (at.line + 1) (step_of reading n text at (length t) k))) (Ok None)) at t k (λ link. links_on reading n text (past at (drop at.place text)) (set t k link) (k + 1))
      by_place text at t k true e = walk_on text at t k (ltb-true at.place (length text) e) ∙ step_on (step_of reading n text at (length t) k) at t k _
      by_place text at t k false e = walk_end text at t k (ltb-false at.place (length text) e)

      by_length : (text : List ℕ) (at : Position) (t : List (Link T)) (k : ℕ) (v : Result (Unit {0}) Fault) →
          links_by reading n text at t k v
          ≡ step (next_by Net (fitting reading n (has_space (length t) k)) text at v) at t k (λ link. links_by reading n text (past at (drop at.place text)) (set t k link) (k + 1) v)
      by_length text at t k (Err f) = refl
      by_length text at t k (Ok u) = by_place text at t k (ltb at.place (length text)) refl

  -- a link that is read has space
  pub spacious : (text : List ℕ) (at : Position) (space : Bool) (x : Result (Option (Link T)) Fault) → x ≡ next_from Net (fitting reading n space) text at → IfOk x (λ o. OnSome o (space ≡ true))
  spacious text at space x is = rw is (by_length (within Net text))
    where
      by_link : (r : Result (Link T) Wrong) → IfOk (some (faulted Net (at.line + 1) (then r (λ link. check space Full 0 (Ok link))))) (λ o. OnSome o (space ≡ true))
      by_link (Err w) = tt
      by_link (Ok link) = elim space as (λ b. IfOk (some (faulted Net (at.line + 1) (check b Full 0 (Ok link)))) (λ o. OnSome o (b ≡ true))) [ true ↦ refl | false ↦ tt ]

      by_line : (r : Result (List ℕ) Wrong) → IfOk (some (faulted Net (at.line + 1) (then r (fitting reading n space)))) (λ o. OnSome o (space ≡ true))
      by_line (Err w) = tt
      by_line (Ok l) = by_link (net_line reading n l)

      by_length : (v : Result (Unit {0}) Fault) → IfOk (next_by Net (fitting reading n space) text at v) (λ o. OnSome o (space ≡ true))
      by_length (Err f) = tt
      by_length (Ok u) = elim (ltb at.place (length text)) as (λ b. IfOk (cond b (some (faulted Net (at.line + 1) (then (line_of (drop at.place text)) (fitting reading n space)))) (Ok None)) (λ o. OnSome o (space ≡ true))) [ true ↦ by_line (line_of (drop at.place text)) | false ↦ tt ]

  -- one answer of the lines, as the loop sees it
  module _ (text text' : List ℕ) (at at' : Position) (t : List (Link T)) (k size : ℕ) (x : Result (Option (Link T)) Fault)
      (sized : size ≡ min (length t) 320)
      (is : x ≡ next_from Net (fitting reading n (nat_lt k size)) text at)
      (moved : at' ≡ next_past x at (drop at.place text))
      (same : text' ≡ text) where
    goes : links_from reading n text at t k ≡ step x at t k (λ link. links_from reading n text (past at (drop at.place text)) (set t k link) (k + 1))
    goes =
        let space : has_space (length t) k ≡ nat_lt k size = sym (space_is (length t) k) ∙ ap (λ (m : ℕ). nat_lt k m) (sym sized) in
        step_is text at t k ∙ rw (space, ← is) refl

    pub line_accepted : (o : Option (Link T)) (link : Link T) → x ≡ Ok o → o ≡ Some link → links_from reading n text at t k ≡ links_from reading n text' at' (set t k link) (k + 1)
    line_accepted o link e f = goes ∙ rw (same, moved, e, f) refl

    pub line_refused : (f : Fault) → x ≡ Err f → links_from reading n text at t k ≡ record { answer = Err f; at = at'; table = t; count = k }
    line_refused f e = goes ∙ rw (moved, e) refl

    pub line_none : (o : Option (Link T)) → x ≡ Ok o → ((link : Link T) → o ≡ Some link → ⊥) → links_from reading n text at t k ≡ record { answer = Ok tt; at = at'; table = t; count = k }
    line_none None e f = goes ∙ rw (moved, e) refl
    line_none (Some link) e f = absurd (f link refl)
