-- A net that is triggered once, in a sheet whose blocks stand one after the other.
use Rattle.std.proofs.Common.{◌≡◌, ℕ, zero, suc, ◌+◌, ◌*◌, ◌/◌, ◌%◌, ◌<◌, ◌≤◌, List, ◌++◌, take, drop, length, get_or, Ok, Err, Result, sym, refl, ap, ◌∙◌, subst, ap₂, inl, mod-lt, div-lt_iff_lt-mul, div-add-mod', zero-add, arith, length-drop}
use Rattle.std.proofs.lemmas.Nat.{mul-add-lt, mod-mul-add}
use Rattle.std.proofs.lemmas.List.{get_or-take, get_or-drop, get_or_append_left, length-take-le}
use Rattle.kinds.specs.Kind.{Ops}
use Rattle.kinds.specs.declared.refusals.Refusal.{Refusal}
use Rattle.plants.specs.Fits.{Fits}
use Rattle.plants.specs.Meaning.{Meaning, block, forward_cell}
use Rattle.plants.specs.Calls.{Filled, Outcome, Forward}
use Rattle.plants.proofs.Blocks.{forward_same}
use Rattle.card.specs.Cells.{cell_at, cell_row, cell_rows}
use Rattle.card.specs.Responses.{at_once, Struck, response_cell, told_responses}

-- a call that has its space is not refused
pub accepted : {T : Type 0} (r : Result (Unit {0}) Refusal) (F D : Type 0) (s t : List T) → Outcome r F D s t → F → D
accepted (Ok _) F D s t h f = h.1
accepted (Err e) F D s t h f = absurd (h.1 f)

pub fits_in_turn : (m p K need len : ℕ) → m * K + p * K + need ≤ len → Fits m p K need (record { input = 0; output = m * K; working = m * K + p * K }) len
fits_in_turn m p K need len h =
    record { apart = inl (omega arith); input_before = omega arith; output_before = omega arith; covered = omega arith }

pub rows_same : {T : Type 0} (text : T → List ℕ) (K : ℕ) (f g : ℕ → T) (n : ℕ) → ((c : ℕ) → c < n → f c ≡ g c) → cell_rows text K f n ≡ cell_rows text K g n
rows_same text K f g zero e = refl
rows_same {T} text K f g (suc n) e =
    ap₂ (λ z (v : T). z ++ cell_row text (n / K) (n % K) v) (rows_same text K f g n (λ c h. e c (omega arith))) (e n (omega arith))

module _ {T : Type 0} (o : Ops T) (p : Meaning T) (K need : ℕ) (some : 0 < K) (before after : List T) where
  read_once : Struck o K (p.inputs * K) before → (i j : ℕ) → i < p.inputs → j < K → block o before 0 K i j ≡ at_once o i j
  read_once struck i j h g =
      ap (λ (a : ℕ). get_or before a o.bottom) (zero-add (i * K + j))
      ∙ struck (i * K + j) (omega (arith, mul-add-lt i K j p.inputs h g))
      ∙ ap (λ (k : ℕ). at_once o i k) (mod-mul-add i K j g)

  pub responded : Struck o K (p.inputs * K) before
      → Filled o K (p.inputs * K) p.outputs (p.inputs * K + p.outputs * K) need (forward_cell o p (block o before 0 K)) before after
      → (c : ℕ) → c < p.outputs * K → cell_at o after (p.inputs * K) c ≡ response_cell o p K c
  responded struck filled c h =
      let wire : c / K < p.outputs = (div-lt_iff_lt-mul {k = K} {x = c} {y = p.outputs} some).1 h in
      let beat : c % K < K = mod-lt c some in
      ap (λ (a : ℕ). get_or after (p.inputs * K + a) o.bottom) (sym (div-add-mod' c K))
      ∙ filled.cells (c / K) (c % K) wire beat
      ∙ forward_same o p (block o before 0 K) (at_once o) K (c / K) (c % K) beat (read_once struck)

part_cell : {T : Type 0} (o : Ops T) (xs : List T) (r n c : ℕ) → c < n → cell_at o (take n (drop r xs)) 0 c ≡ cell_at o xs r c
part_cell o xs r n c h =
    ap (λ (a : ℕ). get_or (take n (drop r xs)) a o.bottom) (zero-add c) ∙ get_or-take n (drop r xs) c o.bottom h ∙ get_or-drop r xs c o.bottom

struck_front : {T : Type 0} (o : Ops T) (K n : ℕ) (cells rest : List T) → n ≡ length cells → Struck o K n cells → Struck o K n (cells ++ rest)
struck_front o K n cells rest e h a lt = get_or_append_left cells rest o.bottom a (omega arith) ∙ h a lt

-- the rows of what a net answers in a sheet that begins with its inputs
pub told_once : {T : Type 0} (o : Ops T) (p : Meaning T) (K need : ℕ) (text : T → List ℕ) (cells rest sheet : List T) (r : Result (Unit {0}) Refusal) (n : ℕ) → 0 < K
    → length cells ≡ p.inputs * K → Struck o K (length cells) cells → p.inputs * K + p.outputs * K + need ≤ length (cells ++ rest)
    → length sheet ≡ length (cells ++ rest) → n ≡ p.outputs * K
    → Forward o p need K (record { input = 0; output = p.inputs * K; working = p.inputs * K + p.outputs * K }) (cells ++ rest) sheet r
    → cell_rows text K (cell_at o (take n (drop (p.inputs * K) sheet)) 0) (length (take n (drop (p.inputs * K) sheet))) ≡ told_responses o text p K
told_once {T} o p K need text cells rest sheet r n some long struck room same is answer =
    let read = p.inputs * K in
    let part = take n (drop read sheet) in
    let filled = accepted r _ _ (cells ++ rest) sheet answer (fits_in_turn p.inputs p.outputs K need (length (cells ++ rest)) room) in
    let front : Struck o K read (cells ++ rest) = struck_front o K read cells rest (sym long) (subst (λ (m : ℕ). Struck o K m cells) long struck) in
    let len : length part ≡ p.outputs * K = length-take-le n (drop read sheet) (omega (arith, length-drop read sheet)) ∙ is in
    ap (λ (m : ℕ). cell_rows text K (cell_at o part 0) m) len
    ∙ rows_same text K (cell_at o part 0) (response_cell o p K) (p.outputs * K)
    (λ c h. part_cell o sheet read n c (omega arith) ∙ responded o p K need some (cells ++ rest) sheet front filled c h)
