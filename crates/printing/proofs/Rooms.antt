-- Calls on a sheet that has all the cells are not refused.
use Rattle.std.proofs.Common.{◌≡◌, ℕ, ◌+◌, ◌*◌, ◌≤◌, List, length, Ok, Err, Result, ap, ◌∙◌, ap₂, arith, MatchResult}
use Rattle.kinds.specs.Kind.{Ops}
use Rattle.kinds.specs.declared.refusals.Refusal.{Refusal}
use Rattle.plants.specs.Meaning.{Meaning}
use Rattle.runs.proofs.Whys.{why, never}
use Rattle.phrases.specs.Cells.{total, RefusedShort}

pub roomy : {T : Type 0} (o : Ops T) (M : Meaning T) (K need : ℕ) (s s' : List T) (r : Result (Unit {0}) Refusal) (D : Type 0)
    → total M K need ≤ length s → MatchResult r (λ _. D) (λ e. RefusedShort o M K need s s' e) → D
roomy o M K need s s' (Ok _) D room h = h
roomy o M K need s s' (Err e) D room h = absurd (why (λ _. ⊥) e h never (λ short. omega (arith, short.0)) never never never never never)

-- the cells of a sheet: those of all wires twice, and the need
pub suffices : {T : Type 0} (M : Meaning T) (K need m p beats rest cells len : ℕ) → m ≡ M.inputs → p ≡ M.outputs → beats ≡ K → rest ≡ need → cells ≡ 2 * (m + p) * beats + rest → len ≡ cells
    → total M K need ≤ len
suffices M K need m p beats rest cells len em ep ek er ec el =
    let twice : 2 * (m + p) ≡ M.outputs + M.inputs + M.outputs + M.inputs = omega (arith, em, ep) in
    let all : len ≡ (M.outputs + M.inputs + M.outputs + M.inputs) * K + need = el ∙ ec ∙ ap₂ (λ (x y : ℕ). x * y + rest) twice ek ∙ ap (λ (x : ℕ). (M.outputs + M.inputs + M.outputs + M.inputs) * K + x) er in
    omega (arith, all)
