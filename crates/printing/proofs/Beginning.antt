-- A phrase that is written, laid and started.
use Rattle.std.proofs.Common.{◌≡◌, ℕ, ◌≤◌, List, [], ◌∷◌, length, Ok, Err, Result, sym, refl, ap, subst, arith}
use Rattle.kinds.specs.Kind.{Ops}
use Rattle.kinds.specs.declared.refusals.Refusal.{Refusal}
use Rattle.plants.specs.Meaning.{Meaning}
use Rattle.plants.specs.declared.horizon.Horizon.{Horizon}
use Rattle.runs.specs.History.{written, playing}
use Rattle.runs.specs.declared.acts.Answer.{Answer}
use Rattle.runs.specs.declared.acts.Answer.TheVariants.{Done}
use Rattle.runs.specs.declared.acts.Call.TheVariants.{Lay}
use Rattle.runs.proofs.Whys.{why, never}
use Rattle.phrases.proofs.Played.{move}
use Rattle.phrases.specs.Cells.{total}
use Rattle.phrases.specs.Promises.{LayCells, Law}
use Rattle.phrases.specs.Steps.{Left, lay_act, start_act}
use Rattle.runs.specs.Told.{told}
use Rattle.phrases.specs.declared.states.Phrase.{Phrase}
use Rattle.printing.specs.Plays.{begun}

module _ {P V : Type 0} (o : Ops V) (meaning : P → Meaning V) (need : P → ℕ → ℕ) where
  -- a lay on a sheet that has all the cells is done
  laid : (w : Phrase P) (s s' : List V) (r : Result (Unit {0}) Refusal) → total (meaning w.plant) w.horizon.beats (need w.plant w.horizon.beats) ≤ length s
      → LayCells o meaning need w s s' r → told {V = V} r ≡ Done
  laid w s s' (Ok _) room h = refl
  laid w s s' (Err e) room h = absurd (why (λ _. ⊥) e h never (λ short. omega (arith, short.0)) never never never never never)

  pub begins : (w p : Phrase P) (net : P) (k : Horizon) (s s' : List V) (r : Result (Unit {0}) Refusal) → w.plant ≡ net → w.horizon ≡ k
      → total (meaning net) k.beats (need net k.beats) ≤ length s
      → Left o (meaning net) k.beats (need net k.beats) written [] w.lanes.table s
      → LayCells o meaning need w s s' r → Law o meaning need written written w w (lay_act r) s s' → Law o meaning need written playing w p start_act s' s'
      → Left o (meaning net) k.beats (need net k.beats) playing begun p.lanes.table s'
  begins w p net k s s' r is-net is-k room fresh lay laying starting =
      let room' = subst (λ x. total (meaning x) w.horizon.beats (need x w.horizon.beats) ≤ length s) (sym is-net) (subst (λ z. total (meaning net) z.beats (need net z.beats) ≤ length s) (sym is-k) room) in
      let first = laying [] (move o meaning need _ _ _ _ _ _ _ _ (sym is-net) (ap (λ z. z.beats) (sym is-k)) fresh) in
      let then = starting (record { call = Lay; answer = Done } ∷ [])
      (subst (λ (a : Answer V). Left o (meaning w.plant) w.horizon.beats (need w.plant w.horizon.beats) written (record { call = Lay; answer = a } ∷ []) w.lanes.table s') (laid w s s' r room' lay) first) in
      move o meaning need _ _ _ _ _ _ _ _ is-net (ap (λ z. z.beats) is-k) then
