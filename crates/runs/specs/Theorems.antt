-- A run fixes the score, the plan and the lanes, and after a lay the calls fix their answers.
use Rattle.std.specs.Prelude.{◌≡◌, ℕ, ◌<◌, Bool, List}
use Rattle.kinds.specs.Kind.{Ops}
use Rattle.plants.specs.Meaning.{Meaning}
use Rattle.runs.specs.Plans.{Block, Same}
use Rattle.runs.specs.History.{Run, Stage, Laid, AllFair, Sound}
use Rattle.runs.specs.Performed.{played, calls}
use Rattle.runs.specs.declared.acts.Act.{Act}

-- two scores, two plans, two counts of fixed beats and two orders out that are the same
pub record SameState {V : Type 0} (M : Meaning V) (K : ℕ) (z z' u u' : Block V) (f f' : ℕ → ℕ) (t t' : ℕ → Bool) : Type 0 where
  pub scores : Same K M.outputs z z'
  pub plans : Same K M.inputs u u'
  pub counts : (i : ℕ) → i < M.inputs → f i ≡ f' i
  pub orders : (i : ℕ) → i < M.inputs → t i ≡ t' i

-- what one run with an accepted lay left, on whatever two sheets
abbrev pub RunFixesState : {V : Type 0} → Ops V → Type 0
RunFixesState {V} o = (M : Meaning V) (K : ℕ) (room room' : Bool) (g g' : Stage) (h : Run V) (z z' u u' : Block V) (f f' : ℕ → ℕ) (t t' : ℕ → Bool)
    → Laid o h → Sound o M K room g h z u f t → Sound o M K room' g' h z' u' f' t' → SameState M K z z' u u' f f' t t'

-- after an accepted lay, equal calls are given equal answers
abbrev pub RunFixesAnswers : {V : Type 0} → Ops V → Type 0
RunFixesAnswers {V} o = (M : Meaning V) (K : ℕ) (room : Bool) (h : Run V) → Laid o h → (acts acts' : List (Act V)) → calls acts ≡ calls acts'
    → AllFair o M K room (played acts h) → AllFair o M K room (played acts' h) → acts ≡ acts'
