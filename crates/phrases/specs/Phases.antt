-- A phrase at any stage, and what one call or a list of calls makes of it.
use Rattle.std.specs.Prelude.{◌≡◌, ℕ, List}
use Rattle.kinds.specs.Kind.{Ops}
use Rattle.plants.specs.Meaning.{Meaning}
use Rattle.runs.specs.History.{Run, Stage, written, playing, ended}
use Rattle.phrases.specs.Steps.{Left, Step}
use Rattle.runs.specs.Performed.{played}
use Rattle.runs.specs.declared.acts.Act.{Act}
use Rattle.runs.specs.declared.acts.Answer.{Answer}
use Rattle.runs.specs.declared.acts.Call.{Call}
use Rattle.phrases.specs.declared.lanes.Lane.{Lane}
use Rattle.phrases.specs.declared.states.Phrase.{Phrase}
use Rattle.phrases.specs.declared.states.phase.Phase.{Phase}
use Rattle.phrases.specs.declared.states.phase.Phase.TheVariants.{Written, Playing, Ended}

abbrev pub phrase_of : {P : Type 0} → Phase P → Phrase P
phrase_of (Written w) = w.phrase
phrase_of (Playing p) = p.phrase
phrase_of (Ended e) = e.phrase

abbrev pub stage_at : {P : Type 0} → Phase P → Stage
stage_at (Written w) = written
stage_at (Playing p) = playing
stage_at (Ended e) = ended

abbrev pub table_of : {P : Type 0} → Phase P → List Lane
table_of a = (phrase_of a).lanes.table

abbrev pub beats_of : {P : Type 0} → Phase P → ℕ
beats_of a = (phrase_of a).horizon.beats

module _ {P V : Type 0} (o : Ops V) (meaning : P → Meaning V) (need : P → ℕ → ℕ) where
  -- the law of a phrase at any stage, over the plant and the beats of `a`
  abbrev pub LeftOf : Phase P → Phase P → Run V → List V → Type 0
  LeftOf a b h s = Left o (meaning (phrase_of a).plant) (beats_of a) (need (phrase_of a).plant (beats_of a)) (stage_at b) h (table_of b) s

  -- one call and its answer
  pub record Advanced (a : Phase P) (c : Call V) (b : Phase P) (r : Answer V) (s s' : List V) : Type 0 where
    pub plant : (phrase_of b).plant ≡ (phrase_of a).plant
    pub beats : beats_of b ≡ beats_of a
    pub law : Step o (meaning (phrase_of a).plant) (beats_of a) (need (phrase_of a).plant (beats_of a)) (stage_at a) (stage_at b) (record { call = c; answer = r }) (table_of a) (table_of b) s s'

  -- a list of calls with their answers
  pub record PlayedFrom (a b : Phase P) (acts : List (Act V)) (s s' : List V) : Type 0 where
    pub plant : (phrase_of b).plant ≡ (phrase_of a).plant
    pub beats : beats_of b ≡ beats_of a
    pub law : (h : Run V) → LeftOf a a h s → LeftOf a b (played acts h) s'
