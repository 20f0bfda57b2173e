-- The four legs of a turn together, and the cells made blank before the first.
use Rattle.std.proofs.Common.{◌≡◌, ℕ, ◌+◌, ◌-◌, ◌*◌, ◌<◌, List, length, sym, ap, ◌∙◌, ap₂, add-mul, arith}
use Rattle.std.proofs.lemmas.Nat.{mul-add-lt}
use Rattle.kinds.specs.Kind.{Ops, Laws}
use Rattle.links.specs.declared.Link.{Link}
use Rattle.plants.specs.Calls.{Outside, Flooded}
use Rattle.routes.specs.Ways.{none, both, along, tail, head, out}
use Rattle.routes.proofs.Lists.{acting_same}
use Rattle.routes.proofs.Turns.{relaxed_same}
use Rattle.nets.specs.Stages.{cell, row_cell, asked_at, Laid, Swept}
use Rattle.nets.specs.Turns.{Settled, Played, Blank}
use Rattle.nets.specs.declared.stage.Leg.TheVariants.{Into, Wait, Out}
use Rattle.nets.specs.declared.stage.Stage.{Stage}
use Rattle.nets.proofs.Geometry.{asked_below}
use Rattle.nets.proofs.Legs.{asked_out, into_kept, wait_kept, out_kept, row_fed}

module _ {T : Type 0} {o : Ops T} (laws : Laws o) (g : Stage) (end : ℕ) (laid : Laid g end) (links : List (Link T)) (s0 s1 s2 s3 s4 : List T)
    (first : Swept o Into g links s0 s1) (wait : Swept o Wait g links s1 s2) (settled : Settled o g links (g.n - 1) s2 s3) (last : Swept o Out g links s3 s4) where
  before_out : (a : ℕ) → Outside (g.working + g.turn * g.n) g.n a → Outside (g.working + g.beats * g.n) g.n a → cell o s3 a ≡ cell o s0 a
  before_out a r q = settled.others a r q ∙ wait_kept laws g end laid links s1 s2 wait a r ∙ into_kept laws g end laid links s0 s1 first a r

  out_rows : (t : ℕ) → row_cell o g s4 t ≡ row_cell o g s3 t
  out_rows t = out_kept laws g end laid links s3 s4 last (g.working + (g.turn * g.n + t)) (λ w h e. let b = asked_below g end laid w h in omega arith)

  pub plays : ((t : ℕ) → t < g.n → row_cell o g s0 t ≡ none o g.way) → Played o g links s0 s4
  plays clear = record {
    row = λ t h. out_rows t ∙ settled.row t h
        ∙ relaxed_same o g.way g.n links (g.n - 1) _ _ (λ f fn. row_fed laws g end laid links s0 s1 s2 first wait f (clear f fn)) t h;
    strikes = λ w h.
        let b = asked_below g end laid w h in
        asked_out laws g end laid links s3 s4 last w
        ∙ ap₂ (both o g.way) (before_out (asked_at g w) (λ p q. omega arith) (λ p q. omega arith))
        (acting_same (none o g.way) (both o g.way) (out g.way g.n g.writes) (head g.way) _ _ links w (λ l on. ap (along o g.way l.value) (sym (out_rows (tail g.way l)))));
    others = λ a r q beyond. out_kept laws g end laid links s3 s4 last a beyond ∙ before_out a r q;
  }

module _ {T : Type 0} (o : Ops T) (g : Stage) (s0 s1 s2 : List T) (laid : Laid g (length s0)) (len : length s1 ≡ length s0)
    (first : Flooded o g.asked (g.writes * g.beats) (none o g.way) s0 s1) (second : Flooded o g.working ((g.beats + 1) * g.n) (none o g.way) s1 s2) where
  pub blanked : Blank o g s0 s2
  blanked =
      let fits = laid.asked_fits in
      let all = laid.working_fits in
      record {
        rows = λ k t h lt. let low = mul-add-lt k g.n t g.beats h lt in let more = add-mul g.beats 1 g.n in
            second.inside (g.working + (k * g.n + t)) (omega arith) (omega arith) (omega arith);
        asked = λ w k h lt. let low = mul-add-lt w g.beats k g.writes h lt in
            second.outside (g.asked + (w * g.beats + k)) (λ a b. omega arith) ∙ first.inside (g.asked + (w * g.beats + k)) (omega arith) (omega arith) (omega arith);
        others = λ a beyond work. second.outside a work ∙ first.outside a beyond;
      }
