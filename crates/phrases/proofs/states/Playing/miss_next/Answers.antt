use Rattle.std.proofs.Common.{[], ◌∷◌, Ok, Err, refl}
use Rattle.phrases.proofs.Following.{follows_then, order_then, miss_then}
use Rattle.phrases.proofs.states.Playing.miss_next.Goals as goal

pub returns-in-None-clause-cells : goal.returns-in-None-clause-cells
returns-in-None-clause-cells g c =
    let t = rw c.in-None.is at c.take_order-ordered.ensures in
    order_then g.P.Value.Kind.ops g.P.Plant.meaning g.P.Plant.need _ _ _ _ _ _ (Err t.0) _ _ _ t.1 (refl, refl, refl)

pub returns-in-Some-clause-cells : goal.returns-in-Some-clause-cells
returns-in-Some-clause-cells g c =
    let t = rw c.in-Some.is at c.take_order-ordered.ensures in
    order_then g.P.Value.Kind.ops g.P.Plant.meaning g.P.Plant.need _ _ _ _ _ _ (Ok c.in-Some.order) _ _ _ t
    (miss_then g.P.Value.Kind.ops g.P.Plant.meaning g.P.Plant.need _ _ _ _ _ _ c.miss_order.ensures)

pub returns-in-Some-clause-law : goal.returns-in-Some-clause-law
returns-in-Some-clause-law g c =
    let t = rw c.in-Some.is at c.take_order-ordered.ensures in
    let m = c.miss_order.ensures in
    let ph₁ = c.take_order-ordered.new.self.phrase in
    let ph₂ = c.miss_order.new.self.phrase in
    let s₂ = c.miss_order.new.sheet in
    follows_then g.P.Value.Kind.ops g.P.Plant.meaning g.P.Plant.need c.args.self.now.phrase ph₁ ph₂ _ (c.miss_order.result ∷ []) c.args.sheet.now c.args.sheet.now s₂ t.plant t.horizon t.law
    (follows_then g.P.Value.Kind.ops g.P.Plant.meaning g.P.Plant.need ph₁ ph₂ ph₂ _ [] c.args.sheet.now s₂ s₂ m.plant m.horizon m.law (λ h old. old))
