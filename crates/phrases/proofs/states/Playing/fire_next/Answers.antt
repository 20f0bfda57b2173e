use Rattle.std.proofs.Common.{[], ◌∷◌, Ok, Err, refl}
use Rattle.phrases.proofs.Following.{follows_then, order_then, fire_then, miss_then}
use Rattle.phrases.proofs.states.Playing.fire_next.Goals as goal

pub returns-in_default-clause-cells : goal.returns-in_default-clause-cells
returns-in_default-clause-cells g c =
    let t = rw c.in_default.is at c.take_order-ordered.ensures in
    order_then g.P.Value.Kind.ops g.P.Plant.meaning g.P.Plant.need _ _ _ _ _ _ (Err t.0) _ _ _ t.1 (refl, refl, refl)

pub returns-in-None-clause-cells : goal.returns-in-None-clause-cells
returns-in-None-clause-cells g c =
    let t = rw c.in-Some.is at c.take_order-ordered.ensures in
    let f = rw c.in-None.is at c.fire_order-fired.ensures in
    order_then g.P.Value.Kind.ops g.P.Plant.meaning g.P.Plant.need _ _ _ _ _ _ (Ok c.in-Some.order) _ _ _ t
    (fire_then g.P.Value.Kind.ops g.P.Plant.meaning g.P.Plant.need _ _ _ _ _ _ _ _ (Ok tt) _ _ f (refl, refl, refl))

pub returns-in-None-clause-law : goal.returns-in-None-clause-law
returns-in-None-clause-law g c =
    let t = rw c.in-Some.is at c.take_order-ordered.ensures in
    let f = rw c.in-None.is at c.fire_order-fired.ensures in
    let ph₁ = c.take_order-ordered.new.self.phrase in
    let ph₂ = c.fire_order-fired.new.self.phrase in
    let s₂ = c.fire_order-fired.new.sheet in
    follows_then g.P.Value.Kind.ops g.P.Plant.meaning g.P.Plant.need c.args.self.now.phrase ph₁ ph₂ _ (c.fire_order-fired.result.0 ∷ []) c.args.sheet.now c.args.sheet.now s₂ t.plant t.horizon t.law
    (follows_then g.P.Value.Kind.ops g.P.Plant.meaning g.P.Plant.need ph₁ ph₂ ph₂ _ [] c.args.sheet.now s₂ s₂ f.plant f.horizon f.law (λ h old. old))

pub returns-in-Some-back-clause-cells : goal.returns-in-Some-back-clause-cells
returns-in-Some-back-clause-cells g c =
    let t = rw c.in-Some.is at c.take_order-ordered.ensures in
    let f = rw c.in-Some-back.is at c.fire_order-fired.ensures in
    order_then g.P.Value.Kind.ops g.P.Plant.meaning g.P.Plant.need _ _ _ _ _ _ (Ok c.in-Some.order) _ _ _ t
    (fire_then g.P.Value.Kind.ops g.P.Plant.meaning g.P.Plant.need _ _ _ _ _ _ _ _ (Err f.0) _ _ f.1.1
    (miss_then g.P.Value.Kind.ops g.P.Plant.meaning g.P.Plant.need _ _ _ _ _ _ (rw f.1.0 at c.miss_order.ensures)))

pub returns-in-Some-back-clause-law : goal.returns-in-Some-back-clause-law
returns-in-Some-back-clause-law g c =
    let t = rw c.in-Some.is at c.take_order-ordered.ensures in
    let f = rw c.in-Some-back.is at c.fire_order-fired.ensures in
    let m = c.miss_order.ensures in
    let ph₁ = c.take_order-ordered.new.self.phrase in
    let ph₂ = c.fire_order-fired.new.self.phrase in
    let ph₃ = c.miss_order.new.self.phrase in
    let s₂ = c.fire_order-fired.new.sheet in
    let s₃ = c.miss_order.new.sheet in
    follows_then g.P.Value.Kind.ops g.P.Plant.meaning g.P.Plant.need c.args.self.now.phrase ph₁ ph₃ _ (c.fire_order-fired.result.0 ∷ c.miss_order.result ∷ []) c.args.sheet.now c.args.sheet.now s₃ t.plant t.horizon t.law
    (follows_then g.P.Value.Kind.ops g.P.Plant.meaning g.P.Plant.need ph₁ ph₂ ph₃ _ (c.miss_order.result ∷ []) c.args.sheet.now s₂ s₃ f.1.1.plant f.1.1.horizon f.1.1.law
    (follows_then g.P.Value.Kind.ops g.P.Plant.meaning g.P.Plant.need ph₂ ph₃ ph₃ _ [] s₂ s₃ s₃ m.plant m.horizon m.law (λ h old. old)))
