-- What holds by the refusal.
use Rattle.kinds.specs.declared.refusals.Refusal.{Refusal}
use Rattle.kinds.specs.declared.refusals.Refusal.TheVariants.{Shape, Spelling, Range, Full, Circuit, Missing, Short, NoPlan, OrderOut, AllFixed, TooHigh, NoOrder}
use Rattle.runs.specs.Refusals.{by_refusal}

pub never : {A : Type 0} → ⊥ → A
never x = absurd x

pub why : {a b c d e f g : Type 0} (P : Refusal → Type 0) (w : Refusal) → by_refusal a b c d e f g w → (a → P Missing) → (b → P Short) → (c → P NoPlan) → (d → P OrderOut) → (e → P AllFixed) → (f → P TooHigh) → (g → P NoOrder) → P w
why P Shape t pa pb pc pd pe pf pg = absurd t
why P Spelling t pa pb pc pd pe pf pg = absurd t
why P Range t pa pb pc pd pe pf pg = absurd t
why P Full t pa pb pc pd pe pf pg = absurd t
why P Circuit t pa pb pc pd pe pf pg = absurd t
why P Missing t pa pb pc pd pe pf pg = pa t
why P Short t pa pb pc pd pe pf pg = pb t
why P NoPlan t pa pb pc pd pe pf pg = pc t
why P OrderOut t pa pb pc pd pe pf pg = pd t
why P AllFixed t pa pb pc pd pe pf pg = pe t
why P TooHigh t pa pb pc pd pe pf pg = pf t
why P NoOrder t pa pb pc pd pe pf pg = pg t
