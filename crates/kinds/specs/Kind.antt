-- A value kind: its operations, its order and its laws.
use Rattle.std.specs.Prelude.{◌≡◌, Bool, true, ◌↔◌}

-- `at_most` is the question that code can ask
pub record Ops (T : Type 0) : Type 0 where
  pub bottom : T
  pub one : T
  pub top : T
  pub join : T → T → T
  pub meet : T → T → T
  pub product : T → T → T
  pub residual : T → T → T
  pub at_most : T → T → Bool

-- a is at most b exactly when the join of a and b is b
abbrev pub AtMost : {T : Type 0} → Ops T → T → T → Type 0
AtMost o a b = o.join a b ≡ b

pub record Laws {T : Type 0} (o : Ops T) : Type 0 where
  pub join_assoc : (a b c : T) → o.join (o.join a b) c ≡ o.join a (o.join b c)
  pub join_comm : (a b : T) → o.join a b ≡ o.join b a
  pub join_idem : (a : T) → o.join a a ≡ a
  pub join_bottom : (a : T) → o.join o.bottom a ≡ a
  -- the question answers just "at most"
  pub answers : (a b : T) → (o.at_most a b ≡ true) ↔ AtMost o a b
  pub below_top : (a : T) → AtMost o a o.top
  -- the meet is the greatest lower bound
  pub below_meet : (x a b : T) → AtMost o x (o.meet a b) ↔ (AtMost o x a × AtMost o x b)
  pub product_assoc : (a b c : T) → o.product (o.product a b) c ≡ o.product a (o.product b c)
  pub product_comm : (a b : T) → o.product a b ≡ o.product b a
  pub product_join : (a b c : T) → o.product a (o.join b c) ≡ o.join (o.product a b) (o.product a c)
  pub product_one : (a : T) → o.product o.one a ≡ a
  pub product_bottom : (a : T) → o.product o.bottom a ≡ o.bottom
  -- the product of a and x is at most b exactly when x is at most the residual of a and b
  pub residuation : (a x b : T) → AtMost o (o.product a x) b ↔ AtMost o x (o.residual a b)
