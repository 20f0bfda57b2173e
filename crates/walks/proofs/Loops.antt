-- Circuits of any length.
use Rattle.std.proofs.Common.{◌≡◌, ℕ, zero, suc, ◌+◌, ◌<◌, List, [], ◌∷◌, ◌++◌, length, sym, refl, ap, ◌∙◌, subst, ap₂, ⊎_elim, arith, length-append}
use Rattle.std.proofs.lemmas.Bool.{cases_lt}
use Rattle.plants.proofs.Order.{least_trans, product_mono, product_mono_left}
use Rattle.walks.proofs.Pigeons.{pigeons, Twice}
use Rattle.kinds.specs.Kind.{Ops, Laws, AtMost}
use Rattle.walks.specs.Walks.{gain, AllBelow, WalksPass, WalksPassTo}

pub all_left : (n : ℕ) (xs ys : List ℕ) → AllBelow n (xs ++ ys) → AllBelow n xs
all_left n [] ys h = tt
all_left n (x ∷ xs) ys h = (h.0, all_left n xs ys h.1)

pub all_right : (n : ℕ) (xs ys : List ℕ) → AllBelow n (xs ++ ys) → AllBelow n ys
all_right n [] ys h = h
all_right n (x ∷ xs) ys h = all_right n xs ys h.1

pub all_join : (n : ℕ) (xs ys : List ℕ) → AllBelow n xs → AllBelow n ys → AllBelow n (xs ++ ys)
all_join n [] ys a b = b
all_join n (x ∷ xs) ys a b = (a.0, all_join n xs ys a.1 b)

module _ {T : Type 0} {o : Ops T} (laws : Laws o) (A : ℕ → ℕ → T) where
  pub gain_cut : (a : ℕ) (xs : List ℕ) (v : ℕ) (ys : List ℕ) (b : ℕ) → gain o A a (xs ++ v ∷ ys) b ≡ o.product (gain o A a xs v) (gain o A v ys b)
  gain_cut a [] v ys b = refl
  gain_cut a (x ∷ xs) v ys b = ap (o.product (A a x)) (gain_cut x xs v ys b) ∙ sym (laws.product_assoc (A a x) (gain o A x xs v) (gain o A v ys b))

  -- a circuit whose transitions hold one twice has a gain of at most one if the shorter circuits have
  shorter : (n t : ℕ) (ts : List ℕ) → t < n → AllBelow n ts
      → ((s : ℕ) (ss : List ℕ) → s < n → AllBelow n ss → length ss < length ts → AtMost o (gain o A s ss s) o.one)
      → Twice (t ∷ ts) → AtMost o (gain o A t ts t) o.one
  shorter n t ts tn all ih ([], v, between, after, e) =
      let tv : t ≡ v = cc in
      let tl : ts ≡ between ++ v ∷ after = cc in
      let all' : AllBelow n (between ++ v ∷ after) = subst (AllBelow n) tl all in
      let long : length ts ≡ length between + suc (length after) = ap length tl ∙ length-append between (v ∷ after) in
      let vn : v < n = omega arith in
      let a = ih v between vn (all_left n between (v ∷ after) all') (omega arith) in
      let b = ih v after vn (all_right n between (v ∷ after) all').1 (omega arith) in
      let cut : gain o A t ts t ≡ o.product (gain o A v between v) (gain o A v after v) = ap₂ (λ s ss. gain o A s ss s) tv tl ∙ gain_cut v between v after v in
      subst (λ g. AtMost o g o.one) (sym cut)
      (least_trans laws _ (o.product o.one (gain o A v after v)) o.one (product_mono_left laws _ o.one (gain o A v after v) a)
      (subst (λ g. AtMost o g o.one) (sym (laws.product_one (gain o A v after v))) b))
  shorter n t ts tn all ih (x ∷ bs, v, between, after, e) =
      let tl : ts ≡ bs ++ v ∷ (between ++ v ∷ after) = cc in
      let all' : AllBelow n (bs ++ v ∷ (between ++ v ∷ after)) = subst (AllBelow n) tl all in
      let long : length ts ≡ length bs + suc (length (between ++ v ∷ after)) = ap length tl ∙ length-append bs (v ∷ (between ++ v ∷ after)) in
      let long2 : length (between ++ v ∷ after) ≡ length between + suc (length after) = length-append between (v ∷ after) in
      let long3 : length (bs ++ v ∷ after) ≡ length bs + suc (length after) = length-append bs (v ∷ after) in
      let rest = all_right n bs (v ∷ (between ++ v ∷ after)) all' in
      let a = ih v between rest.0 (all_left n between (v ∷ after) rest.1) (omega arith) in
      let b = ih t (bs ++ v ∷ after) tn (all_join n bs (v ∷ after) (all_left n bs (v ∷ (between ++ v ∷ after)) all') (all_right n between (v ∷ after) rest.1)) (omega arith) in
      let cut : gain o A t ts t ≡ o.product (gain o A t bs v) (o.product (gain o A v between v) (gain o A v after t)) =
      ap (λ ss. gain o A t ss t) tl ∙ gain_cut t bs v (between ++ v ∷ after) t ∙ ap (o.product (gain o A t bs v)) (gain_cut v between v after t)
      in
      let drop-loop : AtMost o (o.product (gain o A v between v) (gain o A v after t)) (gain o A v after t) =
      subst (AtMost o (o.product (gain o A v between v) (gain o A v after t))) (laws.product_one (gain o A v after t)) (product_mono_left laws (gain o A v between v) o.one (gain o A v after t) a)
      in
      subst (λ g. AtMost o g o.one) (sym cut)
      (least_trans laws _ (o.product (gain o A t bs v) (gain o A v after t)) o.one (product_mono laws (gain o A t bs v) _ (gain o A v after t) drop-loop)
      (subst (λ g. AtMost o g o.one) (gain_cut t bs v after t) b))

  pass_fuel : (n : ℕ) → WalksPassTo o n A n → (fuel t : ℕ) (ts : List ℕ) → t < n → AllBelow n ts → length ts < fuel → AtMost o (gain o A t ts t) o.one
  pass_fuel n short zero t ts tn all h = absurd (omega arith)
  pass_fuel n short (suc f) t ts tn all h =
      ⊎_elim (λ lt. short t ts tn all lt)
      (λ ge. shorter n t ts tn all (λ s ss sn sall less. pass_fuel n short f s ss sn sall (omega arith)) (pigeons n (t ∷ ts) (tn, all) (omega arith)))
      (cases_lt (length ts) n)

  -- circuits of at most n places decide
  pub all_pass : (n : ℕ) → WalksPassTo o n A n → WalksPass o n A
  all_pass n short t ts tn all = pass_fuel n short (suc (length ts)) t ts tn all (omega arith)
