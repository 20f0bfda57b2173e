-- Where the cells of a sheet lie.
use Rattle.std.proofs.Common.{◌≡◌, ℕ, zero, suc, ◌+◌, ◌*◌, ◌/◌, ◌%◌, ◌<◌, ◌≤◌, true, false, ◌&&◌, eqb, ltb, List, [], ◌∷◌, set, sym, refl, ap, ◌∙◌, inr, mul_comm, add-mul, arith}
use Rattle.std.proofs.lemmas.Bool.{and_parts, ltb-true, eqb-true}
use Rattle.plants.specs.Fits.{Fits}
use Rattle.plants.specs.Meaning.{Meaning, Counted}
use Rattle.phrases.specs.Promises.{fixed_in}
use Rattle.phrases.specs.declared.states.Phrase.{Phrase}
use Rattle.phrases.specs.Orders.{lane_at, is_out}
use Rattle.phrases.specs.declared.lanes.Lane.{Lane}
use Rattle.phrases.specs.declared.lanes.Order.{Order}
use Rattle.std.proofs.lemmas.Nat.{mul-add-lt, div-mul-add, mod-mul-add}
use Rattle.phrases.specs.Sheets.{plan_at, strikes_at, spare_at, working_at, whole}

pub cell_in : (w K i b : ℕ) → i < w → b < K → i * K + b < w * K
cell_in w K i b hi hb = omega (arith, mul-add-lt i K b w hi hb, mul_comm K w)

pub place_inj : (K a c y k : ℕ) → c < K → k < K → a * K + c ≡ y * K + k → (a ≡ y) × (c ≡ k)
place_inj K a c y k hc hk e =
    (sym (div-mul-add a K c hc) ∙ ap (λ n. n / K) e ∙ div-mul-add y K k hk, sym (mod-mul-add a K c hc) ∙ ap (λ n. n % K) e ∙ mod-mul-add y K k hk)

-- the blocks lie one after the other
pub record Spread (p m K need : ℕ) : Type 0 where
  pub at_strikes : strikes_at p m K ≡ p * K + m * K
  pub at_spare : spare_at p m K ≡ p * K + m * K + p * K
  pub at_working : working_at p m K ≡ p * K + m * K + p * K + m * K
  pub in_all : whole p m K need ≡ p * K + m * K + p * K + m * K + need

pub spread : (p m K need : ℕ) → Spread p m K need
spread p m K need = record {
  at_strikes = add-mul p m K;
  at_spare = omega (arith, add-mul p m K, add-mul (p + m) p K);
  at_working = omega (arith, add-mul p m K, add-mul (p + m) p K, add-mul (p + m + p) m K);
  in_all = omega (arith, add-mul p m K, add-mul (p + m) p K, add-mul (p + m + p) m K);
}

-- a cell of each block lies in the sheet
pub plan_cell_in : (p m K need n i b : ℕ) → whole p m K need ≤ n → i < m → b < K → plan_at p m K + (i * K + b) < n
plan_cell_in p m K need n i b h hi hb = let s = spread p m K need in omega (arith, cell_in m K i b hi hb, s.in_all)

-- the places of the call that writes the ceiling
pub climb_fits : (p m K need len : ℕ) → whole p m K need ≤ len → Fits m p K need (record { input = spare_at p m K; output = 0; working = working_at p m K }) len
climb_fits p m K need len h = let s = spread p m K need in record {
  apart = inr (omega (arith, s.at_spare));
  input_before = omega (arith, s.at_spare, s.at_working);
  output_before = omega (arith, s.at_working);
  covered = h;
}

-- an order that is out here, and its cell
pub out_parts : (m : ℕ) (table : List Lane) (o : Order) → is_out m table o ≡ true → (o.input < m) × ((lane_at table o.input).out ≡ true) × ((lane_at table o.input).fixed ≡ o.beat + 1)
out_parts m table o out =
    let one = and_parts (ltb o.input m) ((lane_at table o.input).out && eqb (lane_at table o.input).fixed (o.beat + 1)) out in
    let two = and_parts (lane_at table o.input).out (eqb (lane_at table o.input).fixed (o.beat + 1)) one.1 in
    (ltb-true _ _ one.0, two.0, eqb-true _ _ two.1)

pub out_cell : (m k : ℕ) (table : List Lane) (o : Order) → m ≤ 16 → ((i : ℕ) → i < 16 → (lane_at table i).fixed ≤ k) → is_out m table o ≡ true → (o.input < m) × (o.beat < k)
out_cell m k table o few within out =
    let p = out_parts m table o out in
    let here : o.input < m = p.0 in
    let top : (lane_at table o.input).fixed ≤ k = within o.input (omega arith) in
    (here, omega (arith, p.2))

pub same_fixed : (table : List Lane) (n i : ℕ) → (lane_at (set table n (record { fixed = (lane_at table n).fixed; out = false })) i).fixed ≡ (lane_at table i).fixed
same_fixed [] n i = refl
same_fixed (l ∷ ls) zero zero = refl
same_fixed (l ∷ ls) zero (suc i) = refl
same_fixed (l ∷ ls) (suc n) zero = refl
same_fixed (l ∷ ls) (suc n) (suc i) = same_fixed ls n i

-- the fixed beats of an input of the phrase
pub few_fixed : {P V : Type 0} (M : Meaning V) (ph : Phrase P) → Counted M → (i : ℕ) → i < M.inputs → fixed_in ph i ≤ ph.horizon.beats
few_fixed M ph counted i hi = let many = counted.few_inputs in ph.within i (omega arith)
