-- Where the cells of a leg lie.
use Rattle.std.proofs.Common.{◌≡◌, ℕ, ◌+◌, ◌-◌, ◌*◌, ◌<◌, ◌≤◌, true, leb, arith}
use Rattle.std.proofs.lemmas.Bool.{and_parts, leb-true}
use Rattle.std.proofs.lemmas.Nat.{mul-add-lt}
use Rattle.links.specs.Takes.{delayed}
use Rattle.links.specs.declared.Link.{Link}
use Rattle.routes.specs.Ways.{tail, head}
use Rattle.links.proofs.Ends.{delayed_some}
use Rattle.routes.proofs.Ends.{tail_ends, wait_ends, into_ends, out_ends}
use Rattle.nets.specs.Stages.{takes_part, source, target, asked_at, Laid}
use Rattle.nets.specs.declared.stage.Leg.{Leg}
use Rattle.nets.specs.declared.stage.Leg.TheVariants.{Into, Wait, Glide, Out}
use Rattle.nets.specs.declared.stage.Stage.{Stage}
use Rattle.nets.proofs.Rows.{row_end, turn_row}

module _ (g : Stage) (end : ℕ) (laid : Laid g end) where
  -- a given cell of the turn's beat, and a cell asked for, stand before the working cells
  pub given_below : (w : ℕ) → w < g.reads → g.given + (w * g.beats + g.beat) < g.working
  given_below w h = let i = laid.given_fits in omega (arith, mul-add-lt w g.beats g.beat g.reads h laid.beat_within)

  pub asked_below : (w : ℕ) → w < g.writes → asked_at g w < g.working
  asked_below w h = let i = laid.asked_fits in omega (arith, mul-add-lt w g.beats g.beat g.writes h laid.beat_within)

module _ {T : Type 0} (g : Stage) (end : ℕ) (laid : Laid g end) where
  pub wait_parts : (l : Link T) → takes_part Wait g l ≡ true → (tail g.way l < g.n) × (head g.way l < g.n) × (0 < l.tokens) × (l.tokens ≤ g.turn)
  wait_parts l on =
      let a = and_parts (delayed g.n l) (leb l.tokens g.turn) on in
      let e = wait_ends g.way g.n l a.0 in
      (e.0, e.1, delayed_some g.n l a.0, leb-true l.tokens g.turn a.1)

  pub wait_source : (l : Link T) → takes_part Wait g l ≡ true → source Wait g l < g.working + g.turn * g.n
  wait_source l on =
      let e = wait_parts l on in
      let less : g.turn - l.tokens < g.turn = omega arith in
      omega (arith, mul-add-lt (g.turn - l.tokens) g.n (tail g.way l) g.turn less e.0)

  pub target_below : (leg : Leg) (l : Link T) → takes_part leg g l ≡ true → target leg g l < end
  target_below Into l on = let f = into_ends g.way g.n g.reads l on in let r = row_end g end laid in let b = turn_row g end laid in omega arith
  target_below Wait l on = let f = wait_parts l on in let r = row_end g end laid in let b = turn_row g end laid in omega arith
  target_below Glide l on = let f = tail_ends g.way g.n l on in let r = row_end g end laid in let b = turn_row g end laid in omega arith
  target_below Out l on = let q = asked_below g end laid (head g.way l) (out_ends g.way g.n g.writes l on).1 in let r = row_end g end laid in omega arith

  -- no link reads a cell that one writes in the same leg
  pub reads_apart : (leg : Leg) (l k : Link T) → takes_part leg g l ≡ true → takes_part leg g k ≡ true → target leg g k ≡ source leg g l → ⊥
  reads_apart Into l k on kon e = let q = given_below g end laid (tail g.way l) (into_ends g.way g.n g.reads l on).0 in omega arith
  reads_apart Wait l k on kon e = let q = wait_source l on in omega arith
  reads_apart Glide l k on kon e = let f = tail_ends g.way g.n k kon in let b = turn_row g end laid in omega arith
  reads_apart Out l k on kon e = let q = asked_below g end laid (head g.way k) (out_ends g.way g.n g.writes k kon).1 in omega arith
