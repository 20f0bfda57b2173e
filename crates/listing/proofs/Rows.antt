-- The line at an index of a block's lines.
use Rattle.std.proofs.Common.{◌≡◌, ℕ, zero, suc, ◌+◌, ◌/◌, ◌%◌, ◌<◌, ◌≤◌, List, [], ◌∷◌, length, get_or, Some, None, sym, refl, ap, ◌∙◌, add-zero, arith}
use Rattle.listing.specs.declared.lines.Block.{Block}
use Rattle.listing.specs.declared.lines.CardLine.TheVariants.{Cell}
use Rattle.std.specs.List.{slice_get}
use Rattle.listing.specs.BlockLines.{lines_at}

pub get_is : {A : Type 0} (xs : List A) (i : ℕ) (d : A) → i < length xs → slice_get xs i ≡ Some (get_or xs i d)
get_is [] i d h = absurd (omega arith)
get_is (x ∷ xs) zero d h = refl
get_is (x ∷ xs) (suc i) d h = get_is xs i d (omega arith)

pub lines_past : {T : Type 0} (b : Block) (k n : ℕ) (xs : List T) (i : ℕ) → length xs ≤ i → slice_get (lines_at b k n xs) i ≡ None
lines_past b k n [] i h = refl
lines_past b k n (x ∷ xs) zero h = absurd (omega arith)
lines_past b k n (x ∷ xs) (suc i) h = lines_past b k (n + 1) xs i (omega arith)

pub lines_in : {T : Type 0} (b : Block) (k n : ℕ) (xs : List T) (i : ℕ) (x : T)
    → slice_get xs i ≡ Some x → slice_get (lines_at b k n xs) i ≡ Some (Cell b ((n + i) / k) ((n + i) % k) x)
lines_in b k n [] i x e = cc
lines_in b k n (y ∷ ys) zero x e =
    let h : y ≡ x = cc in
    ap (λ z. Some (Cell b (n / k) (n % k) z)) h ∙ ap (λ (j : ℕ). Some (Cell b (j / k) (j % k) x)) (sym (add-zero n))
lines_in b k n (y ∷ ys) (suc i) x e =
    lines_in b k (n + 1) ys i x e ∙ ap (λ (j : ℕ). Some (Cell b (j / k) (j % k) x)) (omega arith)
