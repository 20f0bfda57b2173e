-- The cells of two slices, pair by pair.
use Rattle.std.proofs.Common.{Iter, ◌≡◌, List}
use Rattle.std.proofs.iter.Yields.{fronts}
use Rattle.std.proofs.lemmas.Iterator.{YieldsList, YieldsList-from_slice, YieldsList-from_zip, zips}
use Rattle.std.specs.Iterator.Adapters.{zip_first, zip_second}
use Rattle.std.specs.List.{zip}
use Rattle.std.specs.Slice.Iter.{iter_rest}
use Rattle.std.specs.declared.iter.Zip.{Zip}

-- what two slices give, one beside the other
pub pairs_yielded : {T : Type 0} (s : Zip (Iter T) (Iter T)) (xs ys : List T) → iter_rest (zip_first s) ≡ xs → iter_rest (zip_second s) ≡ ys
    → YieldsList (zips fronts fronts) (λ p. (p.0.now, p.1.now)) s (zip xs ys)
pairs_yielded s xs ys a b = YieldsList-from_zip (YieldsList-from_slice xs a) (YieldsList-from_slice ys b)
