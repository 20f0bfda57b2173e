-- Joins and meets over a list, and values that count only where a test passes.
use Rattle.std.specs.Prelude.{Bool, cond, List, [], ◌∷◌}
use Rattle.kinds.specs.Kind.{Ops}

-- f x for each x of a list, put together by `op`; e for the empty list
abbrev pub fold : {T L : Type 0} → T → (T → T → T) → (L → T) → List L → T
fold e op f [] = e
fold e op f (x ∷ xs) = op (f x) (fold e op f xs)

-- the value where the test passes, and bottom elsewhere
abbrev pub gate : {T : Type 0} → Ops T → Bool → T → T
gate o b x = cond b x o.bottom

-- the join of f x over the x of a list
abbrev pub joined : {T L : Type 0} → Ops T → (L → T) → List L → T
joined o f xs = fold o.bottom o.join f xs

-- the value where the test passes, and top elsewhere
abbrev pub pass : {T : Type 0} → Ops T → Bool → T → T
pass o b x = cond b x o.top

-- the meet of f x over the x of a list
abbrev pub met : {T L : Type 0} → Ops T → (L → T) → List L → T
met o f xs = fold o.top o.meet f xs
