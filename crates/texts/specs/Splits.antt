-- Lines and fields of a text.
use Rattle.std.specs.Prelude.{ℕ, cond, List, [], ◌∷◌, ◌==◌}
use Rattle.std.specs.List.{slice_split}

-- the bytes before the first c, or all
abbrev pub before : ℕ → List ℕ → List ℕ
before c [] = []
before c (b ∷ bs) = cond (b == c) [] (b ∷ before c bs)

-- the bytes after the first c, or none
abbrev pub after : ℕ → List ℕ → List ℕ
after c [] = []
after c (b ∷ bs) = cond (b == c) bs (after c bs)

-- the pieces between the c's
abbrev pub pieces : ℕ → List ℕ → List (List ℕ)
pieces c bs = slice_split (λ b. b == c) bs

-- Commas part the fields of a line.
abbrev pub fields : List ℕ → List (List ℕ)
fields line = pieces 44 line
