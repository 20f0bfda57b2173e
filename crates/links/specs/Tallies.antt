-- How many links of a sort stand in a table.
use Rattle.std.specs.Prelude.{ℕ, suc, Bool, true, false, cond, List, [], ◌∷◌}
use Rattle.links.specs.declared.Sort.{Sort}
use Rattle.links.specs.declared.Sort.TheVariants.{Place, Input, Output}
use Rattle.links.specs.declared.Link.{Link}

abbrev pub same_sort : Sort → Sort → Bool
same_sort Place Place = true
same_sort Place Input = false
same_sort Place Output = false
same_sort Input Place = false
same_sort Input Input = true
same_sort Input Output = false
same_sort Output Place = false
same_sort Output Input = false
same_sort Output Output = true

abbrev pub how_many : {T : Type 0} → Sort → List (Link T) → ℕ
how_many s [] = 0
how_many s (l ∷ ls) = cond (same_sort s l.sort) (suc (how_many s ls)) (how_many s ls)
