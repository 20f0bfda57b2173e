-- The tally as a count.
use Rattle.std.proofs.Common.{◌≡◌, suc, ◌+◌, List, refl, ap, cond, count_by, arith}
use Rattle.std.proofs.lemmas.List.Recursion.{is_count_by}
use Rattle.links.specs.declared.Sort.{Sort}
use Rattle.links.specs.declared.Link.{Link}
use Rattle.links.specs.Tallies.{same_sort, how_many}

pub how_many_is : {T : Type 0} (s : Sort) (ls : List (Link T)) → how_many s ls ≡ count_by (λ (l : Link T). same_sort s l.sort) ls
how_many_is {T} s =
    is_count_by (how_many {T = T} s) (λ (l : Link T). same_sort s l.sort) refl (λ l ls.
    let one : suc (how_many s ls) ≡ 1 + how_many s ls = omega arith in
    ap (λ n. cond (same_sort s l.sort) n (how_many s ls)) one)
