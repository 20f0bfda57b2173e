use Rattle.std.proofs.Common.{codes, string_bytes}
use Rattle.card.specs.Reports.{row}
use Rattle.card.proofs.Rows.{three_on}
use Rattle.card.proofs.words.write_tallies.Goals as goal

pub returns : goal.returns
returns g c =
    rw (← c.count_sort.ensures, ← c.count_sort-2.ensures, ← c.count_sort-3.ensures)
    (three_on c.write_row-3.result (string_bytes c.args.out.now) (row (codes "places: ") c.count_sort.result)
    (row (codes "input links: ") c.count_sort-2.result) (row (codes "output links: ") c.count_sort-3.result) _ _ _
    c.in_ok-write_row.ensures c.in_ok-write_row-2.ensures c.write_row-3.ensures)
