use Rattle.std.proofs.Common.{◌≡◌, ◌-◌, ◌≤◌, length}
use Rattle.texts.specs.NetTexts.{links_from}
use Rattle.texts.proofs.nets.NetReader.read_links.Given as goal

-- what is left gives what the whole does
abbrev pub invariant-loop-link : goal.invariant-loop-link
invariant-loop-link g l = record {
  same : l.self.lines.text.now ≡ l.initial.self.lines.text.now;
  size : length l.table ≡ length l.initial.table;
  within : l.initial.count ≤ length l.initial.table → l.count ≤ length l.initial.table;
  after : links_from g.T.CardKind.reading l.counts l.initial.self.lines.text.now l.initial.self.lines.at l.initial.table l.initial.count
      ≡ links_from g.T.CardKind.reading l.counts l.self.lines.text.now l.self.lines.at l.table l.count;
}

abbrev pub decreases-loop-link : goal.decreases-loop-link
decreases-loop-link g l = length l.self.lines.text.now - l.self.lines.at.place
