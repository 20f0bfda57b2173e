use Rattle.std.proofs.Common.{rules}
use Rattle.texts.specs.NetTexts.{fitting}
use Rattle.texts.proofs.Walk.{spacious}
use Rattle.texts.proofs.nets.NetReader.next_link.Goals as goal

pub returns-clause-result : goal.returns-clause-result
returns-clause-result g c = c.next.ensures.result (fitting g.T.CardKind.reading c.args.counts c.args.space) (λ line r h. search rules)

pub returns-clause-space : goal.returns-clause-space
returns-clause-space g c =
    spacious g.T.CardKind.reading c.args.counts c.args.self.now.lines.text.now c.args.self.now.lines.at c.args.space c.next.result
    (c.next.ensures.result (fitting g.T.CardKind.reading c.args.counts c.args.space) (λ line r h. search rules))
