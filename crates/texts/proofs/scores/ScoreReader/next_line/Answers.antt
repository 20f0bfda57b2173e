use Rattle.std.proofs.Common.{rules}
use Rattle.texts.specs.Scores.{score_line}
use Rattle.texts.proofs.scores.ScoreReader.next_line.Goals as goal

pub returns-clause-result : goal.returns-clause-result
returns-clause-result g c = c.next.ensures.result (score_line g.T.CardKind.reading) (λ line r h. search rules)
