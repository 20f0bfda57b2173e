use Rattle.std.proofs.Common.{rules}
use Rattle.texts.specs.Scores.{beats_line}
use Rattle.texts.proofs.scores.ScoreReader.read_beats.Goals as goal

pub returns-clause-result : goal.returns-clause-result
returns-clause-result c = c.take.ensures.result beats_line (λ line r h. search rules)
