use Rattle.std.proofs.Common.{rules}
use Rattle.texts.specs.NetLines.{header_line}
use Rattle.texts.proofs.nets.NetReader.read_header.Goals as goal

pub returns-clause-result : goal.returns-clause-result
returns-clause-result c = c.take.ensures.result header_line (λ line r h. search rules)
