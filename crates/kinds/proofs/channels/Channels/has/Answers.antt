use Rattle.kinds.proofs.ChannelSets.{by_channels, none_past}
use Rattle.kinds.proofs.channels.Channels.has.Goals as goal

pub returns-then-channel-ge16 : goal.returns-then-channel-ge16
returns-then-channel-ge16 c = record { answer = none_past c.args.self c.args.channel c.if-channel-ge16.true; words = by_channels }

pub returns-clause-words : goal.returns-clause-words
returns-clause-words c = by_channels
