pub mod ChannelSets
pub mod Hex
