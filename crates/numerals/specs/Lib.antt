pub mod Decimals
pub mod Hexes
pub mod Texts
pub mod Backs
pub mod Numerals
pub mod Nibbles
pub mod Shown
