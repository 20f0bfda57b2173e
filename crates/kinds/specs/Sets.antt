-- The sets of the channels 0 to 15: channel c is bit c.
use Rattle.std.specs.Prelude.{◌≡◌, ℕ, ◌/◌, ◌%◌, ◌^◌, ◌<◌, Bool, not, ◌&&◌, ◌||◌, ◌==◌, bit_and, bit_or, bit_xor}
use Rattle.std.proofs.Common.{mod-lt, pow_pos}
use Rattle.kinds.specs.Kind.{Ops}
use Rattle.kinds.specs.declared.channels.Channels.{Channels}

-- the set whose channels are the low sixteen bits of n; every use has no other bits
abbrev pub of_bits : ℕ → Channels
of_bits n = record { bits = n % 2 ^ 16; ok = mod-lt n (pow_pos 16) }

abbrev pub set_ops : Ops Channels
set_ops = record {
  bottom = of_bits 0;
  one = of_bits 0xffff;
  top = of_bits 0xffff;
  join = λ a b. of_bits (bit_or a.bits b.bits);
  meet = λ a b. of_bits (bit_and a.bits b.bits);
  product = λ a b. of_bits (bit_and a.bits b.bits);
  residual = λ a b. of_bits (bit_or (bit_xor a.bits 0xffff) b.bits);
  at_most = λ a b. (bit_or a.bits b.bits == b.bits);
}

-- the set holds channel c
abbrev pub has : Channels → ℕ → Bool
has s c = s.bits / 2 ^ c % 2 == 1

-- join is union, meet and product are intersection, and the residual holds each channel outside a or in b
abbrev pub ByChannels : Type 0
ByChannels = (a b : Channels) (c : ℕ) → c < 16
    → (has (set_ops.join a b) c ≡ (has a c || has b c))
    × (has (set_ops.meet a b) c ≡ (has a c && has b c))
    × (has (set_ops.product a b) c ≡ (has a c && has b c))
    × (has (set_ops.residual a b) c ≡ (not (has a c) || has b c))
