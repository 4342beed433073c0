-- Worked values of the definitions.
use Rattle.std.proofs.Common.{◌≡◌, pos, negsuc, [], refl, ◌-◌, ◌*◌, ◌^◌, replicate}
use Rattle.rx_laws.specs.Torus.{word, distance}
use Rattle.rx_laws.specs.Digits.{rounded, rests, digit}
use Rattle.rx_torus.specs.declared.kind.StreamKind.TheVariants.{SmallKey, BootMask, BlockNoise}
use Rattle.rand_core.specs.Steps.{u32_at}
use Rattle.rand_chacha.specs.Block.{quarter_round, column_round, diagonal_round, double_rounds, block_word}
use Rattle.rx_torus.specs.Streams.{torus_at, torus_word, draw, uniform, drawn_by, stream_of}
use Rattle.rx_torus.specs.Kinds.{stream_number}
use Rattle.rx_torus.specs.Offsets.{halves, offset}

-- the two ends of a draw have one word each, the others two
uniform-ends : (uniform 17 0 ≡ negsuc 131071) × (uniform 17 1 ≡ negsuc 131070) × (uniform 17 2 ≡ negsuc 131070) × (uniform 17 524286 ≡ pos 131071) × (uniform 17 524287 ≡ pos 131072)
unfolding uniform
uniform-ends = (refl, refl, refl, refl, refl)

-- the carry out of the first digit is dropped
digit-carry_dropped : (digit 12 2 0x8000_0000_0000_0000 0 ≡ negsuc 2047) × (digit 12 2 0x8000_0000_0000_0000 1 ≡ pos 0)
unfolding digit rests
digit-carry_dropped = (refl, refl)

digit-tie_and_carry_dropped : (digit 12 2 0x7FFF_FF80_0000_0000 0 ≡ negsuc 2047) × (digit 12 2 0x7FFF_FF80_0000_0000 1 ≡ pos 0)
unfolding digit rests
digit-tie_and_carry_dropped = (refl, refl)

digit-carry_kept : (digit 12 2 0x0008_0100_0000_0000 0 ≡ pos 1) × (digit 12 2 0x0008_0100_0000_0000 1 ≡ negsuc 2046)
unfolding digit rests
digit-carry_kept = (refl, refl)

digit-tie_wraps : (digit 12 2 0xFFFF_FF80_0000_0000 0 ≡ pos 0) × (digit 12 2 0xFFFF_FF80_0000_0000 1 ≡ pos 0)
unfolding digit rests
digit-tie_wraps = (refl, refl)

distance-ends : (distance (pos (2 ^ 64 - 1)) ≡ 1) × (distance (negsuc 0) ≡ 1) × (distance (pos (2 ^ 63)) ≡ 2 ^ 63)
unfolding distance word
distance-ends = (refl, refl, refl)

rounded-ties : (rounded (2 ^ 62) 1 ≡ 2 ^ 63) × (rounded (2 ^ 62 - 1) 1 ≡ 0) × (rounded (3 * 2 ^ 62) 1 ≡ 0)
rounded-ties = (refl, refl, refl)

-- a stream for each row of a kind
stream_numbers : (stream_number SmallKey 0 ≡ 0x1_0000_0000) × (stream_number BootMask 7 ≡ 0x3_0000_0007) × (stream_number BlockNoise 5 ≡ 0x8_0000_0005)
stream_numbers = (refl, refl, refl)

-- after its last word a stream begins again
last_draw : drawn_by 2 (record { key = []; number = 5; next = 2 ^ 67 - 1 }) ≡ record { key = []; number = 5; next = 1 }
last_draw = refl

two_draws : drawn_by 2 (drawn_by 1 (stream_of [] 5)) ≡ drawn_by 3 (stream_of [] 5)
two_draws = refl

-- the published key stream of the zero key
published : (torus_word (replicate 32 0) 0 0 ≡ 0x903d_f1a0_ade0_b876) × (torus_word (replicate 32 0) 0 1 ≡ 0x28bd_8653_e56a_5d40)
unfolding torus_at u32_at quarter_round column_round diagonal_round double_rounds block_word
published = (refl, refl)

second_draw : draw (drawn_by 1 (stream_of (replicate 32 0) 0)) 0 ≡ 0x28bd_8653_e56a_5d40
unfolding torus_at u32_at quarter_round column_round diagonal_round double_rounds block_word
second_draw = refl

-- half of each of two digits of twelve bits, and half of the last place below them
offset-two_digits : offset 12 2 ≡ 0x8008_0080_0000_0000
unfolding offset halves
offset-two_digits = refl
