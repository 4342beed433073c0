-- Worked values of the sums and of the refusals.
use Rattle.std.proofs.Common.{◌≡◌, ◌-◌, ◌^◌, true, false, Ok, Err, Some, None, refl}
use Rattle.std.specs.Prelude.{codes}
use Rattle.rx_params.specs.declared.kind.Kind.TheVariants.{Int, Bit}
use Rattle.rx_params.specs.declared.bounds.Refused.TheVariants.{Limit, NarrowBox, Noise}
use Rattle.rx_params.specs.Derived.{large_dim, noise_limit, key_words, pair_words, rest_of, step_of, pair_step_of, boot_of, pair_boot_of, base_of, pair_base_of, switch_of, round_of, left_of, pair_left_of, right_of, pair_bounds_of}
use Rattle.rx_params.specs.Acceptance.{refusal_of, pair_refusal_of, checked, pair_checked}
use Rattle.rx_params.specs.Sets.{set_of, rx_2_2, rx_test, rx_3_3, rx_k2, named_of}
use Rattle.rx_params.specs.Kinds.{greatest, block_count, is_form, digit_at}

checked-rx_2_2 : checked rx_2_2 ≡ Ok (record {
  step = 282574488338432;
  boot = 6781787720122368;
  base = 6781787720122368;
  switch = 281500746514432;
  round = 225179981368524800;
  left = 259370420715651072;
  right = 288230376151711744;
})
unfolding key_words rest_of step_of boot_of base_of switch_of round_of left_of refusal_of
checked-rx_2_2 = refl

left_of-named : (left_of rx_test ≡ 167932821841641472) × (left_of rx_k2 ≡ 173708569307250688) × (left_of rx_3_3 ≡ 57084679840333824) × (right_of rx_3_3 ≡ 72057594037927936)
unfolding rest_of step_of boot_of base_of switch_of round_of left_of
left_of-named = (refl, refl, refl, refl)

-- more bits of the small key: the last that is accepted, and the first that is not
left_of-bits : (left_of (set_of 2 1 512 26 12 2 4 6 17 20) ≡ 280210564108517376) × (left_of (set_of 2 1 512 31 12 2 4 6 17 20) ≡ 332310922590683136) × (round_of (set_of 2 1 512 31 12 2 4 6 17 20) ≡ 288230376151711744)
unfolding rest_of step_of boot_of base_of switch_of round_of left_of
left_of-bits = (refl, refl, refl)

checked-one_bit_more : checked (set_of 2 1 512 27 12 2 4 6 17 20) ≡ Err (Noise 290630635804950528 288230376151711744)
unfolding key_words rest_of step_of boot_of base_of switch_of round_of left_of refusal_of
checked-one_bit_more = refl

-- noise that is exactly its limit is refused
checked-equal : checked (set_of 2 1 64 1 5 3 5 3 40 38) ≡ Err (Noise 288230376151711744 288230376151711744)
unfolding key_words rest_of step_of boot_of base_of switch_of round_of left_of refusal_of
checked-equal = refl

checked-poly_size : checked (set_of 2 1 100 24 12 2 4 6 17 20) ≡ Err (Limit 3 100)
unfolding refusal_of
checked-poly_size = refl

checked-box : checked (set_of 3 1 64 24 12 3 5 6 17 20) ≡ Err (NarrowBox 64 64)
unfolding key_words refusal_of
checked-box = refl

-- ---- the same sets for the rotation by pairs
pair_checked-rx_2_2 : pair_checked rx_2_2 ≡ Ok (record {
  step = 285323267407872;
  boot = 3423879208894464;
  base = 3423879208894464;
  switch = 281500746514432;
  round = 225179981368524800;
  left = 242580878159511552;
  right = 288230376151711744;
})
unfolding pair_words rest_of pair_step_of pair_boot_of pair_base_of switch_of round_of pair_left_of pair_refusal_of
pair_checked-rx_2_2 = refl

pair_bounds-rx_test : (pair_step_of rx_test ≡ 142936511610880) × (pair_boot_of rx_test ≡ 571746046443520) × (pair_left_of rx_test ≡ 165129067190812672)
unfolding rest_of pair_step_of pair_boot_of pair_base_of switch_of round_of pair_left_of
pair_bounds-rx_test = (refl, refl, refl)

-- 28 bits are too many for bit after bit, and few enough for pairs
checked-28_bits : checked (set_of 2 1 512 28 12 2 4 6 17 20) ≡ Err (Noise 301050707501383680 288230376151711744)
unfolding key_words rest_of step_of boot_of base_of switch_of round_of left_of refusal_of
checked-28_bits = refl

pair_checked-28_bits : (pair_checked (set_of 2 1 512 28 12 2 4 6 17 20) ≡ Ok (pair_bounds_of (set_of 2 1 512 28 12 2 4 6 17 20))) × (pair_left_of (set_of 2 1 512 28 12 2 4 6 17 20) ≡ 281462907852554240)
unfolding pair_words rest_of pair_step_of pair_boot_of pair_base_of switch_of round_of pair_left_of pair_refusal_of
pair_checked-28_bits = (refl, refl)

-- 27 bits are no pairs, and a field before the bits is refused first
pair_checked-odd : (pair_checked (set_of 2 1 512 27 12 2 4 6 17 20) ≡ Err (Limit 4 27)) × (pair_checked (set_of 2 1 100 27 12 2 4 6 17 20) ≡ Err (Limit 3 100))
unfolding pair_refusal_of
pair_checked-odd = (refl, refl)

-- ---- sizes, names, and numbers as blocks
sizes : (large_dim rx_k2 ≡ 512) × (key_words rx_test ≡ 30208) × (key_words rx_2_2 ≡ 175104) × (pair_words rx_test ≡ 38400) × (noise_limit 2 ≡ 5) × (noise_limit 3 ≡ 9)
unfolding large_dim key_words pair_words
sizes = (refl, refl, refl, refl, refl, refl)

names : (named_of (codes "rx-3-3") ≡ Some rx_3_3) × (named_of (codes "rx-2-3") ≡ None) × (named_of (codes "rx-tes") ≡ None)
names = (refl, refl, refl)

-- 200 in blocks of two bits is 0, 2, 0, 3
digits_of_200 : (digit_at 2 200 0 ≡ 0) × (digit_at 2 200 1 ≡ 2) × (digit_at 2 200 2 ≡ 0) × (digit_at 2 200 3 ≡ 3) × (digit_at 2 (2 ^ 64 - 1) 31 ≡ 3) × (digit_at 3 (2 ^ 63 - 1) 20 ≡ 7)
digits_of_200 = (refl, refl, refl, refl, refl, refl)

-- 63 bits are 21 blocks of three, and 64 bits are none
blocks : (block_count Int 2 64 ≡ 32) × (block_count Int 3 63 ≡ 21) × (block_count Bit 3 1 ≡ 1) × (greatest Int 3 ≡ 7) × (greatest Bit 3 ≡ 1)
blocks = (refl, refl, refl, refl, refl)

forms : (is_form 3 Int 63 ≡ true) × (is_form 3 Int 64 ≡ false) × (is_form 2 Int 66 ≡ false) × (is_form 2 Int 0 ≡ false) × (is_form 2 Bit 1 ≡ true) × (is_form 2 Bit 2 ≡ false)
forms = (refl, refl, refl, refl, refl, refl)
