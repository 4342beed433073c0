-- The sums for either rotation, by its numbers of turns and of encrypted bits.
use Rattle.std.proofs.Common.{◌≡◌, ℕ, ◌+◌, ◌-◌, ◌*◌, ◌/◌, ◌^◌, max, refl, ap, arith}
use Rattle.rx_params.specs.declared.params.Params.{Params}
use Rattle.rx_params.specs.declared.bounds.Bounds.{Bounds}
use Rattle.rx_params.specs.declared.rotation.Rotation.{Rotation}
use Rattle.rx_params.specs.declared.rotation.Rotation.TheVariants.{Bits, Pairs}
use Rattle.rx_params.specs.Derived.{turn_count, encrypted_count, noise_count, words_with, key_words, pair_words, words_by, step_with, step_of, pair_step_of, step_by, boot_of, pair_boot_of, base_with, base_of, pair_base_of, left_with, left_of, pair_left_of, bounds_with, bounds_by}

pub words_by-with : (r : Rotation) (p : Params) → words_by r p ≡ words_with (encrypted_count r p) p
unfolding key_words pair_words
words_by-with Bits p = refl
words_by-with Pairs p = refl

pub step_by-with : (r : Rotation) (p : Params) → step_by r p ≡ step_with (noise_count r * 2 ^ p.glwe_bound) p
unfolding step_of pair_step_of
step_by-with Bits p = let once : 2 ^ p.glwe_bound ≡ 1 * 2 ^ p.glwe_bound = omega arith in ap (λ noise. step_with noise p) once
step_by-with Pairs p = refl

-- all sums come from the noise of a turn
abbrev pub bounds_from : ℕ → ℕ → Params → Bounds
bounds_from step boot p = bounds_with step boot (base_with boot p) (left_with (base_with boot p) p) p

pub bounds_by-from : (r : Rotation) (p : Params) → bounds_by r p ≡ bounds_from (step_by r p) (turn_count r p * step_by r p) p
unfolding boot_of pair_boot_of base_of pair_base_of left_of pair_left_of
bounds_by-from Bits p = refl
bounds_by-from Pairs p = refl
