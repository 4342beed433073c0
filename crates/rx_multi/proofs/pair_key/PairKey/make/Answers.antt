use Rattle.std.proofs.Common.{ℕ, ◌*◌, ◌/◌, length, ap, sym, subst, ◌∙◌}
use Rattle.rx_lwe.specs.Secret.{small_key, large_key}
use Rattle.rx_lwe.specs.SwitchKeys.{SwitchRows, switch_key}
use Rattle.rx_params.specs.declared.rotation.Rotation.TheVariants.{Pairs}
use Rattle.rx_boot.proofs.Sizes.{some_coefficients}
use Rattle.rx_boot.proofs.RowWords.{key_rows-length}
use Rattle.rx_multi.specs.PairKeys.{PairWords, IsPairKey, pair_bits}
use Rattle.rx_multi.proofs.PairProducts.{pair_bits-length}
use Rattle.rx_multi.proofs.Keys.{made_key, made_near}
use Rattle.rx_multi.proofs.pair_key.PairKey.make.Goals as goal

pub encrypt_bits-requires-clause-bits_size : goal.encrypt_bits-requires-clause-bits_size
encrypt_bits-requires-clause-bits_size c =
    ap length (c.deref.ensures.value ∙ c.in_ok-bits.ensures) ∙ pair_bits-length c.bits.result.now
    ∙ ap (λ (n : ℕ). 3 * (n / 2)) (ap length c.bits.ensures.value ∙ c.in_ok-small.ensures.size)

pub invariant_of-result : goal.invariant_of-result
invariant_of-result c = (
  c.requires,
  ap length c.in_ok-rows.ensures
      ∙ key_rows-length Pairs c.args.p.now c.deref.result.now c.in_ok-large.large c.args.mask_seed.now c.args.client_seed.now
      (some_coefficients c.args.p.now c.requires.fields),
  c.in_ok-switch.ensures.made ∙ ap (switch_key c.args.p.now) (sym (ap (λ (s : SwitchRows). s.words) c.in_ok-switch.ensures.made)),
)

pub returns-clause-made : goal.returns-clause-made
returns-clause-made c =
    made_key c.args.p.now c.args.client_seed.now c.args.mask_seed.now c.in_ok-small.small c.in_ok-large.large c.deref.result.now
    c.in_ok-rows.rows.items c.in_ok-switch.switch c.in_ok-small.ensures.key c.in_ok-large.ensures.key
    (c.deref.ensures.value ∙ c.in_ok-bits.ensures ∙ ap pair_bits c.bits.ensures.value) c.in_ok-rows.ensures c.in_ok-switch.ensures.made

pub returns-clause-near : goal.returns-clause-near
returns-clause-near c =
    let p = c.args.p.now in
    let client_seed = c.args.client_seed.now in
    let P : PairWords → Type 0 = λ key. IsPairKey (small_key p client_seed) (large_key p client_seed) key in
    subst P (sym (returns-clause-made c)) (made_near p client_seed c.args.mask_seed.now c.requires.fields)
