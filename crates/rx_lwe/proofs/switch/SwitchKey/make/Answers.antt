use Rattle.std.proofs.Common.{◌≡◌, ap, sym, ◌∙◌, ◌^◌, length, subst}
use Rattle.rx_laws.specs.Words.{of_words}
use Rattle.rx_ring.specs.Keys.{IsSwitch, level_weight}
use Rattle.rx_params.specs.Derived.{large_dim}
use Rattle.rx_lwe.specs.SwitchKeys.{SwitchRows, switch_key, switch_key_words, switch_rows}
use Rattle.rx_lwe.proofs.Made.{switch_key_words-length, switch_key-near}
use Rattle.rx_lwe.proofs.switch.SwitchKey.make.Goals as goal

pub of_words-requires-clause-size : goal.of_words-requires-clause-size
of_words-requires-clause-size c =
    ap length (c.from_vec.ensures ∙ c.in_ok-words.ensures)
    ∙ switch_key_words-length c.args.p.now c.args.large.now c.args.small.now c.args.mask_seed.now c.args.noise_seed.now c.requires.small_size

pub returns-clause-near : goal.returns-clause-near
returns-clause-near c =
    let p = c.args.p.now in
    let P : SwitchRows → Type 0 = λ key.
    IsSwitch (large_dim p) p.lwe_dim p.ks_level (2 ^ p.lwe_bound) (level_weight p.ks_base_log) (of_words c.args.large.now)
    (of_words c.args.small.now) (switch_rows key) in
    let made : c.of_words.result ≡ switch_key p (switch_key_words p c.args.large.now c.args.small.now c.args.mask_seed.now c.args.noise_seed.now) =
    c.of_words.ensures ∙ ap (switch_key p) (c.from_vec.ensures ∙ c.in_ok-words.ensures) in
    subst P (sym made) (switch_key-near p c.args.large.now c.args.small.now c.args.mask_seed.now c.args.noise_seed.now c.requires.small_size)
