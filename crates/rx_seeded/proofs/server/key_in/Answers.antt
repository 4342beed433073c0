use Rattle.std.proofs.Common.{◌≡◌, ◌+◌, ◌*◌, List, ℕ, length, take, drop, ap, refl, sym, ◌∙◌, arith}
use Rattle.rx_params.specs.Derived.{large_dim}
use Rattle.rx_lwe.specs.Seeded.{seeded_switch, switch_row_count}
use Rattle.rx_lwe.specs.SwitchKeys.{SwitchRows, switch_key}
use Rattle.rx_lwe.proofs.SeededSwitch.{seeded_switch-length}
use Rattle.rx_boot.specs.Seeded.{boot_body_size, seeded_boot}
use Rattle.rx_boot.proofs.SeededKeys.{seeded_boot-length}
use Rattle.rx_codec.specs.WordFields.{words_in}
use Rattle.rx_codec.proofs.Servers.{words_in-count}
use Rattle.rx_seeded.specs.declared.seeded_rows.Rows.{Rows}
use Rattle.rx_seeded.proofs.RowParts.{boot_words_are, switch_words_are, key_of_parts}
use Rattle.rx_seeded.proofs.server.key_in.Goals as goal

pub of_words-requires-clause-size : goal.of_words-requires-clause-size
of_words-requires-clause-size c =
    let p = c.args.p.now in
    let back : List ℕ = c.split_at.result.1.now in
    ap length (c.from_vec-2.ensures
    ∙ switch_words_are p c.args.mask_seed.now back c.in_ok-switch.switch.items c.switch_rows.result c.switch_rows.ensures c.in_ok-switch.ensures)
    ∙ seeded_switch-length p c.args.mask_seed.now (words_in (switch_row_count p) back)
    (words_in-count (switch_row_count p) (switch_row_count p) back (words_in (switch_row_count p) back) refl refl)

pub invariant_of-result : goal.invariant_of-result
invariant_of-result c =
    let p = c.args.p.now in
    let front : List ℕ = c.split_at.result.0.now in (
      c.requires.accepted,
      ap length (c.from_words.ensures ∙ c.from_vec.ensures
          ∙ boot_words_are p c.args.mask_seed.now front c.in_ok-boot.boot.items c.boot_rows-rows.result c.boot_rows-rows.ensures.rows c.in_ok-boot.ensures)
          ∙ seeded_boot-length p c.args.mask_seed.now (words_in (boot_body_size p) front)
          (words_in-count (boot_body_size p) (boot_body_size p) front (words_in (boot_body_size p) front) refl refl),
      c.of_words.ensures ∙ ap (switch_key p) (sym (ap (λ (s : SwitchRows). s.words) c.of_words.ensures)),
    )

pub returns : goal.returns
returns c =
    let p = c.args.p.now in
    let front : List ℕ = c.split_at.result.0.now in
    let back : List ℕ = c.split_at.result.1.now in
    key_of_parts p c.args.mask_seed.now c.args.bytes.now front back c.from_words.result c.of_words.result.words _
    (c.split_at.ensures.front ∙ ap (λ (r : Rows). take (8 * (r.count * r.wide)) c.args.bytes.now) c.boot_rows-rows.ensures.rows)
    (c.split_at.ensures.back ∙ ap (λ (r : Rows). drop (8 * (r.count * r.wide)) c.args.bytes.now) c.boot_rows-rows.ensures.rows)
    (c.from_words.ensures ∙ c.from_vec.ensures
    ∙ boot_words_are p c.args.mask_seed.now front c.in_ok-boot.boot.items c.boot_rows-rows.result c.boot_rows-rows.ensures.rows c.in_ok-boot.ensures)
    (ap (λ (s : SwitchRows). s.words) c.of_words.ensures ∙ c.from_vec-2.ensures
    ∙ switch_words_are p c.args.mask_seed.now back c.in_ok-switch.switch.items c.switch_rows.result c.switch_rows.ensures c.in_ok-switch.ensures)
    refl
