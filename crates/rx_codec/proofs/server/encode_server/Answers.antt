use Rattle.std.proofs.Common.{rules, ◌≡◌, ◌++◌, List, ℕ, length, ap, ◌∙◌, arith}
use Rattle.std.specs.Prelude.{codes}
use Rattle.std.proofs.Math.Facts.{Fits-of_lt}
use Rattle.rx_params.specs.declared.params.Params.{Params}
use Rattle.rx_lwe.specs.SwitchKeys.{SwitchRows, IsSized, switch_key, switch_size}
use Rattle.rx_boot.specs.ServerKeys.{ServerWords}
use Rattle.rx_boot.specs.BootKeys.{boot_size}
use Rattle.rx_codec.specs.ParamsFields.{params_bytes}
use Rattle.rx_codec.specs.WordFields.{word_bytes}
use Rattle.rx_boot.proofs.MadeKeys.{boot_size-few, switch_size-few}
use Rattle.rx_codec.proofs.Servers.{switch_count-is, server_file}
use Rattle.rx_codec.proofs.server.encode_server.Goals as goal

-- the counts of the words of a key's two lists
switch_count : (p : Params) (xs ys : List ℕ) (s : SwitchRows) → xs ≡ s.words → s ≡ switch_key p ys → IsSized s → length xs ≡ switch_size p
switch_count p xs ys s e h sized = ap length e ∙ switch_count-is p s ys h sized

pub overflow_add-size-2 : goal.overflow_add-size-2
overflow_add-size-2 c =
    let p : Params = c.value.inside.params in
    let boot : length c.words-boot.result.now ≡ boot_size p = ap length c.words-boot.ensures ∙ c.value.invariant.1 in
    let switch : length c.words-switch.result.now ≡ switch_size p =
    switch_count p c.words-switch.result.now c.value.inside.switch.words c.value.inside.switch c.words-switch.ensures.value c.value.invariant.2
    c.words-switch.ensures.sized in
    Fits-of_lt (omega (arith, boot, switch, boot_size-few p c.value.invariant.0, switch_size-few p c.value.invariant.0))

pub returns : goal.returns
returns c =
    let p : Params = c.value.inside.params in
    let boot : List ℕ = c.words-boot.result.now in
    let switch : List ℕ = c.words-switch.result.now in
    let head : List ℕ = codes "RXS1" in
    let first : c.extend_from_slice.new.self.items ≡ head = c.in_ok-extend_from_slice.ensures.items ∙ ap (λ (t : List ℕ). t ++ head) c.in_ok-out.ensures.items in
    let second : c.write_params.new.out.items ≡ head ++ params_bytes p = c.in_ok-write_params.ensures ∙ ap (λ (t : List ℕ). t ++ params_bytes p) first in
    let third : c.write_words.new.out.items ≡ head ++ params_bytes p ++ word_bytes boot =
    c.in_ok-write_words.ensures ∙ ap (λ (t : List ℕ). t ++ word_bytes boot) second in
    let whole : c.write_words-2.new.out.items ≡ head ++ params_bytes p ++ word_bytes boot ++ word_bytes switch =
    c.in_ok-write_words-2.ensures ∙ ap (λ (t : List ℕ). t ++ word_bytes switch) third in
    record {
      file = server_file p c.args.value.now boot switch c.write_words-2.new.out.items c.value.invariant.0
          (ap (λ (k : ServerWords). k.params) c.value.view_is)
          (c.words-boot.ensures ∙ ap (λ (k : ServerWords). k.boot) c.value.view_is)
          (c.words-switch.ensures.value ∙ ap (λ (k : ServerWords). k.switch) c.value.view_is)
          (ap length c.words-boot.ensures ∙ c.value.invariant.1)
          (switch_count p switch c.value.inside.switch.words c.value.inside.switch c.words-switch.ensures.value c.value.invariant.2
          c.words-switch.ensures.sized)
          (λ i h. search rules) (λ i h. search rules) whole;
    }
