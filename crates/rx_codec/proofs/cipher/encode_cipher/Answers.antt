use Rattle.std.proofs.Common.{◌≤◌, ◌∙◌, List, length, subst}
use Rattle.rx_codec.specs.declared.cipher.Item.{Item}
use Rattle.rx_codec.proofs.Ciphers.{cipher_written}
use Rattle.rx_codec.proofs.cipher.encode_cipher.Goals as goal

pub returns : goal.returns
returns c =
    cipher_written c.args.value.now c.loop-item.item-index c.finish.result.items c.requires
    (subst (λ (items : List Item). length items ≤ c.loop-item.item-index) c.as_slice-items.ensures c.loop-item-test.false)
    (c.finish.ensures ∙ c.loop-item.invariant.text) c.loop-item.invariant.named
