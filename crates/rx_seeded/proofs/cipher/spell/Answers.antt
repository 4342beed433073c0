use Rattle.std.proofs.Common.{◌≤◌, List, length, subst, sym}
use Rattle.std.specs.List.{AllByRecursion}
use Rattle.std.proofs.lemmas.List.{drop_all}
use Rattle.rx_codec.specs.declared.cipher.Item.{Item}
use Rattle.rx_codec.proofs.Ciphers.{IsNamed, cipher_named}
use Rattle.rx_seeded.proofs.cipher.spell.Goals as goal

pub returns-clause-fits : goal.returns-clause-fits
returns-clause-fits c =
    let past : length c.args.value.now.items ≤ c.loop-item.item-index =
    subst (λ (items : List Item). length items ≤ c.loop-item.item-index) c.as_slice-items.ensures c.loop-item-test.false in
    cipher_named c.args.value.now c.requires
    (c.loop-item.invariant.named.with
    (subst (AllByRecursion IsNamed) (sym (drop_all c.loop-item.item-index c.args.value.now.items past)) tt))
