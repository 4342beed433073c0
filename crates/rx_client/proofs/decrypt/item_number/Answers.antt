use Rattle.std.proofs.Common.{arith}
use Rattle.rx_client.proofs.Numbers.{HasRead-turn}
use Rattle.rx_client.proofs.decrypt.item_number.Goals as goal

pub overflow_add-number : goal.overflow_add-number
overflow_add-number c =
    let turn = HasRead-turn c.args.p.now c.args.key.now c.args.item.now c.as_slice-block-items.result.now c.loop-place.place
    c.loop-place.number c.in-Ok.digit c.from.result c.block-item.result c.decrypt_block.result c.requires.fields c.requires.item
    c.as_slice-block-items.ensures c.loop-place-test.true c.block-item.is c.decrypt_block.ensures.exact c.in-Ok.is c.from.ensures
    c.loop-place.invariant in
    omega (arith, turn.1)

pub loop-place-preserved : goal.loop-place-preserved
loop-place-preserved c =
    (HasRead-turn c.args.p.now c.args.key.now c.args.item.now c.as_slice-block-items.result.now c.loop-place.place
    c.loop-place.number c.in-Ok.digit c.from.result c.block-item.result c.decrypt_block.result c.requires.fields c.requires.item
    c.as_slice-block-items.ensures c.loop-place-test.true c.block-item.is c.decrypt_block.ensures.exact c.in-Ok.is c.from.ensures
    c.loop-place.invariant).0
