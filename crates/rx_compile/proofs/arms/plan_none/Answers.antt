use Rattle.rx_compile.proofs.Arguments.{two}
use Rattle.rx_compile.proofs.Others.{told_blocks, constant_room, constant_line}
use Rattle.rx_compile.proofs.arms.plan_none.Goals as goal

pub constant-requires-clause-room : goal.constant-requires-clause-room
constant-requires-clause-room c =
    let r = c.args in
    constant_room r.pen.now r.word r.kind c.blocks_of-blocks.result c.in-Const.is
    (told_blocks c.space.result r.pen.now.space c.blocks_of-blocks.result r.kind c.blocks_of-blocks.ensures c.space.ensures.value) c.requires.room

pub returns-clause-realized : goal.returns-clause-realized
returns-clause-realized c =
    let r = c.args in
    constant_line r.pen.now c.constant.new.pen r.word r.number r.kind c.new-cells.result.items c.constant.new.out.items c.blocks_of-blocks.result c.in-Const.is c.new-cells.ensures.items
    (two c.space.result r.pen.now.space c.space.ensures.known c.space.ensures.value) c.requires.kind c.requires.takes
    (told_blocks c.space.result r.pen.now.space c.blocks_of-blocks.result r.kind c.blocks_of-blocks.ensures c.space.ensures.value) c.in_ok-constant-in-Const.ensures.gives
