use Rattle.std.proofs.lemmas.Result.{IfOk-weaker}
use Rattle.rx_compile.proofs.Arguments.{two, is_count, are_cells}
use Rattle.rx_compile.proofs.Bitwise.{bits_same, and_room, or_room, xor_room, and_line, or_line, xor_line}
use Rattle.rx_compile.proofs.arms.bitwise.append_bits.Goals as goal

pub and-requires-clause-count : goal.and-requires-clause-count
and-requires-clause-count c = is_count c.args.pen.now c.args.kind c.args.a.now c.file_kind-in_net.result c.file_kind-in_net.ensures (two c.space-space.result c.args.pen.now.space c.space-space.ensures.known c.space-space.ensures.value) c.requires.first

pub and-requires-clause-same : goal.and-requires-clause-same
and-requires-clause-same c = bits_same c.args.pen.now c.args.kind c.args.a.now c.args.b.now c.requires.first c.requires.second

pub and-requires-clause-first : goal.and-requires-clause-first
and-requires-clause-first c = are_cells c.args.pen.now c.args.kind c.args.a.now c.file_kind-in_net.result c.file_kind-in_net.ensures c.requires.first

pub and-requires-clause-second : goal.and-requires-clause-second
and-requires-clause-second c = are_cells c.args.pen.now c.args.kind c.args.b.now c.file_kind-in_net.result c.file_kind-in_net.ensures c.requires.second

pub and-requires-clause-room : goal.and-requires-clause-room
and-requires-clause-room c = and_room c.args.pen.now c.args.word c.args.kind c.args.a.now c.in-And.is c.requires.first c.requires.room

pub returns-in-And-clause-realized : goal.returns-in-And-clause-realized
returns-in-And-clause-realized c =
    let r = c.args in
    IfOk-weaker c.and.result _ _ (λ u g. and_line r.pen.now c.and.new.pen r.word r.kind c.file_kind-in_net.result r.out.now.items c.and.new.out.items r.a.now r.b.now c.in-And.is c.file_kind-in_net.ensures c.requires.empty
    (two c.space-space.result c.args.pen.now.space c.space-space.ensures.known c.space-space.ensures.value) c.requires.first g) c.and.ensures.gives

pub or-requires-clause-count : goal.or-requires-clause-count
or-requires-clause-count c = is_count c.args.pen.now c.args.kind c.args.a.now c.file_kind-in_net.result c.file_kind-in_net.ensures (two c.space-space.result c.args.pen.now.space c.space-space.ensures.known c.space-space.ensures.value) c.requires.first

pub or-requires-clause-same : goal.or-requires-clause-same
or-requires-clause-same c = bits_same c.args.pen.now c.args.kind c.args.a.now c.args.b.now c.requires.first c.requires.second

pub or-requires-clause-first : goal.or-requires-clause-first
or-requires-clause-first c = are_cells c.args.pen.now c.args.kind c.args.a.now c.file_kind-in_net.result c.file_kind-in_net.ensures c.requires.first

pub or-requires-clause-second : goal.or-requires-clause-second
or-requires-clause-second c = are_cells c.args.pen.now c.args.kind c.args.b.now c.file_kind-in_net.result c.file_kind-in_net.ensures c.requires.second

pub or-requires-clause-room : goal.or-requires-clause-room
or-requires-clause-room c = or_room c.args.pen.now c.args.word c.args.kind c.args.a.now c.in-Or.is c.requires.first c.requires.room

pub returns-in-Or-clause-realized : goal.returns-in-Or-clause-realized
returns-in-Or-clause-realized c =
    let r = c.args in
    IfOk-weaker c.or.result _ _ (λ u g. or_line r.pen.now c.or.new.pen r.word r.kind c.file_kind-in_net.result r.out.now.items c.or.new.out.items r.a.now r.b.now c.in-Or.is c.file_kind-in_net.ensures c.requires.empty
    (two c.space-space.result c.args.pen.now.space c.space-space.ensures.known c.space-space.ensures.value) c.requires.first g) c.or.ensures.gives

pub xor-requires-clause-count : goal.xor-requires-clause-count
xor-requires-clause-count c = is_count c.args.pen.now c.args.kind c.args.a.now c.file_kind-in_net.result c.file_kind-in_net.ensures (two c.space-space.result c.args.pen.now.space c.space-space.ensures.known c.space-space.ensures.value) c.requires.first

pub xor-requires-clause-same : goal.xor-requires-clause-same
xor-requires-clause-same c = bits_same c.args.pen.now c.args.kind c.args.a.now c.args.b.now c.requires.first c.requires.second

pub xor-requires-clause-first : goal.xor-requires-clause-first
xor-requires-clause-first c = are_cells c.args.pen.now c.args.kind c.args.a.now c.file_kind-in_net.result c.file_kind-in_net.ensures c.requires.first

pub xor-requires-clause-second : goal.xor-requires-clause-second
xor-requires-clause-second c = are_cells c.args.pen.now c.args.kind c.args.b.now c.file_kind-in_net.result c.file_kind-in_net.ensures c.requires.second

pub xor-requires-clause-room : goal.xor-requires-clause-room
xor-requires-clause-room c = xor_room c.args.pen.now c.args.word c.args.kind c.args.a.now c.in-Xor.is c.requires.first c.requires.room

pub returns-in-Xor-clause-realized : goal.returns-in-Xor-clause-realized
returns-in-Xor-clause-realized c =
    let r = c.args in
    IfOk-weaker c.xor.result _ _ (λ u g. xor_line r.pen.now c.xor.new.pen r.word r.kind c.file_kind-in_net.result r.out.now.items c.xor.new.out.items r.a.now r.b.now c.in-Xor.is c.file_kind-in_net.ensures c.requires.empty
    (two c.space-space.result c.args.pen.now.space c.space-space.ensures.known c.space-space.ensures.value) c.requires.first g) c.xor.ensures.gives
