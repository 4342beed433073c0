use Rattle.std.proofs.Common.{rules, ◌≡◌, arith}
use Rattle.std.proofs.lemmas.Result.{IfOk-weaker}
use Rattle.rx_bits.proofs.BitByBit.{operation_table_is, entries_here, planned_here, bitwise_planned}
use Rattle.rx_bits.proofs.bitwise.combined.Goals as goal

pub blockwise-requires-clause-table : goal.blockwise-requires-clause-table
blockwise-requires-clause-table c =
    let r = c.args in
    let s = c.space-space in
    operation_table_is r.operation r.kind r.pen.now.space c.deref.result.now (omega arith)
    (entries_here r.operation r.kind c.greatest-base.result s.result r.pen.now.space c.in_ok-table.table.items c.deref.result.now c.greatest-base.ensures (search rules) c.deref.ensures.value c.in_ok-table.ensures)

pub returns-clause-planned : goal.returns-clause-planned
returns-clause-planned c =
    let r = c.args in
    let s = c.space-space in
    let space : s.result ≡ r.pen.now.space = search rules in
    IfOk-weaker c.blockwise.result _ _ (λ cells p.
    bitwise_planned r.operation r.kind r.pen.now c.blockwise.new.pen cells.items r.a.now r.b.now c.deref.result.now (omega arith) c.space-space.ensures.bounded c.requires.first c.requires.second c.requires.same
    (entries_here r.operation r.kind c.greatest-base.result s.result r.pen.now.space c.in_ok-table.table.items c.deref.result.now c.greatest-base.ensures space c.deref.ensures.value c.in_ok-table.ensures)
    (planned_here r.operation r.kind c.greatest-base.result s.result r.pen.now c.blockwise.new.pen cells.items r.a.now r.b.now c.deref.result.now c.greatest-base.ensures space p)) c.blockwise.ensures.planned
