use Rattle.std.proofs.Common.{◌≡◌, ◌++◌, length, ◌∙◌, ap, arith, bit_xor}
use Rattle.rx_plan.specs.Values.{number_held}
use Rattle.rx_plan.specs.Planned.{EachOf}
use Rattle.rx_bits.specs.declared.operation.Operation.TheVariants.{Xor}
use Rattle.rx_bits.proofs.BitByBit.{bitwise_small}
use Rattle.rx_bits.proofs.Given.{gives_kind}
use Rattle.rx_bits.proofs.bitwise.xor.Goals as goal

pub returns-clause-gives : goal.returns-clause-gives
returns-clause-gives c =
    let r = c.args in
    let p = r.pen.now in
    let e : c.extend_from_slice.new.self.items ≡ r.out.now.items ++ c.in_ok-cells.cells.items =
    c.in_ok-extend_from_slice.ensures.items ∙ ap (λ cs. r.out.now.items ++ cs) c.deref.ensures.value in
    gives_kind r.kind p c.combined.new.pen r.out.now.items c.in_ok-cells.cells.items c.extend_from_slice.new.self.items (length r.a.now) (length r.a.now) 1 (EachOf r.a.now r.b.now)
    (λ xs. bit_xor (number_held p r.a.now xs) (number_held p r.b.now xs)) c.requires.count e
    (λ xs w. bitwise_small Xor r.kind p r.a.now r.b.now (omega arith) c.space-space.ensures.bounded c.requires.same c.requires.first c.requires.second xs w)
    c.in_ok-cells.ensures.planned
