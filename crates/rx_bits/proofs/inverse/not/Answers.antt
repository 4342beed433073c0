use Rattle.std.proofs.Common.{◌≡◌, ◌<◌, ◌-◌, ◌*◌, ◌^◌, ◌++◌, ℕ, length, ◌∙◌, ap, arith}
use Rattle.rx_plan.specs.Values.{number_held}
use Rattle.rx_plan.specs.Planned.{Each}
use Rattle.rx_bits.specs.Bits.{all_ones}
use Rattle.rx_bits.proofs.Given.{gives_kind}
use Rattle.rx_bits.proofs.TurnedBlocks.{turned_small}
use Rattle.rx_bits.proofs.inverse.not.Goals as goal

pub returns-clause-gives : goal.returns-clause-gives
returns-clause-gives c =
    let r = c.args in
    let p = r.pen.now in
    let n : ℕ = length r.a.now in
    let e : c.extend_from_slice.new.self.items ≡ r.out.now.items ++ c.in_ok-cells.cells.items =
    c.in_ok-extend_from_slice.ensures.items ∙ ap (λ cs. r.out.now.items ++ cs) c.deref.ensures.value in
    gives_kind r.kind p c.turned.new.pen r.out.now.items c.in_ok-cells.cells.items c.extend_from_slice.new.self.items n n 1 (Each r.a.now)
    (λ xs. all_ones r.kind p.space n - number_held p r.a.now xs) c.requires.count e
    (λ xs w. let t : all_ones r.kind p.space n < 2 ^ (p.space * n) = turned_small r.kind p.space n (omega arith) c.requires.count in omega arith)
    c.in_ok-cells.ensures.planned
