use Rattle.std.proofs.Common.{ℕ, ◌+◌, List, refl, sym, subst, arith}
use Rattle.rx_ring.specs.Parts.{AreParts}
use Rattle.rx_multi.specs.Turns.{turned_by}
use Rattle.rx_multi.proofs.Turning.{turn_made}
use Rattle.rx_multi.proofs.turns.turn.Goals as goal

pub returns-clause-turned : goal.returns-clause-turned
returns-clause-turned c =
    let p = c.args.p.now in
    let a1 : ℕ = c.args.amounts.now.first in
    let a2 : ℕ = c.args.amounts.now.second in
    subst (λ (xs : List ℕ). AreParts p.poly_size (p.glwe_dim + 1) (turned_by p c.args.products.now a1 a2 c.args.turning.now) xs)
    (sym c.copy_from_slice.ensures.after)
    (turn_made p c.args.products.now c.write_rows.new.rows c.fill.new.self c.args.turning.now c.external_add.new.acc a1 a2 c.write_rows.ensures
    (λ i q. c.fill.ensures.clones i 0 (omega (arith, q, c.external_add.auto.acc, c.external_add.ensures.added.count_is)) refl)
    c.external_add.ensures.added)
