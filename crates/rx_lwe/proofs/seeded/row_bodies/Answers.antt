use Rattle.std.proofs.Common.{◌≡◌, ℕ, ◌+◌, ◌-◌, ◌*◌, List, ◌++◌, take, drop, ap, ◌∙◌, arith}
use Rattle.rx_lwe.specs.Seeded.{row_bodies as bodies_of_rows}
use Rattle.rx_lwe.proofs.Rows.{rows-more}
use Rattle.rx_lwe.proofs.seeded.row_bodies.Goals as goal

pub loop-row-preserved : goal.loop-row-preserved
loop-row-preserved c =
    let words : List ℕ = c.args.words.now in
    let start : ℕ = c.loop-row.row * (c.args.masks + c.args.wide) + c.args.masks in
    let e : start + c.args.wide - start ≡ c.args.wide = omega arith in
    c.in_ok-extend_from_slice.ensures.items
    ∙ ap (λ xs. xs ++ take (start + c.args.wide - start) (drop start words)) c.loop-row.invariant
    ∙ ap (λ k. bodies_of_rows c.args.masks c.args.wide c.loop-row.row words ++ take k (drop start words)) e
    ∙ rows-more (λ row. take c.args.wide (drop (row * (c.args.masks + c.args.wide) + c.args.masks) words)) c.loop-row.row
