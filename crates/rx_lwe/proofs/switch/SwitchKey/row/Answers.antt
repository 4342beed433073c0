use Rattle.std.proofs.Common.{◌≡◌, ℕ, ◌+◌, ◌*◌, ◌≤◌, length, arith, ap, ◌∙◌}
use Rattle.rx_lwe.specs.SwitchKeys.{SwitchRows}
use Rattle.rx_lwe.proofs.Made.{row_room, row_below}
use Rattle.rx_lwe.proofs.switch.SwitchKey.row.Goals as goal

pub slice_bounds-result-end : goal.slice_bounds-result-end
slice_bounds-result-end c =
    let levels : ℕ = c.self.inside.levels in
    let row : ℕ = c.args.u * levels + c.args.t in
    let big : ℕ = c.self.inside.big in
    let width : ℕ = c.self.inside.small + 1 in
    let same_big = ap (λ (s : SwitchRows). s.big) c.self.view_is in
    let same_levels = ap (λ (s : SwitchRows). s.levels) c.self.view_is in
    let room : row * width + width ≤ big * levels * width =
    row_room row (big * levels) width
    (row_below c.args.u c.args.t big levels (omega (arith, same_big)) (omega (arith, same_levels))) in
    let count : length c.as_slice.result.now ≡ big * levels * width = ap length c.as_slice.ensures ∙ c.self.invariant.count in
    omega arith
