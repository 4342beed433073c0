use Rattle.std.proofs.Common.{◌≡◌, ℕ, List, ◌<◌, ◌≤◌, ◌+◌, ◌-◌, ◌*◌, ◌/◌, ◌%◌, ◌^◌, ◌++◌, length, sym, ◌∙◌, ap, arith, subst}
use Rattle.std.proofs.lemmas.Nat.{pow_pos, mod_below, div-add-mod'}
use Rattle.rx_net.proofs.Grows.{extends_onward}
use Rattle.rx_plan.specs.Tables.{HasEntries}
use Rattle.rx_plan.specs.Planned.{Each, Lays}
use Rattle.rx_plan.proofs.PerBlock.{table_here}
use Rattle.rx_plan.proofs.Held.{table_at}
use Rattle.rx_cmp.specs.Selection.{kept_entry}
use Rattle.rx_shift.specs.Shifts.{opposite, part_entry}
use Rattle.rx_shift.proofs.Parts.{kept_below, entry_below, comes_some}
use Rattle.rx_shift.proofs.Sources.{block_table, block_small, three_rows, sources_sum}
use Rattle.rx_shift.proofs.stages.sources.Goals as goal

pub product_row-requires-clause-table : goal.product_row-requires-clause-table
product_row-requires-clause-table c =
    let s : ℕ = c.args.pen.now.space in
    let h = table_here (kept_entry 0) c.space-space.result s c.in_ok-keep.keep.items c.deref.result.now c.space-space.ensures.value c.deref.ensures.value c.in_ok-keep.ensures in
    block_table s (kept_entry 0 (2 ^ s)) c.deref.result.now h (λ i. kept_below 0 (2 ^ s) i (pow_pos s))

pub product_row-requires-clause-small : goal.product_row-requires-clause-small
product_row-requires-clause-small c =
    let s : ℕ = c.args.pen.now.space in
    let h = table_here (kept_entry 0) c.space-space.result s c.in_ok-keep.keep.items c.deref.result.now c.space-space.ensures.value c.deref.ensures.value c.in_ok-keep.ensures in
    block_small s (kept_entry 0 (2 ^ s)) c.deref.result.now h (λ i. kept_below 0 (2 ^ s) i (pow_pos s))

pub product_row-requires-2-clause-table : goal.product_row-requires-2-clause-table
product_row-requires-2-clause-table c =
    let d = c.args.direction in
    let s : ℕ = c.product_row.new.pen.space in
    let r : ℕ = c.args.distance % c.space-space.result in
    let h = table_at (λ s. part_entry d (2 ^ s) r) c.space-space.result s c.in_ok-near.near.items c.deref-2.result.now (c.space-space.ensures.value ∙ sym c.in_ok-rows.ensures.kept.space) c.deref-2.ensures.value c.in_ok-near.ensures in
    block_table s (part_entry d (2 ^ s) r) c.deref-2.result.now h (λ i. entry_below d (2 ^ s) r i (pow_pos s))

pub product_row-requires-2-clause-small : goal.product_row-requires-2-clause-small
product_row-requires-2-clause-small c =
    let d = c.args.direction in
    let s : ℕ = c.product_row.new.pen.space in
    let r : ℕ = c.args.distance % c.space-space.result in
    let h = table_at (λ s. part_entry d (2 ^ s) r) c.space-space.result s c.in_ok-near.near.items c.deref-2.result.now (c.space-space.ensures.value ∙ sym c.in_ok-rows.ensures.kept.space) c.deref-2.ensures.value c.in_ok-near.ensures in
    block_small s (part_entry d (2 ^ s) r) c.deref-2.result.now h (λ i. entry_below d (2 ^ s) r i (pow_pos s))

pub product_row-requires-3-clause-table : goal.product_row-requires-3-clause-table
product_row-requires-3-clause-table c =
    let d = c.opposite.result in
    let s : ℕ = c.product_row-2.new.pen.space in
    let r : ℕ = c.args.distance % c.space-space.result in
    let e = c.space-space.ensures.value ∙ sym c.in_ok-rows.ensures.kept.space ∙ sym c.in_ok-near_row.ensures.kept.space in
    let h = table_at (λ s. part_entry d (2 ^ s) (s - r)) c.space-space.result s c.in_ok-far.far.items c.deref-4.result.now e c.deref-4.ensures.value c.in_ok-far.ensures in
    block_table s (part_entry d (2 ^ s) (s - r)) c.deref-4.result.now h (λ i. entry_below d (2 ^ s) (s - r) i (pow_pos s))

pub product_row-requires-3-clause-small : goal.product_row-requires-3-clause-small
product_row-requires-3-clause-small c =
    let d = c.opposite.result in
    let s : ℕ = c.product_row-2.new.pen.space in
    let r : ℕ = c.args.distance % c.space-space.result in
    let e = c.space-space.ensures.value ∙ sym c.in_ok-rows.ensures.kept.space ∙ sym c.in_ok-near_row.ensures.kept.space in
    let h = table_at (λ s. part_entry d (2 ^ s) (s - r)) c.space-space.result s c.in_ok-far.far.items c.deref-4.result.now e c.deref-4.ensures.value c.in_ok-far.ensures in
    block_small s (part_entry d (2 ^ s) (s - r)) c.deref-4.result.now h (λ i. entry_below d (2 ^ s) (s - r) i (pow_pos s))

pub returns-clause-planned : goal.returns-clause-planned
returns-clause-planned c =
    let p = c.args.pen.now in
    let a : List ℕ = c.args.ordered.now in
    let n : ℕ = length a in
    let r1 : List ℕ = c.in_ok-rows.rows.items in
    let r2 : List ℕ = c.in_ok-near_row.near_row.items in
    let r3 : List ℕ = c.in_ok-far_row.far_row.items in
    let steps : ℕ = c.args.distance / c.space-space.result in
    let beyond : ℕ = c.beyond_of-beyond.result in
    let e : c.extend_from_slice-2.new.self.items ≡ (r1 ++ r2) ++ r3 =
    c.in_ok-extend_from_slice-2.ensures.items ∙ ap (λ y. c.extend_from_slice.new.self.items ++ y) c.deref-5.ensures.value
    ∙ ap (λ x. x ++ r3) (c.in_ok-extend_from_slice.ensures.items ∙ ap (λ y. r1 ++ y) c.deref-3.ensures.value) in
    let one : 1 ≤ beyond = comes_some n steps (c.args.distance % c.space-space.result) beyond c.requires.some c.beyond_of-beyond.ensures in
    subst (λ (l : List ℕ). Lays p c.product_row-3.new.pen l (3 * n) (3 * n - 1) 1 (λ P. P c.args.bit × Each a P)) (sym e)
    (three_rows p c.product_row.new.pen c.product_row-2.new.pen c.product_row-3.new.pen r1 r2 r3 c.args.bit a c.deref.result.now c.deref-2.result.now c.deref-4.result.now steps beyond
    c.requires.some one c.requires.bit c.requires.blocks c.in_ok-rows.ensures.planned c.in_ok-near_row.ensures.planned c.in_ok-far_row.ensures.planned)

pub returns-clause-sums : goal.returns-clause-sums
returns-clause-sums c =
    let p = c.args.pen.now in
    let d = c.args.direction in
    let a : List ℕ = c.args.ordered.now in
    let n : ℕ = length a in
    let s : ℕ = c.space-space.result in
    let v : s ≡ p.space = c.space-space.ensures.value in
    let r1 : List ℕ = c.in_ok-rows.rows.items in
    let r2 : List ℕ = c.in_ok-near_row.near_row.items in
    let r3 : List ℕ = c.in_ok-far_row.far_row.items in
    let steps : ℕ = c.args.distance / s in
    let r : ℕ = c.args.distance % s in
    let beyond : ℕ = c.beyond_of-beyond.result in
    let e : c.extend_from_slice-2.new.self.items ≡ (r1 ++ r2) ++ r3 =
    c.in_ok-extend_from_slice-2.ensures.items ∙ ap (λ y. c.extend_from_slice.new.self.items ++ y) c.deref-5.ensures.value
    ∙ ap (λ x. x ++ r3) (c.in_ok-extend_from_slice.ensures.items ∙ ap (λ y. r1 ++ y) c.deref-3.ensures.value) in
    let two : 2 ≤ p.space = omega arith in
    let small : r < s = mod_below c.args.distance s (omega arith) in
    let parts : steps * s + r ≡ c.args.distance = div-add-mod' c.args.distance s in
    let sp : steps * s ≡ p.space * steps = (let x : steps * s ≡ steps * p.space = ap (λ s. steps * s) v in omega arith) in
    let hk = table_here (kept_entry 0) s p.space c.in_ok-keep.keep.items c.deref.result.now v c.deref.ensures.value c.in_ok-keep.ensures in
    let hn = table_at (λ s. part_entry d (2 ^ s) r) s p.space c.in_ok-near.near.items c.deref-2.result.now v c.deref-2.ensures.value c.in_ok-near.ensures in
    let hf = subst (λ o. HasEntries p.space (part_entry o (2 ^ p.space) (p.space - r)) c.deref-4.result.now) c.opposite.ensures
    (table_at (λ s. part_entry c.opposite.result (2 ^ s) (s - r)) s p.space c.in_ok-far.far.items c.deref-4.result.now v c.deref-4.ensures.value c.in_ok-far.ensures) in
    rw e (sources_sum p c.product_row.new.pen c.product_row-2.new.pen c.product_row-3.new.pen r1 r2 r3 d c.args.bit a c.deref.result.now c.deref-2.result.now c.deref-4.result.now steps r beyond c.args.distance
    two c.space-space.ensures.bounded c.requires.bit c.requires.blocks (omega arith) (omega arith) c.beyond_of-beyond.ensures hk hn hf
    c.in_ok-rows.ensures.planned c.in_ok-near_row.ensures.planned c.in_ok-far_row.ensures.planned)

pub returns-in_err-far_row-clause-kept : goal.returns-in_err-far_row-clause-kept
returns-in_err-far_row-clause-kept c = extends_onward _ _ _ (extends_onward _ _ _ c.product_row.ensures.kept c.product_row-2.ensures.kept) c.product_row-3.ensures.kept

pub returns-in_err-extend_from_slice-2-clause-kept : goal.returns-in_err-extend_from_slice-2-clause-kept
returns-in_err-extend_from_slice-2-clause-kept c = extends_onward _ _ _ (extends_onward _ _ _ c.product_row.ensures.kept c.product_row-2.ensures.kept) c.product_row-3.ensures.kept

pub returns-clause-kept : goal.returns-clause-kept
returns-clause-kept c = extends_onward _ _ _ (extends_onward _ _ _ c.product_row.ensures.kept c.product_row-2.ensures.kept) c.product_row-3.ensures.kept
