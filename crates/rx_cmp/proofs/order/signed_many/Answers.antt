use Rattle.std.proofs.Common.{◌^◌, ℕ, List, length, ◌∙◌, sym, ap, arith, subst}
use Rattle.std.proofs.lemmas.Result.{IfOk-weaker}
use Rattle.rx_net.proofs.Grows.{extends_onward}
use Rattle.rx_plan.specs.Planned.{EachOf, AreCellsBy, Planned}
use Rattle.rx_plan.proofs.Held.{table_at}
use Rattle.rx_carry.specs.Carries.{tops_at}
use Rattle.rx_cmp.specs.Order.{signed_state}
use Rattle.rx_cmp.proofs.SignedOut.{signed_table, signed_states, signed_values, many_signed}
use Rattle.rx_cmp.proofs.order.signed_many.Goals as goal

pub pair-requires-clause-table : goal.pair-requires-clause-table
pair-requires-clause-table c =
    let one = c.first_states.new.pen in
    let e = c.space-space.ensures.value ∙ sym c.in_ok-states.ensures.kept.space in
    signed_table one.space c.deref.result.now (omega arith)
    (table_at signed_state c.space-space.result one.space c.in_ok-table.table.items c.deref.result.now e c.deref.ensures.value c.in_ok-table.ensures)

pub top-requires-clause-states : goal.top-requires-clause-states
top-requires-clause-states c =
    let p = c.args.pen.now in
    let one = c.first_states.new.pen in
    let two = c.pair.new.pen in
    let e = c.space-space.ensures.value ∙ sym c.in_ok-states.ensures.kept.space in
    let h = table_at signed_state c.space-space.result one.space c.in_ok-table.table.items c.deref.result.now e c.deref.ensures.value c.in_ok-table.ensures in
    let q = signed_states p one two c.args.a.now c.args.b.now c.in_ok-states.states.items c.deref.result.now c.in_ok-state.state c.unit_of.result (omega arith) c.space-space.ensures.bounded
    (c.unit_of.ensures.value ∙ ap (λ s. 2 ^ s) c.space-space.ensures.value) c.requires.many c.requires.same c.requires.first c.requires.second h c.in_ok-states.ensures.planned c.in_ok-state.ensures.makes in
    subst (λ (cs : List ℕ). AreCellsBy two (tops_at 1) cs) (sym c.in_ok-push.ensures.items) q.cells_are

pub returns-clause-kept : goal.returns-clause-kept
returns-clause-kept c =
    extends_onward c.args.pen.now c.pair.new.pen c.top.new.pen (extends_onward c.args.pen.now c.first_states.new.pen c.pair.new.pen c.in_ok-states.ensures.kept c.in_ok-state.ensures.kept) c.top.ensures.kept

pub returns-clause-planned : goal.returns-clause-planned
returns-clause-planned c =
    let p = c.args.pen.now in
    let a : List ℕ = c.args.a.now in
    let b : List ℕ = c.args.b.now in
    let one = c.first_states.new.pen in
    let two = c.pair.new.pen in
    let e = c.space-space.ensures.value ∙ sym c.in_ok-states.ensures.kept.space in
    let h = table_at signed_state c.space-space.result one.space c.in_ok-table.table.items c.deref.result.now e c.deref.ensures.value c.in_ok-table.ensures in
    let q = signed_states p one two a b c.in_ok-states.states.items c.deref.result.now c.in_ok-state.state c.unit_of.result (omega arith) c.space-space.ensures.bounded
    (c.unit_of.ensures.value ∙ ap (λ s. 2 ^ s) c.space-space.ensures.value) c.requires.many c.requires.same c.requires.first c.requires.second h c.in_ok-states.ensures.planned c.in_ok-state.ensures.makes in
    let all : List ℕ = c.push.new.self.items in
    let q' = subst (λ (cs : List ℕ). Planned p two cs (tops_at 1) (length a) (length a) 1 (EachOf a b) (signed_values p a b)) (sym c.in_ok-push.ensures.items) q in
    IfOk-weaker c.top.result _ _ (λ k m.
    many_signed p two c.top.new.pen a b all k c.args.invert c.requires.many c.requires.same c.requires.first c.requires.second (omega arith) c.space-space.ensures.bounded q' m) c.top.ensures.planned
