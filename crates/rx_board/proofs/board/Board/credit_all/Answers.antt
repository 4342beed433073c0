use Rattle.std.proofs.Common.{◌≡◌, ◌<◌, ◌+◌, ◌-◌, ℕ, sym, ap, ◌∙◌, subst, length, arith}
use Rattle.std.specs.Prelude.{Some}
use Rattle.rx_net.specs.Legal.{Legal}
use Rattle.rx_uses.proofs.Legality.{lawful}
use Rattle.rx_uses.proofs.UsesLaw.{at_node, length-nodes, no_node}
use Rattle.atomic_table.specs.Table.{Me}
use Rattle.rx_board.specs.declared.view.View.{View}
use Rattle.rx_board.specs.Rule.{input_count, BoardValue, uses_in, holding}
use Rattle.rx_board.proofs.board.Board.credit_all.Goals as goal

pub overflow_add-done : goal.overflow_add-done
overflow_add-done g c = let p = c.args.self.now.plan in
    let e : c.self.inside.net.now ≡ p.net = sym c.self.invariant.0 ∙ ap (λ (b : BoardValue). b.plan.net) c.self.view_is in
    let legal : Legal p.net = subst Legal e c.self.invariant.4.legal in
    let few = length-nodes p.net (input_count p.net + c.args.job) (lawful p.net legal).few in let jobs = (lawful p.net legal).jobs in
    let more = (at_node (uses_in p c.args.job) c.loop-next.done c.in-Some.node (sym c.loop-next.invariant.next ∙ c.in-Some.is)).0 in omega arith

pub loop-next-smaller : goal.loop-next-smaller
loop-next-smaller g c = let us = uses_in c.args.self.now.plan c.args.job in
    let more = (at_node us c.loop-next.done c.in-Some.node (sym c.loop-next.invariant.next ∙ c.in-Some.is)).0 in
    let less : length us - (c.loop-next.done + 1) < length us - c.loop-next.done = omega arith in less

pub loop-next-preserved : goal.loop-next-preserved
loop-next-preserved g c = let us = uses_in c.args.self.now.plan c.args.job in let inv = c.loop-next.invariant in record {
  table = c.credit.ensures.seat.0 ∙ inv.table;
  id = c.credit.ensures.seat.1 ∙ inv.id;
  me = c.credit.ensures.view ∙ ap (λ (m : Me (Unit {0}) View). (record m.0 { held = Some (holding c.args.job c.args.self.now.plan.width (c.loop-next.done + 1)) }, m.1)) inv.me;
  next = c.next_use-next.ensures;
  some = let more = (at_node us c.loop-next.done c.in-Some.node (sym inv.next ∙ c.in-Some.is)).0 in omega arith;
}

pub returns-clause-view : goal.returns-clause-view
returns-clause-view g c = let us = uses_in c.args.self.now.plan c.args.job in let inv = c.loop-next.invariant in
    let past = no_node us c.loop-next.done (sym inv.next ∙ c.in_default.is) in let some = inv.some in
    let done : c.loop-next.done ≡ length us = omega arith in
    inv.me ∙ ap (λ (e : ℕ). (record c.args.seat.now.me.0 { held = Some (holding c.args.job c.args.self.now.plan.width e) }, c.args.seat.now.me.1)) done
