use Rattle.std.proofs.Common.{rules, ◌≡◌, [], sym, ◌∙◌, subst}
use Rattle.std.specs.Prelude.{Some, None, Contains}
use Rattle.rx_board.specs.declared.view.View.{View}
use Rattle.rx_board.specs.Tells.{Grows}
use Rattle.atomic_table.specs.Table.{Me}
use Rattle.rx_board.proofs.Steps.{counts_load_at}
use Rattle.rx_board.proofs.Views.{counted_grows, counted_ready}
use Rattle.rx_board.proofs.board.Board.look_count.Goals as goal

pub load-requires : goal.load-requires
load-requires g c = (search rules, search rules, counts_load_at c.args.self.now _ c.self.view_is _ _ _ c.args.job _ c.count_word-place.ensures.place c.requires.seat.2 c.requires.job)

pub returns-clause-seat : goal.returns-clause-seat
returns-clause-seat g c = let told = (sym (c.load.ensures.2 c.args.self.now.plan c.args.job c.requires.seat.2 c.requires.job c.count_word-place.ensures.place).0) in ((c.load.ensures.0 ∙ c.requires.seat.0, subst (λ (m : Me (Unit {0}) View). m.1 ≡ []) told c.requires.seat.1, subst (λ (m : Me (Unit {0}) View). m.0.plan ≡ Some c.args.self.now.plan) told c.requires.seat.2, subst (λ (m : Me (Unit {0}) View). m.0.held ≡ None) told c.requires.seat.3), c.load.ensures.1)

pub returns-clause-grows : goal.returns-clause-grows
returns-clause-grows g c = let told = (sym (c.load.ensures.2 c.args.self.now.plan c.args.job c.requires.seat.2 c.requires.job c.count_word-place.ensures.place).0) in subst (λ (m : Me (Unit {0}) View). Grows c.args.seat.now.me.0 m.0) told (counted_grows c.args.seat.now.me.0 c.args.job c.load.result)

pub returns-clause-ready : goal.returns-clause-ready
returns-clause-ready g c = let told = (sym (c.load.ensures.2 c.args.self.now.plan c.args.job c.requires.seat.2 c.requires.job c.count_word-place.ensures.place).0) in λ z. subst (λ (m : Me (Unit {0}) View). Contains m.0.ready c.args.job) told (counted_ready c.args.seat.now.me.0 c.args.job c.load.result z)
