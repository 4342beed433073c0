use Rattle.std.proofs.Common.{rules, ◌≡◌, [], ℕ, sym, ap, ◌∙◌, List, subst}
use Rattle.std.specs.Prelude.{Some, None, Contains}
use Rattle.rx_board.specs.declared.view.View.{View}
use Rattle.rx_board.specs.Tells.{Grows, MetSince}
use Rattle.atomic_table.specs.Table.{Me}
use Rattle.rx_board.proofs.Steps.{looks_at}
use Rattle.rx_board.proofs.Views.{found_absent, found_grows, found_met, found_present}
use Rattle.rx_board.proofs.board.Board.look.Goals as goal

pub load-requires : goal.load-requires
load-requires g c = (search rules, search rules, looks_at c.args.self.now _ c.self.view_is _ _ _ c.args.job _ c.state_word-place.ensures.place c.requires.seat.2 c.requires.seat.3 c.requires.job)

pub returns-clause-seat : goal.returns-clause-seat
returns-clause-seat g c = let told = (sym (c.load.ensures.2 c.args.self.now.plan c.args.job c.requires.seat.2 c.requires.job c.state_word-place.ensures.place).0) in ((c.load.ensures.0 ∙ c.requires.seat.0, subst (λ (m : Me (Unit {0}) View). m.1 ≡ []) told c.requires.seat.1, subst (λ (m : Me (Unit {0}) View). m.0.plan ≡ Some c.args.self.now.plan) told c.requires.seat.2, subst (λ (m : Me (Unit {0}) View). m.0.held ≡ None) told c.requires.seat.3), c.load.ensures.1)

pub returns-clause-grows : goal.returns-clause-grows
returns-clause-grows g c = let told = (sym (c.load.ensures.2 c.args.self.now.plan c.args.job c.requires.seat.2 c.requires.job c.state_word-place.ensures.place).0) in subst (λ (m : Me (Unit {0}) View). Grows c.args.seat.now.me.0 m.0) told (found_grows c.args.seat.now.me.0 c.args.job c.load.result)

pub returns-clause-met : goal.returns-clause-met
returns-clause-met g c = let told = (sym (c.load.ensures.2 c.args.self.now.plan c.args.job c.requires.seat.2 c.requires.job c.state_word-place.ensures.place).0) in subst (λ (m : Me (Unit {0}) View). MetSince c.args.seat.now.me.0 m.0 c.args.job c.load.result) told (found_met c.args.seat.now.me.0 c.args.job c.load.result)

pub returns-clause-present : goal.returns-clause-present
returns-clause-present g c = let told = (sym (c.load.ensures.2 c.args.self.now.plan c.args.job c.requires.seat.2 c.requires.job c.state_word-place.ensures.place).0) in λ two. subst (λ (m : Me (Unit {0}) View). Contains m.0.known c.args.job) told (found_present c.args.seat.now.me.0 c.args.job c.load.result two)

pub returns-clause-absent : goal.returns-clause-absent
returns-clause-absent g c = let told = (c.load.ensures.2 c.args.self.now.plan c.args.job c.requires.seat.2 c.requires.job c.state_word-place.ensures.place) in
    λ other h. other (told.3 (subst (λ (xs : List ℕ). Contains xs c.args.job) (ap (λ (m : Me (Unit {0}) View). m.0.known) told.0 ∙ found_absent c.args.seat.now.me.0 c.args.job c.load.result other) h))
