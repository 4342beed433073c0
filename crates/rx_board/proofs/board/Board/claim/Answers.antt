use Rattle.std.proofs.Common.{◌≡◌, [], ℕ, sym, ap, ◌∙◌, subst, List}
use Rattle.std.specs.Prelude.{Some, None, Contains}
use Rattle.rx_board.specs.declared.view.View.{View}
use Rattle.rx_board.specs.Rule.{holding}
use Rattle.rx_board.specs.Tells.{Grows, MetSince, EndsWith}
use Rattle.atomic_table.specs.Table.{Me}
use Rattle.rx_board.proofs.Views.{found_absent, claimed_grows, claimed_met, claimed_ends, claimed_present, claimed_held, claimed_missed}
use Rattle.rx_board.proofs.board.Board.claim.Goals as goal

pub returns-clause-seat : goal.returns-clause-seat
returns-clause-seat g c = let told = (sym c.exchange.ensures.view) in ((c.exchange.ensures.seat.0 ∙ c.requires.seat.0, subst (λ (m : Me (Unit {0}) View). m.1 ≡ []) told c.requires.seat.1, subst (λ (m : Me (Unit {0}) View). m.0.plan ≡ Some c.args.self.now.plan) told c.requires.seat.2), c.exchange.ensures.seat.1)

pub returns-clause-grows : goal.returns-clause-grows
returns-clause-grows g c = let told = (sym c.exchange.ensures.view) in subst (λ (m : Me (Unit {0}) View). Grows c.args.seat.now.me.0 m.0) told (claimed_grows c.args.seat.now.me.0 c.args.job c.exchange.result)

pub returns-clause-met : goal.returns-clause-met
returns-clause-met g c = let told = (sym c.exchange.ensures.view) in subst (λ (m : Me (Unit {0}) View). MetSince c.args.seat.now.me.0 m.0 c.args.job c.exchange.result) told (claimed_met c.args.seat.now.me.0 c.args.job c.exchange.result)

pub returns-clause-present : goal.returns-clause-present
returns-clause-present g c = let told = (sym c.exchange.ensures.view) in λ two. subst (λ (m : Me (Unit {0}) View). Contains m.0.known c.args.job) told (claimed_present c.args.seat.now.me.0 c.args.job c.exchange.result two)

pub returns-clause-held : goal.returns-clause-held
returns-clause-held g c = let told = (sym c.exchange.ensures.view) in λ z. subst (λ (m : Me (Unit {0}) View). m.0.held ≡ Some (holding c.args.job 0 0)) told (claimed_held c.args.seat.now.me.0 c.args.job c.exchange.result z)

pub returns-clause-missed : goal.returns-clause-missed
returns-clause-missed g c = let told = (sym c.exchange.ensures.view) in λ z. subst (λ (m : Me (Unit {0}) View). m.0.held ≡ None) told (claimed_missed c.args.seat.now.me.0 c.args.job c.exchange.result z ∙ c.requires.seat.3)

pub returns-clause-absent : goal.returns-clause-absent
returns-clause-absent g c = let told = c.exchange.ensures.view in
    λ other h. other (c.exchange.ensures.known (subst (λ (xs : List ℕ). Contains xs c.args.job) (ap (λ (m : Me (Unit {0}) View). m.0.known) told ∙ found_absent c.args.seat.now.me.0 c.args.job c.exchange.result other) h))

pub returns-clause-ends : goal.returns-clause-ends
returns-clause-ends g c = let told = (sym c.exchange.ensures.view) in subst (λ (m : Me (Unit {0}) View). EndsWith c.args.seat.now.me.0 m.0 c.args.job c.exchange.result) told (claimed_ends c.args.seat.now.me.0 c.args.job c.exchange.result)
