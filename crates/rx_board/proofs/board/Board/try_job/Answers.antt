use Rattle.std.proofs.Common.{◌≡◌, ℕ, List, rules, sym, ◌∙◌, subst, arith}
use Rattle.std.specs.Prelude.{Contains}
use Rattle.rx_board.specs.Tells.{MetSince, EndsWith}
use Rattle.rx_board.proofs.Views.{grows_on, ends_earlier, waits_earlier, met_earlier}
use Rattle.rx_board.proofs.board.Board.try_job.Goals as goal

pub returns-then-not-is_due-clause-grows : goal.returns-then-not-is_due-clause-grows
returns-then-not-is_due-clause-grows g c = grows_on _ _ _ c.look-state.ensures.grows c.is_due.ensures.grows

pub returns-then-not-is_due-clause-tried : goal.returns-then-not-is_due-clause-tried
returns-then-not-is_due-clause-tried g c = let t = c.is_due.ensures.waits (search rules) in (c.is_due.ensures.seat.0.3, (t.0, waits_earlier _ _ _ _ _ _ c.look-state.ensures.grows t.1))

pub returns-then-found-eq0-clause-grows : goal.returns-then-found-eq0-clause-grows
returns-then-found-eq0-clause-grows g c = grows_on _ _ _ c.look-state.ensures.grows (grows_on _ _ _ c.is_due.ensures.grows c.claim-found.ensures.grows)

pub returns-then-found-eq0-clause-tried : goal.returns-then-found-eq0-clause-tried
returns-then-found-eq0-clause-tried g c = let zero : c.claim-found.result ≡ 0 = c.if-found-eq0.true in (
  c.claim-found.ensures.held zero,
  c.claim-found.ensures.grows.ready _ (c.is_due.ensures.ready (search rules)),
  λ h. let two : c.claim-found.result ≡ 2 = c.claim-found.ensures.ran (subst (λ (xs : List ℕ). Contains xs c.args.job) (sym (c.is_due.ensures.grows.ran ∙ c.look-state.ensures.grows.ran)) h) in omega arith,
  ends_earlier _ _ _ _ _ (grows_on _ _ _ c.look-state.ensures.grows c.is_due.ensures.grows) (subst (λ (r : ℕ). EndsWith c.is_due.new.seat.me.0 c.claim-found.new.seat.me.0 c.args.job r) zero c.claim-found.ensures.ends),
  c.claim-found.ensures.absent (λ e. omega arith),
)

pub returns-then-found-eq1-clause-grows : goal.returns-then-found-eq1-clause-grows
returns-then-found-eq1-clause-grows g c = grows_on _ _ _ c.look-state.ensures.grows (grows_on _ _ _ c.is_due.ensures.grows c.claim-found.ensures.grows)

pub returns-then-found-eq1-clause-tried : goal.returns-then-found-eq1-clause-tried
returns-then-found-eq1-clause-tried g c = let one : c.claim-found.result ≡ 1 = c.if-found-eq1.true in (
  c.claim-found.ensures.missed (λ e. omega arith),
  met_earlier _ _ _ _ _ (grows_on _ _ _ c.look-state.ensures.grows c.is_due.ensures.grows) (subst (λ (r : ℕ). MetSince c.is_due.new.seat.me.0 c.claim-found.new.seat.me.0 c.args.job r) one c.claim-found.ensures.met),
)

pub returns-clause-grows : goal.returns-clause-grows
returns-clause-grows g c = grows_on _ _ _ c.look-state.ensures.grows (grows_on _ _ _ c.is_due.ensures.grows c.claim-found.ensures.grows)
