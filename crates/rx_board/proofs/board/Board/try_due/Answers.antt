use Rattle.std.proofs.Common.{◌≡◌, ℕ, List, sym, ◌∙◌, subst, arith}
use Rattle.std.specs.Prelude.{Contains}
use Rattle.rx_board.specs.Tells.{EndsWith}
use Rattle.rx_board.proofs.Views.{grows_on, ends_earlier}
use Rattle.rx_board.proofs.board.Board.try_due.Goals as goal

pub returns-then-look_count-ne0-clause-grows : goal.returns-then-look_count-ne0-clause-grows
returns-then-look_count-ne0-clause-grows g c = grows_on _ _ _ c.look.ensures.grows c.look_count.ensures.grows

pub returns-then-found-ne0-clause-grows : goal.returns-then-found-ne0-clause-grows
returns-then-found-ne0-clause-grows g c = grows_on _ _ _ c.look.ensures.grows (grows_on _ _ _ c.look_count.ensures.grows c.claim-found.ensures.grows)

pub returns-clause-grows : goal.returns-clause-grows
returns-clause-grows g c = grows_on _ _ _ c.look.ensures.grows (grows_on _ _ _ c.look_count.ensures.grows c.claim-found.ensures.grows)

pub returns-clause-tried : goal.returns-clause-tried
returns-clause-tried g c = λ _. let zero : c.claim-found.result ≡ 0 = c.if-found-ne0.false in let due : c.look_count.result ≡ 0 = c.if-look_count-ne0.false in (
  c.claim-found.ensures.held zero,
  c.claim-found.ensures.grows.ready _ (c.look_count.ensures.ready due),
  (λ h. let two : c.claim-found.result ≡ 2 = c.claim-found.ensures.ran (subst (λ (xs : List ℕ). Contains xs c.args.job) (sym (c.look_count.ensures.grows.ran ∙ c.look.ensures.grows.ran)) h) in omega arith),
  ends_earlier _ _ _ _ _ (grows_on _ _ _ c.look.ensures.grows c.look_count.ensures.grows) (subst (λ (r : ℕ). EndsWith c.look_count.new.seat.me.0 c.claim-found.new.seat.me.0 c.args.job r) zero c.claim-found.ensures.ends),
  c.claim-found.ensures.absent (λ e. omega arith),
)
