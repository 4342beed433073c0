use Rattle.std.proofs.Common.{◌≡◌, sym, refl, None, subst, Bool}
use Rattle.std.proofs.lemmas.Result.{err_from_is_err_and}
use Rattle.rx_net.specs.Faults.{limit, limit_fault}
use Rattle.rx_net.proofs.Faults.{passed_on}
use Rattle.rx_net.proofs.NoFault.{space_from_none}
use Rattle.rx_net.proofs.legality.check_limits.Goals as goal

pub check_inputs-requires : goal.check_inputs-requires
check_inputs-requires c = space_from_none c.args.space (subst (λ (b : Bool). limit b 1 c.args.space ≡ None) c.is_space.ensures c.in_ok-check_limit.ensures)

pub returns-in_err-check_limit : goal.returns-in_err-check_limit
unfolding limit_fault
returns-in_err-check_limit c =
    let p = err_from_is_err_and c.from_residual.result c.from_residual.ensures.1 in
    passed_on c.from_residual.result p.0 _ _ p.1 p.2 (rw (sym c.is_space.ensures, c.in_err-check_limit.ensures) refl)

pub returns-in_err-check_limit-2 : goal.returns-in_err-check_limit-2
unfolding limit_fault
returns-in_err-check_limit-2 c =
    let p = err_from_is_err_and c.from_residual-in_err-check_limit-2.result c.from_residual-in_err-check_limit-2.ensures.1 in
    passed_on c.from_residual-in_err-check_limit-2.result p.0 _ _ p.1 p.2 (rw (sym c.is_space.ensures, c.in_ok-check_limit.ensures, c.in_err-check_limit-2.ensures) refl)

pub returns-in_err-check_inputs : goal.returns-in_err-check_inputs
unfolding limit_fault
returns-in_err-check_inputs c =
    let p = err_from_is_err_and c.from_residual-in_err-check_inputs.result c.from_residual-in_err-check_inputs.ensures.1 in
    passed_on c.from_residual-in_err-check_inputs.result p.0 _ _ p.1 p.2 (rw (sym c.is_space.ensures, c.in_ok-check_limit.ensures, c.in_ok-check_limit-2.ensures, c.in_err-check_inputs.ensures) refl)

pub returns-in_err-check_limit-3 : goal.returns-in_err-check_limit-3
unfolding limit_fault
returns-in_err-check_limit-3 c =
    let p = err_from_is_err_and c.from_residual-in_err-check_limit-3.result c.from_residual-in_err-check_limit-3.ensures.1 in
    passed_on c.from_residual-in_err-check_limit-3.result p.0 _ _ p.1 p.2 (rw (sym c.is_space.ensures, c.in_ok-check_limit.ensures, c.in_ok-check_limit-2.ensures, c.in_ok-check_inputs.ensures, c.in_err-check_limit-3.ensures) refl)

pub returns-in_err-check_terms : goal.returns-in_err-check_terms
unfolding limit_fault
returns-in_err-check_terms c =
    let p = err_from_is_err_and c.from_residual-in_err-check_terms.result c.from_residual-in_err-check_terms.ensures.1 in
    passed_on c.from_residual-in_err-check_terms.result p.0 _ _ p.1 p.2 (rw (sym c.is_space.ensures, c.in_ok-check_limit.ensures, c.in_ok-check_limit-2.ensures, c.in_ok-check_inputs.ensures, c.in_ok-check_limit-3.ensures, c.in_err-check_terms.ensures) refl)

pub returns : goal.returns
unfolding limit_fault
returns c = rw (sym c.is_space.ensures, c.in_ok-check_limit.ensures, c.in_ok-check_limit-2.ensures, c.in_ok-check_inputs.ensures, c.in_ok-check_limit-3.ensures, c.in_ok-check_terms.ensures) c.check_limit-4.ensures
