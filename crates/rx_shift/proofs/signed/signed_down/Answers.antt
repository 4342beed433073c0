use Rattle.std.proofs.Common.{◌≡◌, ◌^◌, ◌-◌, ◌*◌, ◌/◌, ℕ, List, length, get_or, sym, ◌∙◌, ap, arith, subst}
use Rattle.std.proofs.lemmas.Result.{IfOk-weaker}
use Rattle.rx_net.specs.Cells.{value}
use Rattle.rx_net.proofs.Grows.{extends_onward}
use Rattle.rx_plan.specs.Values.{number_held, cell_value}
use Rattle.rx_plan.specs.Planned.{Each, EachOf, Planned}
use Rattle.rx_plan.specs.Results.{GivesNumber}
use Rattle.rx_costs.specs.Logs.{log_up}
use Rattle.rx_costs.specs.Table.{amount_shift_jobs, amount_shift_depth}
use Rattle.rx_shift.specs.Signed.{turned_under}
use Rattle.rx_shift.proofs.SignBlocks.{signed_planned}
use Rattle.rx_shift.proofs.signed.signed_down.Goals as goal

pub returns-clause-planned : goal.returns-clause-planned
returns-clause-planned c =
    let p = c.args.pen.now in
    let one = c.turned.new.pen in
    let two = c.shrv.new.pen in
    let new = c.turned-2.new.pen in
    let a : List ℕ = c.args.a.now in
    let amount : List ℕ = c.args.amount.now in
    let top : ℕ = get_or a (length a - 1) 0 in
    let cs : List ℕ = c.in_ok-first.first.items in
    let moved : List ℕ = c.shrv.new.out.items in
    let g =
    subst (λ (ds : List ℕ). GivesNumber one two c.new-moved.result.items moved (length ds) (amount_shift_jobs (log_up 2 (one.space * length ds)) (length ds)) (amount_shift_depth (log_up 2 (one.space * length ds))) (EachOf ds amount)
    (λ xs. number_held one ds xs / 2 ^ number_held one amount xs)) c.deref.ensures.value c.in_ok-shrv.ensures.gives in
    let g0 =
    subst (λ (start : List ℕ). GivesNumber one two start moved (length cs) (amount_shift_jobs (log_up 2 (one.space * length cs)) (length cs)) (amount_shift_depth (log_up 2 (one.space * length cs))) (EachOf cs amount)
    (λ xs. number_held one cs xs / 2 ^ number_held one amount xs)) c.new-moved.ensures.items g in
    IfOk-weaker c.turned-2.result _ _ (λ cells q.
    signed_planned p one two new cs moved cells.items a amount c.space-space.ensures.bounded (omega arith) c.requires.some c.requires.first c.requires.second
    c.in_ok-first.ensures.planned g0
    (subst (λ (ds : List ℕ). Planned two new cells.items (λ _. 2 ^ two.space - 1) (length ds) (length ds) 1 (λ P. P top × Each ds P) (λ xs i. turned_under two.space (value two xs top) (cell_value two ds xs i))) c.deref-2.ensures.value q))
    c.turned-2.ensures.planned

pub returns-clause-kept : goal.returns-clause-kept
returns-clause-kept c = extends_onward _ _ _ (extends_onward _ _ _ c.turned.ensures.kept c.shrv.ensures.kept) c.turned-2.ensures.kept
