use Rattle.std.proofs.Common.{◌≡◌, ◌*◌, ◌++◌, ℕ, List, length, ◌∙◌, ap}
use Rattle.rx_residue.specs.Division.{quotient, remainder}
use Rattle.rx_costs.specs.Table.{div_jobs, div_depth}
use Rattle.rx_plan.specs.Values.{number_held}
use Rattle.rx_plan.specs.Planned.{EachOf}
use Rattle.rx_plan.proofs.Given.{number_given}
use Rattle.rx_div.proofs.division.div_rem.Goals as goal

pub returns-clause-quotient : goal.returns-clause-quotient
returns-clause-quotient c =
    let p = c.args.pen.now in
    let a : List ℕ = c.args.a.now in
    let b : List ℕ = c.args.b.now in
    let n : ℕ = length a in
    let before : List ℕ = c.args.quot.now.items in
    let cells : List ℕ = c.in_ok-made.made.quot.items in
    let e : c.append.new.quot.items ≡ before ++ cells = c.in_ok-append.ensures.quotient ∙ ap (λ cs. before ++ cs) c.deref.ensures.value in
    number_given p c.both.new.pen before c.append.new.quot.items cells n (div_jobs p.space n) (div_depth p.space n) (EachOf a b) (λ xs. quotient (p.space * n) (number_held p a xs) (number_held p b xs)) e
    c.in_ok-made.ensures.quotient

pub returns-clause-remainder : goal.returns-clause-remainder
returns-clause-remainder c =
    let p = c.args.pen.now in
    let a : List ℕ = c.args.a.now in
    let b : List ℕ = c.args.b.now in
    let n : ℕ = length a in
    let before : List ℕ = c.args.rest.now.items in
    let cells : List ℕ = c.in_ok-made.made.rest.items in
    let e : c.append.new.rest.items ≡ before ++ cells = c.in_ok-append.ensures.remainder ∙ ap (λ cs. before ++ cs) c.deref-2.ensures.value in
    number_given p c.both.new.pen before c.append.new.rest.items cells n (div_jobs p.space n) (div_depth p.space n) (EachOf a b) (λ xs. remainder (number_held p a xs) (number_held p b xs)) e
    c.in_ok-made.ensures.remainder
