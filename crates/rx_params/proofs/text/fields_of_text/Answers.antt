use Rattle.std.proofs.Common.{drop, refl, sym}
use Rattle.std.proofs.lemmas.Bool.{iff_false}
use Rattle.std.proofs.lemmas.Result.{err_from_is_err_and}
use Rattle.rx_params.specs.Text.{field_names, params_from}
use Rattle.rx_params.proofs.Texts.{not_ended}
use Rattle.rx_params.proofs.text.fields_of_text.Goals as goal

pub returns-in_err-field : goal.returns-in_err-field
unfolding params_from
returns-in_err-field c =
    let p = err_from_is_err_and c.from_residual.result c.from_residual.ensures.1 in
    rw (p.1, p.2, sym c.of-lines.ensures, c.in_err-field.ensures.fault (drop 1 field_names)) refl

pub returns-in_err-field-2 : goal.returns-in_err-field-2
unfolding params_from
returns-in_err-field-2 c =
    let p = err_from_is_err_and c.from_residual-in_err-field-2.result c.from_residual-in_err-field-2.ensures.1 in
    rw (p.1, p.2, sym c.of-lines.ensures, c.in_ok-field.ensures.value (drop 1 field_names), c.in_err-field-2.ensures.fault (drop 2 field_names)) refl

pub returns-in_err-field-3 : goal.returns-in_err-field-3
unfolding params_from
returns-in_err-field-3 c =
    let p = err_from_is_err_and c.from_residual-in_err-field-3.result c.from_residual-in_err-field-3.ensures.1 in
    rw (p.1, p.2, sym c.of-lines.ensures, c.in_ok-field.ensures.value (drop 1 field_names), c.in_ok-field-2.ensures.value (drop 2 field_names), c.in_err-field-3.ensures.fault (drop 3 field_names)) refl

pub returns-in_err-field-4 : goal.returns-in_err-field-4
unfolding params_from
returns-in_err-field-4 c =
    let p = err_from_is_err_and c.from_residual-in_err-field-4.result c.from_residual-in_err-field-4.ensures.1 in
    rw (p.1, p.2, sym c.of-lines.ensures, c.in_ok-field.ensures.value (drop 1 field_names), c.in_ok-field-2.ensures.value (drop 2 field_names), c.in_ok-field-3.ensures.value (drop 3 field_names), c.in_err-field-4.ensures.fault (drop 4 field_names)) refl

pub returns-in_err-field-5 : goal.returns-in_err-field-5
unfolding params_from
returns-in_err-field-5 c =
    let p = err_from_is_err_and c.from_residual-in_err-field-5.result c.from_residual-in_err-field-5.ensures.1 in
    rw (p.1, p.2, sym c.of-lines.ensures, c.in_ok-field.ensures.value (drop 1 field_names), c.in_ok-field-2.ensures.value (drop 2 field_names), c.in_ok-field-3.ensures.value (drop 3 field_names), c.in_ok-field-4.ensures.value (drop 4 field_names), c.in_err-field-5.ensures.fault (drop 5 field_names)) refl

pub returns-in_err-field-6 : goal.returns-in_err-field-6
unfolding params_from
returns-in_err-field-6 c =
    let p = err_from_is_err_and c.from_residual-in_err-field-6.result c.from_residual-in_err-field-6.ensures.1 in
    rw (p.1, p.2, sym c.of-lines.ensures, c.in_ok-field.ensures.value (drop 1 field_names), c.in_ok-field-2.ensures.value (drop 2 field_names), c.in_ok-field-3.ensures.value (drop 3 field_names), c.in_ok-field-4.ensures.value (drop 4 field_names), c.in_ok-field-5.ensures.value (drop 5 field_names), c.in_err-field-6.ensures.fault (drop 6 field_names)) refl

pub returns-in_err-field-7 : goal.returns-in_err-field-7
unfolding params_from
returns-in_err-field-7 c =
    let p = err_from_is_err_and c.from_residual-in_err-field-7.result c.from_residual-in_err-field-7.ensures.1 in
    rw (p.1, p.2, sym c.of-lines.ensures, c.in_ok-field.ensures.value (drop 1 field_names), c.in_ok-field-2.ensures.value (drop 2 field_names), c.in_ok-field-3.ensures.value (drop 3 field_names), c.in_ok-field-4.ensures.value (drop 4 field_names), c.in_ok-field-5.ensures.value (drop 5 field_names), c.in_ok-field-6.ensures.value (drop 6 field_names), c.in_err-field-7.ensures.fault (drop 7 field_names)) refl

pub returns-in_err-field-8 : goal.returns-in_err-field-8
unfolding params_from
returns-in_err-field-8 c =
    let p = err_from_is_err_and c.from_residual-in_err-field-8.result c.from_residual-in_err-field-8.ensures.1 in
    rw (p.1, p.2, sym c.of-lines.ensures, c.in_ok-field.ensures.value (drop 1 field_names), c.in_ok-field-2.ensures.value (drop 2 field_names), c.in_ok-field-3.ensures.value (drop 3 field_names), c.in_ok-field-4.ensures.value (drop 4 field_names), c.in_ok-field-5.ensures.value (drop 5 field_names), c.in_ok-field-6.ensures.value (drop 6 field_names), c.in_ok-field-7.ensures.value (drop 7 field_names), c.in_err-field-8.ensures.fault (drop 8 field_names)) refl

pub returns-in_err-field-9 : goal.returns-in_err-field-9
unfolding params_from
returns-in_err-field-9 c =
    let p = err_from_is_err_and c.from_residual-in_err-field-9.result c.from_residual-in_err-field-9.ensures.1 in
    rw (p.1, p.2, sym c.of-lines.ensures, c.in_ok-field.ensures.value (drop 1 field_names), c.in_ok-field-2.ensures.value (drop 2 field_names), c.in_ok-field-3.ensures.value (drop 3 field_names), c.in_ok-field-4.ensures.value (drop 4 field_names), c.in_ok-field-5.ensures.value (drop 5 field_names), c.in_ok-field-6.ensures.value (drop 6 field_names), c.in_ok-field-7.ensures.value (drop 7 field_names), c.in_ok-field-8.ensures.value (drop 8 field_names), c.in_err-field-9.ensures.fault (drop 9 field_names)) refl

pub returns-in_err-field-10 : goal.returns-in_err-field-10
unfolding params_from
returns-in_err-field-10 c =
    let p = err_from_is_err_and c.from_residual-in_err-field-10.result c.from_residual-in_err-field-10.ensures.1 in
    rw (p.1, p.2, sym c.of-lines.ensures, c.in_ok-field.ensures.value (drop 1 field_names), c.in_ok-field-2.ensures.value (drop 2 field_names), c.in_ok-field-3.ensures.value (drop 3 field_names), c.in_ok-field-4.ensures.value (drop 4 field_names), c.in_ok-field-5.ensures.value (drop 5 field_names), c.in_ok-field-6.ensures.value (drop 6 field_names), c.in_ok-field-7.ensures.value (drop 7 field_names), c.in_ok-field-8.ensures.value (drop 8 field_names), c.in_ok-field-9.ensures.value (drop 9 field_names), c.in_err-field-10.ensures.fault (drop 10 field_names)) refl

pub returns-then-is_done : goal.returns-then-is_done
unfolding params_from
returns-then-is_done c =
    rw (sym c.of-lines.ensures, c.in_ok-field.ensures.value (drop 1 field_names), c.in_ok-field-2.ensures.value (drop 2 field_names), c.in_ok-field-3.ensures.value (drop 3 field_names), c.in_ok-field-4.ensures.value (drop 4 field_names), c.in_ok-field-5.ensures.value (drop 5 field_names), c.in_ok-field-6.ensures.value (drop 6 field_names), c.in_ok-field-7.ensures.value (drop 7 field_names), c.in_ok-field-8.ensures.value (drop 8 field_names), c.in_ok-field-9.ensures.value (drop 9 field_names), c.in_ok-field-10.ensures.value (drop 10 field_names), c.is_done.ensures.0 c.if-is_done.true) refl

pub returns-else-is_done : goal.returns-else-is_done
unfolding params_from
returns-else-is_done c =
    rw (sym c.of-lines.ensures, c.in_ok-field.ensures.value (drop 1 field_names), c.in_ok-field-2.ensures.value (drop 2 field_names), c.in_ok-field-3.ensures.value (drop 3 field_names), c.in_ok-field-4.ensures.value (drop 4 field_names), c.in_ok-field-5.ensures.value (drop 5 field_names), c.in_ok-field-6.ensures.value (drop 6 field_names), c.in_ok-field-7.ensures.value (drop 7 field_names), c.in_ok-field-8.ensures.value (drop 8 field_names), c.in_ok-field-9.ensures.value (drop 9 field_names), c.in_ok-field-10.ensures.value (drop 10 field_names), not_ended 11 c.field-10.new.lines (iff_false c.is_done.ensures c.if-is_done.false)) refl
