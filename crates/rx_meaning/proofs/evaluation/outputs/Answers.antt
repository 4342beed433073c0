use Rattle.std.proofs.Common.{ℕ, ◌+◌, ◌<◌, List, ◌++◌, length, get_or, drop, refl, sym, ap, ◌∙◌, arith}
use Rattle.rx_language.specs.declared.kind.NameKind.TheVariants.{Int}
use Rattle.rx_meaning.specs.declared.operand.Operand.{Operand}
use Rattle.rx_meaning.specs.Values.{given_out}
use Rattle.rx_meaning.proofs.Walks.{given_more, given_end}
use Rattle.rx_meaning.proofs.evaluation.outputs.Goals as goal

pub loop-place-preserved : goal.loop-place-preserved
loop-place-preserved c =
    let lines = c.args.lines.now in
    let values : List Operand = c.args.values.now in
    let place : ℕ = c.loop-place.place in
    let d : Operand = record { kind = Int 0; value = 0 } in
    let within : place < length values = omega (arith, c.requires) in
    let m = given_more c.loop-place.outputs.items lines values place c.index-lines-place.result (get_or values place d) d c.loop-place-test.true within c.index-lines-place.is refl in
    ap (λ (xs : List ℕ). xs ++ given_out (drop (place + 1) lines) (drop (place + 1) values)) c.in_ok-give_out.ensures ∙ sym m ∙ c.loop-place.invariant

pub returns : goal.returns
returns c = sym (given_end c.loop-place.outputs.items c.args.lines.now c.args.values.now c.loop-place.place c.loop-place-test.false) ∙ c.loop-place.invariant
