use Rattle.std.proofs.Common.{◌≡◌, ◌<◌, ◌*◌, ◌∙◌, ap, sym, Some}
use Rattle.rx_laws.specs.Decode.{plaintexts}
use Rattle.rx_params.specs.declared.bounds.Refused.TheVariants.{NarrowBox}
use Rattle.rx_params.proofs.Refusals.{refused-box}
use Rattle.rx_params.proofs.bounds.check_box.Goals as goal

pub returns-else-numbers-p-clause-narrow : goal.returns-else-numbers-p-clause-narrow
returns-else-numbers-p-clause-narrow c =
    let numbers : c.from-numbers.result ≡ plaintexts c.args.p.now.message_bits = c.from-numbers.ensures ∙ c.plaintexts.ensures.value in
    let narrow : c.args.p.now.poly_size < 2 * plaintexts c.args.p.now.message_bits = rw numbers at c.if-numbers-p.false in
    refused-box c.args.rotation c.args.p.now c.requires.fields c.requires.whole c.requires.key narrow ∙ ap (λ n. Some (NarrowBox c.args.p.now.poly_size n)) (sym numbers)
