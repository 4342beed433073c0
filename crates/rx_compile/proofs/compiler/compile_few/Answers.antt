use Rattle.std.proofs.Common.{◌≡◌, length, sym, ap, subst, ◌∙◌}
use Rattle.rx_net.specs.declared.net.Net.{Net}
use Rattle.rx_net.specs.Legal.{Legal}
use Rattle.rx_language.specs.Programs.{Program}
use Rattle.rx_compile.specs.Compiled.{Compiled}
use Rattle.rx_compile.proofs.Whole.{compiled}
use Rattle.rx_compile.proofs.compiler.compile_few.Goals as goal

pub returns : goal.returns
returns c =
    let p : Program = c.args.circuit.now in
    let net : Net = c.give_outputs.new.pen in
    let same : c.finish.result ≡ net = c.finish.ensures.value in
    let count : length c.deref-2.result.now ≡ length p.lines = ap length c.deref-2.ensures.value ∙ c.in_ok-cells.ensures.count in
    subst (λ (n : Net). Compiled p n) (sym same)
    (compiled p net c.deref-2.result.now count c.in_ok-give_outputs.ensures.kept c.in_ok-give_outputs.ensures.given (subst (λ (n : Net). Legal n) same c.finish.ensures.legal))
