use Rattle.std.proofs.Common.{refl, sym}
use Rattle.rx_text.proofs.NameLemmas.{held_name}
use Rattle.rx_text.proofs.name.Name.of.Goals as goal

pub invariant_of-result : goal.invariant_of-result
invariant_of-result c =
    rw c.copy_from_slice.ensures.after (held_name c.args.text.now (c.if-not-is_name_text.ensures.short refl) (sym c.if-not-is_name_text.ensures.value))
