use Rattle.std.proofs.Common.{◌∙◌, ap, length, arith}
use Rattle.rx_language.specs.Programs.{defines}
use Rattle.rx_language.proofs.Steps.{length-by}
use Rattle.rx_language.proofs.Lookups.{found_below, found_is}
use Rattle.rx_language.proofs.draft.Draft.find.Goals as goal

pub index-requires : goal.index-requires
index-requires c =
    let told = rw c.as_str.ensures.value at c.in_ok-place.ensures.value in
    let below = found_below (defines c.args.name.now) c.self.inside.lines.items c.in_ok-place.field-0.now (told ∙ c.self.invariant.places_are c.args.name.now) in
    omega (arith, below.0, length-by c.self.inside.width c.self.inside.lines.items, ap length c.self.invariant.steps_are, c.self.inside.steps.ok)

pub returns : goal.returns
returns c =
    let told = rw c.as_str.ensures.value at c.in_ok-place.ensures.value in
    rw (← c.self.view_is)
    (found_is c.self.inside.width c.self.inside.lines.items c.self.inside.steps.items c.args.name.now c.in_ok-place.field-0.now c.index.result.now
    (told ∙ c.self.invariant.places_are c.args.name.now) c.self.invariant.steps_are c.index.ensures)
