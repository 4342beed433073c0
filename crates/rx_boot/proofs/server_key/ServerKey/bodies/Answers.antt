use Rattle.std.proofs.Common.{◌≡◌, ◌+◌, ◌*◌, ◌++◌, length, ap, sym, ◌∙◌}
use Rattle.rx_params.specs.declared.params.Params.{Params}
use Rattle.rx_lwe.specs.Seeded.{row_bodies}
use Rattle.rx_boot.specs.BootKeys.{boot_size}
use Rattle.rx_boot.specs.ServerKeys.{ServerWords}
use Rattle.rx_boot.specs.Seeded.{key_bodies, body_size}
use Rattle.rx_params.specs.Derived.{large_dim}
use Rattle.rx_boot.proofs.SeededKeys.{boot_size-rows, bodies_are, key_bodies-length, switch_words_are}
use Rattle.rx_boot.proofs.server_key.ServerKey.bodies.Goals as goal

-- the words of the bootstrapping rows are those of so many rows
pub row_bodies-requires : goal.row_bodies-requires
unfolding large_dim
row_bodies-requires c =
    let p : Params = c.self.inside.params in
    ap length c.words-boot.ensures ∙ c.self.invariant.1 ∙ sym (boot_size-rows p)
    ∙ ap (λ r. r * (p.glwe_dim * p.poly_size + p.poly_size)) (sym c.boot_rows.ensures.value)

pub returns-clause-bodies : goal.returns-clause-bodies
returns-clause-bodies c =
    let p : Params = c.self.inside.params in
    bodies_are p c.self.inside.boot c.self.inside.switch.words c.words-boot.result.now c.words-switch.result.now
    c.extend_from_slice.new.self.items c.boot_rows.result c.switch_rows.result c.words-boot.ensures c.words-switch.ensures.value
    c.boot_rows.ensures.value c.switch_rows.ensures.value
    (c.in_ok-extend_from_slice.ensures.items
    ∙ ap (λ xs. xs ++ c.deref.result.now) c.in_ok-bodies.ensures
    ∙ ap (λ ys. row_bodies (p.glwe_dim * p.poly_size) p.poly_size c.boot_rows.result c.words-boot.result.now ++ ys)
    (c.deref.ensures.value ∙ c.in_ok-last.ensures))
    ∙ ap (λ (k : ServerWords). key_bodies k) c.self.view_is

pub returns-clause-size : goal.returns-clause-size
returns-clause-size c =
    let boot : length c.self.inside.boot ≡ boot_size c.self.inside.params = c.self.invariant.1 in
    ap length (returns-clause-bodies c)
    ∙ ap (λ (k : ServerWords). length (key_bodies k)) (sym c.self.view_is)
    ∙ key_bodies-length (record { params = c.self.inside.params; boot = c.self.inside.boot; switch = c.self.inside.switch.words })
    boot (switch_words_are c.self.inside.params c.self.inside.switch c.words-switch.result.now c.words-switch.ensures.value
    c.words-switch.ensures.sized c.self.invariant.2)
    ∙ ap (λ (k : ServerWords). body_size k.params) c.self.view_is
