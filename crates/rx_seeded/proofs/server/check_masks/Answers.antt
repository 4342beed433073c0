use Rattle.std.proofs.Common.{◌≡◌, ℕ, List, None, length, ap, sym, ◌∙◌}
use Rattle.rx_boot.specs.ServerKeys.{ServerWords}
use Rattle.rx_boot.specs.Seeded.{key_of_bodies, key_bodies, redrawn_key, body_size}
use Rattle.rx_boot.proofs.SeededKeys.{seeded_key_laws}
use Rattle.rx_seeded.proofs.SeededServers.{wrong_part, told_part, key-drawn}
use Rattle.rx_seeded.proofs.server.check_masks.Goals as goal

pub returns-in-Some : goal.returns-in-Some
returns-in-Some c =
    let key : ServerWords = c.args.key.now in
    let bodies : List ℕ = c.args.bodies.now in
    told_part seeded_key_laws c.args.mask_seed.now bodies key c.in_ok-drawn.drawn c.requires.bodies c.requires.size c.requires.fits.boot_count
    (c.in_ok-drawn.ensures ∙ ap (λ (k : ServerWords). key_of_bodies k.params c.args.mask_seed.now bodies) c.key.view_is)
    ∙ sym c.wrong_mask.ensures ∙ c.in-Some.is

pub returns : goal.returns
returns c =
    let key : ServerWords = c.args.key.now in
    let bodies : List ℕ = c.args.bodies.now in
    let mask_seed : List ℕ = c.args.mask_seed.now in
    let count : length (key_bodies key) ≡ body_size key.params = ap length (sym c.requires.bodies) ∙ c.requires.size in
    let drawn : c.in_ok-drawn.drawn ≡ redrawn_key mask_seed key =
    c.in_ok-drawn.ensures ∙ ap (λ (k : ServerWords). key_of_bodies k.params mask_seed bodies) c.key.view_is
    ∙ ap (key_of_bodies key.params mask_seed) c.requires.bodies in
    let none : wrong_part key c.in_ok-drawn.drawn ≡ None = sym c.wrong_mask.ensures ∙ c.in-None.is in (
      told_part seeded_key_laws mask_seed bodies key c.in_ok-drawn.drawn c.requires.bodies c.requires.size c.requires.fits.boot_count
          (c.in_ok-drawn.ensures ∙ ap (λ (k : ServerWords). key_of_bodies k.params mask_seed bodies) c.key.view_is)
          ∙ none,
      key-drawn seeded_key_laws mask_seed key count c.requires.fits.boot_count c.requires.fits.switch_count
          (ap (wrong_part key) (sym drawn) ∙ none),
    )
