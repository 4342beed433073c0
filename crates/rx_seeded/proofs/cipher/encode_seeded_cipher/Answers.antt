use Rattle.std.proofs.Common.{◌≡◌, None, List, ap, sym, ◌∙◌}
use Rattle.rx_codec.specs.declared.cipher.Item.{Item}
use Rattle.rx_seeded.specs.SeededCipher.{wrong_in_items, wrong_cipher_mask}
use Rattle.rx_seeded.proofs.WrongMasks.{items-drawn}
use Rattle.rx_seeded.proofs.cipher.encode_seeded_cipher.Goals as goal

pub returns : goal.returns
returns c =
    let none : wrong_cipher_mask c.args.mask_seed.now c.args.value.now ≡ None =
    ap (λ (items : List Item). wrong_in_items c.args.value.now.params c.args.mask_seed.now 0 48 items) (sym c.as_slice.ensures)
    ∙ sym c.wrong_in_items.ensures ∙ c.in-None.is in (
      none,
      record {
        seed = c.seed_fits.ensures;
        fits = c.in_ok-spell-in-None.ensures.fits;
        drawn = items-drawn c.args.value.now.params c.args.mask_seed.now 0 48 c.args.value.now.items c.requires.items none;
        spelled = c.in_ok-spell-in-None.ensures.bytes;
      },
    )
