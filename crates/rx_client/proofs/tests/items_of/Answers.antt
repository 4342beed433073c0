use Rattle.std.proofs.Common.{◌≡◌, inr, List, sym, ap, ◌∙◌, subst}
use Rattle.std.specs.List.{AllByRecursion}
use Rattle.rx_params.specs.declared.params.Params.{Params}
use Rattle.rx_codec.specs.declared.cipher.Item.{Item}
use Rattle.rx_codec.specs.declared.cipher.Cipher.{Cipher}
use Rattle.rx_codec.specs.CipherFile.{IsItem}
use Rattle.rx_codec.proofs.Fields.{ok_is}
use Rattle.rx_seeded.specs.SeededCipher.{SeededCipher}
use Rattle.rx_client.specs.Encrypt.{encrypted_values}
use Rattle.rx_client.proofs.Encrypted.{values_params, values_fit}
use Rattle.rx_client.proofs.tests.items_of.Goals as goal

pub returns : goal.returns
returns c =
    let made : Cipher = encrypted_values c.args.p.now c.args.key.now _ _ c.args.lines.now in
    let cipher : Cipher = c.in_ok-cipher.cipher in
    let file : SeededCipher c.as_slice.result.now _ made =
    subst (λ bytes. SeededCipher bytes _ made) (sym c.as_slice.ensures.value) c.in_ok-file.ensures.file in
    let same : made ≡ cipher = ok_is made cipher (c.in_ok-cipher.ensures.only made (inr (_, file))) in
    let P : Cipher → Type 0 = λ x. AllByRecursion (IsItem c.args.p.now) x.items in
    let Q : List Item → Type 0 = λ items. AllByRecursion (IsItem c.args.p.now) items in
    let each : AllByRecursion (IsItem made.params) made.items = c.in_ok-file.ensures.file.fits.items in
    let S : Params → Type 0 = λ p. AllByRecursion (IsItem p) made.items in
    subst Q (sym c.into_vec.ensures) (subst P same (subst S (values_params c.args.p.now c.args.key.now _ _ c.args.lines.now) each))
