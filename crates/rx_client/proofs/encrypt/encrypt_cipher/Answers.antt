use Rattle.std.proofs.Common.{◌∙◌, subst, sym, map}
use Rattle.rx_codec.specs.declared.cipher.Cipher.{Cipher}
use Rattle.rx_codec.specs.CipherFile.{IsCipher}
use Rattle.rx_codec.specs.Kept.{AreItemsKept}
use Rattle.rx_codec.proofs.Ciphers.{writable}
use Rattle.rx_client.specs.Encrypt.{line_digits, KeepsValues}
use Rattle.rx_client.proofs.Encrypted.{values_fit, values_keep, values_are}
use Rattle.rx_client.proofs.LineDigits.{values_kept}
use Rattle.rx_client.proofs.encrypt.encrypt_cipher.Goals as goal

pub returns-clause-exact : goal.returns-clause-exact
returns-clause-exact c =
    values_are c.args.p.now c.args.key.now c.args.mask_seed.now c.args.noise_seed.now c.args.lines.now c.from_vec.result
    (c.from_vec.ensures ∙ c.in_ok-items.ensures)

pub returns-clause-fits : goal.returns-clause-fits
returns-clause-fits c =
    subst IsCipher (sym (returns-clause-exact c))
    (values_fit c.args.p.now c.args.key.now c.args.mask_seed.now c.args.noise_seed.now c.args.lines.now
    c.requires.accepted c.requires.key c.requires.values c.requires.widths)

pub returns-clause-writable : goal.returns-clause-writable
returns-clause-writable c = writable _ (returns-clause-fits c)

pub returns-clause-keeps : goal.returns-clause-keeps
returns-clause-keeps c =
    subst (λ (cipher : Cipher). KeepsValues c.args.p.now c.args.key.now cipher.items c.args.lines.now) (sym (returns-clause-exact c))
    (values_keep c.args.p.now c.args.key.now c.args.mask_seed.now c.args.noise_seed.now c.args.lines.now
    c.requires.accepted.fields c.requires.values)

pub returns-clause-kept : goal.returns-clause-kept
returns-clause-kept c =
    subst (λ (cipher : Cipher). AreItemsKept c.args.p.now c.args.key.now cipher.items (map (line_digits c.args.p.now.message_bits) c.args.lines.now))
    (sym (returns-clause-exact c))
    (values_kept c.args.p.now c.args.key.now c.args.mask_seed.now c.args.noise_seed.now c.args.lines.now
    c.requires.accepted.fields c.requires.values)
