use Rattle.std.proofs.Common.{ℕ, List, length, inl, inr, lit<}
use Rattle.std.proofs.lemmas.Bool.{cases_lt}
use Rattle.std.proofs.lemmas.List.{get_or_past}
use Rattle.rx_codec.specs.Laws.{AreBytes}
use Rattle.rx_codec.proofs.Fields.{IsBytes}
use Rattle.rx_seeded.proofs.EitherVersion.{any_server_again, any_server_spelled, any_cipher_again, any_cipher_spelled}
use Rattle.rx_seeded.proofs.SeededServers.{seeded_server_again, key-right}
use Rattle.rx_seeded.proofs.SeededCiphers.{seeded_cipher_again}
use Rattle.rx_seeded.proofs.WrongMasks.{items-right}
use Rattle.rx_seeded.proofs.laws.seeded_file_laws.Goals as goal

fits : (bytes : List ℕ) → AreBytes bytes → IsBytes bytes
fits bytes h i = elim (cases_lt i (length bytes)) [ inl lt ↦ h i lt | inr le ↦ rw (get_or_past bytes i 0 le) (lit< tt) ]

pub returns : goal.returns
returns c =
    let laws = c.seeded_key_laws.ensures in
    record {
      server_read = any_server_again laws;
      server_found = λ bytes key h. any_server_spelled laws bytes key (fits bytes h);
      cipher_read = any_cipher_again;
      cipher_found = λ bytes cipher h. any_cipher_spelled bytes cipher (fits bytes h);
      seeded_server = λ bytes mask_seed key h. (seeded_server_again laws bytes mask_seed key h, key-right mask_seed key h.drawn);
      seeded_cipher = λ bytes mask_seed cipher h.
          (seeded_cipher_again bytes mask_seed cipher h, items-right cipher.params mask_seed 0 48 cipher.items h.drawn);
    }
