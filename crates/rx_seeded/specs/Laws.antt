-- Reading and spelling agree, in either version; and of two files of one seed and one value there is one.
use Rattle.std.specs.Prelude.{ℕ, ◌≡◌, List, None, Ok}
use Rattle.rx_boot.specs.ServerKeys.{ServerWords}
use Rattle.rx_codec.specs.declared.cipher.Cipher.{Cipher}
use Rattle.rx_codec.specs.Laws.{AreBytes}
use Rattle.rx_seeded.specs.SeededServer.{SeededServer, seeded_server_from, wrong_server_mask}
use Rattle.rx_seeded.specs.SeededCipher.{SeededCipher, seeded_cipher_from, wrong_cipher_mask}
use Rattle.rx_seeded.specs.Versions.{ServerRead, CipherRead, any_server_from, any_cipher_from}

pub record SeededFileLaws : Type 0 where
  pub server_read : (bytes : List ℕ) (k : ServerWords) → ServerRead bytes k → any_server_from bytes ≡ Ok k
  pub server_found : (bytes : List ℕ) (k : ServerWords) → AreBytes bytes → any_server_from bytes ≡ Ok k → ServerRead bytes k
  pub cipher_read : (bytes : List ℕ) (c : Cipher) → CipherRead bytes c → any_cipher_from bytes ≡ Ok c
  pub cipher_found : (bytes : List ℕ) (c : Cipher) → AreBytes bytes → any_cipher_from bytes ≡ Ok c → CipherRead bytes c
  pub seeded_server : (bytes mask_seed : List ℕ) (k : ServerWords) → SeededServer bytes mask_seed k →
      (seeded_server_from bytes ≡ Ok k) × (wrong_server_mask mask_seed k ≡ None)
  pub seeded_cipher : (bytes mask_seed : List ℕ) (c : Cipher) → SeededCipher bytes mask_seed c →
      (seeded_cipher_from bytes ≡ Ok c) × (wrong_cipher_mask mask_seed c ≡ None)
