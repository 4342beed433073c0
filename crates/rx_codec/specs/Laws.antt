-- Reading and spelling agree: a file is read exactly where it reads as what is read, and what is written reads as it.
use Rattle.std.specs.Prelude.{ℕ, ◌≡◌, ◌<◌, ◌^◌, List, EachIndex, slice_index, Ok}
use Rattle.rx_net.specs.declared.net.Net.{Net}
use Rattle.rx_codec.specs.declared.client.Client.{Client}
use Rattle.rx_codec.specs.declared.cipher.Cipher.{Cipher}
use Rattle.rx_boot.specs.ServerKeys.{ServerWords}
use Rattle.rx_codec.specs.ClientFile.{ClientFile, client_from}
use Rattle.rx_codec.specs.ServerFile.{ServerFile, server_from}
use Rattle.rx_codec.specs.CipherFile.{CipherFile, cipher_from}
use Rattle.rx_codec.specs.NetFile.{NetFile, net_from}

abbrev pub AreBytes : List ℕ → Type 0
AreBytes bytes = EachIndex bytes (λ i. slice_index bytes i < 2 ^ 8)

pub record FileLaws : Type 0 where
  pub client_read : (bytes : List ℕ) (c : Client) → ClientFile bytes c → client_from bytes ≡ Ok c
  pub client_spelled : (bytes : List ℕ) (c : Client) → AreBytes bytes → client_from bytes ≡ Ok c → ClientFile bytes c
  pub server_read : (bytes : List ℕ) (k : ServerWords) → ServerFile bytes k → server_from bytes ≡ Ok k
  pub server_spelled : (bytes : List ℕ) (k : ServerWords) → AreBytes bytes → server_from bytes ≡ Ok k → ServerFile bytes k
  pub cipher_read : (bytes : List ℕ) (c : Cipher) → CipherFile bytes c → cipher_from bytes ≡ Ok c
  pub cipher_spelled : (bytes : List ℕ) (c : Cipher) → AreBytes bytes → cipher_from bytes ≡ Ok c → CipherFile bytes c
  pub net_read : (bytes : List ℕ) (n : Net) → NetFile bytes n → net_from bytes ≡ Ok n
  pub net_spelled : (bytes : List ℕ) (n : Net) → AreBytes bytes → net_from bytes ≡ Ok n → NetFile bytes n
