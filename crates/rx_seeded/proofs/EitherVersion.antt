-- Files of either version: what is read is such a file, and such a file is read.
use Rattle.std.proofs.Common.{◌≡◌, inl, inr, ℕ, Bool, true, false, cond, List, ◌++◌, length, Result, Ok, Err, refl, ap, subst, ◌∙◌, append_assoc}
use Rattle.std.specs.Prelude.{IfOk, codes}
use Rattle.std.specs.Int.{w32, to_le_bytes}
use Rattle.std.specs.List.{flat_map}
use Rattle.rx_boot.specs.ServerKeys.{ServerWords}
use Rattle.rx_boot.specs.Seeded.{key_bodies}
use Rattle.rx_boot.specs.SeededLaws.{SeededKeyLaws}
use Rattle.rx_codec.specs.declared.cipher.Cipher.{Cipher}
use Rattle.rx_codec.specs.declared.fault.CodecFault.{CodecFault}
use Rattle.rx_codec.specs.Reading.{Gives}
use Rattle.rx_codec.specs.ParamsFields.{params_bytes}
use Rattle.rx_codec.specs.WordFields.{word_bytes}
use Rattle.rx_codec.specs.ServerFile.{ServerFile, server_from}
use Rattle.rx_codec.specs.CipherFile.{CipherFile, cipher_from, item_bytes}
use Rattle.rx_codec.proofs.Fields.{IsBytes}
use Rattle.rx_codec.proofs.Servers.{server_again, server_spelled}
use Rattle.rx_codec.proofs.Ciphers.{cipher_again, cipher_spelled}
use Rattle.rx_seeded.specs.FileKinds.{begins}
use Rattle.rx_seeded.specs.SeededServer.{SeededServer, seeded_server_from}
use Rattle.rx_seeded.specs.SeededCipher.{SeededCipher, seeded_cipher_from}
use Rattle.rx_seeded.specs.Versions.{ServerRead, CipherRead, any_server_from, any_cipher_from}
use Rattle.rx_seeded.proofs.Magics.{begins-with, begins-not}
use Rattle.rx_seeded.proofs.SeededServers.{seeded_server_spelled, seeded_server_again}
use Rattle.rx_seeded.proofs.SeededCiphers.{seeded_cipher_spelled, seeded_cipher_again}

-- ---- server files

server_read-by : (laws : SeededKeyLaws) (b : Bool) (file : List ℕ) (k : ServerWords) → IsBytes file →
    cond b (seeded_server_from file) (server_from file) ≡ Ok k → ServerRead file k
server_read-by laws true file k fits e = inr (seeded_server_spelled laws file k fits e)
server_read-by laws false file k fits e = inl (server_spelled file k fits e)

pub any_server_spelled : SeededKeyLaws → (file : List ℕ) (k : ServerWords) → IsBytes file → any_server_from file ≡ Ok k → ServerRead file k
any_server_spelled laws file k fits e = server_read-by laws (begins file (codes "RXS2")) file k fits e

pub seeded_server_begins : (file mask_seed : List ℕ) (k : ServerWords) → SeededServer file mask_seed k → begins file (codes "RXS2") ≡ true
seeded_server_begins file mask_seed k h =
    begins-with file (codes "RXS2") (params_bytes k.params ++ (mask_seed ++ word_bytes (key_bodies k))) refl
    (h.spelled ∙ append_assoc (codes "RXS2" ++ params_bytes k.params) mask_seed (word_bytes (key_bodies k))
    ∙ append_assoc (codes "RXS2") (params_bytes k.params) (mask_seed ++ word_bytes (key_bodies k)))

pub server_begins : (file : List ℕ) (k : ServerWords) → ServerFile file k → begins file (codes "RXS2") ≡ false
server_begins file k h =
    begins-not file (codes "RXS1") (codes "RXS2") (params_bytes k.params ++ word_bytes (k.boot ++ k.switch)) refl
    (h.spelled ∙ append_assoc (codes "RXS1") (params_bytes k.params) (word_bytes (k.boot ++ k.switch))) refl

pub any_server_again : SeededKeyLaws → (file : List ℕ) (k : ServerWords) → ServerRead file k → any_server_from file ≡ Ok k
any_server_again laws file k (inl h) =
    ap (λ (b : Bool). cond b (seeded_server_from file) (server_from file)) (server_begins file k h) ∙ server_again file k h
any_server_again laws file k (inr h) =
    ap (λ (b : Bool). cond b (seeded_server_from file) (server_from file)) (seeded_server_begins file h.0 k h.1)
    ∙ seeded_server_again laws file h.0 k h.1

pub any_server_found : SeededKeyLaws → (file : List ℕ) (result : Result ServerWords CodecFault) → IsBytes file →
    Gives (λ k. k) result (any_server_from file) → IfOk result (λ k. ServerRead file k)
any_server_found laws file (Ok k) fits exact = any_server_spelled laws file k fits exact
any_server_found laws file (Err fault) fits exact = tt

pub seeded_server_found : SeededKeyLaws → (file : List ℕ) (result : Result ServerWords CodecFault) → IsBytes file →
    Gives (λ k. k) result (seeded_server_from file) → IfOk result (λ k. (mask_seed : List ℕ) × SeededServer file mask_seed k)
seeded_server_found laws file (Ok k) fits exact = seeded_server_spelled laws file k fits exact
seeded_server_found laws file (Err fault) fits exact = tt

pub any_server_only : SeededKeyLaws → (file : List ℕ) (result : Result ServerWords CodecFault) (k : ServerWords) →
    Gives (λ k. k) result (any_server_from file) → ServerRead file k → Gives (λ k. k) result (Ok k)
any_server_only laws file result k exact h = subst (Gives (λ k. k) result) (any_server_again laws file k h) exact

-- ---- ciphertext files

cipher_read-by : (b : Bool) (file : List ℕ) (c : Cipher) → IsBytes file →
    cond b (seeded_cipher_from file) (cipher_from file) ≡ Ok c → CipherRead file c
cipher_read-by true file c fits e = inr (seeded_cipher_spelled file c fits e)
cipher_read-by false file c fits e = inl (cipher_spelled file c fits e)

pub any_cipher_spelled : (file : List ℕ) (c : Cipher) → IsBytes file → any_cipher_from file ≡ Ok c → CipherRead file c
any_cipher_spelled file c fits e = cipher_read-by (begins file (codes "RXE2")) file c fits e

-- a file that begins with a magic and three more parts
four_parts : (magic a b c d : List ℕ) → magic ++ a ++ b ++ c ++ d ≡ magic ++ (a ++ b ++ c ++ d)
four_parts magic a b c d =
    ap (λ (t : List ℕ). t ++ c ++ d) (append_assoc magic a b)
    ∙ ap (λ (t : List ℕ). t ++ d) (append_assoc magic (a ++ b) c)
    ∙ append_assoc magic (a ++ b ++ c) d

pub seeded_cipher_begins : (file mask_seed : List ℕ) (c : Cipher) → SeededCipher file mask_seed c → begins file (codes "RXE2") ≡ true
seeded_cipher_begins file mask_seed c h =
    begins-with file (codes "RXE2") _ refl (h.spelled ∙ four_parts (codes "RXE2") (params_bytes c.params) mask_seed _ _)

pub cipher_begins : (file : List ℕ) (c : Cipher) → CipherFile file c → begins file (codes "RXE2") ≡ false
cipher_begins file c h =
    let head : List ℕ = to_le_bytes w32 (length c.items) in
    let items : List ℕ = flat_map item_bytes c.items in
    begins-not file (codes "RXE1") (codes "RXE2") (params_bytes c.params ++ head ++ items) refl
    (h.spelled ∙ ap (λ (t : List ℕ). t ++ items) (append_assoc (codes "RXE1") (params_bytes c.params) head)
    ∙ append_assoc (codes "RXE1") (params_bytes c.params ++ head) items) refl

pub any_cipher_again : (file : List ℕ) (c : Cipher) → CipherRead file c → any_cipher_from file ≡ Ok c
any_cipher_again file c (inl h) =
    ap (λ (b : Bool). cond b (seeded_cipher_from file) (cipher_from file)) (cipher_begins file c h) ∙ cipher_again file c h
any_cipher_again file c (inr h) =
    ap (λ (b : Bool). cond b (seeded_cipher_from file) (cipher_from file)) (seeded_cipher_begins file h.0 c h.1)
    ∙ seeded_cipher_again file h.0 c h.1

pub any_cipher_found : (file : List ℕ) (result : Result Cipher CodecFault) → IsBytes file →
    Gives (λ c. c) result (any_cipher_from file) → IfOk result (λ c. CipherRead file c)
any_cipher_found file (Ok c) fits exact = any_cipher_spelled file c fits exact
any_cipher_found file (Err fault) fits exact = tt

pub seeded_cipher_found : (file : List ℕ) (result : Result Cipher CodecFault) → IsBytes file →
    Gives (λ c. c) result (seeded_cipher_from file) → IfOk result (λ c. (mask_seed : List ℕ) × SeededCipher file mask_seed c)
seeded_cipher_found file (Ok c) fits exact = seeded_cipher_spelled file c fits exact
seeded_cipher_found file (Err fault) fits exact = tt

pub any_cipher_only : (file : List ℕ) (result : Result Cipher CodecFault) (c : Cipher) →
    Gives (λ c. c) result (any_cipher_from file) → CipherRead file c → Gives (λ c. c) result (Ok c)
any_cipher_only file result c exact h = subst (Gives (λ c. c) result) (any_cipher_again file c h) exact

-- ---- the other magics

pub first_begins : (file : List ℕ) (k : ServerWords) → ServerFile file k → begins file (codes "RXS1") ≡ true
first_begins file k h =
    begins-with file (codes "RXS1") (params_bytes k.params ++ word_bytes (k.boot ++ k.switch)) refl
    (h.spelled ∙ append_assoc (codes "RXS1") (params_bytes k.params) (word_bytes (k.boot ++ k.switch)))

pub cipher_begins_otherwise : (file : List ℕ) (c : Cipher) → CipherFile file c → begins file (codes "RXS1") ≡ false
cipher_begins_otherwise file c h =
    let head : List ℕ = to_le_bytes w32 (length c.items) in
    let items : List ℕ = flat_map item_bytes c.items in
    begins-not file (codes "RXE1") (codes "RXS1") (params_bytes c.params ++ head ++ items) refl
    (h.spelled ∙ ap (λ (t : List ℕ). t ++ items) (append_assoc (codes "RXE1") (params_bytes c.params) head)
    ∙ append_assoc (codes "RXE1") (params_bytes c.params ++ head) items) refl

pub seeded_cipher_begins_otherwise : (file mask_seed : List ℕ) (c : Cipher) → SeededCipher file mask_seed c → begins file (codes "RXS2") ≡ false
seeded_cipher_begins_otherwise file mask_seed c h =
    begins-not file (codes "RXE2") (codes "RXS2") _ refl (h.spelled ∙ four_parts (codes "RXE2") (params_bytes c.params) mask_seed _ _) refl
