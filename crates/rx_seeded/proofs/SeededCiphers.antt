-- The seeded ciphertext file: what is read is spelled so, and what is spelled so is read.
use Rattle.std.proofs.Common.{◌≡◌, ℕ, ◌≤◌, List, ◌++◌, length, map, Result, Ok, Err, sym, ap, subst, ◌∙◌, arith}
use Rattle.std.specs.Prelude.{IfOk}
use Rattle.std.specs.List.{flat_map, AllByRecursion}
use Rattle.rx_params.specs.declared.params.Params.{Params}
use Rattle.rx_params.specs.Acceptance.{Accepts}
use Rattle.rx_codec.specs.declared.cipher.Item.{Item}
use Rattle.rx_codec.specs.declared.cipher.Cipher.{Cipher}
use Rattle.rx_codec.specs.declared.fault.CodecFault.{CodecFault}
use Rattle.rx_codec.specs.Reading.{◌>>=◌, Gives}
use Rattle.rx_codec.specs.CipherFile.{item_bytes, IsSizedItem}
use Rattle.rx_codec.proofs.Fields.{IsBytes, bind_ok, ok_is}
use Rattle.rx_seeded.specs.declared.cipher.Bodies.{Bodies}
use Rattle.rx_seeded.specs.SeededCipher.{short_item, full_items, seeded_cipher_head, SeededCipher, bodies_from, full_cipher, seeded_cipher_from}
use Rattle.rx_seeded.proofs.Filled.{short_full-items, full_items-length, short_items-length, full_items-fit, short_items-fit, full_items-once, short_items-once}
use Rattle.rx_seeded.proofs.BodiesFiles.{BodiesFile, bodies_spelled, bodies_again}

-- the file of bodies is the seeded file of the cipher that they make
pub bodies_file : (file : List ℕ) (b : Bodies) → BodiesFile file b → SeededCipher file b.mask_seed (full_cipher b)
bodies_file file b h =
    let p : Params = b.params in
    let full : List Item = full_items p b.mask_seed 0 b.items in
    let short : map (short_item p) full ≡ b.items = short_full-items p b.mask_seed 0 b.items in
    let count : length full ≡ length b.items = full_items-length p b.mask_seed 0 b.items in
    record {
      seed = h.seed;
      fits = record {
        accepted = h.accepted;
        count = omega (arith, count, h.count);
        items = full_items-fit p b.mask_seed 0 b.items h.items;
        once = full_items-once p b.mask_seed 0 b.items h.once;
      };
      drawn = ap (full_items p b.mask_seed 0) short;
      spelled = h.spelled
          ∙ ap (λ (n : ℕ). seeded_cipher_head p b.mask_seed n ++ flat_map item_bytes b.items) (sym count)
          ∙ ap (λ (is : List Item). seeded_cipher_head p b.mask_seed (length full) ++ flat_map item_bytes is) (sym short);
    }

-- the bodies of a cipher
abbrev pub bodies_in : List ℕ → Cipher → Bodies
bodies_in mask_seed c = record { params = c.params; mask_seed = mask_seed; items = map (short_item c.params) c.items }

-- the seeded file of a cipher is that of its bodies
file_bodies : (file mask_seed : List ℕ) (c : Cipher) → SeededCipher file mask_seed c → BodiesFile file (bodies_in mask_seed c)
file_bodies file mask_seed c h =
    let count : length (map (short_item c.params) c.items) ≡ length c.items = short_items-length c.params c.items in
    record {
      accepted = h.fits.accepted;
      seed = h.seed;
      count = omega (arith, count, h.fits.count);
      items = short_items-fit c.params c.items h.fits.items;
      once = short_items-once c.params c.items h.fits.once;
      spelled = h.spelled
          ∙ ap (λ (n : ℕ). seeded_cipher_head c.params mask_seed n ++ flat_map item_bytes (map (short_item c.params) c.items)) (sym count);
    }

-- what is read is a seeded ciphertext file
pub seeded_cipher_spelled : (file : List ℕ) (c : Cipher) → IsBytes file → seeded_cipher_from file ≡ Ok c →
    (mask_seed : List ℕ) × SeededCipher file mask_seed c
seeded_cipher_spelled file c fits e =
    let b = bind_ok (bodies_from file) (λ b. Ok (full_cipher b)) c e in
    let same : full_cipher b.0 ≡ c = ok_is (full_cipher b.0) c b.2 in
    (b.0.mask_seed, subst (SeededCipher file b.0.mask_seed) same (bodies_file file b.0 (bodies_spelled file b.0 fits b.1)))

-- a seeded ciphertext file is read
pub seeded_cipher_again : (file mask_seed : List ℕ) (c : Cipher) → SeededCipher file mask_seed c → seeded_cipher_from file ≡ Ok c
seeded_cipher_again file mask_seed c h =
    ap (λ (r : Result Bodies CodecFault). r >>= λ b. Ok (full_cipher b)) (bodies_again file (bodies_in mask_seed c) (file_bodies file mask_seed c h))
    ∙ ap (λ (is : List Item). cipher_read (record { params = c.params; items = is })) h.drawn
  where
    cipher_read : Cipher → Result Cipher CodecFault
    cipher_read x = Ok x

-- ---- what a code reads

pub record AreBodies (b : Bodies) : Type 0 where
  pub accepted : Accepts b.params
  pub count : length b.items ≤ 64
  pub items : AllByRecursion (IsSizedItem 1 b.params) b.items

pub bodies_found : (file : List ℕ) (b : Bodies) → IsBytes file → bodies_from file ≡ Ok b → AreBodies b
bodies_found file b fits e =
    let h = bodies_spelled file b fits e in record { accepted = h.accepted; count = h.count; items = h.items }

pub if_accepted : (file : List ℕ) (result : Result Bodies CodecFault) → IsBytes file → Gives (λ b. b) result (bodies_from file) →
    IfOk result (λ b. Accepts b.params)
if_accepted file (Ok b) fits exact = (bodies_found file b fits exact).accepted
if_accepted file (Err fault) fits exact = tt

pub if_few : (file : List ℕ) (result : Result Bodies CodecFault) → IsBytes file → Gives (λ b. b) result (bodies_from file) →
    IfOk result (λ b. length b.items ≤ 64)
if_few file (Ok b) fits exact = (bodies_found file b fits exact).count
if_few file (Err fault) fits exact = tt

pub if_items : (file : List ℕ) (result : Result Bodies CodecFault) → IsBytes file → Gives (λ b. b) result (bodies_from file) →
    IfOk result (λ b. AllByRecursion (IsSizedItem 1 b.params) b.items)
if_items file (Ok b) fits exact = (bodies_found file b fits exact).items
if_items file (Err fault) fits exact = tt
