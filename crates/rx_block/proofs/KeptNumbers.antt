-- What a block that keeps a number decrypts to, and what a lookup of it keeps.
use Rattle.std.proofs.Common.{◌≡◌, ℕ, zero, suc, ℤ, pos, neg_ℤ, ◌-ℤ◌, ◌-◌, ◌*◌, ◌/◌, ◌<◌, ◌≤◌, refl, sym, ◌∙◌, ap, arith, subst, List, [], ◌∷◌, length, get_or, take, Ok}
use Rattle.std.proofs.Math.Nat.{mul-le-mul_right}
use Rattle.std.proofs.lemmas.Bool.{le-leb}
use Rattle.rx_laws.specs.Torus.{word, distance}
use Rattle.rx_laws.specs.Words.{of_words}
use Rattle.rx_laws.specs.Lwe.{lwe_phase}
use Rattle.rx_laws.specs.Decode.{plaintexts, unit, decoded}
use Rattle.rx_laws.proofs.Torus.{word-word, word-add, distance-word}
use Rattle.rx_laws.proofs.Decode.{decodes}
use Rattle.rx_params.specs.declared.params.Params.{Params}
use Rattle.rx_params.specs.Acceptance.{FieldsInRange, Accepts}
use Rattle.rx_params.specs.Derived.{base_of, boot_of, left_of}
use Rattle.rx_lwe.specs.Lwe.{phase_of}
use Rattle.rx_net.specs.Tags.{greatest_of, greatest_between}
use Rattle.rx_boot.specs.ServerKeys.{ServerWords}
use Rattle.rx_boot.specs.Bootstrap.{bootstrapped}
use Rattle.rx_boot.specs.Noise.{IsNear, input_noise, LooksUp}
use Rattle.rx_boot.specs.Bootstrap.{bootstrapped}
use Rattle.rx_boot.specs.NoiseLaws.{LookupLaws}
use Rattle.rx_block.specs.declared.block.Block.{Block}
use Rattle.rx_block.specs.Lookup.{looked_up}
use Rattle.rx_block.specs.Keeps.{Keeps, within_degree, decrypted}
use Rattle.rx_block.specs.Noise.{KeepsEntry}

-- words that hold a number within less than half of the unit decode to it
pub near-decodes : (p : Params) (key words : List ℕ) (x noise : ℕ) → FieldsInRange p → x < plaintexts p.message_bits →
    IsNear p key words x noise → noise < unit p.message_bits / 2 → decoded p.message_bits (phase_of key words) ≡ x
near-decodes p key words x noise fields below near small =
    let m : ℕ = p.message_bits in
    let hidden : ℤ = pos (unit m * x) in
    let z : ℤ = lwe_phase (length key) (of_words key) (of_words words) in
    let same : distance (pos (word z) -ℤ hidden) ≡ distance (z -ℤ hidden) =
    distance-word (pos (word z) -ℤ hidden) (z -ℤ hidden) (word-add (pos (word z)) z (neg_ℤ hidden) (neg_ℤ hidden) (word-word z) refl) in
    decodes m (word z) x fields.message_bits (omega (arith, below)) (omega (arith, same, near, small))

-- the noise of a block that keeps a number is one that a lookup may be given
kept-noise : (p : Params) (key : List ℕ) (block : Block) (x : ℕ) → Keeps p key block x → block.noise * base_of p ≤ input_noise p
kept-noise p key block x keeps = mul-le-mul_right (base_of p) keeps.noise

input-below : (p : Params) → Accepts p → input_noise p < unit p.message_bits / 2
unfolding left_of
input-below p accepted = omega (arith, accepted.below)

-- under an accepted set a block that keeps a number decrypts to it
pub kept_number : (p : Params) (key : List ℕ) (block : Block) (x : ℕ) → Accepts p → Keeps p key block x → decrypted p key block ≡ Ok x
kept_number p key block x accepted keeps =
    let m : ℕ = p.message_bits in
    let below : x < plaintexts m = omega (arith, keeps.value, keeps.degree) in
    let small : block.noise * base_of p < unit m / 2 = omega (arith, kept-noise p key block x keeps, input-below p accepted) in
    let number : decoded m (phase_of key block.words) ≡ x =
    near-decodes p key block.words x (block.noise * base_of p) accepted.fields below keeps.near small in
    ap (λ n. within_degree n block.degree) number ∙ rw (le-leb x block.degree keeps.value) refl

-- an entry is within the greatest up to a place, also beyond the table, where it is 0
entry-up_to : (xs : List ℕ) (n i : ℕ) → i < n → get_or xs i 0 ≤ greatest_of (take n xs)
unfolding greatest_of
entry-up_to [] n i q = omega arith
entry-up_to (x ∷ xs) zero i q = absurd (omega arith)
entry-up_to (x ∷ xs) (suc n) zero q = omega arith
entry-up_to (x ∷ xs) (suc n) (suc i) q = omega (arith, entry-up_to xs n i (omega arith))

entry-within : (table : List ℕ) (x degree : ℕ) → x ≤ degree → get_or table x 0 ≤ greatest_between table 0 degree
unfolding greatest_between
entry-within table x degree within = entry-up_to table (suc degree - 0) x (omega arith)

base-boot : (p : Params) → boot_of p ≤ base_of p
unfolding base_of
base-boot p = omega arith

-- The words that a bootstrap of a block's words gave make a block that keeps the entry.
pub kept-entry : (key : ServerWords) (table input output words : List ℕ) (block : Block) (degree : ℕ) →
    input ≡ block.words → words ≡ output → degree ≡ greatest_between table 0 block.degree → LooksUp key table input output →
    KeepsEntry key table block (record { words = words; degree = degree; noise = 1 })
kept-entry key table input output words block degree e f g looks_up = λ small large x secret server room keeps.
    let p : Params = key.params in
    let entry : ℕ = get_or table x 0 in
    let held : IsNear p large block.words x (input_noise p) = omega (arith, keeps.near, kept-noise p large block x keeps) in
    let given : IsNear p large output entry (boot_of p) =
    looks_up small large x secret server (omega (arith, keeps.value, keeps.degree)) (subst (λ xs. IsNear p large xs x (input_noise p)) (sym e) held) in
    let written : IsNear p large words entry (boot_of p) = subst (λ xs. IsNear p large xs entry (boot_of p)) (sym f) given in
    record {
      value = omega (arith, entry-within table x block.degree keeps.value, g);
      degree = omega (arith, room);
      noise = omega arith;
      near = omega (arith, written, base-boot p);
    }

-- the law of lookups, from that of the bootstrap
pub kept-entry_from : LookupLaws → (key : ServerWords) (table : List ℕ) (block : Block) → Accepts key.params →
    KeepsEntry key table block (looked_up key table block)
kept-entry_from laws key table block accepted =
    let words : List ℕ = bootstrapped key table block.words in
    kept-entry key table block.words words words block (greatest_between table 0 block.degree) refl refl refl
    (laws.looks_up key table block.words accepted)
