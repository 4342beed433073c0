-- The products of the bits of each pair, as a list.
use Rattle.std.proofs.Common.{◌≡◌, ℕ, ◌+◌, ◌*◌, ◌/◌, ◌%◌, ◌<◌, List, length, get_or, ◌∙◌, ap, arith}
use Rattle.std.proofs.lemmas.List.FromFn.{length-map-range_with_len, get_or-map-range_with_len, fill_by_all}
use Rattle.rx_ring.specs.Pairs.{pair_bit}
use Rattle.rx_multi.specs.PairKeys.{pair_bits}

-- the product at a place
abbrev pub product_at : List ℕ → ℕ → ℕ
product_at small u = pair_bit (u % 3) (get_or small (2 * (u / 3)) 0) (get_or small (2 * (u / 3) + 1) 0)

pub pair_bits-length : (small : List ℕ) → length (pair_bits small) ≡ 3 * (length small / 2)
unfolding pair_bits
pair_bits-length small = length-map-range_with_len (product_at small) 0 (3 * (length small / 2))

pub pair_bits-at : (small : List ℕ) (i e : ℕ) → i < length small / 2 → e < 3 →
    get_or (pair_bits small) (3 * i + e) 0 ≡ pair_bit e (get_or small (2 * i) 0) (get_or small (2 * i + 1) 0)
unfolding pair_bits
pair_bits-at small i e p q =
    let product : (3 * i + e) % 3 ≡ e = omega arith in
    let pair : (3 * i + e) / 3 ≡ i = omega arith in
    get_or-map-range_with_len (product_at small) 0 (3 * (length small / 2)) (3 * i + e) (3 * i + e) 0 (omega arith) (omega arith)
    ∙ ap (λ x. pair_bit x (get_or small (2 * ((3 * i + e) / 3)) 0) (get_or small (2 * ((3 * i + e) / 3) + 1) 0)) product
    ∙ ap (λ x. pair_bit e (get_or small (2 * x) 0) (get_or small (2 * x + 1) 0)) pair

pub pair_bits-all : (small xs : List ℕ) → length xs ≡ 3 * (length small / 2) →
    ((k : ℕ) → k < 3 * (length small / 2) → get_or xs k 0 ≡ product_at small k) → xs ≡ pair_bits small
unfolding pair_bits
pair_bits-all small xs count each = fill_by_all (product_at small) xs (3 * (length small / 2)) 0 count each
