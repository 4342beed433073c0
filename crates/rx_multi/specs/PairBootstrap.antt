-- The bootstrap by pairs, and what it keeps.
use Rattle.std.specs.Prelude.{ℕ, ℤ, ◌+◌, ◌-◌, ◌*◌, ◌<◌, ◌≡◌, List, get_or}
use Rattle.rx_laws.specs.Words.{words_below}
use Rattle.rx_laws.specs.Decode.{plaintexts}
use Rattle.rx_laws.specs.Torus.{word}
use Rattle.rx_ring.specs.Polynomial.{turns}
use Rattle.rx_ring.specs.Switch.{mark}
use Rattle.rx_ring.specs.Glwe.{extracted}
use Rattle.rx_ring.specs.Pairs.{pair_rotation}
use Rattle.rx_params.specs.declared.params.Params.{Params}
use Rattle.rx_params.specs.Derived.{large_dim, noise_limit, pair_base_of, pair_boot_of}
use Rattle.rx_lwe.specs.SwitchKeys.{switch_key, switched_words}
use Rattle.rx_boot.specs.BootKeys.{boot_rows}
use Rattle.rx_boot.specs.Bootstrap.{half_mark, marks, table_accumulator}
use Rattle.rx_boot.specs.ServerKeys.{IsSecret}
use Rattle.rx_boot.specs.Noise.{IsNear}
use Rattle.rx_multi.specs.PairKeys.{PairWords, IsPairKey}

-- what the accumulator of a table becomes when it is turned by a switched input and the rows of a pair key
abbrev pub pair_rotation_of : Params → List ℕ → List ℕ → List ℕ → ℕ → ℕ → ℤ
pair_rotation_of p rows table switched =
    pair_rotation p.poly_size p.glwe_dim p.pbs_base_log p.pbs_level p.lwe_dim (boot_rows p rows) (marks p switched) (table_accumulator p table)

-- The words are a ciphertext without masks, whose body is the accumulator of a table, turned back by the mark of the switched
-- body.
abbrev pub Starts : Params → List ℕ → ℕ → List ℕ → Type 0
Starts p table body glwe =
    ((q i : ℕ) → q < p.glwe_dim → i < p.poly_size → get_or glwe (q * p.poly_size + i) 0 ≡ 0)
    × ((i : ℕ) → i < p.poly_size → get_or glwe (p.glwe_dim * p.poly_size + i) 0
    ≡ word (turns p.poly_size (table_accumulator p table) (2 * p.poly_size - mark (half_mark p) (2 * p.poly_size) body) i))

-- the words of what a bootstrap by pairs of the input gives for a table
unfoldable pub pair_bootstrapped : PairWords → List ℕ → List ℕ → List ℕ
pair_bootstrapped key table input =
    let p : Params = key.params in
    let switched : List ℕ = switched_words (switch_key p key.switch) input in
    words_below (large_dim p + 1) (extracted p.poly_size p.glwe_dim (pair_rotation_of p key.rows table switched))

-- the greatest noise that a lookup by pairs may be given
abbrev pub pair_input_noise : Params → ℕ
pair_input_noise p = noise_limit p.message_bits * pair_base_of p

-- For every secret of which the key is a pair key: where the input holds a number within the noise that a lookup may be given,
-- the output holds the table's entry at that number within the noise of a bootstrap by pairs.
abbrev pub PairLooksUp : PairWords → List ℕ → List ℕ → List ℕ → Type 0
PairLooksUp key table input output =
    (small large : List ℕ) (x : ℕ) → IsSecret key.params small large → IsPairKey small large key →
    x < plaintexts key.params.message_bits → IsNear key.params large input x (pair_input_noise key.params) →
    IsNear key.params large output (get_or table x 0) (pair_boot_of key.params)
