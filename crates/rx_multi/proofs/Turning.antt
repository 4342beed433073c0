-- The rotation by pairs over lists: its turns, and what is extracted from it.
use Rattle.std.proofs.Common.{◌≡◌, ℕ, suc, ℤ, pos, ◌+ℤ◌, ◌-ℤ◌, ◌+◌, ◌-◌, ◌*◌, ◌/◌, ◌%◌, ◌<◌, sym, ◌∙◌, ap, arith, add-one, subst, List, length, get_or, take, drop}
use Rattle.std.proofs.lemmas.Int.{ints}
use Rattle.std.proofs.lemmas.Nat.{mul-add-lt, div-mul-add, mod-mul-add}
use Rattle.rx_laws.specs.Torus.{word}
use Rattle.rx_laws.specs.Words.{words_below}
use Rattle.rx_laws.specs.Digits.{digit}
use Rattle.rx_laws.proofs.Sums.{sum_to-same}
use Rattle.rx_ring.specs.Polynomial.{turns}
use Rattle.rx_ring.specs.Parts.{of_parts, AreParts}
use Rattle.rx_ring.specs.Glwe.{external, extracted}
use Rattle.rx_ring.specs.Rotation.{turned_away}
use Rattle.rx_ring.specs.Pairs.{one_rows, pair_amount, pair_rows, pair_turn}
use Rattle.rx_ring.proofs.Parts.{part_read, parts-word, are-parts-word}
use Rattle.rx_ring.proofs.Rotation.{turns_same}
use Rattle.rx_ring.proofs.Congruence.{external-word, external_same}
use Rattle.rx_params.specs.declared.params.Params.{Params}
use Rattle.rx_params.specs.Derived.{large_dim}
use Rattle.rx_lwe.specs.SwitchKeys.{switch_key, switched_words}
use Rattle.rx_glwe.specs.Sizes.{glwe_size, ggsw_size}
use Rattle.rx_glwe.specs.External.{ggsw_rows, glwe_digits, external_of, extracted_words}
use Rattle.rx_boot.specs.BootKeys.{boot_rows}
use Rattle.rx_boot.specs.Bootstrap.{marks, table_accumulator}
use Rattle.rx_boot.proofs.Turning.{start_are, extracted_rotation}
use Rattle.rx_multi.specs.PairKeys.{PairWords}
use Rattle.rx_multi.specs.Turns.{row_parts, chosen_rows, chosen_part, turned_by}
use Rattle.rx_multi.specs.PairBootstrap.{Starts, pair_rotation_of, pair_bootstrapped}

-- ---- one turn, as a code makes it
-- the rows that were written
chosen_word : (p : Params) (products rows : List ℕ) (a1 a2 j t q x : ℕ) →
    AreParts p.poly_size (row_parts p) (chosen_part p products a1 a2) rows →
    j < p.glwe_dim + 1 → t < p.pbs_level → q < p.glwe_dim + 1 → x < p.poly_size →
    word (ggsw_rows p rows j t q x) ≡ word (chosen_rows p products a1 a2 j t q x)
chosen_word p products rows a1 a2 j t q x are below_j below_t below_q below_x =
    let k : ℕ = p.glwe_dim + 1 in
    let l : ℕ = p.pbs_level in
    let n : ℕ = p.poly_size in
    let row : ℕ = j * l + t in
    let u : ℕ = row * k + q in
    let below_row : row < k * l = omega (arith, mul-add-lt j l t k below_j below_t) in
    let below : u < k * l * k = omega (arith, mul-add-lt row k q (k * l) below_row below_q) in
    let place : row * (k * n) + (q * n + x) ≡ u * n + x = omega arith in
    let is_row : u / k ≡ row = div-mul-add row k q below_q in
    let is_part : u % k ≡ q = mod-mul-add row k q below_q in
    let is_j : row / l ≡ j = div-mul-add j l t below_t in
    let is_t : row % l ≡ t = mod-mul-add j l t below_t in
    ap (λ z. word (pos (get_or rows z 0))) place
    ∙ parts-word n (k * l * k) (chosen_part p products a1 a2) rows u x are below below_x
    ∙ ap (λ r. word (chosen_rows p products a1 a2 (r / l) (r % l) (u % k) x)) is_row
    ∙ ap (λ y. word (chosen_rows p products a1 a2 y (row % l) (u % k) x)) is_j
    ∙ ap (λ y. word (chosen_rows p products a1 a2 j y (u % k) x)) is_t
    ∙ ap (λ y. word (chosen_rows p products a1 a2 j t y x)) is_part

pub turn_made : (p : Params) (products rows zeros turning out : List ℕ) (a1 a2 : ℕ) →
    AreParts p.poly_size (row_parts p) (chosen_part p products a1 a2) rows →
    ((i : ℕ) → i < glwe_size p → get_or zeros i 0 ≡ 0) →
    AreParts p.poly_size (p.glwe_dim + 1) (λ q i. of_parts p.poly_size zeros q i +ℤ external_of p rows turning q i) out →
    AreParts p.poly_size (p.glwe_dim + 1) (turned_by p products a1 a2 turning) out
turn_made p products rows zeros turning out a1 a2 are none made =
    let n : ℕ = p.poly_size in
    let k : ℕ = p.glwe_dim in
    are-parts-word n (k + 1) (λ q i. of_parts n zeros q i +ℤ external_of p rows turning q i) (turned_by p products a1 a2 turning) out
    (λ q i u v.
    let zero : of_parts n zeros q i ≡ pos 0 = ap pos (none (q * n + i) (omega (arith, mul-add-lt q n i (k + 1) u v))) in
    let sum : of_parts n zeros q i +ℤ external_of p rows turning q i ≡ external_of p rows turning q i = omega (arith, ints, zero) in
    ap word sum
    ∙ external-word n k p.pbs_level (glwe_digits p (of_parts n turning)) (ggsw_rows p rows) (chosen_rows p products a1 a2) q i
    (λ j t x r s w. chosen_word p products rows a1 a2 j t q x are (omega arith) s u w) v) made

-- ---- one turn of the definition
-- a row of the products of a pair, as a part of the whole key
product_rows : (p : Params) (rows : List ℕ) (i m e j t q x : ℕ) → m ≡ 3 * ggsw_size p → e < 3 → j < p.glwe_dim + 1 → t < p.pbs_level →
    q < p.glwe_dim + 1 → x < p.poly_size →
    boot_rows p (take m (drop (i * (3 * ggsw_size p)) rows)) e j t q x ≡ boot_rows p rows (3 * i + e) j t q x
product_rows p rows i m e j t q x size below_e below_j below_t below_q below_x =
    let k : ℕ = p.glwe_dim + 1 in
    let l : ℕ = p.pbs_level in
    let n : ℕ = p.poly_size in
    let g : ℕ = ggsw_size p in
    let in_row : q * n + x < k * n = omega (arith, mul-add-lt q n x k below_q below_x) in
    let row : j * l + t < k * l = omega (arith, mul-add-lt j l t k below_j below_t) in
    let in_rows : (j * l + t) * (k * n) + (q * n + x) < k * l * (k * n) =
    omega (arith, mul-add-lt (j * l + t) (k * n) (q * n + x) (k * l) row in_row) in
    let within : e * g + ((j * l + t) * (k * n) + (q * n + x)) < 3 * g = omega (arith, mul-add-lt e g ((j * l + t) * (k * n) + (q * n + x)) 3 below_e in_rows) in
    let place : i * (3 * g) + (e * g + ((j * l + t) * (k * n) + (q * n + x))) ≡ (3 * i + e) * g + ((j * l + t) * (k * n) + (q * n + x)) = in_order i e g ((j * l + t) * (k * n) + (q * n + x)) in
    ap pos (part_read (i * (3 * g)) m (e * g + ((j * l + t) * (k * n) + (q * n + x))) rows (omega (arith, size, within)))
    ∙ ap (λ z. pos (get_or rows z 0)) place
  where
    in_order : (i e g y : ℕ) → i * (3 * g) + (e * g + y) ≡ (3 * i + e) * g + y
    in_order i e g y = omega arith

chosen_is : (p : Params) (rows : List ℕ) (amount : ℕ → ℕ) (i m j t q x : ℕ) → m ≡ 3 * ggsw_size p → j < p.glwe_dim + 1 → t < p.pbs_level →
    q < p.glwe_dim + 1 → x < p.poly_size →
    chosen_rows p (take m (drop (i * (3 * ggsw_size p)) rows)) (amount (2 * i)) (amount (2 * i + 1)) j t q x
    ≡ pair_rows p.poly_size p.pbs_base_log (boot_rows p rows) amount i j t q x
unfolding pair_rows
chosen_is p rows amount i m j t q x size below_j below_t below_q below_x =
    let n : ℕ = p.poly_size in
    let part : List ℕ = take m (drop (i * (3 * ggsw_size p)) rows) in
    let by : ℕ → ℕ = λ e. pair_amount n e (amount (2 * i)) (amount (2 * i + 1)) in
    ap (λ z. one_rows p.pbs_base_log j t q x +ℤ z)
    (sum_to-same 3 (λ e. turned_away n (by e) (boot_rows p part e j t) q x) (λ e. turned_away n (by e) (boot_rows p rows (3 * i + e) j t) q x)
    (λ e below_e.
    let same : (y : ℕ) → y < n → boot_rows p part e j t q y ≡ boot_rows p rows (3 * i + e) j t q y =
    λ y r. product_rows p rows i m e j t q y size below_e below_j below_t below_q r in
    ap (λ z. z -ℤ boot_rows p part e j t q x) (turns_same n (boot_rows p part e j t q) (boot_rows p rows (3 * i + e) j t q) (by e) x same below_x)
    ∙ ap (λ z. turns n (boot_rows p rows (3 * i + e) j t q) (by e) x -ℤ z) (same x below_x)))

pub turned_once : (p : Params) (rows switched xs zs : List ℕ) (f : ℕ → ℤ) (i m a1 a2 : ℕ) → m ≡ 3 * ggsw_size p →
    a1 ≡ marks p switched (2 * i) → a2 ≡ marks p switched (2 * i + 1) →
    AreParts p.poly_size (p.glwe_dim + 1)
    (pair_turn p.poly_size p.glwe_dim p.pbs_base_log p.pbs_level (boot_rows p rows) (marks p switched) f i) xs →
    AreParts p.poly_size (p.glwe_dim + 1) (turned_by p (take m (drop (i * (3 * ggsw_size p)) rows)) a1 a2 xs) zs →
    AreParts p.poly_size (p.glwe_dim + 1)
    (pair_turn p.poly_size p.glwe_dim p.pbs_base_log p.pbs_level (boot_rows p rows) (marks p switched) f (i + 1)) zs
unfolding pair_turn
turned_once p rows switched xs zs f i m a1 a2 size is_first is_second before made =
    let n : ℕ = p.poly_size in
    let k : ℕ = p.glwe_dim in
    let b : ℕ = p.pbs_base_log in
    let l : ℕ = p.pbs_level in
    let stage : ℕ → ℕ → ℕ → ℤ = pair_turn n k b l (boot_rows p rows) (marks p switched) f in
    let part : List ℕ = take m (drop (i * (3 * ggsw_size p)) rows) in
    let read : ℕ → ℕ → ℕ → ℤ = glwe_digits p (of_parts n xs) in
    let digits : ℕ → ℕ → ℕ → ℤ = λ j r y. digit b l (word (stage i j y)) r in
    let chosen : ℕ → ℕ → ℕ → ℕ → ℤ = chosen_rows p part (marks p switched (2 * i)) (marks p switched (2 * i + 1)) in
    let by_marks : AreParts n (k + 1) (external n k l read chosen) zs =
    subst (λ (a : ℕ). AreParts n (k + 1) (turned_by p part (marks p switched (2 * i)) a xs) zs) is_second
    (subst (λ (a : ℕ). AreParts n (k + 1) (turned_by p part a a2 xs) zs) is_first made) in
    let next : AreParts n (k + 1) (stage (suc i)) zs =
    are-parts-word n (k + 1) (external n k l read chosen) (stage (suc i)) zs
    (λ q x u v.
    ap word (external_same n k l read digits chosen q x
    (λ j r y s _ w. ap (λ z. digit b l z r) (parts-word n (k + 1) (stage i) xs j y before (omega arith) w)) v)
    ∙ external-word n k l digits chosen (pair_rows n b (boot_rows p rows) (marks p switched) i) q x
    (λ j t y r s w. ap word (chosen_is p rows (marks p switched) i m j t q y size (omega arith) s u w)) v) by_marks in
    subst (λ (t : ℕ). AreParts n (k + 1) (stage t) zs) (sym (add-one i)) next

-- ---- where it begins, and the extraction
pub begins : (p : Params) (rows switched table xs : List ℕ) → length xs ≡ glwe_size p → Starts p table (get_or switched p.lwe_dim 0) xs →
    AreParts p.poly_size (p.glwe_dim + 1)
    (pair_turn p.poly_size p.glwe_dim p.pbs_base_log p.pbs_level (boot_rows p rows) (marks p switched)
    (turns p.poly_size (table_accumulator p table) (2 * p.poly_size - marks p switched p.lwe_dim)) 0) xs
unfolding pair_turn
begins p rows switched table xs size starts =
    let first = start_are p rows switched table xs size starts.0 starts.1 in
    record { count_is = first.count_is; each = λ q x r s. first.each q x r s }

pub bootstrapped-is : (key : PairWords) (p : Params) (table input switched rows turning out : List ℕ) → 0 < p.poly_size →
    p ≡ key.params → rows ≡ key.rows → switched ≡ switched_words (switch_key key.params key.switch) input →
    AreParts p.poly_size (p.glwe_dim + 1) (pair_rotation_of p rows table switched) turning → out ≡ extracted_words p turning →
    out ≡ pair_bootstrapped key table input
unfolding pair_bootstrapped
bootstrapped-is key p table input switched rows turning out some is_set is_rows is_switched are made =
    let f : Params → List ℕ → List ℕ → List ℕ = λ q r s. words_below (large_dim q + 1) (extracted q.poly_size q.glwe_dim (pair_rotation_of q r table s)) in
    made ∙ extracted_rotation p (pair_rotation_of p rows table switched) turning some are
    ∙ ap (λ q. f q rows switched) is_set ∙ ap (λ r. f key.params r switched) is_rows ∙ ap (f key.params key.rows) is_switched
