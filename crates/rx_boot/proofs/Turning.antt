-- The blind rotation over lists: where it begins, its turns, and what is extracted from it.
use Rattle.std.proofs.Common.{◌≡◌, ℕ, ℤ, pos, suc, ◌+ℤ◌, ◌-ℤ◌, ◌+◌, ◌-◌, ◌*◌, ◌/◌, ◌%◌, ◌<◌, ◌≤◌, ◌^◌, refl, sym, ◌∙◌, ap, arith, add-one, subst, List, ◌++◌, length, get_or, take, drop}
use Rattle.std.proofs.Math.ListN.{get_or-append}
use Rattle.std.proofs.lemmas.List.{get_or-append_right}
use Rattle.std.proofs.lemmas.Nat.{mul-add-lt}
use Rattle.rx_laws.specs.Torus.{word}
use Rattle.rx_laws.specs.Words.{of_words, AreWords, words_below}
use Rattle.rx_laws.specs.Digits.{digit}
use Rattle.rx_laws.specs.Decode.{plaintexts, unit}
use Rattle.rx_laws.proofs.Torus.{word-lt, word-add, word_of_word}
use Rattle.rx_laws.proofs.Words.{words_below-are, are-words_below}
use Rattle.rx_ring.specs.Accumulator.{accumulator}
use Rattle.rx_ring.specs.Polynomial.{rotated, turns}
use Rattle.rx_ring.specs.Parts.{of_parts, AreParts}
use Rattle.rx_ring.specs.Glwe.{external, extracted}
use Rattle.rx_ring.specs.Rotation.{turn, turned_away}
use Rattle.rx_ring.specs.Switch.{mark}
use Rattle.rx_ring.proofs.Parts.{part_read, parts-word, are-parts-word}
use Rattle.rx_ring.proofs.Congruence.{external-word, external_same, extracted-word}
use Rattle.rx_ring.proofs.TurnWords.{rotated-turns, turn_start, part_turned_away, turn-word}
use Rattle.rx_params.specs.declared.params.Params.{Params}
use Rattle.rx_params.specs.Derived.{large_dim}
use Rattle.rx_lwe.specs.SwitchKeys.{switch_key, switched_words}
use Rattle.rx_glwe.specs.Sizes.{glwe_size, ggsw_size}
use Rattle.rx_glwe.specs.External.{ggsw_rows, glwe_digits, external_of, extracted_words}
use Rattle.rx_boot.specs.BootKeys.{boot_rows}
use Rattle.rx_boot.specs.ServerKeys.{ServerWords}
use Rattle.rx_boot.specs.Bootstrap.{half_mark, marks, table_accumulator, rotation_of, bootstrapped}

-- ---- where it begins: masks of 0 before a body
pub mask_words : (n k : ℕ) (masks body : List ℕ) → length masks ≡ k * n → ((u : ℕ) → u < length masks → get_or masks u 0 ≡ 0) →
    (q i : ℕ) → q < k → i < n → get_or (masks ++ body) (q * n + i) 0 ≡ 0
mask_words n k masks body count none q i r s =
    let within : q * n + i < length masks = omega (arith, count, mul-add-lt q n i k r s) in
    get_or-append masks body 0 (q * n + i) within ∙ none (q * n + i) within

pub body_words : (n k : ℕ) (masks body : List ℕ) (f : ℕ → ℤ) → length masks ≡ k * n → AreWords n f body →
    (i : ℕ) → i < n → get_or (masks ++ body) (k * n + i) 0 ≡ word (f i)
body_words n k masks body f count are i s =
    let place : k * n + i - k * n ≡ i = omega arith in
    get_or-append_right masks body (k * n) (k * n + i) 0 count (omega arith) ∙ ap (λ u. get_or body u 0) place ∙ are.each i s

-- the accumulator of a table, turned back by a mark
pub turned_back : (p : Params) (table polynomial body : List ℕ) (m l back w : ℕ) → m ≡ p.poly_size → l ≡ p.poly_size →
    back ≡ mark (half_mark p) (2 * p.poly_size) w →
    AreWords m (accumulator (unit p.message_bits) (m / plaintexts p.message_bits / 2) (plaintexts p.message_bits) (λ q. get_or table q 0)) polynomial →
    AreWords l (rotated l (of_words polynomial) ((2 * p.poly_size - back) % (2 * p.poly_size))) body →
    AreWords p.poly_size (turns p.poly_size (table_accumulator p table) (2 * p.poly_size - mark (half_mark p) (2 * p.poly_size) w)) body
turned_back p table polynomial body m l back w part rest is_mark laid turned =
    let n : ℕ = p.poly_size in
    rotated-turns n (2 * n - mark (half_mark p) (2 * n) w) (table_accumulator p table) polynomial body
    (subst (λ (k : ℕ). AreWords k (accumulator (unit p.message_bits) (k / plaintexts p.message_bits / 2) (plaintexts p.message_bits) (λ q. get_or table q 0)) polynomial)
    part laid)
    (subst (λ (t : ℕ). AreWords n (rotated n (of_words polynomial) ((2 * n - t) % (2 * n))) body) is_mark
    (subst (λ (k : ℕ). AreWords k (rotated k (of_words polynomial) ((2 * n - back) % (2 * n))) body) rest turned))

pub start_are : (p : Params) (rows switched table xs : List ℕ) → length xs ≡ glwe_size p →
    ((q i : ℕ) → q < p.glwe_dim → i < p.poly_size → get_or xs (q * p.poly_size + i) 0 ≡ 0) →
    ((i : ℕ) → i < p.poly_size → get_or xs (p.glwe_dim * p.poly_size + i) 0
    ≡ word (turns p.poly_size (table_accumulator p table) (2 * p.poly_size - marks p switched p.lwe_dim) i)) →
    AreParts p.poly_size (p.glwe_dim + 1)
    (turn p.poly_size p.glwe_dim p.pbs_base_log p.pbs_level (boot_rows p rows) (marks p switched)
    (turns p.poly_size (table_accumulator p table) (2 * p.poly_size - marks p switched p.lwe_dim)) 0) xs
start_are p rows switched table xs size masks body =
    let n : ℕ = p.poly_size in
    let f : ℕ → ℤ = turns n (table_accumulator p table) (2 * n - marks p switched p.lwe_dim) in
    let start : ℕ → ℕ → ℤ = turn n p.glwe_dim p.pbs_base_log p.pbs_level (boot_rows p rows) (marks p switched) f 0 in
    subst (λ (k : ℕ). AreParts n k start xs) (sym (add-one p.glwe_dim))
    (turn_start n p.glwe_dim p.pbs_base_log p.pbs_level (boot_rows p rows) (marks p switched) f xs
    (size ∙ ap (λ k. k * n) (add-one p.glwe_dim)) masks body)

-- ---- what a turn multiplies, one polynomial
pub part_away : (n j k m amount : ℕ) (glwe ys : List ℕ) → k ≡ n → m ≡ n → amount ≤ 2 * n →
    AreWords m (λ i. rotated m (of_words (take k (drop (j * n) glwe))) amount i -ℤ of_words (take k (drop (j * n) glwe)) i) ys →
    (i : ℕ) → i < n → get_or ys i 0 ≡ word (turned_away n amount (of_parts n glwe) j i)
part_away n j k m amount glwe ys part size within are i q =
    are.each i (omega (arith, size))
    ∙ ap (λ x. word (rotated x (of_words (take k (drop (j * n) glwe))) amount i -ℤ of_words (take k (drop (j * n) glwe)) i)) size
    ∙ ap (λ x. word (rotated n (of_words (take x (drop (j * n) glwe))) amount i -ℤ of_words (take x (drop (j * n) glwe)) i)) part
    ∙ ap word (part_turned_away n amount j i glwe within q)

-- ---- one turn
-- a row of the encrypted bit, as a part of the whole key
bit_rows : (p : Params) (rows : List ℕ) (i m j t q x : ℕ) → m ≡ ggsw_size p → j < p.glwe_dim + 1 → t < p.pbs_level → q < p.glwe_dim + 1 →
    x < p.poly_size → ggsw_rows p (take m (drop (i * ggsw_size p) rows)) j t q x ≡ boot_rows p rows i j t q x
bit_rows p rows i m j t q x size below_j below_t below_q below_x =
    let k : ℕ = p.glwe_dim + 1 in
    let l : ℕ = p.pbs_level in
    let n : ℕ = p.poly_size in
    let in_row : q * n + x < k * n = omega (arith, mul-add-lt q n x k below_q below_x) in
    let row : j * l + t < k * l = omega (arith, mul-add-lt j l t k below_j below_t) in
    let place : (j * l + t) * (k * n) + (q * n + x) < k * l * (k * n) =
    omega (arith, mul-add-lt (j * l + t) (k * n) (q * n + x) (k * l) row in_row) in
    ap pos (part_read (i * ggsw_size p) m ((j * l + t) * (k * n) + (q * n + x)) rows (omega (arith, size, place)))

external_bit : (p : Params) (rows ys : List ℕ) (i m : ℕ) (f : ℕ → ℕ → ℤ) → m ≡ ggsw_size p → AreParts p.poly_size (p.glwe_dim + 1) f ys →
    (q x : ℕ) → q < p.glwe_dim + 1 → x < p.poly_size →
    word (external_of p (take m (drop (i * ggsw_size p) rows)) ys q x)
    ≡ word (external p.poly_size p.glwe_dim p.pbs_level
    (λ j r y. digit p.pbs_base_log p.pbs_level (get_or ys (j * p.poly_size + y) 0) r) (boot_rows p rows i) q x)
external_bit p rows ys i m f size are q x below_q below_x =
    let n : ℕ = p.poly_size in
    let k : ℕ = p.glwe_dim in
    let l : ℕ = p.pbs_level in
    let bit : List ℕ = take m (drop (i * ggsw_size p) rows) in
    let read : ℕ → ℕ → ℕ → ℤ = λ j r y. digit p.pbs_base_log l (get_or ys (j * n + y) 0) r in
    ap word (external_same n k l (glwe_digits p (of_parts n ys)) read (ggsw_rows p bit) q x
    (λ j r y u _ w.
    let fits : get_or ys (j * n + y) 0 < 2 ^ 64 = omega (arith, are.each j y (omega arith) w, word-lt (f j y)) in
    ap (λ v. digit p.pbs_base_log l v r) (word_of_word (get_or ys (j * n + y) 0) fits)) below_x)
    ∙ external-word n k l read (ggsw_rows p bit) (boot_rows p rows i) q x
    (λ j t y u v w. ap word (bit_rows p rows i m j t q y size (omega arith) v below_q w)) below_x

pub turned_once : (p : Params) (rows switched xs ys zs : List ℕ) (f : ℕ → ℤ) (i m amount : ℕ) → m ≡ ggsw_size p → amount ≡ marks p switched i →
    AreParts p.poly_size (p.glwe_dim + 1)
    (turn p.poly_size p.glwe_dim p.pbs_base_log p.pbs_level (boot_rows p rows) (marks p switched) f i) xs →
    AreParts p.poly_size (p.glwe_dim + 1) (turned_away p.poly_size amount (of_parts p.poly_size xs)) ys →
    AreParts p.poly_size (p.glwe_dim + 1)
    (λ q x. of_parts p.poly_size xs q x +ℤ external_of p (take m (drop (i * ggsw_size p) rows)) ys q x) zs →
    AreParts p.poly_size (p.glwe_dim + 1)
    (turn p.poly_size p.glwe_dim p.pbs_base_log p.pbs_level (boot_rows p rows) (marks p switched) f (i + 1)) zs
turned_once p rows switched xs ys zs f i m amount size is_mark before away added =
    let n : ℕ = p.poly_size in
    let k : ℕ = p.glwe_dim in
    let b : ℕ = p.pbs_base_log in
    let l : ℕ = p.pbs_level in
    let stage : ℕ → ℕ → ℕ → ℤ = turn n k b l (boot_rows p rows) (marks p switched) f in
    let bit : List ℕ = take m (drop (i * ggsw_size p) rows) in
    let moved : ℕ → ℕ → ℤ = turned_away n (marks p switched i) (of_parts n xs) in
    let read : ℕ → ℕ → ℤ = external n k l (λ j r y. digit b l (get_or ys (j * n + y) 0) r) (boot_rows p rows i) in
    let new : ℕ → ℕ → ℤ = λ q x. of_parts n xs q x +ℤ read q x in
    let away_by : AreParts n (k + 1) moved ys = subst (λ (t : ℕ). AreParts n (k + 1) (turned_away n t (of_parts n xs)) ys) is_mark away in
    let added_by : AreParts n (k + 1) new zs =
    are-parts-word n (k + 1) (λ q x. of_parts n xs q x +ℤ external_of p bit ys q x) new zs
    (λ q x u v. word-add (of_parts n xs q x) (of_parts n xs q x) (external_of p bit ys q x) (read q x) refl
    (external_bit p rows ys i m moved size away_by q x u v)) added in
    let one : k + 1 ≡ suc k = add-one k in
    subst (λ (t : ℕ). AreParts n (k + 1) (stage t) zs) (sym (add-one i))
    (subst (λ (h : ℕ). AreParts n h (stage (suc i)) zs) (sym one)
    (turn-word n k b l (boot_rows p rows) (marks p switched) f i xs ys zs
    (subst (λ (h : ℕ). AreParts n h (stage i) xs) one before)
    (subst (λ (h : ℕ). AreParts n h moved ys) one away_by)
    (subst (λ (h : ℕ). AreParts n h new zs) one added_by)))

-- ---- the extraction
pub extracted_rotation : (p : Params) (f : ℕ → ℕ → ℤ) (xs : List ℕ) → 0 < p.poly_size → AreParts p.poly_size (p.glwe_dim + 1) f xs →
    extracted_words p xs ≡ words_below (large_dim p + 1) (extracted p.poly_size p.glwe_dim f)
unfolding large_dim
extracted_rotation p f xs some are =
    let n : ℕ = p.poly_size in
    let k : ℕ = p.glwe_dim in
    let read : AreWords (k * n + 1) (extracted n k (of_parts n xs)) (words_below (k * n + 1) (extracted n k (of_parts n xs))) =
    words_below-are (k * n + 1) (extracted n k (of_parts n xs)) in
    are-words_below (k * n + 1) (extracted n k f) (words_below (k * n + 1) (extracted n k (of_parts n xs)))
    record {
      count = read.count;
      each = λ u q. read.each u q
          ∙ extracted-word n k (of_parts n xs) f u (λ j x r s. parts-word n (k + 1) f xs j x are (omega arith) s) some q;
    }

pub bootstrapped-is : (key : ServerWords) (p : Params) (table input switched rows turning out : List ℕ) → 0 < p.poly_size →
    p ≡ key.params → rows ≡ key.boot → switched ≡ switched_words (switch_key key.params key.switch) input →
    AreParts p.poly_size (p.glwe_dim + 1) (rotation_of p rows table switched) turning → out ≡ extracted_words p turning →
    out ≡ bootstrapped key table input
unfolding bootstrapped
bootstrapped-is key p table input switched rows turning out some is_set is_rows is_switched are made =
    let f : Params → List ℕ → List ℕ → List ℕ = λ q r s. words_below (large_dim q + 1) (extracted q.poly_size q.glwe_dim (rotation_of q r table s)) in
    made ∙ extracted_rotation p (rotation_of p rows table switched) turning some are
    ∙ ap (λ q. f q rows switched) is_set ∙ ap (λ r. f key.params r switched) is_rows ∙ ap (f key.params key.boot) is_switched
