-- The polynomials of the rows that a pair multiplies by.
use Rattle.std.proofs.Common.{◌≡◌, ℕ, ℤ, pos, ◌+ℤ◌, ◌*ℤ◌, ◌-ℤ◌, ◌+◌, ◌-◌, ◌*◌, ◌/◌, ◌%◌, ◌^◌, ◌<◌, ◌≤◌, ◌≢◌, sym, ◌∙◌, ap, arith, add-one, if◌then◌else◌, List, length, get_or}
use Rattle.std.proofs.lemmas.Int.{ints}
use Rattle.std.proofs.lemmas.Nat.{div-add-mod', mul-add-lt}
use Rattle.std.proofs.Math.Nat.{mul-le-mul_right}
use Rattle.rx_laws.specs.Sum.{sum_to}
use Rattle.rx_laws.specs.Torus.{word}
use Rattle.rx_laws.specs.Words.{of_words, AreWords}
use Rattle.rx_laws.proofs.Sums.{sum_to-zero, sum_to-suc, sum_to-same}
use Rattle.rx_laws.proofs.Torus.{word-add, word-word, word_of_word}
use Rattle.rx_ring.specs.Polynomial.{turns, unit_polynomial}
use Rattle.rx_ring.specs.Parts.{of_parts}
use Rattle.rx_ring.specs.Pairs.{one_rows, pair_amount}
use Rattle.rx_ring.specs.Rotation.{turned_away}
use Rattle.rx_ring.proofs.Rotation.{turns_same}
use Rattle.rx_ring.specs.Keys.{level_weight}
use Rattle.std.proofs.lemmas.Bool.{eq-eqb, ne_eqb}
use Rattle.rx_params.specs.declared.params.Params.{Params}
use Rattle.rx_boot.specs.BootKeys.{boot_rows}
use Rattle.rx_multi.specs.Turns.{row_parts, chosen_part}

-- ---- a sum that grows product after product
pub sum_none : (n : ℕ) (g : ℕ → ℕ → ℤ) (xs : List ℕ) → length xs ≡ n → ((i : ℕ) → get_or xs i 0 < 2 ^ 64) →
    AreWords n (λ x. of_words xs x +ℤ sum_to 0 (λ e. g e x)) xs
sum_none n g xs size fit = record {
  count = size;
  each = λ x q.
      let none : of_words xs x ≡ of_words xs x +ℤ sum_to 0 (λ e. g e x) = omega (arith, ints, sum_to-zero (λ e. g e x)) in
      sym (word_of_word (get_or xs x 0) (fit x)) ∙ ap word none;
}

pub sum_more : (n m e : ℕ) (f : ℕ → ℤ) (g : ℕ → ℕ → ℤ) (xs ys zs : List ℕ) → m ≡ n →
    AreWords n (λ x. f x +ℤ sum_to e (λ i. g i x)) xs → ((x : ℕ) → x < n → get_or ys x 0 ≡ word (g e x)) →
    AreWords m (λ x. of_words xs x +ℤ of_words ys x) zs → AreWords n (λ x. f x +ℤ sum_to (e + 1) (λ i. g i x)) zs
sum_more n m e f g xs ys zs size old part new = record {
  count = new.count ∙ size;
  each = λ x q.
      let so_far : ℤ = f x +ℤ sum_to e (λ i. g i x) in
      let next : sum_to (e + 1) (λ i. g i x) ≡ sum_to e (λ i. g i x) +ℤ g e x =
      ap (λ k. sum_to k (λ i. g i x)) (add-one e) ∙ sum_to-suc e (λ i. g i x) in
      let all : so_far +ℤ g e x ≡ f x +ℤ sum_to (e + 1) (λ i. g i x) = omega (arith, ints, next) in
      new.each x (omega (arith, size))
      ∙ word-add (of_words xs x) so_far (of_words ys x) (g e x)
      (ap (λ w. word (pos w)) (old.each x q) ∙ word-word so_far) (ap (λ w. word (pos w)) (part x q) ∙ word-word (g e x))
      ∙ ap word all;
}

-- ---- where the polynomials stand
place_of_part : (k l n e j t q u x : ℕ) → u ≡ (j * l + t) * k + q →
    e * (k * l * (k * n)) + ((j * l + t) * (k * n) + (q * n + x)) ≡ (e * (k * l * k) + u) * n + x
place_of_part k l n e j t q u x is =
    let ring : e * (k * l * (k * n)) + ((j * l + t) * (k * n) + (q * n + x)) ≡ (e * (k * l * k) + ((j * l + t) * k + q)) * n + x = omega arith in
    ring ∙ ap (λ y. (e * (k * l * k) + y) * n + x) (sym is)

part_split : (k l u : ℕ) → u ≡ (u / k / l * l + u / k % l) * k + u % k
part_split k l u = sym (div-add-mod' u k) ∙ ap (λ y. y * k + u % k) (sym (div-add-mod' (u / k) l))

part_away_is : (p : Params) (products : List ℕ) (e u amount x : ℕ) → x < p.poly_size →
    turned_away p.poly_size amount (of_parts p.poly_size products) (e * row_parts p + u) x
    ≡ turned_away p.poly_size amount (boot_rows p products e (u / (p.glwe_dim + 1) / p.pbs_level) (u / (p.glwe_dim + 1) % p.pbs_level)) (u % (p.glwe_dim + 1)) x
part_away_is p products e u amount x r =
    let n : ℕ = p.poly_size in
    let k : ℕ = p.glwe_dim + 1 in
    let l : ℕ = p.pbs_level in
    let flat : ℕ → ℤ = of_parts n products (e * row_parts p + u) in
    let rows : ℕ → ℤ = boot_rows p products e (u / k / l) (u / k % l) (u % k) in
    let same : (y : ℕ) → y < n → flat y ≡ rows y =
    λ y _. ap (λ z. pos (get_or products z 0)) (sym (place_of_part k l n e (u / k / l) (u / k % l) (u % k) u y (part_split k l u))) in
    ap (λ z. z -ℤ flat x) (turns_same n flat rows amount x same r) ∙ ap (λ z. turns n rows amount x -ℤ z) (same x r)

-- the polynomial of a place, from the word of 1 and the three products
pub part_made : (p : Params) (products first_words ys : List ℕ) (a1 a2 u n m parts one : ℕ) → n ≡ p.poly_size → m ≡ p.poly_size → parts ≡ row_parts p →
    ((x : ℕ) → pos one *ℤ unit_polynomial x
    ≡ one_rows p.pbs_base_log (u / (p.glwe_dim + 1) / p.pbs_level) (u / (p.glwe_dim + 1) % p.pbs_level) (u % (p.glwe_dim + 1)) x) →
    AreWords m (λ x. pos one *ℤ unit_polynomial x) first_words →
    AreWords n (λ x. of_words first_words x
    +ℤ sum_to 3 (λ e. turned_away n (pair_amount n e a1 a2) (of_parts n products) (e * parts + u) x)) ys →
    (x : ℕ) → x < p.poly_size → get_or ys x 0 ≡ word (chosen_part p products a1 a2 u x)
part_made p products first_words ys a1 a2 u n m parts one size also count is_one laid added x q =
    let k : ℕ = p.glwe_dim + 1 in
    let l : ℕ = p.pbs_level in
    let wide : ℕ = p.poly_size in
    let ones : ℤ = one_rows p.pbs_base_log (u / k / l) (u / k % l) (u % k) x in
    let flat : ℕ → ℤ = λ e. turned_away wide (pair_amount wide e a1 a2) (of_parts wide products) (e * row_parts p + u) x in
    let away : ℕ → ℤ = λ e. turned_away wide (pair_amount wide e a1 a2) (boot_rows p products e (u / k / l) (u / k % l)) (u % k) x in
    let sums : sum_to 3 flat ≡ sum_to 3 away =
    sum_to-same 3 flat away (λ e _. part_away_is p products e u (pair_amount wide e a1 a2) x q) in
    let start : word (of_words first_words x) ≡ word ones =
    ap (λ w. word (pos w)) (laid.each x (omega (arith, also))) ∙ word-word (pos one *ℤ unit_polynomial x) ∙ ap word (is_one x) in
    added.each x (omega (arith, size))
    ∙ ap (λ y. word (of_words first_words x +ℤ sum_to 3 (λ e. turned_away y (pair_amount y e a1 a2) (of_parts y products) (e * parts + u) x))) size
    ∙ ap (λ y. word (of_words first_words x +ℤ sum_to 3 (λ e. turned_away wide (pair_amount wide e a1 a2) (of_parts wide products) (e * y + u) x))) count
    ∙ word-add (of_words first_words x) ones (sum_to 3 flat) (sum_to 3 away) start (ap word sums)

-- where a polynomial of the three products ends
pub part_ends : (e parts place n : ℕ) → e < 3 → place < parts → (e * parts + place + 1) * n ≤ 3 * (parts * n)
part_ends e parts place n p q =
    let within : e * parts + place < 3 * parts = omega (arith, mul-add-lt e parts place 3 p q) in
    let room : (e * parts + place + 1) * n ≤ 3 * parts * n = mul-le-mul_right n (omega (arith, within)) in
    omega (arith, room)

-- ---- the word of 1 in a row
pub one_here : (base_log j t q word_of x : ℕ) → q ≡ j → word_of ≡ 2 ^ (64 - base_log * (t + 1)) →
    pos word_of *ℤ unit_polynomial x ≡ one_rows base_log j t q x
unfolding one_rows
one_here base_log j t q word_of x is_here is =
    ap (λ w. pos w *ℤ unit_polynomial x) is ∙ ap (λ s. pos (2 ^ (64 - base_log * s)) *ℤ unit_polynomial x) (add-one t)
    ∙ sym (ap (λ b. if b then level_weight base_log t *ℤ unit_polynomial x else pos 0) (eq-eqb q j is_here))

pub one_other : (base_log j t q x : ℕ) → q ≢ j → pos 0 *ℤ unit_polynomial x ≡ one_rows base_log j t q x
unfolding one_rows
one_other base_log j t q x other =
    let nothing : pos 0 *ℤ unit_polynomial x ≡ pos 0 = omega (arith, ints) in
    nothing ∙ sym (ap (λ b. if b then level_weight base_log t *ℤ unit_polynomial x else pos 0) (ne_eqb q j other))
