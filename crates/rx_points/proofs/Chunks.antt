-- Sums over windows in chunks of 112 products, each chunk modulo 2 ^ 32.
use Rattle.std.proofs.Common.{◌≡◌, ℕ, zero, suc, ℤ, pos, negsuc, ◌+ℤ◌, ◌-ℤ◌, ◌*ℤ◌, ◌+◌, ◌-◌, ◌*◌, ◌/◌, ◌%◌, ◌^◌, ◌<◌, ◌≤◌, min, refl, sym, ◌∙◌, ap, subst, arith, inl, inr, List, length, [], ◌∷◌, get_or, take, drop, to_z, of_z, w16, w32, w64, FitsSigned}
use Rattle.std.proofs.lemmas.Bool.{cases_lt}
use Rattle.std.proofs.lemmas.Int.{ints, int_wrap_fits, int_wrap-add_left, int_wrap-add_right, int_wrap-sub_right, SFits-int_wrap, of_z-to_z, to_z-of_z, unsigned_abs-mul}
use Rattle.std.proofs.lemmas.List.{get_or_past, length-take}
use Rattle.std.proofs.lemmas.Nat.{div-add-mod', mul-le, pow_pos}
use native.Mathlib.Nat.{mod-lt}
use mir.Syntax.{Width}
use mir.Val.{bits, hbits}
use Rattle.std.specs.Int.{int_wrap}
use Rattle.std.specs.Int.RustNames.{unsigned_abs}
use Rattle.rx_laws.specs.Sum.{sum_to}
use Rattle.rx_laws.specs.Words.{of_numbers}
use Rattle.rx_laws.proofs.Sums.{sum_to-zero, sum_to-suc, sum_to-same, sum_to-split}
use Rattle.rx_ring.proofs.Parts.{part_read_at}
use Rattle.rx_ring.proofs.Recovered.{chunk_fits, size_sum}
use Rattle.rx_points.specs.Numbers.{AllFit}
use Rattle.rx_points.specs.Windows.{window_sum}
use Rattle.rx_points.proofs.Turns.{fits_as}

-- ---- a chunk, and all chunks up to one
pub chunk : ℕ → (ℕ → ℤ) → (ℕ → ℤ) → ℕ → ℕ → ℤ
chunk n a b place c = window_sum (min 112 (n - 112 * c)) (λ i. a (112 * c + i)) b (place + 112 * c)

pub chunked : ℕ → ℕ → (ℕ → ℤ) → (ℕ → ℤ) → ℕ → ℤ
chunked count n a b place = sum_to count (λ c. int_wrap w32 (chunk n a b place c))

pub chunked_none : (n : ℕ) (a b : ℕ → ℤ) (place : ℕ) → pos 0 ≡ chunked 0 n a b place
unfolding chunked
chunked_none n a b place = sym (sum_to-zero (λ c. int_wrap w32 (chunk n a b place c)))

pub chunked_more : (count n : ℕ) (a b : ℕ → ℤ) (place : ℕ) →
    chunked (count + 1) n a b place ≡ chunked count n a b place +ℤ int_wrap w32 (chunk n a b place count)
unfolding chunked
chunked_more count n a b place =
    let e : count + 1 ≡ suc count = omega arith in
    ap (λ k. sum_to k (λ c. int_wrap w32 (chunk n a b place c))) e ∙ sum_to-suc count (λ c. int_wrap w32 (chunk n a b place c))

-- ---- windows over parts of lists
window_same : (n : ℕ) (a a' b b' : ℕ → ℤ) (place place' : ℕ) → ((i : ℕ) → i < n → a i ≡ a' i) → ((i : ℕ) → i < n → b (place + i) ≡ b' (place' + i)) →
    window_sum n a b place ≡ window_sum n a' b' place'
unfolding window_sum
window_same n a a' b b' place place' f g =
    sum_to-same n (λ i. a i *ℤ b (place + i)) (λ i. a' i *ℤ b' (place' + i)) (λ i p. ap (λ x. x *ℤ b (place + i)) (f i p) ∙ ap (λ x. a' i *ℤ x) (g i p))

pub window_in : (n k start m place : ℕ) (a : ℕ → ℤ) (ys : List ℤ) → place + n ≤ m → k ≡ place + start →
    window_sum n a (of_numbers (take m (drop start ys))) place ≡ window_sum n a (of_numbers ys) k
window_in n k start m place a ys p e =
    window_same n a a (of_numbers (take m (drop start ys))) (of_numbers ys) place k (λ i _. refl)
    (λ i q. part_read_at start m (place + i) ys (pos 0) (omega arith) ∙ ap (of_numbers ys) (omega (arith, e)))

pub part_fits : (start m : ℕ) (xs : List ℤ) → AllFit xs → AllFit (take m (drop start xs))
unfolding int_wrap
part_fits start m xs fits = record {
  each = λ i. elim (cases_lt i m) as (λ _. FitsSigned w16 (get_or (take m (drop start xs)) i (pos 0))) [
    | inl r ↦ subst (FitsSigned w16) (sym (part_read_at start m i xs (pos 0) r)) (fits.each (start + i))
    | inr r ↦ fits_as (get_or (take m (drop start xs)) i (pos 0)) (pos 0)
        (get_or_past (take m (drop start xs)) i (pos 0) (omega (arith, length-take m (drop start xs), r)))
  ];
}

-- what the sum over a part of both lists is
pub chunk_is : (n count m start place other : ℕ) (xs ys : List ℤ) → start ≡ 112 * count → m ≡ min 112 (n - 112 * count) → length (take m (drop start xs)) ≡ m →
    place + m ≤ other →
    window_sum (length (take m (drop start xs))) (of_numbers (take m (drop start xs))) (of_numbers (take other (drop start ys))) place
    ≡ chunk n (of_numbers xs) (of_numbers ys) place count
unfolding chunk
chunk_is n count m start place other xs ys s e size room =
    ap (λ k. window_sum k (of_numbers (take m (drop start xs))) (of_numbers (take other (drop start ys))) place) size
    ∙ window_same m (of_numbers (take m (drop start xs))) (λ i. of_numbers xs (112 * count + i)) (of_numbers (take other (drop start ys))) (of_numbers ys) place (place + 112 * count)
    (λ i q. part_read_at start m i xs (pos 0) q ∙ ap (λ k. of_numbers xs (k + i)) s)
    (λ i q. part_read_at start other (place + i) ys (pos 0) (omega arith) ∙ ap (of_numbers ys) (omega (arith, s)))
    ∙ ap (λ k. window_sum k (λ i. of_numbers xs (112 * count + i)) (of_numbers ys) (place + 112 * count)) e

-- ---- all chunks are the window
window_split : (m n : ℕ) (a b : ℕ → ℤ) (place : ℕ) → window_sum (m + n) a b place ≡ window_sum m a b place +ℤ window_sum n (λ i. a (m + i)) b (place + m)
unfolding window_sum
window_split m n a b place =
    sum_to-split m n (λ i. a i *ℤ b (place + i))
    ∙ ap (λ z. sum_to m (λ i. a i *ℤ b (place + i)) +ℤ z)
    (sum_to-same n (λ i. a (m + i) *ℤ b (place + (m + i))) (λ i. a (m + i) *ℤ b (place + m + i)) (λ i _. ap (λ k. a (m + i) *ℤ b k) (omega arith)))

window_none : (a b : ℕ → ℤ) (place : ℕ) → window_sum 0 a b place ≡ pos 0
unfolding window_sum
window_none a b place = sum_to-zero (λ i. a i *ℤ b (place + i))

chunks_to : (count n : ℕ) (a b : ℕ → ℤ) (place : ℕ) → sum_to count (chunk n a b place) ≡ window_sum (min n (112 * count)) a b place
unfolding chunk
chunks_to zero n a b place =
    let none : min n (112 * 0) ≡ 0 = omega arith in
    sum_to-zero (chunk n a b place) ∙ sym (ap (λ k. window_sum k a b place) none ∙ window_none a b place)
chunks_to (suc count) n a b place =
    sum_to-suc count (chunk n a b place) ∙ ap (λ z. z +ℤ chunk n a b place count) (chunks_to count n a b place)
    ∙ elim (cases_lt n (112 * count)) as (λ _. window_sum (min n (112 * count)) a b place +ℤ chunk n a b place count ≡ window_sum (min n (112 * suc count)) a b place) [
      | inl r ↦
          let none : min 112 (n - 112 * count) ≡ 0 = omega arith in
          let same : min n (112 * count) ≡ min n (112 * suc count) = omega arith in
          let nothing : chunk n a b place count ≡ pos 0 =
          ap (λ k. window_sum k (λ i. a (112 * count + i)) b (place + 112 * count)) none ∙ window_none (λ i. a (112 * count + i)) b (place + 112 * count) in
          omega (arith, ints, nothing, ap (λ k. window_sum k a b place) same)
      | inr r ↦
          let before : min n (112 * count) ≡ 112 * count = omega arith in
          let whole : 112 * count + min 112 (n - 112 * count) ≡ min n (112 * suc count) = omega arith in
          ap (λ k. window_sum k a b place +ℤ chunk n a b place count) before
          ∙ sym (window_split (112 * count) (min 112 (n - 112 * count)) a b place)
          ∙ ap (λ k. window_sum k a b place) whole
    ]

chunks_whole : (count n : ℕ) (a b : ℕ → ℤ) (place : ℕ) → n ≤ 112 * count → sum_to count (chunk n a b place) ≡ window_sum n a b place
chunks_whole count n a b place p =
    let all : min n (112 * count) ≡ n = omega arith in
    chunks_to count n a b place ∙ ap (λ k. window_sum k a b place) all

wrapped_sum : (n : ℕ) (f : ℕ → ℤ) → int_wrap w32 (sum_to n (λ c. int_wrap w32 (f c))) ≡ int_wrap w32 (sum_to n f)
wrapped_sum zero f = ap (int_wrap w32) (sum_to-zero (λ c. int_wrap w32 (f c)) ∙ sym (sum_to-zero f))
wrapped_sum (suc n) f =
    ap (int_wrap w32) (sum_to-suc n (λ c. int_wrap w32 (f c)))
    ∙ sym (int_wrap-add_left w32 (sum_to n (λ c. int_wrap w32 (f c))) (int_wrap w32 (f n)))
    ∙ ap (λ z. int_wrap w32 (z +ℤ int_wrap w32 (f n))) (wrapped_sum n f)
    ∙ int_wrap-add_left w32 (sum_to n f) (int_wrap w32 (f n)) ∙ int_wrap-add_right w32 (sum_to n f) (f n)
    ∙ ap (int_wrap w32) (sym (sum_to-suc n f))

-- all chunks give the sum modulo 2 ^ 32, and where each chunk is below 2 ^ 31 the sum itself
pub chunked_wraps : (count n : ℕ) (a b : ℕ → ℤ) (place : ℕ) → n ≤ 112 * count → int_wrap w32 (chunked count n a b place) ≡ int_wrap w32 (window_sum n a b place)
unfolding chunked
chunked_wraps count n a b place p = wrapped_sum count (chunk n a b place) ∙ ap (int_wrap w32) (chunks_whole count n a b place p)

chunk_size : (n c : ℕ) (a b : ℕ → ℤ) (place : ℕ) → ((i : ℕ) → unsigned_abs (a i) ≤ 2 ^ 15) → ((i : ℕ) → unsigned_abs (b i) ≤ 2 ^ 9) →
    unsigned_abs (chunk n a b place c) < 2 ^ 31
unfolding chunk window_sum
chunk_size n c a b place f g =
    chunk_fits (min 112 (n - 112 * c)) (λ i. a (112 * c + i) *ℤ b (place + 112 * c + i)) (omega arith)
    (λ i _. omega (
      arith,
      unsigned_abs-mul (a (112 * c + i)) (b (place + 112 * c + i)),
      mul-le (unsigned_abs (a (112 * c + i))) (unsigned_abs (b (place + 112 * c + i))) (2 ^ 15) (2 ^ 9) (f (112 * c + i)) (g (place + 112 * c + i)),
    ))

pub chunked_exact : (count n : ℕ) (a b : ℕ → ℤ) (place : ℕ) → n ≤ 112 * count → ((i : ℕ) → unsigned_abs (a i) ≤ 2 ^ 15) →
    ((i : ℕ) → unsigned_abs (b i) ≤ 2 ^ 9) → chunked count n a b place ≡ window_sum n a b place
unfolding chunked
chunked_exact count n a b place p f g =
    sum_to-same count (λ c. int_wrap w32 (chunk n a b place c)) (chunk n a b place)
    (λ c _. int_wrap_fits w32 (chunk n a b place c) (fits_32 (chunk n a b place c) (chunk_size n c a b place f g)))
    ∙ chunks_whole count n a b place p
  where
    fits_32 : (z : ℤ) → unsigned_abs z < 2 ^ 31 → FitsSigned w32 z
    fits_32 (pos m) l = record { sfits = omega (arith, l) }
    fits_32 (negsuc m) l = record { sfits = omega (arith, l) }

-- how great they are
wrapped_size : (z : ℤ) → FitsSigned w32 z → unsigned_abs z ≤ 2 ^ 31
wrapped_size (pos m) f = omega (arith, f.sfits)
wrapped_size (negsuc m) f = omega (arith, f.sfits)

pub chunked_size : (count n : ℕ) (a b : ℕ → ℤ) (place : ℕ) → unsigned_abs (chunked count n a b place) ≤ count * 2 ^ 31
unfolding chunked
chunked_size count n a b place =
    size_sum count (2 ^ 31) (λ c. int_wrap w32 (chunk n a b place c)) (λ c _. wrapped_size (int_wrap w32 (chunk n a b place c)) (SFits-int_wrap w32 (chunk n a b place c)))

pub size_16 : (z : ℤ) → FitsSigned w16 z → unsigned_abs z ≤ 2 ^ 15
size_16 (pos m) f = omega (arith, f.sfits)
size_16 (negsuc m) f = omega (arith, f.sfits)

-- ---- what the code's totals become by one chunk more, and which of four they are
total_added : (total s : ℤ) → unsigned_abs total < 2 ^ 63 - 2 ^ 32 → FitsSigned w32 s →
    to_z w64 (of_z w64 (total +ℤ to_z w64 (of_z w64 (to_z w32 (of_z w32 s))))) ≡ total +ℤ s
total_added total s small f =
    ap (λ x. to_z w64 (of_z w64 (total +ℤ to_z w64 (of_z w64 x)))) (to_z-of_z w32 s f)
    ∙ ap (λ x. to_z w64 (of_z w64 (total +ℤ x))) (to_z-of_z w64 s (wide s f))
    ∙ to_z-of_z w64 (total +ℤ s) (fits_64 (total +ℤ s) (omega (arith, ints, small, wrapped_size s f)))
  where
    wide : (z : ℤ) → FitsSigned w32 z → FitsSigned w64 z
    wide z g = record { sfits = omega (arith, g.sfits) }

    fits_64 : (z : ℤ) → unsigned_abs z < 2 ^ 63 → FitsSigned w64 z
    fits_64 (pos m) l = record { sfits = omega (arith, l) }
    fits_64 (negsuc m) l = record { sfits = omega (arith, l) }

pub total_more : (count n bits : ℕ) (s : ℤ) (m other k stride place : ℕ) (xs ys : List ℤ) → m ≡ min 112 (n - 112 * count) →
    length (take m (drop (112 * count) xs)) ≡ m → k * stride ≡ place → place + m ≤ other → count < 2 ^ 31 →
    s ≡ int_wrap w32 (window_sum (length (take m (drop (112 * count) xs))) (of_numbers (take m (drop (112 * count) xs)))
    (of_numbers (take other (drop (112 * count) ys))) (k * stride)) →
    to_z w64 bits ≡ chunked count n (of_numbers xs) (of_numbers ys) place → unsigned_abs (to_z w64 bits) ≤ count * 2 ^ 31 →
    to_z w64 (of_z w64 (to_z w64 bits +ℤ to_z w64 (of_z w64 (to_z w32 (of_z w32 s))))) ≡ chunked (count + 1) n (of_numbers xs) (of_numbers ys) place
total_more count n bits s m other k stride place xs ys is_m len at room few is_s known small =
    let sum : s ≡ int_wrap w32 (chunk n (of_numbers xs) (of_numbers ys) place count) =
    is_s ∙ ap (int_wrap w32) (ap (window_sum (length (take m (drop (112 * count) xs))) (of_numbers (take m (drop (112 * count) xs)))
    (of_numbers (take other (drop (112 * count) ys)))) at ∙ chunk_is n count m (112 * count) place other xs ys refl is_m len room) in
    let fits : FitsSigned w32 s = subst (FitsSigned w32) (sym sum) (SFits-int_wrap w32 (chunk n (of_numbers xs) (of_numbers ys) place count)) in
    total_added (to_z w64 bits) s (omega (arith, small, few)) fits
    ∙ ap (λ z. z +ℤ s) known ∙ ap (λ z. chunked count n (of_numbers xs) (of_numbers ys) place +ℤ z) sum
    ∙ sym (chunked_more count n (of_numbers xs) (of_numbers ys) place)

pub total_size : (count n : ℕ) (z : ℤ) (a b : ℕ → ℤ) (place : ℕ) → z ≡ chunked count n a b place → unsigned_abs z ≤ count * 2 ^ 31
total_size count n z a b place e = omega (arith, ap unsigned_abs e, chunked_size count n a b place)

pub total_fits : (count : ℕ) (z : ℤ) → count < 2 ^ 31 → unsigned_abs z ≤ count * 2 ^ 31 → FitsSigned w64 z
total_fits count (pos m) few l = record { sfits = omega (arith, few, l) }
total_fits count (negsuc m) few l = record { sfits = omega (arith, few, l) }

pub one_of_four : (P : ℕ → ℤ → Type 0) (a b c d : ℤ) → P 0 a → P 1 b → P 2 c → P 3 d → (k : ℕ) → k < 4 →
    P k (get_or (a ∷ b ∷ c ∷ d ∷ []) k (pos 0))
one_of_four P a b c d p q r s zero l = p
one_of_four P a b c d p q r s (suc zero) l = q
one_of_four P a b c d p q r s (suc (suc zero)) l = r
one_of_four P a b c d p q r s (suc (suc (suc zero))) l = s
one_of_four P a b c d p q r s (suc (suc (suc (suc k)))) l = absurd (omega arith)

-- ---- numbers that are the same modulo 2 ^ bits w
wrapped_zero : (w : Width) (z : ℤ) → int_wrap w z ≡ pos 0 → (k : ℤ) × (z ≡ pos (2 ^ bits w) *ℤ k)
unfolding int_wrap
wrapped_zero w (pos n) e =
    let m = 2 ^ bits w in
    let none : n % m ≡ 0 = sym (of_z-to_z w (n % m) (mod-lt n (pow_pos (bits w)))) ∙ ap (of_z w) e in
    (pos (n / m), omega (arith, ints, div-add-mod' n m, none))
wrapped_zero w (negsuc n) e =
    let m = 2 ^ bits w in
    let some = pow_pos (bits w) in
    let none : m - 1 - n % m ≡ 0 = sym (of_z-to_z w (m - 1 - n % m) (omega (arith, some))) ∙ ap (of_z w) e in
    (negsuc (n / m), omega (arith, ints, div-add-mod' n m, none, mod-lt n some))

pub wrapped_gap : (w : Width) (a b : ℤ) → int_wrap w a ≡ int_wrap w b → (k : ℤ) × (a ≡ b +ℤ pos (2 ^ bits w) *ℤ k)
wrapped_gap w a b e =
    let none : int_wrap w (a -ℤ b) ≡ pos 0 =
    sym (int_wrap-sub_right w a b) ∙ ap (λ x. int_wrap w (a -ℤ x)) (sym e) ∙ int_wrap-sub_right w a a
    ∙ ap (int_wrap w) (nothing a) ∙ int_wrap_fits w (pos 0) (record { sfits = omega (arith, pow_pos (hbits w)) }) in
    let s = wrapped_zero w (a -ℤ b) none in
    (s.0, moved a b (pos (2 ^ bits w) *ℤ s.0) s.1)
  where
    nothing : (z : ℤ) → z -ℤ z ≡ pos 0
    nothing z = omega (arith, ints)

    moved : (a b z : ℤ) → a -ℤ b ≡ z → a ≡ b +ℤ z
    moved a b z e = omega (arith, ints, e)
