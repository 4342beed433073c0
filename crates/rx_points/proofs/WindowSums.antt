-- Sums of products modulo 2 ^ 32, term by term.
use Rattle.std.proofs.Common.{◌≡◌, ℕ, ℤ, pos, ◌+ℤ◌, ◌*ℤ◌, ◌+◌, ◌*◌, ◌%◌, ◌^◌, ◌<◌, refl, sym, ◌∙◌, ap, subst, arith, add-one, List, get_or, take, drop, to_z, of_z, w16, w32, FitsSigned}
use Rattle.std.proofs.lemmas.Int.{to_z-of_z, SFits-int_wrap, int_wrap-add_left, int_wrap-add_right, wrapping_add_onto}
use Rattle.std.proofs.lemmas.List.{get_or-take}
use Rattle.std.specs.Int.{int_wrap}
use Rattle.rx_laws.specs.Sum.{sum_to}
use Rattle.rx_laws.specs.Words.{of_numbers}
use Rattle.rx_laws.proofs.Sums.{sum_to-suc}
use Rattle.rx_ring.proofs.Parts.{part_read_at}
use Rattle.rx_points.specs.Windows.{window_sum}
use Rattle.rx_points.proofs.Vectors.{product_bits}

pub sum_none : (a b : ℕ → ℤ) (place : ℕ) → pos 0 ≡ int_wrap w32 (window_sum 0 a b place)
unfolding window_sum int_wrap sum_to
sum_none a b place = refl

pub sum_more : (n : ℕ) (a b : ℕ → ℤ) (place : ℕ) → window_sum (n + 1) a b place ≡ window_sum n a b place +ℤ a n *ℤ b (place + n)
unfolding window_sum
sum_more n a b place = ap (λ k. window_sum k a b place) (add-one n) ∙ sum_to-suc n (λ i. a i *ℤ b (place + i))

wider : (z : ℤ) → FitsSigned w16 z → FitsSigned w32 z
wider z f = record { sfits = omega (arith, f.sfits) }

-- what the bits of a sum become by one product more
pub term_added : (count : ℕ) (total a b c : ℤ) → count < 2 ^ 32 → to_z w32 count ≡ int_wrap w32 total →
    FitsSigned w16 a → FitsSigned w16 c → c ≡ b →
    to_z w32 ((count + of_z w32 (to_z w16 (of_z w16 a)) * of_z w32 (to_z w16 (of_z w16 c)) % 2 ^ 32) % 2 ^ 32) ≡ int_wrap w32 (total +ℤ a *ℤ b)
term_added count total a b c p known f g same =
    ap (λ x. to_z w32 ((count + of_z w32 x * of_z w32 (to_z w16 (of_z w16 c)) % 2 ^ 32) % 2 ^ 32)) (to_z-of_z w16 a f)
    ∙ ap (λ x. to_z w32 ((count + of_z w32 a * of_z w32 x % 2 ^ 32) % 2 ^ 32)) (to_z-of_z w16 c g)
    ∙ ap (λ x. to_z w32 ((count + x) % 2 ^ 32)) (product_bits w32 a c (wider a f) (wider c g) (omega arith))
    ∙ wrapping_add_onto w32 count (int_wrap w32 (a *ℤ c)) p (SFits-int_wrap w32 (a *ℤ c))
    ∙ int_wrap-add_right w32 (to_z w32 count) (a *ℤ c)
    ∙ ap (λ x. int_wrap w32 (x +ℤ a *ℤ c)) known
    ∙ int_wrap-add_left w32 total (a *ℤ c)
    ∙ ap (λ x. int_wrap w32 (total +ℤ a *ℤ x)) same

-- a window of k numbers that begins at a place
pub number_in : (place k i : ℕ) (xs : List ℤ) → i < k → get_or (take k (drop place xs)) i (pos 0) ≡ of_numbers xs (place + i)
number_in place k i xs p = part_read_at place k i xs (pos 0) p

pub number_first : (k i : ℕ) (xs : List ℤ) → i < k → get_or (take k xs) i (pos 0) ≡ of_numbers xs (0 + i)
number_first k i xs p = get_or-take k xs i (pos 0) p ∙ ap (λ x. of_numbers xs x) (omega arith)

pub window_more : (n count : ℕ) (xs ys part : List ℤ) (place : ℕ) → count < 2 ^ 32 →
    to_z w32 count ≡ int_wrap w32 (window_sum n (of_numbers xs) (of_numbers ys) place) → FitsSigned w16 (get_or xs n (pos 0)) →
    FitsSigned w16 (of_numbers ys (place + n)) → get_or part n (pos 0) ≡ of_numbers ys (place + n) →
    to_z w32 ((count + of_z w32 (to_z w16 (of_z w16 (get_or xs n (pos 0)))) * of_z w32 (to_z w16 (of_z w16 (get_or part n (pos 0)))) % 2 ^ 32) % 2 ^ 32)
    ≡ int_wrap w32 (window_sum (n + 1) (of_numbers xs) (of_numbers ys) place)
window_more n count xs ys part place p known f g same =
    term_added count (window_sum n (of_numbers xs) (of_numbers ys) place) (get_or xs n (pos 0)) (of_numbers ys (place + n)) (get_or part n (pos 0)) p known f
    (subst (FitsSigned w16) (sym same) g) same
    ∙ ap (int_wrap w32) (sym (sum_more n (of_numbers xs) (of_numbers ys) place))
