-- A block with its sign turned, and then the block, in one list.
use Rattle.std.proofs.Common.{◌≡◌, ℕ, ℤ, pos, neg_ℤ, ◌+ℤ◌, ◌-ℤ◌, ◌+◌, ◌-◌, ◌<◌, ◌≤◌, sym, ◌∙◌, ap, subst, arith, inl, inr, List, length, get_or, take, drop, ◌++◌, w16, FitsSigned}
use Rattle.std.proofs.lemmas.Bool.{cases_lt}
use Rattle.std.proofs.lemmas.Int.{ints, SFits-int_wrap, int_wrap-add_right, int_wrap-sub_right}
use Rattle.std.proofs.lemmas.List.{get_or-append_right, get_or_past, length-take}
use Rattle.std.proofs.Math.ListN.{get_or-append}
use Rattle.std.specs.Int.{int_wrap}
use Rattle.rx_laws.specs.Words.{of_numbers}
use Rattle.rx_ring.specs.Polynomial.{turned}
use Rattle.rx_ring.proofs.Polynomial.{by_turn, turned_low, turned_high}
use Rattle.rx_ring.proofs.Parts.{part_read_at}
use Rattle.rx_points.specs.Numbers.{AllFit, AreNumbers, WrittenTo, HoldsTurns}

pub opposite : (x : ℤ) → pos 0 -ℤ x ≡ neg_ℤ x
opposite x = omega (arith, ints)

pub holds_turns : (n m : ℕ) (b : ℕ → ℤ) (old xs before ys : List ℤ) → length xs ≡ n → n ≤ m →
    WrittenTo m (λ i. pos 0 -ℤ b i) old xs → WrittenTo m b before ys → HoldsTurns n b (xs ++ ys)
holds_turns n m b old xs before ys count all negated copied = record {
  each = λ t i p q.
      by_turn t i
      (λ l. let e : n - t + i ≡ n + (i - t) = omega arith in
      ap (λ k. get_or (xs ++ ys) k (pos 0)) e ∙ get_or-append_right xs ys n (n + (i - t)) (pos 0) count (omega arith)
      ∙ ap (λ k. get_or ys k (pos 0)) (omega arith) ∙ copied.written (i - t) (omega arith)
      ∙ ap (int_wrap w16) (sym (turned_low n b t i l)))
      (λ l. let e : n - t + i ≡ i + n - t = omega arith in
      ap (λ k. get_or (xs ++ ys) k (pos 0)) e ∙ get_or-append xs ys (pos 0) (i + n - t) (omega (arith, count))
      ∙ negated.written (i + n - t) (omega arith)
      ∙ ap (int_wrap w16) (opposite (b (i + n - t)) ∙ sym (turned_high n b t i l)));
}

-- a number that is one modulo 2 ^ 16 fits, and so do all of a list of such
pub fits_as : (x z : ℤ) → x ≡ int_wrap w16 z → FitsSigned w16 x
fits_as x z e = subst (FitsSigned w16) (sym e) (SFits-int_wrap w16 z)

pub all_fit : (xs : List ℤ) (f : ℕ → ℤ) → ((i : ℕ) → i < length xs → get_or xs i (pos 0) ≡ int_wrap w16 (f i)) → AllFit xs
unfolding int_wrap
all_fit xs f h = record {
  each = λ i. elim (cases_lt i (length xs)) as (λ _. FitsSigned w16 (get_or xs i (pos 0))) [
    | inl r ↦ fits_as (get_or xs i (pos 0)) (f i) (h i r)
    | inr r ↦ fits_as (get_or xs i (pos 0)) (pos 0) (get_or_past xs i (pos 0) r)
  ];
}

-- the n numbers of Y ^ s times b
pub turn_read : (n s k i : ℕ) (b : ℕ → ℤ) (xs : List ℤ) → HoldsTurns n b xs → s ≤ n → k ≡ n → i < n →
    get_or (take k (drop (n - s) xs)) i (pos 0) ≡ int_wrap w16 (turned n b s i)
turn_read n s k i b xs holds p e q = part_read_at (n - s) k i xs (pos 0) (omega arith) ∙ holds.each s i p q

pub turn_fits : (n s k : ℕ) (b : ℕ → ℤ) (xs : List ℤ) → HoldsTurns n b xs → s ≤ n → k ≡ n → AllFit (take k (drop (n - s) xs))
turn_fits n s k b xs holds p e =
    all_fit (take k (drop (n - s) xs)) (λ i. turned n b s i)
    (λ i q. turn_read n s k i b xs holds p e (omega (arith, length-take k (drop (n - s) xs))))

pub sum_of_turn : (n s k : ℕ) (a b : ℕ → ℤ) (ts xs : List ℤ) → HoldsTurns n b ts → s ≤ n → k ≡ n →
    AreNumbers n (λ i. a i +ℤ of_numbers (take k (drop (n - s) ts)) i) xs → AreNumbers n (λ i. a i +ℤ turned n b s i) xs
sum_of_turn n s k a b ts xs holds p e are = record {
  count = are.count;
  each = λ i q.
      are.each i q ∙ ap (λ x. int_wrap w16 (a i +ℤ x)) (turn_read n s k i b ts holds p e q)
      ∙ int_wrap-add_right w16 (a i) (turned n b s i);
}

pub difference_of_turn : (n s k : ℕ) (a b : ℕ → ℤ) (ts xs : List ℤ) → HoldsTurns n b ts → s ≤ n → k ≡ n →
    AreNumbers n (λ i. a i -ℤ of_numbers (take k (drop (n - s) ts)) i) xs → AreNumbers n (λ i. a i -ℤ turned n b s i) xs
difference_of_turn n s k a b ts xs holds p e are = record {
  count = are.count;
  each = λ i q.
      are.each i q ∙ ap (λ x. int_wrap w16 (a i -ℤ x)) (turn_read n s k i b ts holds p e q)
      ∙ int_wrap-sub_right w16 (a i) (turned n b s i);
}
