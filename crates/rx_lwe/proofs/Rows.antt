-- Rows of one width, written one after another into a list.
use Rattle.std.proofs.Common.{◌≡◌, ℕ, zero, suc, ◌+◌, ◌*◌, ◌<◌, ◌≤◌, ◌⊎◌, inl, inr, sym, ◌∙◌, ap, arith, add-one, List, [], ◌∷◌, ◌++◌, length, get_or, take, length-append}
use Rattle.std.specs.List.{range_with_len, flat_map}
use Rattle.std.proofs.Math.ListN.{get_or-append}
use Rattle.std.proofs.Math.Nat.{mul-le-mul_right}
use Rattle.std.proofs.lemmas.Bool.{cases_lt}
use Rattle.std.proofs.lemmas.List.{map-id, flat_map_more, get_or-append_right}
use Rattle.std.proofs.lemmas.List.FromFn.{map-range_with_len_more}
use Rattle.std.proofs.lemmas.Slice.{take-put_mid}
use borrow.Rule.Slice.PartMut.{put_mid}

range-more : (n : ℕ) → range_with_len 0 (n + 1) ≡ range_with_len 0 n ++ n ∷ []
range-more n =
    sym (map-id (range_with_len 0 (n + 1))) ∙ map-range_with_len_more (λ (x : ℕ). x) 0 n n (omega arith)
    ∙ ap (λ xs. xs ++ n ∷ []) (map-id (range_with_len 0 n))

-- one more row
pub rows-more : (f : ℕ → List ℕ) (n : ℕ) → flat_map f (range_with_len 0 n) ++ f n ≡ flat_map f (range_with_len 0 (n + 1))
rows-more f n = flat_map_more f [] (range_with_len 0 n) n ∙ ap (flat_map f) (sym (range-more n))

pub rows-suc : (f : ℕ → List ℕ) (n : ℕ) → flat_map f (range_with_len 0 (suc n)) ≡ flat_map f (range_with_len 0 n) ++ f n
rows-suc f n = ap (λ k. flat_map f (range_with_len 0 k)) (sym (add-one n)) ∙ sym (rows-more f n)

-- a list that begins with the first rows, once the next one is written behind them
pub rows-written : (f : ℕ → List ℕ) (row width from until k : ℕ) (xs ys : List ℕ) → from ≡ row * width → until ≡ (row + 1) * width →
    from ≤ length xs → length ys ≡ width → take from xs ≡ flat_map f (range_with_len 0 row) → ys ≡ f row →
    take until (put_mid from k xs ys) ≡ flat_map f (range_with_len 0 (row + 1))
rows-written f row width from until k xs ys start end room count before written =
    take-put_mid from k xs ys until (omega (arith, count, start, end)) room
    ∙ ap (λ zs. zs ++ ys) before ∙ ap (λ zs. flat_map f (range_with_len 0 row) ++ zs) written ∙ rows-more f row

-- as many words as rows of that width have
pub rows-length : (f : ℕ → List ℕ) (width n : ℕ) → ((r : ℕ) → r < n → length (f r) ≡ width) → length (flat_map f (range_with_len 0 n)) ≡ n * width
rows-length f width zero each = omega arith
rows-length f width (suc n) each =
    let before : length (flat_map f (range_with_len 0 n)) ≡ n * width = rows-length f width n (λ r p. each r (omega arith)) in
    let last : length (f n) ≡ width = each n (omega arith) in
    ap length (rows-suc f n) ∙ length-append (flat_map f (range_with_len 0 n)) (f n) ∙ omega (arith, before, last)

-- place i of row r
place_in : (f : ℕ → List ℕ) (width n r i : ℕ) → length (flat_map f (range_with_len 0 n)) ≡ n * width → r < n + 1 → i < width →
    (r < n → get_or (flat_map f (range_with_len 0 n)) (r * width + i) 0 ≡ get_or (f r) i 0) →
    (r < n) ⊎ (n ≤ r) → get_or (flat_map f (range_with_len 0 n) ++ f n) (r * width + i) 0 ≡ get_or (f r) i 0
place_in f width n r i count p q before (inl h) =
    let room : (r + 1) * width ≤ n * width = mul-le-mul_right width (omega arith) in
    get_or-append (flat_map f (range_with_len 0 n)) (f n) 0 (r * width + i) (omega (arith, count)) ∙ before h
place_in f width n r i count p q before (inr h) =
    let e : r ≡ n = omega arith in
    let place : r * width + i ≡ n * width + i = ap (λ k. k * width + i) e in
    get_or-append_right (flat_map f (range_with_len 0 n)) (f n) (n * width) (r * width + i) 0 count (omega (arith, place))
    ∙ ap (λ k. get_or (f n) k 0) (omega (arith, place)) ∙ ap (λ k. get_or (f k) i 0) (sym e)

pub rows-place : (f : ℕ → List ℕ) (width n r i : ℕ) → ((r : ℕ) → r < n → length (f r) ≡ width) → r < n → i < width →
    get_or (flat_map f (range_with_len 0 n)) (r * width + i) 0 ≡ get_or (f r) i 0
rows-place f width zero r i each p q = absurd (omega arith)
rows-place f width (suc n) r i each p q =
    let sooner : (s : ℕ) → s < n → length (f s) ≡ width = λ s h. each s (omega arith) in
    ap (λ xs. get_or xs (r * width + i) 0) (rows-suc f n)
    ∙ place_in f width n r i (rows-length f width n sooner) (omega arith) q (λ h. rows-place f width n r i sooner h q) (cases_lt r n)
