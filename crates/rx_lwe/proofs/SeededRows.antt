-- Rows whose masks a seed draws: their sizes, their words, and their bodies.
use Rattle.std.proofs.Common.{◌≡◌, ℕ, zero, suc, pos, ◌+◌, ◌-◌, ◌*◌, ◌<◌, ◌≤◌, ◌⊎◌, inl, inr, refl, sym, ◌∙◌, ap, arith, List, [], ◌∷◌, ◌++◌, length, get_or, take, drop}
use Rattle.std.specs.List.{range_with_len, flat_map}
use Rattle.std.proofs.Math.Nat.{mul-le-mul_right}
use Rattle.std.proofs.Math.Seq.{take-add}
use Rattle.std.proofs.lemmas.Bool.{cases_lt}
use Rattle.std.proofs.lemmas.List.{length-take-le, length-drop, length-append, take_all, drop_at, take-append-le, drop-append-le, drop-take, drop-drop, drop_more}
use Rattle.rx_laws.proofs.Words.{words_below-are}
use Rattle.rx_torus.specs.Streams.{Draws, draw}
use Rattle.rx_lwe.specs.Seeded.{drawn_words, seeded_row, seeded_rows, row_bodies}
use Rattle.rx_lwe.proofs.Rows.{rows-suc, rows-length}

pub drawn_words-length : (count : ℕ) (s : Draws) → length (drawn_words count s) ≡ count
drawn_words-length count s = (words_below-are count (λ i. pos (draw s i))).count

-- ---- rows of one width

-- a row ends within its list
pub row_ends : (row rows width : ℕ) → row < rows → row * width + width ≤ rows * width
row_ends row rows width p = let room : (row + 1) * width ≤ rows * width = mul-le-mul_right width (omega arith) in omega arith

-- two functions that agree below n have the same rows
pub rows-same : (f g : ℕ → List ℕ) (n : ℕ) → ((r : ℕ) → r < n → f r ≡ g r) →
    flat_map f (range_with_len 0 n) ≡ flat_map g (range_with_len 0 n)
rows-same f g zero same = refl
rows-same f g (suc n) same =
    rows-suc f n
    ∙ ap (λ xs. xs ++ f n) (rows-same f g n (λ r p. same r (omega arith)))
    ∙ ap (λ ys. flat_map g (range_with_len 0 n) ++ ys) (same n (omega arith))
    ∙ sym (rows-suc g n)

-- the parts of a list, one after another, are what it begins with
pub parts-joined : (xs : List ℕ) (width n : ℕ) →
    flat_map (λ r. take width (drop (r * width) xs)) (range_with_len 0 n) ≡ take (n * width) xs
parts-joined xs width zero = let e : 0 * width ≡ 0 = omega arith in sym (ap (λ k. take k xs) e)
parts-joined xs width (suc n) =
    let e : n * width + width ≡ suc n * width = omega arith in
    rows-suc (λ r. take width (drop (r * width) xs)) n
    ∙ ap (λ ys. ys ++ take width (drop (n * width) xs)) (parts-joined xs width n)
    ∙ sym (take-add (n * width) width xs)
    ∙ ap (λ k. take k xs) e

part_in : (f : ℕ → List ℕ) (width n r : ℕ) → length (flat_map f (range_with_len 0 n)) ≡ n * width → length (f n) ≡ width →
    r < suc n → (r < n → take width (drop (r * width) (flat_map f (range_with_len 0 n))) ≡ f r) → (r < n) ⊎ (n ≤ r) →
    take width (drop (r * width) (flat_map f (range_with_len 0 n) ++ f n)) ≡ f r
part_in f width n r count last p before (inl h) =
    let front : List ℕ = flat_map f (range_with_len 0 n) in
    let room : r * width + width ≤ n * width = row_ends r n width h in
    let left : length (drop (r * width) front) ≡ n * width - r * width = length-drop (r * width) front ∙ ap (λ k. k - r * width) count in
    ap (take width) (drop-append-le (r * width) front (f n) (omega (arith, count, room)))
    ∙ take-append-le width (drop (r * width) front) (f n) (omega (arith, left, room))
    ∙ before h
part_in f width n r count last p before (inr h) =
    let e : r ≡ n = omega arith in
    ap (λ k. take width (drop (k * width) (flat_map f (range_with_len 0 n) ++ f n))) e
    ∙ ap (take width) (drop_at (flat_map f (range_with_len 0 n)) (f n) (n * width) count)
    ∙ take_all width (f n) (omega (arith, last))
    ∙ ap f (sym e)

-- row r of rows of one width
pub rows-part : (f : ℕ → List ℕ) (width n r : ℕ) → ((r : ℕ) → r < n → length (f r) ≡ width) → r < n →
    take width (drop (r * width) (flat_map f (range_with_len 0 n))) ≡ f r
rows-part f width zero r each p = absurd (omega arith)
rows-part f width (suc n) r each p =
    let sooner : (s : ℕ) → s < n → length (f s) ≡ width = λ s q. each s (omega arith) in
    ap (λ xs. take width (drop (r * width) xs)) (rows-suc f n)
    ∙ part_in f width n r (rows-length f width n sooner) (each n (omega arith)) p (λ q. rows-part f width n r sooner q) (cases_lt r n)

-- ---- rows with masks

pub body-length : (wide rows row : ℕ) (bodies : List ℕ) → length bodies ≡ rows * wide → row < rows →
    length (take wide (drop (row * wide) bodies)) ≡ wide
body-length wide rows row bodies count p =
    let left : length (drop (row * wide) bodies) ≡ rows * wide - row * wide =
    length-drop (row * wide) bodies ∙ ap (λ k. k - row * wide) count in
    length-take-le wide (drop (row * wide) bodies) (omega (arith, left, row_ends row rows wide p))

pub seeded_row-length : (mask : ℕ → Draws) (masks wide rows row : ℕ) (bodies : List ℕ) → length bodies ≡ rows * wide → row < rows →
    length (seeded_row mask masks wide bodies row) ≡ masks + wide
seeded_row-length mask masks wide rows row bodies count p =
    length-append (drawn_words masks (mask row)) (take wide (drop (row * wide) bodies))
    ∙ omega (arith, drawn_words-length masks (mask row), body-length wide rows row bodies count p)

pub seeded_rows-length : (mask : ℕ → Draws) (masks wide rows : ℕ) (bodies : List ℕ) → length bodies ≡ rows * wide →
    length (seeded_rows mask masks wide rows bodies) ≡ rows * (masks + wide)
seeded_rows-length mask masks wide rows bodies count =
    rows-length (seeded_row mask masks wide bodies) (masks + wide) rows
    (λ r p. seeded_row-length mask masks wide rows r bodies count p)

pub row_bodies-length : (masks wide rows : ℕ) (words : List ℕ) → length words ≡ rows * (masks + wide) →
    length (row_bodies masks wide rows words) ≡ rows * wide
row_bodies-length masks wide rows words count =
    rows-length (λ r. take wide (drop (r * (masks + wide) + masks) words)) wide rows
    (λ r p.
    let left : length (drop (r * (masks + wide) + masks) words) ≡ rows * (masks + wide) - (r * (masks + wide) + masks) =
    length-drop (r * (masks + wide) + masks) words ∙ ap (λ k. k - (r * (masks + wide) + masks)) count in
    length-take-le wide (drop (r * (masks + wide) + masks) words) (omega (arith, left, row_ends r rows (masks + wide) p)))

-- the body of a row, from the row
body_of_row : (words xs ys : List ℕ) (from masks wide : ℕ) → length xs ≡ masks → take (masks + wide) (drop from words) ≡ xs ++ ys →
    take wide (drop (from + masks) words) ≡ ys
body_of_row words xs ys from masks wide count row =
    ap (take wide) (sym (drop-drop masks from words))
    ∙ sym (drop-take masks wide (drop from words))
    ∙ ap (drop masks) row
    ∙ drop_at xs ys masks count

-- the bodies of rows that are masks and bodies, one after another
pub rows-bodies : (f : ℕ → List ℕ) (mask : ℕ → Draws) (body : ℕ → List ℕ) (masks wide rows : ℕ) →
    ((r : ℕ) → r < rows → f r ≡ drawn_words masks (mask r) ++ body r) → ((r : ℕ) → r < rows → length (body r) ≡ wide) →
    row_bodies masks wide rows (flat_map f (range_with_len 0 rows)) ≡ flat_map body (range_with_len 0 rows)
rows-bodies f mask body masks wide rows each count =
    let width : (r : ℕ) → r < rows → length (f r) ≡ masks + wide =
    λ r p. ap length (each r p) ∙ length-append (drawn_words masks (mask r)) (body r)
    ∙ omega (arith, drawn_words-length masks (mask r), count r p) in
    rows-same (λ r. take wide (drop (r * (masks + wide) + masks) (flat_map f (range_with_len 0 rows)))) body rows
    (λ r p. body_of_row (flat_map f (range_with_len 0 rows)) (drawn_words masks (mask r)) (body r) (r * (masks + wide)) masks wide
    (drawn_words-length masks (mask r)) (rows-part f (masks + wide) rows r width p ∙ each r p))

-- rows of drawn masks and these bodies have these bodies
pub seeded_rows-bodies : (mask : ℕ → Draws) (masks wide rows : ℕ) (bodies : List ℕ) → length bodies ≡ rows * wide →
    row_bodies masks wide rows (seeded_rows mask masks wide rows bodies) ≡ bodies
seeded_rows-bodies mask masks wide rows bodies count =
    rows-bodies (seeded_row mask masks wide bodies) mask (λ r. take wide (drop (r * wide) bodies)) masks wide rows (λ r p. refl)
    (λ r p. body-length wide rows r bodies count p)
    ∙ parts-joined bodies wide rows
    ∙ take_all (rows * wide) bodies (omega (arith, count))

-- rows whose masks are drawn are the rows of drawn masks and their bodies
pub rows-seeded : (f : ℕ → List ℕ) (mask : ℕ → Draws) (body : ℕ → List ℕ) (masks wide rows : ℕ) →
    ((r : ℕ) → r < rows → f r ≡ drawn_words masks (mask r) ++ body r) → ((r : ℕ) → r < rows → length (body r) ≡ wide) →
    seeded_rows mask masks wide rows (row_bodies masks wide rows (flat_map f (range_with_len 0 rows)))
    ≡ flat_map f (range_with_len 0 rows)
rows-seeded f mask body masks wide rows each count =
    ap (seeded_rows mask masks wide rows) (rows-bodies f mask body masks wide rows each count)
    ∙ rows-same (seeded_row mask masks wide (flat_map body (range_with_len 0 rows))) f rows
    (λ r p. ap (λ ys. drawn_words masks (mask r) ++ ys) (rows-part body wide rows r count p) ∙ sym (each r p))

-- ---- rows whose bodies are single words

pub one_word : (bodies : List ℕ) (row : ℕ) → row < length bodies → take 1 (drop (row * 1) bodies) ≡ get_or bodies row 0 ∷ []
one_word bodies row p =
    let e : row * 1 ≡ row = omega arith in
    ap (λ k. take 1 (drop k bodies)) e ∙ ap (take 1) (drop_more bodies row 0 p)
