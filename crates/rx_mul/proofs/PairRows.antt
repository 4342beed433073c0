-- The rows of a product, and their number.
use Rattle.std.proofs.Common.{◌≡◌, ℕ, zero, suc, List, ◌<◌, ◌≤◌, ◌+◌, ◌-◌, ◌*◌, ◌/◌, ◌%◌, ◌^◌, inl, inr, length, get_or, ◌++◌, sym, ◌∙◌, ap, refl, arith}
use Rattle.std.proofs.lemmas.Bool.{cases_lt}
use Rattle.std.proofs.lemmas.Nat.{mul-le, pow_pos, mod_below, div_below, div-mul-add, mod-mul-add}
use Rattle.rx_net.specs.declared.net.Net.{Net}
use Rattle.rx_net.specs.Tags.{greatest_of}
use Rattle.rx_net.specs.Cells.{cell_count, value, depth}
use Rattle.rx_net.specs.Legal.{IsBounded}
use Rattle.rx_net.specs.Growth.{Extends}
use Rattle.rx_plan.specs.Tables.{IsTable, HasEntries}
use Rattle.rx_plan.specs.Values.{AreInputs, cell_value, number, number_held, total}
use Rattle.rx_plan.specs.Planned.{Each, EachOf, AreBlocks, Planned, Lays}
use Rattle.rx_plan.specs.Rows.{shifted, rows_number, product_at}
use Rattle.rx_plan.proofs.Totals.{total_same, total_more}
use Rattle.rx_plan.proofs.PerBlock.{two_blocks, table_is, greatest_entry}
use Rattle.rx_plan.proofs.Kept.{within_now, depths_kept, value_below}
use Rattle.rx_plan.proofs.Planned.{planned_lays, planned_weaken, lays_beside, lays_weaken}
use Rattle.rx_plan.proofs.Numbers.{number_same}
use Rattle.rx_plan.proofs.Given.{blocks_number}
use Rattle.rx_plan.proofs.RowLaws.{shifted_low, number_zero, product_mod}
use Rattle.rx_plan.proofs.RowCells.{row_alone, rows_append, shifted_same}

-- the jobs of so many rows, each shorter by one than that before
unfoldable pub row_jobs : ℕ → ℕ → ℕ
row_jobs width zero = 0
row_jobs width (suc n) = row_jobs width n + (width - n)

-- the jobs of all rows of a product
row_sum : (w n : ℕ) → n ≤ w → 2 * row_jobs w n + n * n ≡ 2 * w * n + n
unfolding row_jobs
row_sum w zero h = omega arith
row_sum w (suc n) h =
    let i : 2 * row_jobs w n + n * n ≡ 2 * w * n + n = row_sum w n (omega arith) in
    omega arith

pub rows_square : (n : ℕ) → 1 ≤ n → row_jobs n n + row_jobs (n - 1) (n - 1) ≡ n * n
rows_square zero h = absurd (omega arith)
rows_square (suc n) h =
    let e : suc n - 1 ≡ n = omega arith in
    let a : 2 * row_jobs (suc n) (suc n) + suc n * suc n ≡ 2 * suc n * suc n + suc n = row_sum (suc n) (suc n) (omega arith) in
    let b : 2 * row_jobs n n + n * n ≡ 2 * n * n + n = row_sum n n (omega arith) in
    let g : row_jobs (suc n) (suc n) + row_jobs n n ≡ suc n * suc n = omega arith in
    ap (λ k. row_jobs (suc n) (suc n) + row_jobs k k) e ∙ g

pub product_stable : (old now : Net) (x : ℕ) (b table : List ℕ) (shift k : ℕ) → Extends old now → x < cell_count old → Each b (λ o. o < cell_count old) → k < length b
    → (xs : List ℕ) → AreInputs old xs
    → shifted shift (product_at (2 ^ now.space) now table x b xs) k ≡ shifted shift (product_at (2 ^ old.space) old table x b xs) k
product_stable old now x b table shift k e kx kb q xs w =
    ap (λ s. shifted shift (product_at (2 ^ s) now table x b xs) k) e.space
    ∙ shifted_same shift (product_at (2 ^ old.space) now table x b xs) (product_at (2 ^ old.space) old table x b xs) k
    (ap (λ y. get_or table (2 ^ old.space * y + cell_value now b xs (k - shift)) 0) (e.values xs w x kx)
    ∙ ap (λ y. get_or table (2 ^ old.space * value old xs x + y) 0) (e.values xs w (get_or b (k - shift) 0) (kb (k - shift) (omega arith))))

row_jobs_more : (w n : ℕ) → row_jobs w n + (w - n) ≡ row_jobs w (n + 1)
unfolding row_jobs
row_jobs_more w n = let e : suc n ≡ n + 1 = omega arith in ap (row_jobs w) e

pub row_jobs_le : (w n m : ℕ) → n < m → row_jobs w n + (w - n) ≤ row_jobs w m
unfolding row_jobs
row_jobs_le w n zero h = absurd (omega arith)
row_jobs_le w n (suc m) h =
    elim (cases_lt n m) [
      | inl l ↦ omega (arith, row_jobs_le w n m l)
      | inr l ↦ let e : m ≡ n = omega arith in let s : row_jobs w (suc m) ≡ row_jobs w n + (w - n) = ap (λ k. row_jobs w k + (w - k)) e in omega arith
    ]

-- one row more
pub row_more : (old now new : Net) (cs ds a b table : List ℕ) (i shift rows jobs : ℕ)
    → length b ≡ length a → AreBlocks old a → AreBlocks old b → i < length a
    → Lays old now cs (rows * length a) jobs 1 (EachOf a b)
    → Planned now new ds (λ _. 2 ^ now.space - 1) (length b) (length b - shift) 1 (λ P. P (get_or a i 0) × Each b P) (λ xs k. shifted shift (product_at (2 ^ now.space) now table (get_or a i 0) b xs) k)
    → Lays old new (cs ++ ds) ((rows + 1) * length a) (jobs + (length a - shift)) 1 (EachOf a b)
row_more old now new cs ds a b table i shift rows jobs n ka kb q p r =
    let e : Extends old now = p.extends in
    let x : ℕ = get_or a i 0 in
    let w : ℕ = length a in
    let k : Lays now new ds (length b) (w - shift) 1 (λ P. P x × Each b P) =
    planned_lays now new ds (λ _. 2 ^ now.space - 1) (length b) (length b - shift) 1 (w - shift) (λ P. P x × Each b P) _ (λ i q. omega arith) (omega arith) r in
    let s = lays_beside old now new cs ds (rows * w) (length b) jobs (w - shift) 1 (EachOf a b) (λ P. P x × Each b P) p k
    (λ d o. (let f : depth now x ≡ depth old x = e.depths x (ka i q).there in let g : depth old x ≤ d = o.0 i q in omega arith, depths_kept old now b d (2 ^ old.space - 1) e kb o.1)) in
    let c : rows * w + length b ≡ (rows + 1) * w = omega arith in
    lays_weaken old new (cs ++ ds) (rows * w + length b) ((rows + 1) * w) (jobs + (w - shift)) (jobs + (w - shift)) 1 1 (EachOf a b) c (omega arith) (omega arith) s

pub row_more_value : (old now new : Net) (cs ds a b table : List ℕ) (i shift rows jobs : ℕ)
    → length b ≡ length a → AreBlocks old a → AreBlocks old b → i < length a
    → Lays old now cs (rows * length a) jobs 1 (EachOf a b)
    → Planned now new ds (λ _. 2 ^ now.space - 1) (length b) (length b - shift) 1 (λ P. P (get_or a i 0) × Each b P) (λ xs k. shifted shift (product_at (2 ^ now.space) now table (get_or a i 0) b xs) k)
    → (xs : List ℕ) → AreInputs old xs
    → rows_number (2 ^ old.space) new (cs ++ ds) (length a) (rows + 1) xs
    ≡ rows_number (2 ^ old.space) now cs (length a) rows xs + number (2 ^ old.space) (length a) (shifted shift (product_at (2 ^ old.space) old table (get_or a i 0) b xs))
row_more_value old now new cs ds a b table i shift rows jobs n ka kb q p r xs v =
    let e : Extends old now = p.extends in
    let u : ℕ = 2 ^ old.space in
    let w : ℕ = length a in
    let v' : AreInputs now xs = within_now old now e xs v in
    let ld : length ds ≡ 1 * w = omega (arith, r.count_is) in
    let s : rows_number u new ds w 1 xs ≡ number u w (shifted shift (product_at u old table (get_or a i 0) b xs)) =
    row_alone u new ds w xs ∙ number_same u w (cell_value new ds xs) (shifted shift (product_at u old table (get_or a i 0) b xs)) (λ k l.
    r.values_are xs v' k (omega arith) ∙ product_stable old now (get_or a i 0) b table shift k e (ka i q).there (λ j m. (kb j m).there) (omega arith) xs v) in
    rows_append u old now new cs ds w rows 1 xs r.extends p.count_is ld (λ i q. (p.cells_are i q).there) v'
    ∙ ap (λ x. rows_number u now cs w rows xs + x) s

abbrev pub low_row : Net → List ℕ → List ℕ → List ℕ → List ℕ → ℕ → ℕ
low_row p a b table xs i = number (2 ^ p.space) (length a) (shifted i (product_at (2 ^ p.space) p table (get_or a i 0) b xs))

abbrev pub high_row : Net → List ℕ → List ℕ → List ℕ → List ℕ → ℕ → ℕ
high_row p a b table xs i = number (2 ^ p.space) (length a) (shifted (i + 1) (product_at (2 ^ p.space) p table (get_or a i 0) b xs))

-- the rows of the first blocks: all low ones, and the high ones but the last
pub record PairRows (old now : Net) (cs a b low high : List ℕ) (i : ℕ) : Type 0 where
  pub some : 1 ≤ i
  pub planned : Lays old now cs ((2 * i - 1) * length a) (row_jobs (length a) i + row_jobs (length a - 1) (i - 1)) 1 (EachOf a b)
  pub value_is : (xs : List ℕ) → AreInputs old xs →
      rows_number (2 ^ old.space) now cs (length a) (2 * i - 1) xs ≡ total i (low_row old a b low xs) + total (i - 1) (high_row old a b high xs)

abbrev pub RowPlanned : Net → Net → List ℕ → List ℕ → List ℕ → List ℕ → ℕ → ℕ → Type 0
RowPlanned now new ds a b table i shift =
    Planned now new ds (λ _. 2 ^ now.space - 1) (length b) (length b - shift) 1 (λ P. P (get_or a i 0) × Each b P) (λ xs k. shifted shift (product_at (2 ^ now.space) now table (get_or a i 0) b xs) k)

row_jobs_first : (w : ℕ) → row_jobs w 1 + row_jobs (w - 1) (1 - 1) ≡ w
unfolding row_jobs
row_jobs_first w = omega arith

pub rows_first : (old now : Net) (cs a b low high : List ℕ) → 1 ≤ length a → length b ≡ length a → RowPlanned old now cs a b low 0 0 → PairRows old now cs a b low high 1
unfolding total
rows_first old now cs a b low high o n r =
    let w : ℕ = length a in
    let u : ℕ = 2 ^ old.space in
    let x : ℕ = get_or a 0 0 in
    let f : List ℕ → ℕ → ℕ = λ xs k. shifted 0 (product_at u old low x b xs) k in
    let k : Planned old now cs (λ _. u - 1) (length b) (w - 0) 1 (EachOf a b) f =
    planned_weaken old now cs (λ _. u - 1) (length b) (length b - 0) (w - 0) 1 1 (λ P. P x × Each b P) (EachOf a b) f (omega arith) (omega arith) (λ d q. (q.0 0 o, q.1)) r in
    let s : Lays old now cs (length b) (w - 0) 1 (EachOf a b) = planned_lays old now cs (λ _. u - 1) (length b) (w - 0) 1 (w - 0) (EachOf a b) f (λ i q. omega arith) (omega arith) k in
    let c : length b ≡ (2 * 1 - 1) * w = omega arith in
    record {
      some = omega arith;
      planned = lays_weaken old now cs (length b) ((2 * 1 - 1) * w) (w - 0) (row_jobs w 1 + row_jobs (w - 1) (1 - 1)) 1 1 (EachOf a b) c (omega (arith, row_jobs_first w)) (omega arith) s;
      value_is = λ xs v.
          let z : number u w (shifted 0 (product_at u old low x b xs)) ≡ total 1 (low_row old a b low xs) + total (1 - 1) (high_row old a b high xs) = omega arith in
          row_alone u now cs w xs
          ∙ number_same u w (cell_value now cs xs) (shifted 0 (product_at u old low x b xs)) (λ k l. r.values_are xs v k (omega arith)) ∙ z;
    }

-- the high row of the block before, and the low one of this
pub rows_pair : (old now mid new : Net) (cs ds es a b low high : List ℕ) (i : ℕ)
    → length b ≡ length a → AreBlocks old a → AreBlocks old b → i < length a
    → PairRows old now cs a b low high i
    → RowPlanned now mid ds a b high (i - 1) i
    → RowPlanned mid new es a b low i i
    → PairRows old new ((cs ++ ds) ++ es) a b low high (i + 1)
rows_pair old now mid new cs ds es a b low high i n ka kb q p r s =
    let w : ℕ = length a in
    let u : ℕ = 2 ^ old.space in
    let o : 1 ≤ i = p.some in
    let c : ℕ = 2 * i - 1 in
    let j : ℕ = row_jobs w i + row_jobs (w - 1) (i - 1) in
    let m1 : Lays old mid (cs ++ ds) ((c + 1) * w) (j + (w - i)) 1 (EachOf a b) = row_more old now mid cs ds a b high (i - 1) i c j n ka kb (omega arith) p.planned r in
    let m2 : Lays old new ((cs ++ ds) ++ es) ((c + 1 + 1) * w) (j + (w - i) + (w - i)) 1 (EachOf a b) = row_more old mid new (cs ++ ds) es a b low i i (c + 1) (j + (w - i)) n ka kb q m1 s in
    let e1 : c + 1 + 1 ≡ 2 * (i + 1) - 1 = omega arith in
    let e2 : i - 1 + 1 ≡ i + 1 - 1 = omega arith in
    let j1 : row_jobs w i + (w - i) ≡ row_jobs w (i + 1) = row_jobs_more w i in
    let j2 : row_jobs (w - 1) (i - 1) + (w - 1 - (i - 1)) ≡ row_jobs (w - 1) (i + 1 - 1) = row_jobs_more (w - 1) (i - 1) ∙ ap (row_jobs (w - 1)) e2 in
    record {
      some = omega arith;
      planned = lays_weaken old new ((cs ++ ds) ++ es) ((c + 1 + 1) * w) ((2 * (i + 1) - 1) * w) (j + (w - i) + (w - i)) (row_jobs w (i + 1) + row_jobs (w - 1) (i + 1 - 1)) 1 1 (EachOf a b)
          (ap (λ k. k * w) e1) (omega arith) (omega arith) m2;
      value_is = λ xs v.
          let hi : ℕ → ℕ = high_row old a b high xs in
          let lo : ℕ → ℕ = low_row old a b low xs in
          let f : ℕ → ℕ = λ k. number u w (shifted k (product_at u old high (get_or a (i - 1) 0) b xs)) in
          let e3 : i ≡ i - 1 + 1 = omega arith in
          let v1 : rows_number u mid (cs ++ ds) w (c + 1) xs ≡ rows_number u now cs w c xs + hi (i - 1) =
          row_more_value old now mid cs ds a b high (i - 1) i c j n ka kb (omega arith) p.planned r xs v ∙ ap (λ k. rows_number u now cs w c xs + f k) e3 in
          let v2 : rows_number u new ((cs ++ ds) ++ es) w (c + 1 + 1) xs ≡ rows_number u mid (cs ++ ds) w (c + 1) xs + lo i =
          row_more_value old mid new (cs ++ ds) es a b low i i (c + 1) (j + (w - i)) n ka kb q m1 s xs v in
          let t1 : total i lo + lo i ≡ total (i + 1) lo = total_more (total i lo) i (lo i) lo refl refl in
          let t2 : total (i - 1) hi + hi (i - 1) ≡ total (i + 1 - 1) hi = total_more (total (i - 1) hi) (i - 1) (hi (i - 1)) hi refl refl ∙ ap (λ k. total k hi) e2 in
          let h : rows_number u now cs w c xs ≡ total i lo + total (i - 1) hi = p.value_is xs v in
          let z : rows_number u new ((cs ++ ds) ++ es) w (c + 1 + 1) xs ≡ total (i + 1) lo + total (i + 1 - 1) hi = omega arith in
          ap (λ k. rows_number u new ((cs ++ ds) ++ es) w k xs) (sym e1) ∙ z;
    }

-- there is room for the two rows that follow
pub rows_room : (w i : ℕ) → 1 ≤ i → i < w → (row_jobs w i + row_jobs (w - 1) (i - 1)) + (w - i) + (w - i) ≤ w * w
rows_room w i o q =
    let a : row_jobs w i + (w - i) ≤ row_jobs w w = row_jobs_le w i w q in
    let b : row_jobs (w - 1) (i - 1) + (w - 1 - (i - 1)) ≤ row_jobs (w - 1) (w - 1) = row_jobs_le (w - 1) (i - 1) (w - 1) (omega arith) in
    let s : row_jobs w w + row_jobs (w - 1) (w - 1) ≡ w * w = rows_square w (omega arith) in
    omega arith

abbrev pub low_entry : ℕ → ℕ → ℕ
low_entry u i = (i / u) * (i % u) % u

abbrev pub high_entry : ℕ → ℕ → ℕ
high_entry u i = (i / u) * (i % u) / u

pub product_le : (u i : ℕ) → 0 < u → (i / u) * (i % u) ≤ i
product_le u i h =
    let m : (i / u) * (i % u) ≤ (i / u) * u = mul-le (i / u) (i % u) (i / u) u (omega arith) (omega (arith, mod_below i u h)) in
    omega arith

below_square : (u x : ℕ) → 0 < u → x < u → x < u * u
below_square u x h q = let m : x * 1 ≤ x * u = mul-le x 1 x u (omega arith) h in let n : suc x * u ≤ u * u = mul-le (suc x) u u u q (omega arith) in omega arith

pub low_below : (u i : ℕ) → 0 < u → low_entry u i < u
low_below u i h = mod_below ((i / u) * (i % u)) u h

pub high_below : (u i : ℕ) → 0 < u → i < u * u → high_entry u i < u
high_below u i h q = div_below ((i / u) * (i % u)) u u h (omega (arith, product_le u i h))

pub low_is : (s : ℕ) (table : List ℕ) → HasEntries s (low_entry (2 ^ s)) table → IsTable s table
low_is s table h = table_is s (low_entry (2 ^ s)) table h (λ i q. below_square (2 ^ s) (low_entry (2 ^ s) i) (pow_pos s) (low_below (2 ^ s) i (pow_pos s)))

pub high_is : (s : ℕ) (table : List ℕ) → HasEntries s (high_entry (2 ^ s)) table → IsTable s table
high_is s table h = table_is s (high_entry (2 ^ s)) table h (λ i q. below_square (2 ^ s) (high_entry (2 ^ s) i) (pow_pos s) (high_below (2 ^ s) i (pow_pos s) q))

pub low_small : (s : ℕ) (table : List ℕ) → HasEntries s (low_entry (2 ^ s)) table → greatest_of table ≤ 2 ^ s - 1
low_small s table h = greatest_entry s (low_entry (2 ^ s)) table (2 ^ s - 1) h (λ i q. omega (arith, low_below (2 ^ s) i (pow_pos s)))

pub high_small : (s : ℕ) (table : List ℕ) → HasEntries s (high_entry (2 ^ s)) table → greatest_of table ≤ 2 ^ s - 1
high_small s table h = greatest_entry s (high_entry (2 ^ s)) table (2 ^ s - 1) h (λ i q. omega (arith, high_below (2 ^ s) i (pow_pos s) q))

both : (u x y : ℕ) → y < u → ((u * x + y) / u) * ((u * x + y) % u) ≡ x * y
both u x y h =
    let e : u * x + y ≡ x * u + y = omega arith in
    ap (λ i. (i / u) * (i % u)) e ∙ ap (λ i. i * ((x * u + y) % u)) (div-mul-add x u y h) ∙ ap (λ i. x * i) (mod-mul-add x u y h)

-- what the tables say of two blocks
pub low_at : (s x y : ℕ) (table : List ℕ) → HasEntries s (low_entry (2 ^ s)) table → x < 2 ^ s → y < 2 ^ s → get_or table (2 ^ s * x + y) 0 ≡ x * y % 2 ^ s
low_at s x y table h p q =
    let u : ℕ = 2 ^ s in
    let r : u * x + y < u * u = two_blocks u u x y (pow_pos s) (omega arith) (omega arith) (omega arith) in
    h.each (u * x + y) r ∙ ap (λ z. z % u) (both u x y q)

pub high_at : (s x y : ℕ) (table : List ℕ) → HasEntries s (high_entry (2 ^ s)) table → x < 2 ^ s → y < 2 ^ s → get_or table (2 ^ s * x + y) 0 ≡ x * y / 2 ^ s
high_at s x y table h p q =
    let u : ℕ = 2 ^ s in
    let r : u * x + y < u * u = two_blocks u u x y (pow_pos s) (omega arith) (omega arith) (omega arith) in
    h.each (u * x + y) r ∙ ap (λ z. z / u) (both u x y q)

-- the rows, by what a table says of two blocks
pub rows_by : (p : Net) (a b table : List ℕ) (count lift : ℕ) (f : ℕ → ℕ → ℕ) → IsBounded p → AreBlocks p a → AreBlocks p b → length b ≡ length a → count ≤ length a
    → ((x y : ℕ) → x < 2 ^ p.space → y < 2 ^ p.space → get_or table (2 ^ p.space * x + y) 0 ≡ f x y)
    → (xs : List ℕ) → AreInputs p xs
    → total count (λ i. number (2 ^ p.space) (length a) (shifted (i + lift) (product_at (2 ^ p.space) p table (get_or a i 0) b xs)))
    ≡ total count (λ i. number (2 ^ p.space) (length a) (shifted (i + lift) (λ k. f (cell_value p a xs i) (cell_value p b xs k))))
rows_by p a b table count lift f bounded ka kb n c h xs v =
    let u : ℕ = 2 ^ p.space in
    total_same count (λ i. number u (length a) (shifted (i + lift) (product_at u p table (get_or a i 0) b xs))) (λ i. number u (length a) (shifted (i + lift) (λ k. f (cell_value p a xs i) (cell_value p b xs k)))) (λ i q.
    number_same u (length a) (shifted (i + lift) (product_at u p table (get_or a i 0) b xs)) (shifted (i + lift) (λ k. f (cell_value p a xs i) (cell_value p b xs k))) (λ k l.
    shifted_same (i + lift) (product_at u p table (get_or a i 0) b xs) (λ k. f (cell_value p a xs i) (cell_value p b xs k)) k
    (h (cell_value p a xs i) (cell_value p b xs (k - (i + lift))) (value_below p u a bounded (pow_pos p.space) ka xs v i (omega arith)) (value_below p u b bounded (pow_pos p.space) kb xs v (k - (i + lift)) (omega arith)))))

pub products_planned : (old now : Net) (cs a b low high : List ℕ) → 1 ≤ length a → PairRows old now cs a b low high (length a)
    → Lays old now cs ((2 * length a - 1) * length a) (length a * length a) 1 (EachOf a b)
products_planned old now cs a b low high o p =
    let w : ℕ = length a in
    let s : row_jobs w w + row_jobs (w - 1) (w - 1) ≡ w * w = rows_square w o in
    lays_weaken old now cs ((2 * w - 1) * w) ((2 * w - 1) * w) (row_jobs w w + row_jobs (w - 1) (w - 1)) (w * w) 1 1 (EachOf a b) refl (omega arith) (omega arith) p.planned

pub products_number : (old now : Net) (cs a b low high : List ℕ) → 1 ≤ length a → length b ≡ length a → IsBounded old → AreBlocks old a → AreBlocks old b
    → HasEntries old.space (low_entry (2 ^ old.space)) low → HasEntries old.space (high_entry (2 ^ old.space)) high
    → PairRows old now cs a b low high (length a)
    → (xs : List ℕ) → AreInputs old xs
    → rows_number (2 ^ old.space) now cs (length a) (2 * length a - 1) xs % (2 ^ old.space) ^ length a ≡ (number_held old a xs * number_held old b xs) % (2 ^ old.space) ^ length a
products_number old now cs a b low high o n bounded ka kb hl hh p xs v =
    let w : ℕ = length a in
    let u : ℕ = 2 ^ old.space in
    let f : ℕ → ℕ = cell_value old a xs in
    let g : ℕ → ℕ = cell_value old b xs in
    let lo : ℕ → ℕ = λ i. number u w (shifted i (λ k. f i * g k % u)) in
    let hi : ℕ → ℕ = λ i. number u w (shifted (i + 1) (λ k. f i * g k / u)) in
    let l1 : total w (low_row old a b low xs) ≡ total w lo =
    total_same w (low_row old a b low xs) (λ i. number u w (shifted (i + 0) (product_at u old low (get_or a i 0) b xs))) (λ i r. let z : i ≡ i + 0 = omega arith in ap (λ j. number u w (shifted j (product_at u old low (get_or a i 0) b xs))) z)
    ∙ rows_by old a b low w 0 (λ x y. x * y % u) bounded ka kb n (omega arith) (λ x y p q. low_at old.space x y low hl p q) xs v
    ∙ total_same w (λ i. number u w (shifted (i + 0) (λ k. f i * g k % u))) lo (λ i r. let z : i + 0 ≡ i = omega arith in ap (λ j. number u w (shifted j (λ k. f i * g k % u))) z) in
    let h1 : total (w - 1) (high_row old a b high xs) ≡ total (w - 1) hi =
    rows_by old a b high (w - 1) 1 (λ x y. x * y / u) bounded ka kb n (omega arith) (λ x y p q. high_at old.space x y high hh p q) xs v in
    let zero : hi (w - 1) ≡ 0 = number_zero u w (shifted (w - 1 + 1) (λ k. f (w - 1) * g k / u)) (λ i r. shifted_low (w - 1 + 1) (λ k. f (w - 1) * g k / u) i (omega arith)) in
    let h2 : total (w - 1) hi ≡ total w hi =
    (let m : total (w - 1) hi + 0 ≡ total (w - 1 + 1) hi = total_more (total (w - 1) hi) (w - 1) 0 hi refl (sym zero) in
    let k : w - 1 + 1 ≡ w = omega arith in
    let z : total (w - 1) hi ≡ total (w - 1) hi + 0 = omega arith in
    z ∙ m ∙ ap (λ k. total k hi) k) in
    ap (λ x. x % u ^ w) (p.value_is xs v ∙ ap (λ x. x + total (w - 1) (high_row old a b high xs)) l1 ∙ ap (λ x. total w lo + x) (h1 ∙ h2))
    ∙ product_mod u w f g
    ∙ ap (λ x. (x * number u w g) % u ^ w) (blocks_number old a xs w refl) ∙ ap (λ x. (number_held old a xs * x) % u ^ w) (blocks_number old b xs w n)

pub square_some : (w : ℕ) → 1 ≤ w → w ≤ w * w
square_some w o = let m : w * 1 ≤ w * w = mul-le w 1 w w (omega arith) o in omega arith
