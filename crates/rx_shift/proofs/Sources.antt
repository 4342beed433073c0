-- The three sources of a stage, and their sum.
use Rattle.std.proofs.Common.{◌≡◌, ◌^◌, ℕ, suc, ◌+◌, ◌-◌, ◌*◌, ◌/◌, ◌%◌, ◌<◌, ◌≤◌, ◌⊎◌, inl, inr, List, ◌++◌, length, get_or, refl, sym, ◌∙◌, ap, arith, subst, length-append}
use Rattle.std.proofs.lemmas.List.{get_or_append_left, get_or-append_right, reverse-reverse}
use Rattle.std.proofs.lemmas.Nat.{mul-le, pow_pos, mod_below}
use Rattle.std.proofs.Math.Nat.{mod-eq_of_lt}
use Rattle.rx_params.specs.Kinds.{digit_at}
use Rattle.rx_net.specs.declared.net.Net.{Net}
use Rattle.rx_net.specs.Tags.{greatest_of}
use Rattle.rx_net.specs.Cells.{cell_count, value, depth}
use Rattle.rx_net.specs.Legal.{IsBounded}
use Rattle.rx_net.specs.Growth.{Extends}
use Rattle.rx_net.proofs.Grows.{extends_same, extends_onward}
use Rattle.rx_plan.specs.Tables.{IsTable, HasEntries}
use Rattle.rx_plan.specs.Values.{AreInputs, cell_value, number_held, total}
use Rattle.rx_plan.specs.Planned.{Each, IsCell, AreBlocks, Planned, Lays}
use Rattle.rx_plan.specs.Rows.{shifted, column_sum, product_at}
use Rattle.rx_plan.proofs.Kept.{within_now, block_now, cell_within, depths_kept, value_in, value_below}
use Rattle.rx_plan.proofs.Planned.{planned_lays, planned_same, planned_weaken, planned_chain, lays_beside, lays_weaken}
use Rattle.rx_plan.proofs.PerBlock.{two_blocks, table_is, greatest_entry, unit_big}
use Rattle.rx_plan.proofs.RowCells.{shifted_same}
use Rattle.rx_plan.proofs.Held.{digit_below, held_digit, held_small}
use Rattle.rx_shift.specs.declared.direction.Direction.{Direction}
use Rattle.rx_shift.specs.declared.direction.Direction.TheVariants.{Up, Down}
use Rattle.rx_cmp.specs.Selection.{kept_entry}
use Rattle.rx_shift.specs.Shifts.{moved, opposite, in_order, place, part_entry, Comes}
use Rattle.rx_shift.proofs.Parts.{staged, staged_is}
use Rattle.rx_shift.proofs.Orders.{order_count, place_in, place_twice, order_at, order_back, order_each, order_planned}

below_square : (u x : ℕ) → x < u → x < u * u
below_square u x q = let m : x * 1 ≤ x * u = mul-le x 1 x u (omega arith) (omega arith) in let n : suc x * u ≤ u * u = mul-le (suc x) u u u q (omega arith) in omega arith

-- a table of blocks
pub block_table : (s : ℕ) (f : ℕ → ℕ) (table : List ℕ) → HasEntries s f table → ((i : ℕ) → f i < 2 ^ s) → IsTable s table
block_table s f table h b = table_is s f table h (λ i q. below_square (2 ^ s) (f i) (b i))

pub block_small : (s : ℕ) (f : ℕ → ℕ) (table : List ℕ) → HasEntries s f table → ((i : ℕ) → f i < 2 ^ s) → greatest_of table ≤ 2 ^ s - 1
block_small s f table h b = greatest_entry s f table (2 ^ s - 1) h (λ i q. omega (arith, b i))

pub bit_block : (p : Net) (c : ℕ) → 2 ≤ p.space → IsCell p 1 c → IsCell p (2 ^ p.space - 1) c
bit_block p c s h = let u : 4 ≤ 2 ^ p.space = unit_big p.space s in cell_within p 1 (2 ^ p.space - 1) c (omega arith) h

pub bit_now : (old now : Net) (c : ℕ) → Extends old now → 2 ≤ old.space → IsCell old 1 c → IsCell now (2 ^ now.space - 1) c
bit_now old now c e s h = block_now old now c e (bit_block old c s h)

-- a row of what a table says of the bit and the blocks
abbrev pub SourceRow : Net → Net → List ℕ → ℕ → List ℕ → List ℕ → ℕ → Type 0
SourceRow old new cs bit a table shift =
    Planned old new cs (λ _. 2 ^ old.space - 1) (length a) (length a - shift) 1 (λ P. P bit × Each a P) (λ xs k. shifted shift (product_at (2 ^ old.space) old table bit a xs) k)

source_lays : (old new : Net) (cs : List ℕ) (bit : ℕ) (a table : List ℕ) (shift : ℕ) → SourceRow old new cs bit a table shift → Lays old new cs (length a) (length a - shift) 1 (λ P. P bit × Each a P)
source_lays old new cs bit a table shift h = planned_lays old new cs (λ _. 2 ^ old.space - 1) (length a) (length a - shift) 1 (length a - shift) (λ P. P bit × Each a P) _ (λ i q. omega arith) (omega arith) h

operands_kept : (old now : Net) (bit : ℕ) (a : List ℕ) (d : ℕ) → Extends old now → IsCell old 1 bit → AreBlocks old a
    → (depth old bit ≤ d) × Each a (λ o. depth old o ≤ d) → (depth now bit ≤ d) × Each a (λ o. depth now o ≤ d)
operands_kept old now bit a d e kb ka o =
    (let f : depth now bit ≡ depth old bit = e.depths bit kb.there in let g : depth old bit ≤ d = o.0 in omega arith, depths_kept old now a d (2 ^ old.space - 1) e ka o.1)

pub three_rows : (old s1 s2 s3 : Net) (r1 r2 r3 : List ℕ) (bit : ℕ) (a keep near far : List ℕ) (steps beyond : ℕ) → 1 ≤ length a → 1 ≤ beyond → IsCell old 1 bit → AreBlocks old a
    → SourceRow old s1 r1 bit a keep 0 → SourceRow s1 s2 r2 bit a near steps → SourceRow s2 s3 r3 bit a far beyond
    → Lays old s3 ((r1 ++ r2) ++ r3) (3 * length a) (3 * length a - 1) 1 (λ P. P bit × Each a P)
three_rows old s1 s2 s3 r1 r2 r3 bit a keep near far steps beyond some one kb ka p q r =
    let n : ℕ = length a in
    let O : (ℕ → Type 0) → Type 0 = λ P. P bit × Each a P in
    let pq = lays_beside old s1 s2 r1 r2 n n (n - 0) (n - steps) 1 O O (source_lays old s1 r1 bit a keep 0 p) (source_lays s1 s2 r2 bit a near steps q) (λ d o. operands_kept old s1 bit a d p.extends kb ka o) in
    let c : n + n + n ≡ 3 * n = omega arith in
    lays_weaken old s3 ((r1 ++ r2) ++ r3) (n + n + n) (3 * n) (n - 0 + (n - steps) + (n - beyond)) (3 * n - 1) 1 1 O c (omega arith) (omega arith)
    (lays_beside old s2 s3 (r1 ++ r2) r3 (n + n) n (n - 0 + (n - steps)) (n - beyond) 1 O O pq (source_lays s2 s3 r3 bit a far beyond r) (λ d o. operands_kept old s2 bit a d pq.extends kb ka o))

-- what a row says stays the same where the net grows
row_stable : (old now : Net) (x : ℕ) (b table : List ℕ) (shift k : ℕ) → Extends old now → x < cell_count old → Each b (λ o. o < cell_count old) → k < length b
    → (xs : List ℕ) → AreInputs old xs
    → shifted shift (product_at (2 ^ now.space) now table x b xs) k ≡ shifted shift (product_at (2 ^ old.space) old table x b xs) k
row_stable old now x b table shift k e kx kb q xs w =
    ap (λ s. shifted shift (product_at (2 ^ s) now table x b xs) k) e.space
    ∙ shifted_same shift (product_at (2 ^ old.space) now table x b xs) (product_at (2 ^ old.space) old table x b xs) k
    (ap (λ y. get_or table (2 ^ old.space * y + cell_value now b xs (k - shift)) 0) (e.values xs w x kx)
    ∙ ap (λ y. get_or table (2 ^ old.space * value old xs x + y) 0) (e.values xs w (get_or b (k - shift) 0) (kb (k - shift) (omega arith))))

-- what a source row says of the cells as they were
source_value : (old s t new : Net) (cs : List ℕ) (bit : ℕ) (a table : List ℕ) (shift : ℕ) (g : ℕ → ℕ) → 2 ≤ old.space → IsBounded old → Extends old s → Extends t new
    → IsCell old 1 bit → AreBlocks old a → HasEntries old.space g table
    → SourceRow s t cs bit a table shift
    → (xs : List ℕ) → AreInputs old xs → (i : ℕ) → i < length a
    → value new xs (get_or cs i 0) ≡ shifted shift (λ k. g (2 ^ old.space * value old xs bit + cell_value old a xs k)) i
source_value old s t new cs bit a table shift g two bounded e f kb ka h r xs w i l =
    let u : ℕ = 2 ^ old.space in
    let u4 : 4 ≤ u = unit_big old.space two in
    let c : ℕ = value old xs bit in
    let ws : AreInputs s xs = within_now old s e xs w in
    let wt : AreInputs t xs = within_now s t r.extends xs ws in
    let cb : c ≤ 1 = value_in old 1 bit bounded kb xs w in
    let x : ℕ = cell_value old a xs (i - shift) in
    let xb : x < u = value_below old u a bounded (pow_pos old.space) ka xs w (i - shift) (omega arith) in
    f.values xs wt (get_or cs i 0) (r.cells_are i (omega (arith, r.count_is))).there ∙ r.values_are xs ws i l
    ∙ row_stable old s bit a table shift i e kb.there (λ j q. (ka j q).there) l xs w
    ∙ shifted_same shift (product_at u old table bit a xs) (λ k. g (u * c + cell_value old a xs k)) i
    (h.each (u * c + x) (two_blocks u u c x (pow_pos old.space) (omega arith) (omega arith) (omega arith)))

-- the cells of three rows, one after another
three_cells : (r1 r2 r3 : List ℕ) (n k : ℕ) (f : ℕ → ℕ) → length r1 ≡ n → length r2 ≡ n → length r3 ≡ n → k < n
    → total 3 (λ j. f (get_or ((r1 ++ r2) ++ r3) (j * n + k) 0)) ≡ f (get_or r1 k 0) + f (get_or r2 k 0) + f (get_or r3 k 0)
unfolding total
three_cells r1 r2 r3 n k f n1 n2 n3 l =
    let rows : List ℕ = (r1 ++ r2) ++ r3 in
    let la : length (r1 ++ r2) ≡ n + n = omega (arith, length-append r1 r2) in
    let z0 : 0 * n + k ≡ k = omega arith in
    let z1 : 1 * n + k ≡ n + k = omega arith in
    let z2 : 2 * n + k ≡ n + n + k = omega arith in
    let i1 : n + k - length r1 ≡ k = omega arith in
    let i2 : n + n + k - length (r1 ++ r2) ≡ k = omega arith in
    let b1 : length r1 ≤ n + k = omega arith in
    let b2 : length (r1 ++ r2) ≤ n + n + k = omega arith in
    let a0 : get_or rows (0 * n + k) 0 ≡ get_or r1 k 0 =
    ap (λ i. get_or rows i 0) z0 ∙ get_or_append_left (r1 ++ r2) r3 0 k (omega arith) ∙ get_or_append_left r1 r2 0 k (omega arith) in
    let a1 : get_or rows (1 * n + k) 0 ≡ get_or r2 k 0 =
    ap (λ i. get_or rows i 0) z1 ∙ get_or_append_left (r1 ++ r2) r3 0 (n + k) (omega arith) ∙ get_or-append_right r1 r2 (length r1) (n + k) 0 refl b1 ∙ ap (λ i. get_or r2 i 0) i1 in
    let a2 : get_or rows (2 * n + k) 0 ≡ get_or r3 k 0 =
    ap (λ i. get_or rows i 0) z2 ∙ get_or-append_right (r1 ++ r2) r3 (length (r1 ++ r2)) (n + n + k) 0 refl b2 ∙ ap (λ i. get_or r3 i 0) i2 in
    let f0 : f (get_or rows (0 * n + k) 0) ≡ f (get_or r1 k 0) = ap f a0 in
    let f1 : f (get_or rows (1 * n + k) 0) ≡ f (get_or r2 k 0) = ap f a1 in
    let f2 : f (get_or rows (2 * n + k) 0) ≡ f (get_or r3 k 0) = ap f a2 in
    omega arith

-- the sum of the three sources of a place
pub sources_sum : (old s1 s2 s3 : Net) (r1 r2 r3 : List ℕ) (d : Direction) (bit : ℕ) (a keep near far : List ℕ) (steps r beyond distance : ℕ) → 2 ≤ old.space → IsBounded old
    → IsCell old 1 bit → AreBlocks old a → r ≤ old.space → distance ≡ old.space * steps + r → Comes (length a) steps r beyond
    → HasEntries old.space (kept_entry 0 (2 ^ old.space)) keep → HasEntries old.space (part_entry d (2 ^ old.space) r) near
    → HasEntries old.space (part_entry (opposite d) (2 ^ old.space) (old.space - r)) far
    → SourceRow old s1 r1 bit a keep 0 → SourceRow s1 s2 r2 bit a near steps → SourceRow s2 s3 r3 bit a far beyond
    → (xs : List ℕ) → AreInputs old xs → (i : ℕ) → i < length a
    → column_sum s3 ((r1 ++ r2) ++ r3) (length a) 3 xs i
    ≡ digit_at old.space (moved d (number_held old (in_order d a) xs) (value old xs bit * distance)) (place d (length a) i)
sources_sum old s1 s2 s3 r1 r2 r3 d bit a keep near far steps r beyond distance two bounded kb ka rl de h hk hn hf p q t xs w i l =
    let s : ℕ = old.space in
    let n : ℕ = length a in
    let c : ℕ = value old xs bit in
    let f : ℕ → ℕ = cell_value old a xs in
    let z : ℕ = number_held old (in_order d a) xs in
    let ko : AreBlocks old (in_order d a) = order_each d a (IsCell old (2 ^ s - 1)) ka in
    let zs : z < 2 ^ (s * n) = subst (λ (n : ℕ). z < 2 ^ (s * n)) (order_count d a) (held_small old (in_order d a) bounded ko xs w) in
    let fs : (k : ℕ) → k < n → f k ≡ digit_at s z (place d n k) = λ (k : ℕ) g.
    sym (held_digit old (in_order d a) xs (place d n k) bounded ko w (omega (arith, order_count d a, place_in d n k g)) ∙ ap (value old xs) (order_back d a k g)) in
    let e12 : Extends s1 s3 = extends_onward s1 s2 s3 q.extends t.extends in
    let e02 : Extends old s2 = extends_onward old s1 s2 p.extends q.extends in
    let v1 = source_value old old s1 s3 r1 bit a keep 0 (kept_entry 0 (2 ^ s)) two bounded (extends_same old) e12 kb ka hk p xs w i l in
    let v2 = source_value old s1 s2 s3 r2 bit a near steps (part_entry d (2 ^ s) r) two bounded p.extends t.extends kb ka hn q xs w i l in
    let v3 = source_value old s2 s3 s3 r3 bit a far beyond (part_entry (opposite d) (2 ^ s) (s - r)) two bounded e02 (extends_same s3) kb ka hf t xs w i l in
    let g1 : ℕ = value s3 xs (get_or r1 i 0) in
    let g2 : ℕ = value s3 xs (get_or r2 i 0) in
    let g3 : ℕ = value s3 xs (get_or r3 i 0) in
    three_cells r1 r2 r3 n i (value s3 xs) p.count_is q.count_is t.count_is l
    ∙ ap (λ x. x + g2 + g3) v1
    ∙ ap (λ x. shifted 0 (λ k. kept_entry 0 (2 ^ s) (2 ^ s * c + f k)) i + x + g3) v2
    ∙ ap (λ x. shifted 0 (λ k. kept_entry 0 (2 ^ s) (2 ^ s * c + f k)) i + shifted steps (λ k. part_entry d (2 ^ s) r (2 ^ s * c + f k)) i + x) v3
    ∙ staged_is d s n steps r beyond distance z c f i rl l zs (value_in old 1 bit bounded kb xs w) de fs h
