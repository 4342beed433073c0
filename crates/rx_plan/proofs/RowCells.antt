-- The cells of rows.
use Rattle.std.proofs.Common.{◌≡◌, ℕ, zero, suc, List, [], ◌∷◌, ◌<◌, ◌≤◌, ◌+◌, ◌-◌, ◌*◌, ◌/◌, ◌%◌, ◌^◌, inl, inr, length, get_or, ◌++◌, length-append, sym, ◌∙◌, ap, refl, arith, subst, if◌then◌else◌}
use Rattle.std.specs.Prelude.{◌==◌}
use Rattle.std.proofs.lemmas.Bool.{cases_lt, cases_eq, eq-eqb, ne_eqb}
use Rattle.std.proofs.lemmas.List.{get_or_append_left, get_or-append_right}
use Rattle.std.proofs.lemmas.Nat.{mul-le, pow_pos, mul-add-lt, mod_below, div_below, div-mul-add, mod-mul-add}
use Rattle.rx_net.specs.declared.net.Net.{Net}
use Rattle.rx_net.specs.Tags.{greatest_of}
use Rattle.rx_net.specs.Cells.{cell_count, value, degree, noise, depth}
use Rattle.rx_net.specs.Legal.{IsBounded}
use Rattle.rx_net.specs.Growth.{Extends}
use Rattle.rx_net.proofs.Bounded.{greatest_at}
use Rattle.rx_plan.specs.Tables.{entries, IsTable, HasEntries}
use Rattle.rx_plan.specs.Values.{AreInputs, number, total, cell_value}
use Rattle.rx_plan.specs.Planned.{Each, IsCell, AreCells, AreBlocks, Makes, Gives, Planned}
use Rattle.rx_plan.specs.Rows.{IsNought, IsColumn, shifted, jobs_at_place, rows_number, column_sum, product_at}
use Rattle.rx_plan.proofs.Lists.{by_push}
use Rattle.rx_plan.proofs.Totals.{total_same, total_le, total_mono, total_none, total_split}
use Rattle.rx_plan.proofs.Terms.{some_entries}
use Rattle.rx_plan.proofs.Numbers.{number_same}
use Rattle.rx_plan.proofs.Kept.{within_now, cell_kept, cell_within}
use Rattle.rx_plan.proofs.Planned.{makes_gives, keeps_gives, planned_none, planned_push}
use Rattle.rx_plan.proofs.PerBlock.{two_blocks}
use Rattle.rx_plan.proofs.RowLaws.{shifted_low, shifted_high, step_low, step_high}

pub nought_kept : (a b : Net) (c : ℕ) → Extends a b → IsNought a c → IsNought b c
nought_kept a b c e h = let d : depth b c ≡ depth a c = e.depths c h.cell.there in record { cell = cell_kept a b 0 c e h.cell; shallow = omega (arith, h.shallow) }

pub nought_is : (p : Net) (c : ℕ) → IsBounded p → IsNought p c → (xs : List ℕ) → AreInputs p xs → value p xs c ≡ 0
nought_is p c b h xs w = omega (arith, b xs w c h.cell.there, h.cell.degree_in)

-- a place of a row is a place of the list
pub place_in : (r w k c : ℕ) → r < c → k < w → r * w + k < c * w
place_in r w k c p q = omega (arith, mul-add-lt r w k c p q)

-- ---- a cell that is 0
pub nought_made : (old new : Net) (c : ℕ) (at : (ℕ → ℕ) → ℕ) (table : List ℕ) → HasEntries old.space (λ _. 0) table
    → Makes old new c (λ _. Unit) 0 at table → IsNought new c
nought_made old new c at table h m =
    let z : 0 < entries old.space = some_entries old.space in
    let k : c ≡ cell_count old = m.cell in
    let n : cell_count new ≡ cell_count old + 1 = m.count in
    let d : depth new c ≤ 0 + 1 = m.depth_in 0 tt in
    record {
      cell = record { there = omega arith; degree_in = m.degree_in 0 (λ i q. omega (arith, h.each i (omega arith))); noise_is = m.noise_is };
      shallow = omega arith;
    }

pub nought_gives : (old new : Net) (c : ℕ) (at : (ℕ → ℕ) → ℕ) (table : List ℕ) → HasEntries old.space (λ _. 0) table
    → Makes old new c (λ _. Unit) 0 at table → Gives old new c 0 1
nought_gives old new c at table h m =
    makes_gives old new c 0 (λ _. Unit) 0 at table m (nought_made old new c at table h m).cell.degree_in

-- the cell that is 0 stands below the row
pub low_gives : (p : Net) (c shift k : ℕ) → IsBounded p → IsNought p c → k < shift → Gives p p c (2 ^ p.space - 1) (jobs_at_place shift k)
low_gives p c shift k b h l =
    subst (λ (j : ℕ). Gives p p c (2 ^ p.space - 1) j) (sym (step_low shift k l))
    (keeps_gives p c (2 ^ p.space - 1) b record { there = h.cell.there; degree_in = omega (arith, h.cell.degree_in); noise_is = h.cell.noise_is })

pub low_value : (p : Net) (c shift k : ℕ) (h : List ℕ → ℕ → ℕ) → IsBounded p → IsNought p c → k < shift → (xs : List ℕ) → AreInputs p xs → value p xs c ≡ shifted shift (h xs) k
low_value p c shift k h b n l xs w = nought_is p c b n xs w ∙ sym (shifted_low shift (h xs) k l)

pub product_gives : (p new : Net) (f x y c shift k : ℕ) (table : List ℕ) → f ≡ 2 ^ p.space → greatest_of table ≤ 2 ^ p.space - 1 → IsTable p.space table
    → IsCell p (2 ^ p.space - 1) x → IsCell p (2 ^ p.space - 1) y → shift ≤ k
    → Makes p new c (λ P. P x × P y) (f * degree p x + degree p y) (λ v. f * v x + v y) table → Gives p new c (2 ^ p.space - 1) (jobs_at_place shift k)
product_gives p new f x y c shift k table e g t a b l m =
    let u : ℕ = 2 ^ p.space in
    let r : f * degree p x + degree p y < u * u = two_blocks f u (degree p x) (degree p y) (pow_pos p.space) (omega arith) a.degree_in b.degree_in in
    subst (λ (j : ℕ). Gives p new c (u - 1) j) (sym (step_high shift k l))
    (makes_gives p new c (u - 1) _ _ _ table m (m.degree_in (u - 1) (λ j q. omega (arith, greatest_at table j (omega (arith, t.count))))))

pub product_value : (p new : Net) (f x c shift k : ℕ) (b table : List ℕ) → f ≡ 2 ^ p.space → shift ≤ k
    → Makes p new c (λ P. P x × P (get_or b (k - shift) 0)) (f * degree p x + degree p (get_or b (k - shift) 0)) (λ v. f * v x + v (get_or b (k - shift) 0)) table
    → (xs : List ℕ) → AreInputs p xs → value new xs c ≡ shifted shift (product_at (2 ^ p.space) p table x b xs) k
product_value p new f x c shift k b table e l m xs w =
    m.value_is xs w ∙ ap (λ f. get_or table (f * value p xs x + cell_value p b xs (k - shift)) 0) e ∙ sym (shifted_high shift (product_at (2 ^ p.space) p table x b xs) k l)

-- one more place of a row
pub row_push : (old now new : Net) (cs : List ℕ) (k shift c : ℕ) (O : (ℕ → Type 0) → Type 0) (h : List ℕ → ℕ → ℕ)
    → Planned old now cs (λ _. 2 ^ old.space - 1) k (k - shift) 1 O h
    → Gives now new c (2 ^ now.space - 1) (jobs_at_place shift k)
    → ((d : ℕ) → O (λ o. depth old o ≤ d) → depth new c ≤ d + 1)
    → ((xs : List ℕ) → AreInputs old xs → value new xs c ≡ h xs k)
    → Planned old new (cs ++ c ∷ []) (λ _. 2 ^ old.space - 1) (k + 1) (k + 1 - shift) 1 O h
row_push old now new cs k shift c O h p g d v =
    let j : k - shift + jobs_at_place shift k ≡ k + 1 - shift =
    elim (cases_lt k shift) [ inl l ↦ omega (arith, step_low shift k l) | inr l ↦ omega (arith, step_high shift k l) ] in
    subst (λ (j : ℕ). Planned old new (cs ++ c ∷ []) (λ _. 2 ^ old.space - 1) (k + 1) j 1 O h) j
    (planned_push old now new cs (λ _. 2 ^ old.space - 1) k (k - shift) 1 (jobs_at_place shift k) O h c p
    (subst (λ (s : ℕ). Gives now new c (2 ^ s - 1) (jobs_at_place shift k)) p.extends.space g) d v)

pub room_step : (s k n : ℕ) → k < n → k - s + jobs_at_place s k ≤ n - s
room_step s k n h = elim (cases_lt k s) [ inl l ↦ omega (arith, step_low s k l) | inr l ↦ omega (arith, step_high s k l) ]

pub shifted_same : (s : ℕ) (f g : ℕ → ℕ) (k : ℕ) → f (k - s) ≡ g (k - s) → shifted s f k ≡ shifted s g k
shifted_same s f g k e = elim (cases_lt k s) [ inl l ↦ shifted_low s f k l ∙ sym (shifted_low s g k l) | inr l ↦ shifted_high s f k l ∙ e ∙ sym (shifted_high s g k l) ]

pub product_push : (old now new : Net) (cs : List ℕ) (x : ℕ) (b table : List ℕ) (k shift c : ℕ)
    → IsCell old (2 ^ old.space - 1) x → AreCells old (2 ^ old.space - 1) b → k < length b
    → Planned old now cs (λ _. 2 ^ old.space - 1) k (k - shift) 1 (λ P. P x × Each b P) (λ xs k. shifted shift (product_at (2 ^ old.space) old table x b xs) k)
    → Gives now new c (2 ^ now.space - 1) (jobs_at_place shift k)
    → ((d : ℕ) → depth now x ≤ d → Each b (λ o. depth now o ≤ d) → depth new c ≤ d + 1)
    → ((xs : List ℕ) → AreInputs now xs → value new xs c ≡ shifted shift (product_at (2 ^ now.space) now table x b xs) k)
    → Planned old new (cs ++ c ∷ []) (λ _. 2 ^ old.space - 1) (k + 1) (k + 1 - shift) 1 (λ P. P x × Each b P) (λ xs k. shifted shift (product_at (2 ^ old.space) old table x b xs) k)
product_push old now new cs x b table k shift c kx kb q p g d v =
    let e : Extends old now = p.extends in
    row_push old now new cs k shift c (λ P. P x × Each b P) (λ xs k. shifted shift (product_at (2 ^ old.space) old table x b xs) k) p g
    (λ n o.
    let ex : depth now x ≡ depth old x = e.depths x kx.there in
    let ox : depth old x ≤ n = o.0 in
    d n (omega arith) (λ i r.
    let eb : depth now (get_or b i 0) ≡ depth old (get_or b i 0) = e.depths (get_or b i 0) (kb i r).there in
    let ob : depth old (get_or b i 0) ≤ n = o.1 i r in
    omega arith))
    (λ xs w. v xs (within_now old now e xs w)
    ∙ ap (λ s. shifted shift (product_at (2 ^ s) now table x b xs) k) e.space
    ∙ shifted_same shift (product_at (2 ^ old.space) now table x b xs) (product_at (2 ^ old.space) old table x b xs) k
    (ap (λ y. get_or table (2 ^ old.space * y + cell_value now b xs (k - shift)) 0) (e.values xs w x kx.there)
    ∙ ap (λ y. get_or table (2 ^ old.space * value old xs x + y) 0) (e.values xs w (get_or b (k - shift) 0) (kb (k - shift) (omega arith)).there)))

-- a group of cells stays in the table
pub group_small : (u h : ℕ) → 0 < u → h ≤ u + 1 → h * (u - 1) < u * u
group_small zero h p q = absurd (omega arith)
group_small (suc v) h p q =
    let e : h * (suc v - 1) ≡ h * v = (let s : suc v - 1 ≡ v = omega arith in ap (λ x. h * x) s) in
    let m : h * v ≤ (suc v + 1) * v = mul-le h v (suc v + 1) v q (omega arith) in
    omega arith

pub group_degrees : (p : Net) (cs : List ℕ) (h : ℕ) → length cs ≡ h → h ≤ 2 ^ p.space + 1 → AreCells p (2 ^ p.space - 1) cs
    → total (length cs) (λ i. degree p (get_or cs i 0)) < entries p.space
group_degrees p cs h n q k =
    let u : ℕ = 2 ^ p.space in
    let a : total (length cs) (λ i. degree p (get_or cs i 0)) ≤ length cs * (u - 1) = total_le (length cs) (u - 1) (λ i. degree p (get_or cs i 0)) (λ i r. (k i r).degree_in) in
    let s : length cs * (u - 1) < u * u = group_small u (length cs) (pow_pos p.space) (omega arith) in
    omega arith

pub group_noises : (p : Net) (cs : List ℕ) (h top : ℕ) → length cs ≡ h → h ≤ 2 ^ p.space + 1 → AreCells p top cs
    → total (length cs) (λ i. noise p (get_or cs i 0)) ≤ 2 ^ p.space + 1
group_noises p cs h top n q k =
    let a : total (length cs) (λ i. noise p (get_or cs i 0)) ≤ length cs * 1 = total_le (length cs) 1 (λ i. noise p (get_or cs i 0)) (λ i r. omega (arith, (k i r).noise_is)) in
    omega arith

-- ---- the cells of a column
pub column_none : (rows : List ℕ) (w k nought : ℕ) → IsColumn rows w 0 k nought []
column_none rows w k nought = record {
  few = omega arith;
  from = λ i q. absurd (omega arith);
  sum = λ v z. total_none (λ i. v (get_or [] i 0)) ∙ sym (total_none (λ r. v (get_or rows (r * w + k) 0)));
}

total_last : (n : ℕ) (f : ℕ → ℕ) → total (n + 1) f ≡ total n f + f n
unfolding total
total_last n f = let e : n + 1 ≡ suc n = omega arith in ap (λ k. total k f) e

total_pushed : (cs : List ℕ) (c : ℕ) (v : ℕ → ℕ) → total (length (cs ++ c ∷ [])) (λ i. v (get_or (cs ++ c ∷ []) i 0)) ≡ total (length cs) (λ i. v (get_or cs i 0)) + v c
total_pushed cs c v =
    let f : ℕ → ℕ = λ i. v (get_or (cs ++ c ∷ []) i 0) in
    let z : length cs - length cs ≡ 0 = omega arith in
    ap (λ n. total n f) (length-append cs (c ∷ [])) ∙ total_last (length cs) f
    ∙ ap (λ x. x + f (length cs)) (total_same (length cs) f (λ i. v (get_or cs i 0)) (λ i q. ap v (get_or_append_left cs (c ∷ []) 0 i q)))
    ∙ ap (λ x. total (length cs) (λ i. v (get_or cs i 0)) + v x) (get_or-append_right cs (c ∷ []) (length cs) (length cs) 0 refl (omega arith) ∙ ap (λ i. get_or (c ∷ []) i 0) z)

column_kept : (rows cs : List ℕ) (w r k nought c : ℕ) → c ≡ get_or rows (r * w + k) 0 → c ≡ nought → IsColumn rows w r k nought cs → IsColumn rows w (r + 1) k nought cs
column_kept rows cs w r k nought c e z h = record {
  few = omega (arith, h.few);
  from = λ i q. let f = h.from i q in (f.0, omega (arith, f.1), f.2);
  sum = λ v n.
      let here : v (get_or rows (r * w + k) 0) ≡ 0 = ap v (sym e ∙ z) ∙ n in
      let s : total (length cs) (λ i. v (get_or cs i 0)) ≡ total r (λ r. v (get_or rows (r * w + k) 0)) = h.sum v n in
      let l : total (r + 1) (λ r. v (get_or rows (r * w + k) 0)) ≡ total r (λ r. v (get_or rows (r * w + k) 0)) + v (get_or rows (r * w + k) 0) = total_last r (λ r. v (get_or rows (r * w + k) 0)) in
      omega arith;
}

column_pushed : (rows cs : List ℕ) (w r k nought c : ℕ) → c ≡ get_or rows (r * w + k) 0 → IsColumn rows w r k nought cs → IsColumn rows w (r + 1) k nought (cs ++ c ∷ [])
column_pushed rows cs w r k nought c e h = record {
  few = omega (arith, h.few, length-append cs (c ∷ []));
  from = by_push cs c (λ _ x. (s : ℕ) × (s < r + 1) × (x ≡ get_or rows (s * w + k) 0)) (λ i q. let f = h.from i q in (f.0, omega (arith, f.1), f.2)) (r, omega arith, e);
  sum = λ v n.
      let s : total (length cs) (λ i. v (get_or cs i 0)) ≡ total r (λ r. v (get_or rows (r * w + k) 0)) = h.sum v n in
      let l : total (r + 1) (λ r. v (get_or rows (r * w + k) 0)) ≡ total r (λ r. v (get_or rows (r * w + k) 0)) + v (get_or rows (r * w + k) 0) = total_last r (λ r. v (get_or rows (r * w + k) 0)) in
      let p : total (length (cs ++ c ∷ [])) (λ i. v (get_or (cs ++ c ∷ []) i 0)) ≡ total (length cs) (λ i. v (get_or cs i 0)) + v c = total_pushed cs c v in
      let here : v c ≡ v (get_or rows (r * w + k) 0) = ap v e in
      omega arith;
}

pub column_more : (rows cs ds : List ℕ) (w r k nought c : ℕ) → c ≡ get_or rows (r * w + k) 0 → ds ≡ (if c == nought then cs else cs ++ c ∷ [])
    → IsColumn rows w r k nought cs → IsColumn rows w (r + 1) k nought ds
column_more rows cs ds w r k nought c e d h =
    elim (cases_eq c nought) [
      | inl z ↦ subst (IsColumn rows w (r + 1) k nought) (sym (d ∙ ap (λ b. if b then cs else cs ++ c ∷ []) (eq-eqb c nought z))) (column_kept rows cs w r k nought c e z h)
      | inr n ↦ subst (IsColumn rows w (r + 1) k nought) (sym (d ∙ ap (λ b. if b then cs else cs ++ c ∷ []) (ne_eqb c nought n))) (column_pushed rows cs w r k nought c e h)
    ]

-- what holds of the cells of rows holds of those of a column
pub column_each : (rows cs : List ℕ) (w n k nought : ℕ) (P : ℕ → Type 0) → k < w → length rows ≡ n * w → IsColumn rows w n k nought cs → Each rows P → Each cs P
column_each rows cs w n k nought P q l h e i r =
    let f = h.from i r in
    subst P (sym f.2) (e (f.0 * w + k) (omega (arith, place_in f.0 w k n f.1 q)))

-- ---- digits and carries of a sum of blocks
pub none_gives : (p : Net) (c : ℕ) → IsBounded p → IsNought p c → Gives p p c (2 ^ p.space - 1) 1
none_gives p c b h =
    let g = keeps_gives p c (2 ^ p.space - 1) b (cell_within p 0 (2 ^ p.space - 1) c (omega arith) h.cell) in
    record { extends = g.extends; bounded = g.bounded; cell = g.cell; jobs_in = omega (arith, g.jobs_in); deep = g.deep }

pub one_gives : (p : Net) (c : ℕ) → IsBounded p → IsCell p (2 ^ p.space - 1) c → Gives p p c (2 ^ p.space - 1) 1
one_gives p c b h =
    let g = keeps_gives p c (2 ^ p.space - 1) b h in
    record { extends = g.extends; bounded = g.bounded; cell = g.cell; jobs_in = omega (arith, g.jobs_in); deep = g.deep }

total_one : (n : ℕ) (f : ℕ → ℕ) → n ≡ 1 → total n f ≡ f 0
unfolding total
total_one n f e = ap (λ n. total n f) e ∙ (let z : 0 + f 0 ≡ f 0 = omega arith in z)

total_zero : (n : ℕ) (f : ℕ → ℕ) → n ≡ 0 → total n f ≡ 0
unfolding total
total_zero n f e = ap (λ n. total n f) e

mod_small : (x u : ℕ) → x < u → x % u ≡ x
mod_small x u h = let e : x ≡ 0 * u + x = omega arith in ap (λ y. y % u) e ∙ mod-mul-add 0 u x h

div_small : (x u : ℕ) → x < u → x / u ≡ 0
div_small x u h = let e : x ≡ 0 * u + x = omega arith in ap (λ y. y / u) e ∙ div-mul-add 0 u x h

pub digit_none : (n u : ℕ) (f : ℕ → ℕ) → 0 < u → n ≡ 0 → 0 ≡ total n f % u
digit_none n u f z e = sym (ap (λ x. x % u) (total_zero n f e) ∙ mod_small 0 u z)

pub digit_one : (n u : ℕ) (f : ℕ → ℕ) → n ≡ 1 → f 0 < u → f 0 ≡ total n f % u
digit_one n u f e h = sym (ap (λ x. x % u) (total_one n f e) ∙ mod_small (f 0) u h)

pub carry_few : (n u : ℕ) (f : ℕ → ℕ) → 0 < u → n < 2 → ((i : ℕ) → i < n → f i < u) → 0 ≡ total n f / u
carry_few n u f z q h =
    elim (cases_lt n 1) [
      | inl l ↦ sym (ap (λ x. x / u) (total_zero n f (omega arith)) ∙ div_small 0 u z)
      | inr l ↦ sym (ap (λ x. x / u) (total_one n f (omega arith)) ∙ div_small (f 0) u (h 0 (omega arith)))
    ]

pub div_le : (u i top : ℕ) → 0 < u → i < u * u → i / u ≤ u - 1
div_le u i top z h = omega (arith, div_below i u u z h)

pub mod_le : (u i : ℕ) → 0 < u → i % u ≤ u - 1
mod_le u i z = omega (arith, mod_below i u z)

-- a table of digits or carries, at the sum of a group
pub group_gives : (p new : Net) (cs table : List ℕ) (f : ℕ → ℕ) (c : ℕ) → length cs ≤ 2 ^ p.space + 1 → AreBlocks p cs
    → HasEntries p.space f table → ((i : ℕ) → i < entries p.space → f i ≤ 2 ^ p.space - 1)
    → Makes p new c (Each cs) (total (length cs) (λ i. degree p (get_or cs i 0))) (λ v. total (length cs) (λ i. v (get_or cs i 0))) table
    → Gives p new c (2 ^ p.space - 1) 1
group_gives p new cs table f c q a h t m =
    let u : ℕ = 2 ^ p.space in
    let r : total (length cs) (λ i. degree p (get_or cs i 0)) < entries p.space = group_degrees p cs (length cs) refl q a in
    makes_gives p new c (u - 1) _ _ _ table m (m.degree_in (u - 1) (λ j l.
    let e : get_or table j 0 ≡ f j = h.each j (omega arith) in omega (arith, t j (omega arith))))

pub group_value : (p new : Net) (cs table : List ℕ) (f : ℕ → ℕ) (c : ℕ) → IsBounded p → length cs ≤ 2 ^ p.space + 1 → AreBlocks p cs → HasEntries p.space f table
    → Makes p new c (Each cs) (total (length cs) (λ i. degree p (get_or cs i 0))) (λ v. total (length cs) (λ i. v (get_or cs i 0))) table
    → (xs : List ℕ) → AreInputs p xs → value new xs c ≡ f (total (length cs) (cell_value p cs xs))
group_value p new cs table f c b q a h m xs w =
    let r : total (length cs) (λ i. degree p (get_or cs i 0)) < entries p.space = group_degrees p cs (length cs) refl q a in
    let s : total (length cs) (cell_value p cs xs) ≤ total (length cs) (λ i. degree p (get_or cs i 0)) =
    total_mono (length cs) (cell_value p cs xs) (λ i. degree p (get_or cs i 0)) (λ i l. b xs w (get_or cs i 0) (a i l).there) in
    m.value_is xs w ∙ h.each (total (length cs) (cell_value p cs xs)) (omega arith)

-- ---- one place of a row more
column_total : (old now : Net) (rows cs : List ℕ) (w n k nought : ℕ) (xs : List ℕ) → Extends old now → IsBounded old → AreBlocks old rows → k < w → length rows ≡ n * w → IsNought old nought
    → IsColumn rows w n k nought cs → AreInputs old xs → total (length cs) (cell_value now cs xs) ≡ column_sum old rows w n xs k
column_total old now rows cs w n k nought xs e b kr q l z h i =
    let v : ℕ → ℕ = value old xs in
    total_same (length cs) (cell_value now cs xs) (λ i. v (get_or cs i 0))
    (λ j r. e.values xs i (get_or cs j 0) (column_each rows cs w n k nought (λ c. c < cell_count old) q l h (λ i r. (kr i r).there) j r))
    ∙ h.sum v (nought_is old nought b z xs i)

pub digit_push : (old now new : Net) (cs rows column : List ℕ) (w n k nought c : ℕ) → IsBounded old → AreBlocks old rows → k < w → length rows ≡ n * w → IsNought old nought
    → IsColumn rows w n k nought column
    → Planned old now cs (λ _. 2 ^ old.space - 1) k k 1 (Each rows) (λ xs k. column_sum old rows w n xs k % 2 ^ old.space)
    → Gives now new c (2 ^ now.space - 1) 1
    → ((d : ℕ) → Each column (λ o. depth now o ≤ d) → depth new c ≤ d + 1)
    → ((xs : List ℕ) → AreInputs now xs → value new xs c ≡ total (length column) (cell_value now column xs) % 2 ^ now.space)
    → Planned old new (cs ++ c ∷ []) (λ _. 2 ^ old.space - 1) (k + 1) (k + 1) 1 (Each rows) (λ xs k. column_sum old rows w n xs k % 2 ^ old.space)
digit_push old now new cs rows column w n k nought c b kr q l z h p g d v =
    let e : Extends old now = p.extends in
    planned_push old now new cs (λ _. 2 ^ old.space - 1) k k 1 1 (Each rows) (λ xs k. column_sum old rows w n xs k % 2 ^ old.space) c p
    (subst (λ (s : ℕ). Gives now new c (2 ^ s - 1) 1) e.space g)
    (λ m o. d m (column_each rows column w n k nought (λ o. depth now o ≤ m) q l h (λ i r.
    let x : depth now (get_or rows i 0) ≡ depth old (get_or rows i 0) = e.depths (get_or rows i 0) (kr i r).there in
    let y : depth old (get_or rows i 0) ≤ m = o i r in
    omega arith)))
    (λ xs i. v xs (within_now old now e xs i) ∙ ap (λ s. total (length column) (cell_value now column xs) % 2 ^ s) e.space
    ∙ ap (λ t. t % 2 ^ old.space) (column_total old now rows column w n k nought xs e b kr q l z h i))

abbrev pub carry_says : Net → List ℕ → ℕ → ℕ → List ℕ → ℕ → ℕ
carry_says p rows w n xs k = shifted 1 (λ k. column_sum p rows w n xs k / 2 ^ p.space) k

pub carry_start : (p : Net) (rows : List ℕ) (w n c : ℕ) → IsBounded p → IsNought p c → Planned p p (c ∷ []) (λ _. 2 ^ p.space - 1) 1 0 1 (Each rows) (carry_says p rows w n)
carry_start p rows w n c b h =
    planned_push p p p [] (λ _. 2 ^ p.space - 1) 0 0 1 0 (Each rows) (carry_says p rows w n) c (planned_none p (λ _. 2 ^ p.space - 1) 1 (Each rows) (carry_says p rows w n) b)
    (keeps_gives p c (2 ^ p.space - 1) b (cell_within p 0 (2 ^ p.space - 1) c (omega arith) h.cell))
    (λ d o. omega (arith, h.shallow))
    (λ xs i. nought_is p c b h xs i ∙ sym (shifted_low 1 (λ k. column_sum p rows w n xs k / 2 ^ p.space) 0 (omega arith)))

pub carry_push : (old now new : Net) (cs rows column : List ℕ) (w n k nought c : ℕ) → IsBounded old → AreBlocks old rows → k < w → length rows ≡ n * w → IsNought old nought
    → IsColumn rows w n k nought column
    → Planned old now cs (λ _. 2 ^ old.space - 1) (k + 1) k 1 (Each rows) (carry_says old rows w n)
    → Gives now new c (2 ^ now.space - 1) 1
    → ((d : ℕ) → Each column (λ o. depth now o ≤ d) → depth new c ≤ d + 1)
    → ((xs : List ℕ) → AreInputs now xs → value new xs c ≡ total (length column) (cell_value now column xs) / 2 ^ now.space)
    → Planned old new (cs ++ c ∷ []) (λ _. 2 ^ old.space - 1) (k + 1 + 1) (k + 1) 1 (Each rows) (carry_says old rows w n)
carry_push old now new cs rows column w n k nought c b kr q l z h p g d v =
    let e : Extends old now = p.extends in
    let back : k + 1 - 1 ≡ k = omega arith in
    planned_push old now new cs (λ _. 2 ^ old.space - 1) (k + 1) k 1 1 (Each rows) (carry_says old rows w n) c p
    (subst (λ (s : ℕ). Gives now new c (2 ^ s - 1) 1) e.space g)
    (λ m o. d m (column_each rows column w n k nought (λ o. depth now o ≤ m) q l h (λ i r.
    let x : depth now (get_or rows i 0) ≡ depth old (get_or rows i 0) = e.depths (get_or rows i 0) (kr i r).there in
    let y : depth old (get_or rows i 0) ≤ m = o i r in
    omega arith)))
    (λ xs i. v xs (within_now old now e xs i) ∙ ap (λ s. total (length column) (cell_value now column xs) / 2 ^ s) e.space
    ∙ ap (λ t. t / 2 ^ old.space) (column_total old now rows column w n k nought xs e b kr q l z h i)
    ∙ sym (shifted_high 1 (λ k. column_sum old rows w n xs k / 2 ^ old.space) (k + 1) (omega arith) ∙ ap (λ k. column_sum old rows w n xs k / 2 ^ old.space) back))

-- ---- rows beside rows
-- rows beside rows
pub rows_append : (u : ℕ) (old now new : Net) (cs ds : List ℕ) (w c d : ℕ) (xs : List ℕ) → Extends now new → length cs ≡ c * w → length ds ≡ d * w
    → ((i : ℕ) → i < length cs → get_or cs i 0 < cell_count now)
    → AreInputs now xs
    → rows_number u new (cs ++ ds) w (c + d) xs ≡ rows_number u now cs w c xs + rows_number u new ds w d xs
rows_append u old now new cs ds w c d xs e lc ld there i =
    let f : ℕ → ℕ = λ r. number u w (λ k. cell_value new (cs ++ ds) xs (r * w + k)) in
    let a : total c f ≡ rows_number u now cs w c xs =
    total_same c f (λ r. number u w (λ k. cell_value now cs xs (r * w + k))) (λ r p.
    number_same u w (λ k. cell_value new (cs ++ ds) xs (r * w + k)) (λ k. cell_value now cs xs (r * w + k)) (λ k q.
    let l : r * w + k < length cs = omega (arith, place_in r w k c p q) in
    ap (value new xs) (get_or_append_left cs ds 0 (r * w + k) l) ∙ e.values xs i (get_or cs (r * w + k) 0) (there (r * w + k) l))) in
    let b : total d (λ j. f (c + j)) ≡ rows_number u new ds w d xs =
    total_same d (λ j. f (c + j)) (λ j. number u w (λ k. cell_value new ds xs (j * w + k))) (λ j p.
    number_same u w (λ k. cell_value new (cs ++ ds) xs ((c + j) * w + k)) (λ k. cell_value new ds xs (j * w + k)) (λ k q.
    let l : length cs ≤ (c + j) * w + k = omega arith in
    let z : (c + j) * w + k - length cs ≡ j * w + k = omega arith in
    ap (value new xs) (get_or-append_right cs ds (length cs) ((c + j) * w + k) 0 refl l ∙ ap (λ i. get_or ds i 0) z))) in
    total_split c d f ∙ ap (λ x. x + total d (λ j. f (c + j))) a ∙ ap (λ x. rows_number u now cs w c xs + x) b

-- one row
pub row_alone : (u : ℕ) (p : Net) (cs : List ℕ) (w : ℕ) (xs : List ℕ) → rows_number u p cs w 1 xs ≡ number u w (cell_value p cs xs)
unfolding total
row_alone u p cs w xs =
    let z : (k : ℕ) → 0 * w + k ≡ k = λ (k : ℕ). omega arith in
    let e : 0 + number u w (λ k. cell_value p cs xs (0 * w + k)) ≡ number u w (λ k. cell_value p cs xs (0 * w + k)) = omega arith in
    e ∙ number_same u w (λ k. cell_value p cs xs (0 * w + k)) (cell_value p cs xs) (λ k q. ap (cell_value p cs xs) (z k))
