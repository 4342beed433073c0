-- Groups of rows, and a round of them.
use Rattle.std.proofs.Common.{◌≡◌, ℕ, suc, List, [], ◌<◌, ◌≤◌, ◌+◌, ◌-◌, ◌*◌, ◌/◌, ◌%◌, ◌^◌, ◌⊎◌, inl, inr, length, get_or, ◌++◌, drop, take, sym, ◌∙◌, ap, arith, subst}
use Rattle.std.proofs.lemmas.Nat.{mul-le}
use Rattle.std.proofs.Math.Nat.{pow-zero}
use Rattle.rx_net.specs.declared.net.Net.{Net}
use Rattle.rx_net.specs.Cells.{cell_count, value, depth}
use Rattle.rx_net.specs.Legal.{IsBounded}
use Rattle.rx_net.specs.Growth.{Extends}
use Rattle.rx_costs.specs.Rounds.{groups}
use Rattle.rx_plan.specs.Values.{AreInputs, cell_value, number, total}
use Rattle.rx_plan.specs.Planned.{Each, AreBlocks, Planned, Lays}
use Rattle.rx_plan.specs.Rows.{shifted, rows_number, column_sum}
use Rattle.rx_plan.proofs.Totals.{total_same, total_split, total_none}
use Rattle.rx_plan.proofs.Kept.{within_now, depths_kept}
use Rattle.rx_plan.proofs.Planned.{planned_weaken, planned_lays, lays_beside, lays_weaken, lays_none}
use Rattle.rx_plan.proofs.Numbers.{number_same}
use Rattle.rx_plan.proofs.RowLaws.{shifted_high, sum_mod, number_total, moved_mod}
use Rattle.rx_plan.proofs.RowCells.{place_in, row_alone, rows_append, shifted_same, carry_says}
use Rattle.std.specs.Int.{div_ceil}
use Rattle.std.proofs.lemmas.List.{get_or-take, get_or-drop, length-drop, length-take-le}

-- as the code counts groups
pub groups-are : (turns most count : ℕ) → turns ≡ div_ceil count most → turns ≡ groups most count
unfolding groups
groups-are turns most count e = e

pub most-is : (space r unit wide : ℕ) → r ≡ space → unit ≡ 2 ^ r → wide ≡ unit → wide + 1 ≡ 2 ^ space + 1
most-is space r unit wide e f g = ap (λ x. x + 1) (g ∙ f ∙ ap (λ s. 2 ^ s) e)

-- ---- a group of rows
abbrev pub DigitRow : Net → Net → List ℕ → List ℕ → ℕ → ℕ → Type 0
DigitRow old new cs rows w count = Planned old new cs (λ _. 2 ^ old.space - 1) w w 1 (Each rows) (λ xs k. column_sum old rows w count xs k % 2 ^ old.space)

abbrev pub CarryRow : Net → Net → List ℕ → List ℕ → ℕ → ℕ → Type 0
CarryRow old new cs rows w count = Planned old new cs (λ _. 2 ^ old.space - 1) w (w - 1) 1 (Each rows) (carry_says old rows w count)

pub group_planned : (old s1 s2 : Net) (cs ds rows : List ℕ) (w count : ℕ) → 1 ≤ w → AreBlocks old rows → DigitRow old s1 cs rows w count → CarryRow s1 s2 ds rows w count
    → Lays old s2 (cs ++ ds) (2 * w) (2 * w - 1) 1 (Each rows)
group_planned old s1 s2 cs ds rows w count n kr p q =
    let a : Lays old s1 cs w w 1 (Each rows) = planned_lays old s1 cs (λ _. 2 ^ old.space - 1) w w 1 w (Each rows) _ (λ i q. omega arith) (omega arith) p in
    let b : Lays s1 s2 ds w (w - 1) 1 (Each rows) = planned_lays s1 s2 ds (λ _. 2 ^ s1.space - 1) w (w - 1) 1 (w - 1) (Each rows) _ (λ i q. omega arith) (omega arith) q in
    let c : w + w ≡ 2 * w = omega arith in
    lays_weaken old s2 (cs ++ ds) (w + w) (2 * w) (w + (w - 1)) (2 * w - 1) 1 1 (Each rows) c (omega arith) (omega arith)
    (lays_beside old s1 s2 cs ds w w w (w - 1) 1 (Each rows) (Each rows) a b (λ d o. depths_kept old s1 rows d (2 ^ old.space - 1) p.extends kr o))

column_stable : (old now : Net) (rows : List ℕ) (w count k : ℕ) → Extends old now → Each rows (λ o. o < cell_count old) → length rows ≡ count * w → k < w
    → (xs : List ℕ) → AreInputs old xs → column_sum now rows w count xs k ≡ column_sum old rows w count xs k
column_stable old now rows w count k e kr s q xs v =
    total_same count (λ r. cell_value now rows xs (r * w + k)) (λ r. cell_value old rows xs (r * w + k)) (λ r l.
    let i : r * w + k < count * w = place_in r w k count l q in
    e.values xs v (get_or rows (r * w + k) 0) (kr (r * w + k) (omega arith)))

pub group_number : (old s1 s2 : Net) (cs ds rows : List ℕ) (w count : ℕ) → 1 ≤ w → AreBlocks old rows → length rows ≡ count * w
    → DigitRow old s1 cs rows w count → CarryRow s1 s2 ds rows w count
    → (xs : List ℕ) → AreInputs old xs
    → rows_number (2 ^ old.space) s2 (cs ++ ds) w 2 xs % (2 ^ old.space) ^ w ≡ rows_number (2 ^ old.space) old rows w count xs % (2 ^ old.space) ^ w
group_number old s1 s2 cs ds rows w count n kr s p q xs v =
    let u : ℕ = 2 ^ old.space in
    let e : Extends old s1 = p.extends in
    let v' : AreInputs s1 xs = within_now old s1 e xs v in
    let f : ℕ → ℕ = λ k. column_sum old rows w count xs k in
    let lc : length cs ≡ 1 * w = omega (arith, p.count_is) in
    let ld : length ds ≡ 1 * w = omega (arith, q.count_is) in
    let low : rows_number u s1 cs w 1 xs ≡ number u w (shifted 0 (λ k. f k % u)) =
    row_alone u s1 cs w xs ∙ number_same u w (cell_value s1 cs xs) (shifted 0 (λ k. f k % u)) (λ k l.
    let z : k ≡ k - 0 = omega arith in
    p.values_are xs v k l ∙ ap (λ k. f k % u) z ∙ sym (shifted_high 0 (λ k. f k % u) k (omega arith))) in
    let high : rows_number u s2 ds w 1 xs ≡ number u w (shifted 1 (λ k. f k / u)) =
    row_alone u s2 ds w xs ∙ number_same u w (cell_value s2 ds xs) (shifted 1 (λ k. f k / u)) (λ k l.
    q.values_are xs v' k l ∙ ap (λ s. shifted 1 (λ k. column_sum s1 rows w count xs k / 2 ^ s) k) e.space
    ∙ shifted_same 1 (λ k. column_sum s1 rows w count xs k / u) (λ k. f k / u) k
    (ap (λ x. x / u) (column_stable old s1 rows w count (k - 1) e (λ i r. (kr i r).there) s (omega arith) xs v))) in
    let one : u ^ 0 * number u w f ≡ number u w f = (let z : u ^ 0 ≡ 1 = pow-zero u in let m : u ^ 0 * number u w f ≡ 1 * number u w f = ap (λ x. x * number u w f) z in omega arith) in
    ap (λ x. x % u ^ w) (rows_append u old s1 s2 cs ds w 1 1 xs q.extends lc ld (λ i r. (p.cells_are i r).there) v' ∙ ap (λ x. x + rows_number u s2 ds w 1 xs) low ∙ ap (λ x. number u w (shifted 0 (λ k. f k % u)) + x) high)
    ∙ moved_mod u w 0 f
    ∙ ap (λ x. x % u ^ w) (one ∙ sym (number_total u w count (λ r k. cell_value old rows xs (r * w + k))))

-- ---- some rows of a list
abbrev pub part_of : List ℕ → ℕ → ℕ → List ℕ
part_of rows start end = take (end - start) (drop start rows)

pub part_count : (rows : List ℕ) (w first last count : ℕ) → first ≤ last → last ≤ count → length rows ≡ count * w → length (part_of rows (first * w) (last * w)) ≡ (last - first) * w
part_count rows w first last count o i s =
    let m : first * w ≤ last * w = mul-le first w last w o (omega arith) in
    let n : last * w ≤ count * w = mul-le last w count w i (omega arith) in
    let d : length (drop (first * w) rows) ≡ length rows - first * w = length-drop (first * w) rows in
    let e : last * w - first * w ≡ (last - first) * w = (let a : last ≡ first + (last - first) = omega arith in let b : last * w ≡ (first + (last - first)) * w = ap (λ x. x * w) a in omega arith) in
    length-take-le (last * w - first * w) (drop (first * w) rows) (omega arith) ∙ e

pub part_at : (rows : List ℕ) (start end i : ℕ) → i < end - start → get_or (part_of rows start end) i 0 ≡ get_or rows (start + i) 0
part_at rows start end i h = get_or-take (end - start) (drop start rows) i 0 h ∙ get_or-drop start rows i 0

pub part_each : (rows : List ℕ) (w first last count : ℕ) (P : ℕ → Type 0) → first ≤ last → last ≤ count → length rows ≡ count * w → Each rows P → Each (part_of rows (first * w) (last * w)) P
part_each rows w first last count P o i s h k q =
    let n : length (part_of rows (first * w) (last * w)) ≡ (last - first) * w = part_count rows w first last count o i s in
    let a : last ≡ first + (last - first) = omega arith in
    let b : last * w ≡ (first + (last - first)) * w = ap (λ x. x * w) a in
    let t : last * w ≤ count * w = mul-le last w count w i (omega arith) in
    subst P (sym (part_at rows (first * w) (last * w) k (omega arith))) (h (first * w + k) (omega arith))

pub part_number : (u : ℕ) (p : Net) (rows : List ℕ) (w first last count : ℕ) (xs : List ℕ) → first ≤ last → last ≤ count → length rows ≡ count * w
    → rows_number u p (part_of rows (first * w) (last * w)) w (last - first) xs ≡ total (last - first) (λ j. number u w (λ k. cell_value p rows xs ((first + j) * w + k)))
part_number u p rows w first last count xs o i s =
    total_same (last - first) (λ j. number u w (λ k. cell_value p (part_of rows (first * w) (last * w)) xs (j * w + k))) (λ j. number u w (λ k. cell_value p rows xs ((first + j) * w + k))) (λ j q.
    number_same u w (λ k. cell_value p (part_of rows (first * w) (last * w)) xs (j * w + k)) (λ k. cell_value p rows xs ((first + j) * w + k)) (λ k l.
    let a : last ≡ first + (last - first) = omega arith in
    let b : last * w ≡ (first + (last - first)) * w = ap (λ x. x * w) a in
    let c : j * w + k < (last - first) * w = place_in j w k (last - first) q l in
    let d : first * w + (j * w + k) ≡ (first + j) * w + k = omega arith in
    ap (value p xs) (part_at rows (first * w) (last * w) (j * w + k) (omega arith) ∙ ap (λ i. get_or rows i 0) d)))

-- a group of some rows, as one of all
pub part_lays : (now new : Net) (cs rows : List ℕ) (w first last count n j : ℕ) → first ≤ last → last ≤ count → length rows ≡ count * w
    → Lays now new cs n j 1 (Each (part_of rows (first * w) (last * w))) → Lays now new cs n j 1 (Each rows)
part_lays now new cs rows w first last count n j o i s p =
    planned_weaken now new cs (λ _. 2 ^ now.space - 1) n j j 1 1 (Each (part_of rows (first * w) (last * w))) (Each rows) (λ xs i. cell_value new cs xs i) (omega arith) (omega arith)
    (λ d h. part_each rows w first last count (λ c. depth now c ≤ d) o i s h) p

-- one round
pub record Round (old now : Net) (rows cs : List ℕ) (w count first g turns most : ℕ) : Type 0 where
  pub planned : Lays old now cs (2 * g * w) (g * (2 * w - 1)) 1 (Each rows)
  pub value_is : (xs : List ℕ) → AreInputs old xs → rows_number (2 ^ old.space) now cs w (2 * g) xs % (2 ^ old.space) ^ w ≡ rows_number (2 ^ old.space) old rows w first xs % (2 ^ old.space) ^ w
  pub within : first ≤ count
  pub ahead : count + g * most ≤ first + turns * most

rows_start : (u : ℕ) (p : Net) (cs : List ℕ) (w : ℕ) (xs : List ℕ) (g : ℕ → ℕ) → rows_number u p cs w 0 xs ≡ total 0 g
rows_start u p cs w xs g = total_none (λ r. number u w (λ k. cell_value p cs xs (r * w + k))) ∙ sym (total_none g)

pub round_start : (old : Net) (rows : List ℕ) (w count turns most : ℕ) → IsBounded old → count ≤ turns * most → Round old old rows [] w count 0 0 turns most
round_start old rows w count turns most b h = record {
  planned = lays_none old (2 * 0 * w) (0 * (2 * w - 1)) 1 (Each rows) (omega arith) b;
  value_is = λ xs v. ap (λ x. x % (2 ^ old.space) ^ w) (rows_start (2 ^ old.space) old [] w xs (λ r. number (2 ^ old.space) w (λ k. cell_value old rows xs (r * w + k))));
  within = omega arith;
  ahead = omega arith;
}

pub round_ahead : (count first last g turns most : ℕ) → g < turns → count + g * most ≤ first + turns * most → (count ≤ last) ⊎ (first + most ≤ last) → count + (g + 1) * most ≤ last + turns * most
round_ahead count first last g turns most l h c =
    let m : (g + 1) * most ≤ turns * most = mul-le (g + 1) most turns most (omega arith) (omega arith) in
    elim c [ inl a ↦ omega arith | inr a ↦ omega arith ]

pub round_more : (old now new : Net) (rows cs ds : List ℕ) (w count first last g turns most : ℕ) → g < turns → first ≤ last → last ≤ count → (count ≤ last) ⊎ (first + most ≤ last)
    → AreBlocks old rows → length rows ≡ count * w
    → Round old now rows cs w count first g turns most
    → Lays now new ds (2 * w) (2 * w - 1) 1 (Each rows)
    → ((xs : List ℕ) → AreInputs now xs → rows_number (2 ^ now.space) new ds w 2 xs % (2 ^ now.space) ^ w ≡ total (last - first) (λ j. number (2 ^ now.space) w (λ k. cell_value now rows xs ((first + j) * w + k))) % (2 ^ now.space) ^ w)
    → Round old new rows (cs ++ ds) w count last (g + 1) turns most
round_more old now new rows cs ds w count first last g turns most l o i c kr s r q v =
    let p = r.planned in
    let e : Extends old now = p.extends in
    let u : ℕ = 2 ^ old.space in
    let n1 : 2 * g * w + 2 * w ≡ 2 * (g + 1) * w = omega arith in
    let j1 : g * (2 * w - 1) + (2 * w - 1) ≤ (g + 1) * (2 * w - 1) = omega arith in
    record {
      planned =
          lays_weaken old new (cs ++ ds) (2 * g * w + 2 * w) (2 * (g + 1) * w) (g * (2 * w - 1) + (2 * w - 1)) ((g + 1) * (2 * w - 1)) 1 1 (Each rows) n1 j1 (omega arith)
          (lays_beside old now new cs ds (2 * g * w) (2 * w) (g * (2 * w - 1)) (2 * w - 1) 1 (Each rows) (Each rows) p q (λ d o. depths_kept old now rows d (2 ^ old.space - 1) e kr o));
      value_is = λ xs x.
          let x' : AreInputs now xs = within_now old now e xs x in
          let f : ℕ → ℕ = λ r. number u w (λ k. cell_value old rows xs (r * w + k)) in
          let two : 2 * g + 2 ≡ 2 * (g + 1) = omega arith in
          let up : first + (last - first) ≡ last = omega arith in
          let a = rows_append u old now new cs ds w (2 * g) 2 xs q.extends p.count_is q.count_is (λ i r. (p.cells_are i r).there) x' in
          let vu : rows_number u new ds w 2 xs % u ^ w ≡ total (last - first) (λ j. number u w (λ k. cell_value now rows xs ((first + j) * w + k))) % u ^ w =
          subst (λ (s : ℕ). rows_number (2 ^ s) new ds w 2 xs % (2 ^ s) ^ w ≡ total (last - first) (λ j. number (2 ^ s) w (λ k. cell_value now rows xs ((first + j) * w + k))) % (2 ^ s) ^ w) e.space (v xs x') in
          let st : total (last - first) (λ j. number u w (λ k. cell_value now rows xs ((first + j) * w + k))) ≡ total (last - first) (λ j. f (first + j)) =
          total_same (last - first) (λ j. number u w (λ k. cell_value now rows xs ((first + j) * w + k))) (λ j. f (first + j)) (λ j jl.
          number_same u w (λ k. cell_value now rows xs ((first + j) * w + k)) (λ k. cell_value old rows xs ((first + j) * w + k)) (λ k kl.
          let pl : (first + j) * w + k < count * w = place_in (first + j) w k count (omega arith) kl in
          e.values xs x (get_or rows ((first + j) * w + k) 0) (kr ((first + j) * w + k) (omega arith)).there)) in
          ap (λ n. rows_number u new (cs ++ ds) w n xs % u ^ w) (sym two)
          ∙ ap (λ x. x % u ^ w) a
          ∙ sum_mod (u ^ w) (rows_number u now cs w (2 * g) xs) (total first f) (rows_number u new ds w 2 xs) (total (last - first) (λ j. f (first + j))) (r.value_is xs x) (vu ∙ ap (λ x. x % u ^ w) st)
          ∙ ap (λ x. x % u ^ w) (sym (total_split first (last - first) f) ∙ ap (λ n. total n f) up);
      within = i;
      ahead = round_ahead count first last g turns most l r.ahead c;
    }

pub round_end : (old now : Net) (rows cs : List ℕ) (w count first g turns most : ℕ) → most ≡ 2 ^ old.space + 1 → turns ≡ groups most count → g ≡ turns
    → Round old now rows cs w count first g turns most
    → Lays old now cs (2 * groups (2 ^ old.space + 1) count * w) (groups (2 ^ old.space + 1) count * (2 * w - 1)) 1 (Each rows)
round_end old now rows cs w count first g turns most m t e r =
    let q : g ≡ groups (2 ^ old.space + 1) count = e ∙ t ∙ ap (λ m. groups m count) m in
    subst (λ (g : ℕ). Lays old now cs (2 * g * w) (g * (2 * w - 1)) 1 (Each rows)) q r.planned

pub round_number : (old now : Net) (rows cs : List ℕ) (w count first g turns most : ℕ) → most ≡ 2 ^ old.space + 1 → turns ≡ groups most count → g ≡ turns
    → Round old now rows cs w count first g turns most
    → (xs : List ℕ) → AreInputs old xs
    → rows_number (2 ^ old.space) now cs w (2 * groups (2 ^ old.space + 1) count) xs % (2 ^ old.space) ^ w ≡ rows_number (2 ^ old.space) old rows w count xs % (2 ^ old.space) ^ w
round_number old now rows cs w count first g turns most m t e r xs v =
    let q : g ≡ groups (2 ^ old.space + 1) count = e ∙ t ∙ ap (λ m. groups m count) m in
    let gm : g * most ≡ turns * most = ap (λ g. g * most) e in
    let f : first ≡ count = omega (arith, r.within, r.ahead) in
    ap (λ g. rows_number (2 ^ old.space) now cs w (2 * g) xs % (2 ^ old.space) ^ w) (sym q)
    ∙ r.value_is xs v ∙ ap (λ n. rows_number (2 ^ old.space) old rows w n xs % (2 ^ old.space) ^ w) f

pub turn_room : (w g turns : ℕ) → g < turns → g * (2 * w - 1) + (2 * w - 1) ≤ turns * (2 * w - 1)
turn_room w g turns l = let m : suc g * (2 * w - 1) ≤ turns * (2 * w - 1) = mul-le (suc g) (2 * w - 1) turns (2 * w - 1) l (omega arith) in omega arith
