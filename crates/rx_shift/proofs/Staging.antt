-- A stage, and stage after stage.
use Rattle.std.proofs.Common.{◌≡◌, ◌^◌, ℕ, zero, suc, ◌+◌, ◌-◌, ◌*◌, ◌/◌, ◌%◌, ◌<◌, ◌≤◌, List, length, get_or, refl, sym, ◌∙◌, ap, arith, subst}
use Rattle.std.proofs.lemmas.List.{reverse-reverse}
use Rattle.std.proofs.lemmas.Nat.{mul-le, pow_pos}
use Rattle.std.proofs.Math.Nat.{mod-eq_of_lt, pow-suc, pow-le-pow_right}
use Rattle.rx_params.specs.Kinds.{digit_at}
use Rattle.rx_net.specs.declared.net.Net.{Net}
use Rattle.rx_net.specs.Cells.{value, depth}
use Rattle.rx_net.specs.Legal.{IsBounded}
use Rattle.rx_net.specs.Growth.{Extends}
use Rattle.rx_plan.specs.Values.{AreInputs, cell_value, number, number_held}
use Rattle.rx_plan.specs.Planned.{Each, EachOf, IsCell, AreBlocks, AreCells, Planned, Lays}
use Rattle.rx_plan.specs.Rows.{column_sum}
use Rattle.rx_plan.proofs.Kept.{within_now, value_in}
use Rattle.rx_plan.proofs.Planned.{planned_start, planned_same, planned_weaken, planned_chain}
use Rattle.rx_plan.proofs.Numbers.{pow_pow, digits_number}
use Rattle.rx_plan.proofs.Given.{planned_number}
use Rattle.rx_plan.proofs.Held.{digit_below, held_digit, held_small}
use Rattle.rx_shift.specs.declared.direction.Direction.{Direction}
use Rattle.rx_shift.specs.declared.direction.Direction.TheVariants.{Up, Down}
use Rattle.rx_shift.specs.Shifts.{moved, in_order, place, stage_jobs}
use Rattle.rx_shift.proofs.Orders.{order_count, place_in, place_twice, order_each, order_planned, moved_digit}
use Rattle.rx_shift.proofs.Parts.{moved_none}

order_twice : (d : Direction) (cs : List ℕ) → in_order d (in_order d cs) ≡ cs
order_twice Up cs = refl
order_twice Down cs = reverse-reverse cs

abbrev pub stage_says : Net → Direction → List ℕ → ℕ → ℕ → List ℕ → ℕ → ℕ
stage_says p d a bit distance xs i = digit_at p.space (moved d (number_held p a xs) (value p xs bit * distance)) i

-- a stage: the sums of the sources, in the order of the blocks
pub stage_planned : (old mid new : Net) (d : Direction) (a ordered rows cells : List ℕ) (bit distance : ℕ) → ordered ≡ in_order d a → IsBounded old
    → Lays old mid rows (3 * length ordered) (3 * length ordered - 1) 1 (λ P. P bit × Each ordered P)
    → ((xs : List ℕ) → AreInputs old xs → (i : ℕ) → i < length ordered → column_sum mid rows (length ordered) 3 xs i
    ≡ digit_at old.space (moved d (number_held old (in_order d ordered) xs) (value old xs bit * distance)) (place d (length ordered) i))
    → 1 ≤ length a
    → Planned mid new cells (λ _. 2 ^ mid.space - 1) (length a) (length a) 1 (Each rows) (λ xs k. column_sum mid rows (length a) 3 xs k % 2 ^ mid.space)
    → Planned old new (in_order d cells) (λ _. 2 ^ old.space - 1) (length a) (stage_jobs (length a)) 2 (λ P. P bit × Each a P) (stage_says old d a bit distance)
stage_planned old mid new d a ordered rows cells bit distance eo bounded p sums some q =
    let s : ℕ = old.space in
    let u : ℕ = 2 ^ s in
    let n : ℕ = length a in
    let l : length ordered ≡ n = ap length eo ∙ order_count d a in
    let back : in_order d ordered ≡ a = ap (in_order d) eo ∙ order_twice d a in
    let O : (ℕ → Type 0) → Type 0 = λ P. P bit × Each a P in
    let says : List ℕ → ℕ → ℕ = λ xs i. stage_says old d a bit distance xs (place d n i) in
    let top : 2 ^ mid.space ≡ u = ap (λ s. 2 ^ s) p.extends.space in
    let pO : Lays old mid rows (3 * length ordered) (3 * length ordered - 1) 1 O =
    planned_weaken old mid rows (λ _. u - 1) (3 * length ordered) (3 * length ordered - 1) (3 * length ordered - 1) 1 1 (λ P. P bit × Each ordered P) O (λ xs i. cell_value mid rows xs i) (omega arith) (omega arith)
    (λ e o. (o.0, subst (λ (cs : List ℕ). Each cs (λ o. depth old o ≤ e)) (sym eo) (order_each d a (λ o. depth old o ≤ e) o.1))) p in
    let c : Planned old new cells (λ _. 2 ^ mid.space - 1) n (3 * length ordered - 1 + n) (1 + 1) O says =
    planned_chain old mid new rows cells (λ _. u - 1) (λ _. 2 ^ mid.space - 1) (3 * length ordered) n (3 * length ordered - 1) n 1 1 O (Each rows) (λ xs i. cell_value mid rows xs i) (λ xs k. column_sum mid rows n 3 xs k % 2 ^ mid.space) says pO q
    (λ e o. pO.deep_cells e o)
    (λ xs w i r.
    let one : column_sum mid rows n 3 xs i ≡ says xs i =
    ap (λ k. column_sum mid rows k 3 xs i) (sym l) ∙ sums xs w i (omega arith)
    ∙ ap (λ k. digit_at s (moved d (number_held old (in_order d ordered) xs) (value old xs bit * distance)) (place d k i)) l
    ∙ ap (λ cs. digit_at s (moved d (number_held old cs xs) (value old xs bit * distance)) (place d n i)) back in
    ap (λ x. x % 2 ^ mid.space) one ∙ ap (λ v. says xs i % v) top ∙ mod-eq_of_lt (digit_below s (moved d (number_held old a xs) (value old xs bit * distance)) (place d n i))) in
    let t : Planned old new cells (λ _. u - 1) n (stage_jobs n) 2 O says =
    planned_weaken old new cells (λ _. u - 1) n (3 * length ordered - 1 + n) (stage_jobs n) 2 2 O O says (omega arith) (omega arith) (λ e o. o)
    (planned_same old new cells (λ _. 2 ^ mid.space - 1) (λ _. u - 1) n (3 * length ordered - 1 + n) 2 O says says (λ i r. omega arith) (λ xs w i r. refl) c) in
    planned_same old new (in_order d cells) (λ _. u - 1) (λ _. u - 1) n (stage_jobs n) 2 O (λ xs i. says xs (place d n i)) (stage_says old d a bit distance) (λ i r. omega arith)
    (λ xs w i r. ap (stage_says old d a bit distance xs) (place_twice d n i r))
    (order_planned d old new cells (u - 1) n (stage_jobs n) 2 O says t)

-- ---- all stages

-- all stages before j
abbrev pub stages_say : Net → Direction → List ℕ → List ℕ → ℕ → List ℕ → ℕ → ℕ
stages_say p d a bits j xs i = digit_at p.space (moved d (number_held p a xs) (number 2 j (cell_value p bits xs))) i

pub record Staged (old now : Net) (d : Direction) (a bits cs : List ℕ) (j distance : ℕ) : Type 0 where
  pub power : distance ≡ 2 ^ j
  pub planned : Planned old now cs (λ _. 2 ^ old.space - 1) (length a) (j * stage_jobs (length a)) (2 * j) (EachOf a bits) (stages_say old d a bits j)

number_none : (d : Direction) (f : ℕ → ℕ) (z : ℕ) → z ≡ moved d z (number 2 0 f)
unfolding number
number_none d f z = sym (moved_none d z)

pub staged_start : (p : Net) (d : Direction) (a bits : List ℕ) → IsBounded p → AreBlocks p a → Staged p p d a bits a 0 1
staged_start p d a bits b k =
    let n : ℕ = length a in
    let u : ℕ = 2 ^ p.space in
    record {
      power = refl;
      planned =
          planned_weaken p p a (λ _. u - 1) n 0 (0 * stage_jobs n) 0 (2 * 0) (Each a) (EachOf a bits) (stages_say p d a bits 0) (omega arith) (omega arith) (λ e o. o.0)
          (planned_same p p a (λ _. u - 1) (λ _. u - 1) n 0 0 (Each a) (λ xs i. value p xs (get_or a i 0)) (stages_say p d a bits 0) (λ i q. omega arith)
          (λ xs w i q. sym (held_digit p a xs i b k w q) ∙ ap (λ z. digit_at p.space z i) (number_none d (cell_value p bits xs) (number_held p a xs)))
          (planned_start p a (λ _. u - 1) n refl b k));
    }

number_more : (u n : ℕ) (f : ℕ → ℕ) → number u n f + u ^ n * f n ≡ number u (n + 1) f
unfolding number
number_more u n f = let e : suc n ≡ n + 1 = omega arith in ap (λ k. number u k f) e

pub staged_more : (old now new : Net) (d : Direction) (a bits cs ds : List ℕ) (j distance : ℕ) → IsBounded old → AreBlocks old a → AreCells old 1 bits → j < length bits
    → Staged old now d a bits cs j distance
    → Planned now new ds (λ _. 2 ^ now.space - 1) (length cs) (stage_jobs (length cs)) 2 (λ P. P (get_or bits j 0) × Each cs P) (stage_says now d cs (get_or bits j 0) distance)
    → Staged old new d a bits ds (j + 1) (distance * 2)
staged_more old now new d a bits cs ds j distance bounded ka kb l h q =
    let p = h.planned in
    let e : Extends old now = p.extends in
    let s : ℕ = old.space in
    let u : ℕ = 2 ^ s in
    let n : ℕ = length a in
    let bit : ℕ = get_or bits j 0 in
    let c : length cs ≡ n = p.count_is in
    let O : (ℕ → Type 0) → Type 0 = EachOf a bits in
    let says : List ℕ → ℕ → ℕ = stage_says now d cs bit distance in
    let q' : Planned now new ds (λ _. 2 ^ now.space - 1) n (stage_jobs n) 2 (λ P. P bit × Each cs P) says =
    subst (λ (n : ℕ). Planned now new ds (λ _. 2 ^ now.space - 1) n (stage_jobs n) 2 (λ P. P bit × Each cs P) says) c q in
    let top : 2 ^ now.space - 1 ≡ u - 1 = ap (λ s. 2 ^ s - 1) e.space in
    let t : Planned old new ds (λ _. 2 ^ now.space - 1) n (j * stage_jobs n + stage_jobs n) (2 * j + 2) O (stages_say old d a bits (j + 1)) =
    planned_chain old now new cs ds (λ _. u - 1) (λ _. 2 ^ now.space - 1) n n (j * stage_jobs n) (stage_jobs n) (2 * j) 2 O (λ P. P bit × Each cs P) (stages_say old d a bits j) says (stages_say old d a bits (j + 1)) p q'
    (λ g o. (let x : depth now bit ≡ depth old bit = e.depths bit (kb j l).there in let y : depth old bit ≤ g = o.1 j l in omega arith, p.deep_cells g o))
    (λ xs w i r.
    let z : ℕ = number_held old a xs in
    let b : ℕ = cell_value old bits xs j in
    let k : ℕ = number 2 j (cell_value old bits xs) in
    let held : number_held now cs xs ≡ moved d z k % 2 ^ (s * n) =
    planned_number old now cs (λ _. u - 1) n (j * stage_jobs n) (2 * j) O (stages_say old d a bits j) p xs w ∙ digits_number s n (moved d z k) ∙ ap (λ x. moved d z k % x) (pow_pow s n) in
    let bd : value now xs bit * distance ≡ 2 ^ j * b = (
    let x : value now xs bit * distance ≡ b * distance = ap (λ v. v * distance) (e.values xs w bit (kb j l).there) in
    let y : b * distance ≡ b * 2 ^ j = ap (λ v. b * v) h.power in omega arith) in
    ap (λ s. digit_at s (moved d (number_held now cs xs) (value now xs bit * distance)) i) e.space
    ∙ ap (λ x. digit_at s (moved d x (value now xs bit * distance)) i) held
    ∙ ap (λ x. digit_at s (moved d (moved d z k % 2 ^ (s * n)) x) i) bd
    ∙ moved_digit d s n z k (2 ^ j * b) i (held_small old a bounded ka xs w) r
    ∙ ap (λ x. digit_at s (moved d z x) i) (number_more 2 j (cell_value old bits xs))) in
    let one : suc j ≡ j + 1 = omega arith in
    record {
      power = ap (λ k. k * 2) h.power ∙ sym (pow-suc 2 j) ∙ ap (λ k. 2 ^ k) one;
      planned =
          planned_weaken old new ds (λ _. u - 1) n (j * stage_jobs n + stage_jobs n) ((j + 1) * stage_jobs n) (2 * j + 2) (2 * (j + 1)) O O (stages_say old d a bits (j + 1)) (omega arith) (omega arith) (λ g o. o)
          (planned_same old new ds (λ _. 2 ^ now.space - 1) (λ _. u - 1) n (j * stage_jobs n + stage_jobs n) (2 * j + 2) O (stages_say old d a bits (j + 1)) (stages_say old d a bits (j + 1)) (λ i r. omega arith) (λ xs w i r. refl) t);
    }

pub stage_room : (n j k : ℕ) → j < k → j * stage_jobs n + stage_jobs n ≤ k * stage_jobs n
stage_room n j k h = let m : suc j * stage_jobs n ≤ k * stage_jobs n = mul-le (suc j) (stage_jobs n) k (stage_jobs n) h (omega arith) in omega arith

pub small_distance : (distance j k : ℕ) → distance ≡ 2 ^ j → j < k → k ≤ 30 → distance ≤ 2 ^ 30
small_distance distance j k e h l = let p : 2 ^ j ≤ 2 ^ 30 = pow-le-pow_right {n = 2} (omega arith) (let z : j ≤ 30 = omega arith in z) in omega arith
