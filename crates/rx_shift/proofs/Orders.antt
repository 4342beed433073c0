-- Blocks in the order of a direction.
use Rattle.std.proofs.Common.{◌≡◌, ◌^◌, ℕ, ◌+◌, ◌-◌, ◌*◌, ◌/◌, ◌%◌, ◌<◌, ◌≤◌, List, length, get_or, refl, sym, ◌∙◌, ap, arith, subst}
use Rattle.std.specs.Prelude.{reverse}
use Rattle.std.proofs.lemmas.List.{get_or-reverse, length-reverse}
use Rattle.std.proofs.lemmas.Nat.{pow_pos, mod_below, mul-mod_first, shr-shr, div-add-mod', pow-add}
use Rattle.std.proofs.Math.Nat.{mod-eq_of_lt, div-le_self}
use Rattle.rx_params.specs.Kinds.{digit_at}
use Rattle.rx_net.specs.declared.net.Net.{Net}
use Rattle.rx_net.specs.Cells.{value, depth}
use Rattle.rx_plan.specs.Values.{AreInputs}
use Rattle.rx_plan.specs.Planned.{Each, IsCell, Planned}
use Rattle.rx_plan.proofs.Held.{digit_under}
use Rattle.rx_shift.specs.declared.direction.Direction.{Direction}
use Rattle.rx_shift.specs.declared.direction.Direction.TheVariants.{Up, Down}
use Rattle.rx_shift.specs.Shifts.{moved, in_order, place}

pub order_count : (d : Direction) (cs : List ℕ) → length (in_order d cs) ≡ length cs
order_count Up cs = refl
order_count Down cs = length-reverse cs

pub place_in : (d : Direction) (n i : ℕ) → i < n → place d n i < n
place_in Up n i h = h
place_in Down n i h = omega arith

pub place_twice : (d : Direction) (n i : ℕ) → i < n → place d n (place d n i) ≡ i
place_twice Up n i h = refl
place_twice Down n i h = omega arith

pub order_at : (d : Direction) (cs : List ℕ) (i : ℕ) → i < length cs → get_or (in_order d cs) i 0 ≡ get_or cs (place d (length cs) i) 0
order_at Up cs i h = refl
order_at Down cs i h = get_or-reverse cs i 0 h

pub order_each : (d : Direction) (cs : List ℕ) (P : ℕ → Type 0) → Each cs P → Each (in_order d cs) P
order_each d cs P h i q =
    let l : i < length cs = omega (arith, order_count d cs) in
    subst P (sym (order_at d cs i l)) (h (place d (length cs) i) (place_in d (length cs) i l))

-- what holds in order holds of the blocks
pub order_back : (d : Direction) (cs : List ℕ) (i : ℕ) → i < length cs → get_or (in_order d cs) (place d (length cs) i) 0 ≡ get_or cs i 0
order_back d cs i h = order_at d cs (place d (length cs) i) (place_in d (length cs) i h) ∙ ap (λ j. get_or cs j 0) (place_twice d (length cs) i h)

pub order_planned : (d : Direction) (old new : Net) (cs : List ℕ) (top n jobs levels : ℕ) (O : (ℕ → Type 0) → Type 0) (f : List ℕ → ℕ → ℕ)
    → Planned old new cs (λ _. top) n jobs levels O f → Planned old new (in_order d cs) (λ _. top) n jobs levels O (λ xs i. f xs (place d n i))
order_planned d old new cs top n jobs levels O f h = record {
  extends = h.extends;
  bounded = h.bounded;
  count_is = order_count d cs ∙ h.count_is;
  jobs_in = h.jobs_in;
  cells_are = order_each d cs (IsCell new top) h.cells_are;
  deep = h.deep;
  deep_cells = λ e o. order_each d cs (λ c. depth new c ≤ e + levels) (h.deep_cells e o);
  values_are = λ xs w i q.
      let l : i < length cs = omega (arith, h.count_is) in
      ap (value new xs) (order_at d cs i l) ∙ ap (λ k. value new xs (get_or cs (place d k i) 0)) h.count_is ∙ h.values_are xs w (place d n i) (place_in d n i q);
}

-- ---- a number that is moved, and moved again

digit_mod : (m n y i : ℕ) → i < n → digit_at m (y % 2 ^ (m * n)) i ≡ digit_at m y i
digit_mod m n y i h =
    let w : ℕ = 2 ^ (m * n) in
    let d : y ≡ y % w + w * (y / w) = omega (arith, div-add-mod' y w) in
    sym (ap (λ x. digit_at m x i) d ∙ digit_under m n (y % w) (y / w) i h)

pub moved_digit : (d : Direction) (m n z s t i : ℕ) → z < 2 ^ (m * n) → i < n
    → digit_at m (moved d (moved d z s % 2 ^ (m * n)) t) i ≡ digit_at m (moved d z (s + t)) i
moved_digit Up m n z s t i h l =
    let w : ℕ = 2 ^ (m * n) in
    let p : z * 2 ^ s * 2 ^ t ≡ z * 2 ^ (s + t) = (let q : 2 ^ (s + t) ≡ 2 ^ s * 2 ^ t = pow-add 2 s t in let r : z * 2 ^ (s + t) ≡ z * (2 ^ s * 2 ^ t) = ap (λ x. z * x) q in omega arith) in
    sym (digit_mod m n (z * 2 ^ s % w * 2 ^ t) i l)
    ∙ ap (λ x. digit_at m x i) (mul-mod_first (z * 2 ^ s) (2 ^ t) w)
    ∙ digit_mod m n (z * 2 ^ s * 2 ^ t) i l ∙ ap (λ x. digit_at m x i) p
moved_digit Down m n z s t i h l =
    let w : ℕ = 2 ^ (m * n) in
    let b : z / 2 ^ s < w = omega (arith, div-le_self z (2 ^ s)) in
    ap (λ x. digit_at m (x / 2 ^ t) i) (mod-eq_of_lt b) ∙ ap (λ x. digit_at m x i) (shr-shr z s t)
