-- The parts of two blocks beside one another make the digit between them.
use Rattle.std.proofs.Common.{◌≡◌, ◌^◌, ℕ, Bool, true, false, zero, suc, ◌+◌, ◌-◌, ◌*◌, ◌/◌, ◌%◌, ◌<◌, ◌≤◌, ◌⊎◌, inl, inr, refl, sym, ◌∙◌, ap, arith, subst, cond, pow-add}
use Rattle.std.specs.Prelude.{◌==◌}
use Rattle.std.proofs.lemmas.Bool.{cases_lt, eq-eqb, ne_eqb}
use Rattle.std.proofs.lemmas.Nat.{mul-le, pow_pos, mod_below, div_below, div-mul-add, mod-mul-add, div-add-mod', shr-shr}
use Rattle.std.proofs.Math.Nat.{add-mul-div_right, mod-eq_of_lt, div-eq_of_lt, div-le_self, mul-mod_left}
use Rattle.rx_params.specs.Kinds.{digit_at}
use Rattle.rx_plan.specs.Rows.{shifted}
use Rattle.rx_plan.proofs.Held.{digit_below, digit_past}
use Rattle.rx_plan.proofs.RowLaws.{shifted_low, shifted_high}
use Rattle.rx_plan.proofs.RowCells.{shifted_same}
use Rattle.rx_bits.specs.Signs.{between}
use Rattle.rx_bits.proofs.Digits.{digit_between, lowered_at}
use Rattle.rx_bits.proofs.SignLaws.{raised_low, raised_high}
use Rattle.rx_cmp.specs.Selection.{kept_entry}
use Rattle.rx_cmp.proofs.Chosen.{kept_le}
use Rattle.rx_shift.specs.declared.direction.Direction.{Direction}
use Rattle.rx_shift.specs.declared.direction.Direction.TheVariants.{Up, Down}
use Rattle.rx_shift.specs.Shifts.{moved, opposite, place, part, part_entry, Comes}

-- what is left of a multiple of s modulo s * t is a multiple of s
rest_multiple : (s t x : ℕ) → 0 < s → 0 < t → x * s % (s * t) ≡ (x % t) * s
rest_multiple s t x p q =
    let d : x / t * t + x % t ≡ x = div-add-mod' x t in
    let b : x % t < t = mod_below x t q in
    let l : x % t * s < s * t = (let m : suc (x % t) * s ≤ t * s = mul-le (suc (x % t)) s t s b (omega arith) in omega arith) in
    let e : x * s ≡ x / t * (s * t) + x % t * s = ap (λ y. y * s) (sym d) ∙ (omega arith) in
    ap (λ y. y % (s * t)) e ∙ mod-mul-add (x / t) (s * t) (x % t * s) l

-- At most one of the parts has a bit at each place: their sum is the digit that stands s bits above the lower block.
pub parts_fit : (m s high low : ℕ) → s ≤ m → low < 2 ^ m → high * 2 ^ (m - s) % 2 ^ m + low / 2 ^ s ≡ between m s high low
parts_fit m s high low h l =
    let t : ℕ = 2 ^ s in
    let k : ℕ = 2 ^ (m - s) in
    let e : m ≡ m - s + s = omega arith in
    let u : 2 ^ m ≡ k * t = ap (λ x. 2 ^ x) e ∙ pow-add 2 (m - s) s in
    let zk : 0 < k = pow_pos (m - s) in
    let zt : 0 < t = pow_pos s in
    let r : high * k % 2 ^ m ≡ high % t * k = ap (λ x. high * k % x) u ∙ rest_multiple k t high zk zt in
    let lo : low / t < k = div_below low t k zt (omega arith) in
    let d : high / t * t + high % t ≡ high = div-add-mod' high t in
    let b : high % t < t = mod_below high t zt in
    let uh : 2 ^ m * high ≡ k * t * high = ap (λ x. x * high) u in
    let a : 2 ^ m * high + low ≡ low + high * k * t = omega arith in
    let dk : (high / t * t + high % t) * k ≡ high * k = ap (λ x. x * k) d in
    let c : low / t + high * k ≡ high / t * (k * t) + (high % t * k + low / t) = omega arith in
    let mk : suc (high % t) * k ≤ t * k = mul-le (suc (high % t)) k t k b (omega arith) in
    let small : high % t * k + low / t < k * t = omega arith in
    ap (λ x. x + low / t) r
    ∙ sym (ap (λ x. x / t % 2 ^ m) a ∙ ap (λ x. x % 2 ^ m) (add-mul-div_right low (high * k) zt) ∙ ap (λ x. (low / t + high * k) % x) u
    ∙ ap (λ x. x % (k * t)) c ∙ mod-mul-add (high / t) (k * t) (high % t * k + low / t) small)

-- ---- the parts that come in at a place

pub part_zero : (d : Direction) (m bits : ℕ) → part d (2 ^ m) bits 0 ≡ 0
part_zero Up m bits = let e : 0 * 2 ^ bits ≡ 0 = omega arith in ap (λ x. x % 2 ^ m) e ∙ mod-eq_of_lt (pow_pos m)
part_zero Down m bits = div-eq_of_lt (pow_pos bits)

pub part_below : (d : Direction) (u bits x : ℕ) → x < u → part d u bits x < u
part_below Up u bits x h = mod_below (x * 2 ^ bits) u (omega arith)
part_below Down u bits x h = omega (arith, div-le_self x (2 ^ bits))

-- all of a block goes
part_whole : (d : Direction) (m bits x : ℕ) → bits ≡ m → x < 2 ^ m → part d (2 ^ m) bits x ≡ 0
part_whole Up m bits x e h = ap (λ b. x * 2 ^ b % 2 ^ m) e ∙ mul-mod_left x (2 ^ m)
part_whole Down m bits x e h = ap (λ b. x / 2 ^ b) e ∙ div-eq_of_lt h

far_low : (n q r beyond : ℕ) (g : ℕ → ℕ) (i : ℕ) → Comes n q r beyond → i < n → i < q + 1 → shifted beyond g i ≡ 0
far_low n q r beyond g i h l k =
    elim h [
      | inl e ↦ shifted_low beyond g i (omega arith)
      | inr e ↦ shifted_low beyond g i (omega (arith, e.1))
    ]

far_high : (d : Direction) (m n q r beyond : ℕ) (f : ℕ → ℕ) (i : ℕ) → Comes n q r beyond → i < n → q + 1 ≤ i → f (i - (q + 1)) < 2 ^ m
    → shifted beyond (λ k. part d (2 ^ m) (m - r) (f k)) i ≡ part d (2 ^ m) (m - r) (f (i - (q + 1)))
far_high d m n q r beyond f i h l k b =
    let g : ℕ → ℕ = λ k. part d (2 ^ m) (m - r) (f k) in
    elim h [
      | inl e ↦ shifted_high beyond g i (omega arith) ∙ ap (λ x. g (i - x)) e
      | inr e ↦
          let z : m - r ≡ m = (let r0 : r ≡ 0 = e.0 in omega arith) in
          shifted_low beyond g i (omega (arith, e.1)) ∙ sym (part_whole d m (m - r) (f (i - (q + 1))) z b)
    ]

-- the digit of a number that is moved down stands between two digits
lowered_between : (m q r z p : ℕ) → r ≤ m → digit_at m (z / 2 ^ (m * q + r)) p ≡ between m r (digit_at m z (suc (p + q))) (digit_at m z (p + q))
lowered_between m q r z p h =
    let e : m * q + r + m * p ≡ m * (p + q) + r = omega arith in
    lowered_at m (m * q + r) z p ∙ ap (λ k. z / 2 ^ k % 2 ^ m) e ∙ digit_between m r z (p + q) h

-- The parts that come in at a place make the digit of the number that is moved.
pub moved_parts : (d : Direction) (m n q r beyond z : ℕ) (f : ℕ → ℕ) (i : ℕ) → r ≤ m → i < n → z < 2 ^ (m * n)
    → ((k : ℕ) → k < n → f k ≡ digit_at m z (place d n k)) → Comes n q r beyond
    → shifted q (λ k. part d (2 ^ m) r (f k)) i + shifted beyond (λ k. part (opposite d) (2 ^ m) (m - r) (f k)) i
    ≡ digit_at m (moved d z (m * q + r)) (place d n i)
moved_parts Up m n q r beyond z f i rm l zs fs h =
    let u : ℕ = 2 ^ m in
    let near : ℕ → ℕ = λ k. part Up u r (f k) in
    let far : ℕ → ℕ = λ k. part Down u (m - r) (f k) in
    elim (cases_lt i q) [
      | inl a ↦
          let x : shifted q near i ≡ 0 = shifted_low q near i a in
          let y : shifted beyond far i ≡ 0 = far_low n q r beyond far i h l (omega arith) in
          let t : shifted q near i + shifted beyond far i ≡ 0 = omega arith in
          t ∙ sym (raised_low m q r z i a)
      | inr a ↦
          elim (cases_lt i (q + 1)) [
            | inl b ↦
                let o : i - q ≡ 0 = omega arith in
                let p : q + 0 ≡ i = omega arith in
                let x : shifted q near i ≡ digit_at m z 0 * 2 ^ r % u = shifted_high q near i a ∙ ap near o ∙ ap (λ y. y * 2 ^ r % u) (fs 0 (omega arith)) in
                let y : shifted beyond far i ≡ 0 = far_low n q r beyond far i h l b in
                let t : shifted q near i + shifted beyond far i ≡ digit_at m z 0 * 2 ^ r % u = omega arith in
                t ∙ sym (raised_high m q r z 0 rm) ∙ ap (digit_at m (z * 2 ^ (m * q + r))) p
            | inr b ↦
                let j : ℕ = i - (q + 1) in
                let o : i - q ≡ suc j = omega arith in
                let p : q + suc j ≡ i = omega arith in
                let back : m - (m - r) ≡ r = omega arith in
                let high : ℕ = digit_at m z (suc j) in
                let low : ℕ = digit_at m z j in
                let fj : f j ≡ low = fs j (omega arith) in
                let fb : f j < u = (let db : low < u = digit_below m z j in omega arith) in
                let x : shifted q near i ≡ high * 2 ^ r % u = shifted_high q near i a ∙ ap near o ∙ ap (λ y. y * 2 ^ r % u) (fs (suc j) (omega arith)) in
                let y : shifted beyond far i ≡ low / 2 ^ (m - r) = far_high Down m n q r beyond f i h l b fb ∙ ap (λ x. x / 2 ^ (m - r)) fj in
                ap (λ v. v + shifted beyond far i) x ∙ ap (λ v. high * 2 ^ r % u + v) y
                ∙ ap (λ k. high * 2 ^ k % u + low / 2 ^ (m - r)) (sym back)
                ∙ parts_fit m (m - r) high low (omega arith) (digit_below m z j)
                ∙ sym (raised_high m q r z (suc j) rm) ∙ ap (digit_at m (z * 2 ^ (m * q + r))) p
          ]
    ]
moved_parts Down m n q r beyond z f i rm l zs fs h =
    let u : ℕ = 2 ^ m in
    let near : ℕ → ℕ = λ k. part Down u r (f k) in
    let far : ℕ → ℕ = λ k. part Up u (m - r) (f k) in
    let p : ℕ = n - 1 - i in
    let high : ℕ = digit_at m z (suc (p + q)) in
    let low : ℕ = digit_at m z (p + q) in
    let whole : high * 2 ^ (m - r) % u + low / 2 ^ r ≡ digit_at m (z / 2 ^ (m * q + r)) p =
    parts_fit m r high low rm (digit_below m z (p + q)) ∙ sym (lowered_between m q r z p rm) in
    elim (cases_lt i q) [
      | inl a ↦
          let x : shifted q near i ≡ 0 = shifted_low q near i a in
          let y : shifted beyond far i ≡ 0 = far_low n q r beyond far i h l (omega arith) in
          let hz : high ≡ 0 = digit_past m n z (suc (p + q)) zs (omega arith) in
          let lz : low ≡ 0 = digit_past m n z (p + q) zs (omega arith) in
          let v : high * 2 ^ (m - r) % u ≡ 0 = ap (λ y. y * 2 ^ (m - r) % u) hz ∙ part_zero Up m (m - r) in
          let w : low / 2 ^ r ≡ 0 = ap (λ y. y / 2 ^ r) lz ∙ part_zero Down m r in
          let t : shifted q near i + shifted beyond far i ≡ high * 2 ^ (m - r) % u + low / 2 ^ r = omega arith in
          t ∙ whole
      | inr a ↦
          let o : n - 1 - (i - q) ≡ p + q = omega arith in
          let x : shifted q near i ≡ low / 2 ^ r = shifted_high q near i a ∙ ap (λ y. y / 2 ^ r) (fs (i - q) (omega arith) ∙ ap (digit_at m z) o) in
          elim (cases_lt i (q + 1)) [
            | inl b ↦
                let y : shifted beyond far i ≡ 0 = far_low n q r beyond far i h l b in
                let hz : high ≡ 0 = digit_past m n z (suc (p + q)) zs (omega arith) in
                let v : high * 2 ^ (m - r) % u ≡ 0 = ap (λ y. y * 2 ^ (m - r) % u) hz ∙ part_zero Up m (m - r) in
                let t : shifted q near i + shifted beyond far i ≡ high * 2 ^ (m - r) % u + low / 2 ^ r = omega arith in
                t ∙ whole
            | inr b ↦
                let j : ℕ = i - (q + 1) in
                let o2 : n - 1 - j ≡ suc (p + q) = omega arith in
                let fj : f j ≡ high = fs j (omega arith) ∙ ap (digit_at m z) o2 in
                let fb : f j < u = (let db : high < u = digit_below m z (suc (p + q)) in omega arith) in
                let y : shifted beyond far i ≡ high * 2 ^ (m - r) % u = far_high Up m n q r beyond f i h l b fb ∙ ap (λ x. x * 2 ^ (m - r) % u) fj in
                let t : shifted q near i + shifted beyond far i ≡ high * 2 ^ (m - r) % u + low / 2 ^ r = omega arith in
                t ∙ whole
          ]
    ]

-- ---- what the tables say

pub kept_at : (w u c x : ℕ) → x < u → kept_entry w u (u * c + x) ≡ cond (c == w) x 0
kept_at w u c x h =
    let e : u * c + x ≡ c * u + x = omega arith in
    ap (kept_entry w u) e ∙ ap (λ q. cond (q == w) ((c * u + x) % u) 0) (div-mul-add c u x h) ∙ ap (λ r. cond (c == w) r 0) (mod-mul-add c u x h)

pub kept_yes : (w u c x : ℕ) → x < u → c ≡ w → kept_entry w u (u * c + x) ≡ x
kept_yes w u c x h e = kept_at w u c x h ∙ ap (λ b. cond b x 0) (eq-eqb c w e)

pub kept_no : (w u c x : ℕ) → x < u → (c ≡ w → ⊥) → kept_entry w u (u * c + x) ≡ 0
kept_no w u c x h n = kept_at w u c x h ∙ ap (λ b. cond b x 0) (ne_eqb c w n)

pub moved_none : (d : Direction) (z : ℕ) → moved d z 0 ≡ z
moved_none Up z = omega arith
moved_none Down z = omega arith

all_zero : (s : ℕ) (g : ℕ → ℕ) (i : ℕ) → g (i - s) ≡ 0 → shifted s g i ≡ 0
all_zero s g i h = elim (cases_lt i s) [ inl l ↦ shifted_low s g i l | inr l ↦ shifted_high s g i l ∙ h ]

-- the three sources of a place, by the bit c
abbrev pub staged : Direction → ℕ → ℕ → ℕ → ℕ → ℕ → (ℕ → ℕ) → ℕ → ℕ
staged d m q r beyond c f i =
    shifted 0 (λ k. kept_entry 0 (2 ^ m) (2 ^ m * c + f k)) i + shifted q (λ k. part_entry d (2 ^ m) r (2 ^ m * c + f k)) i
    + shifted beyond (λ k. part_entry (opposite d) (2 ^ m) (m - r) (2 ^ m * c + f k)) i

-- their sum is the digit of the number that is moved where the bit is 1
pub staged_is : (d : Direction) (m n q r beyond distance z c : ℕ) (f : ℕ → ℕ) (i : ℕ) → r ≤ m → i < n → z < 2 ^ (m * n) → c ≤ 1
    → distance ≡ m * q + r → ((k : ℕ) → k < n → f k ≡ digit_at m z (place d n k)) → Comes n q r beyond
    → staged d m q r beyond c f i ≡ digit_at m (moved d z (c * distance)) (place d n i)
staged_is d m n q r beyond distance z zero f i rm l zs cs e fs h =
    let u : ℕ = 2 ^ m in
    let b : (k : ℕ) → k < n → f k < u = λ (k : ℕ) g. (let x : f k ≡ digit_at m z (place d n k) = fs k g in let y : digit_at m z (place d n k) < u = digit_below m z (place d n k) in omega arith) in
    let o : i - 0 ≡ i = omega arith in
    let none : 0 * distance ≡ 0 = omega arith in
    let a1 : shifted 0 (λ k. kept_entry 0 u (u * 0 + f k)) i ≡ f i = shifted_high 0 (λ k. kept_entry 0 u (u * 0 + f k)) i (omega arith) ∙ kept_yes 0 u 0 (f (i - 0)) (b (i - 0) (omega arith)) refl ∙ ap f o in
    let near : ℕ → ℕ = λ k. part_entry d u r (u * 0 + f k) in
    let far : ℕ → ℕ = λ k. part_entry (opposite d) u (m - r) (u * 0 + f k) in
    let a2 : shifted q near i ≡ 0 = all_zero q near i (ap (part d u r) (kept_no 1 u 0 (f (i - q)) (b (i - q) (omega arith)) (λ x. absurd (omega arith))) ∙ part_zero d m r) in
    let a3 : shifted beyond far i ≡ 0 = all_zero beyond far i (ap (part (opposite d) u (m - r)) (kept_no 1 u 0 (f (i - beyond)) (b (i - beyond) (omega arith)) (λ x. absurd (omega arith))) ∙ part_zero (opposite d) m (m - r)) in
    let t : staged d m q r beyond 0 f i ≡ f i = omega arith in
    t ∙ fs i l ∙ ap (λ y. digit_at m y (place d n i)) (sym (ap (moved d z) none ∙ moved_none d z))
staged_is d m n q r beyond distance z (suc zero) f i rm l zs cs e fs h =
    let u : ℕ = 2 ^ m in
    let b : (k : ℕ) → k < n → f k < u = λ (k : ℕ) g. (let x : f k ≡ digit_at m z (place d n k) = fs k g in let y : digit_at m z (place d n k) < u = digit_below m z (place d n k) in omega arith) in
    let one : 1 * distance ≡ m * q + r = omega arith in
    let keep : ℕ → ℕ = λ k. kept_entry 0 u (u * 1 + f k) in
    let a1 : shifted 0 keep i ≡ 0 = all_zero 0 keep i (kept_no 0 u 1 (f (i - 0)) (b (i - 0) (omega arith)) (λ x. absurd (omega arith))) in
    let near : ℕ → ℕ = λ k. part_entry d u r (u * 1 + f k) in
    let far : ℕ → ℕ = λ k. part_entry (opposite d) u (m - r) (u * 1 + f k) in
    let a2 : shifted q near i ≡ shifted q (λ k. part d u r (f k)) i = shifted_same q near (λ k. part d u r (f k)) i (ap (part d u r) (kept_yes 1 u 1 (f (i - q)) (b (i - q) (omega arith)) refl)) in
    let a3 : shifted beyond far i ≡ shifted beyond (λ k. part (opposite d) u (m - r) (f k)) i =
    shifted_same beyond far (λ k. part (opposite d) u (m - r) (f k)) i (ap (part (opposite d) u (m - r)) (kept_yes 1 u 1 (f (i - beyond)) (b (i - beyond) (omega arith)) refl)) in
    let t : staged d m q r beyond 1 f i ≡ shifted q (λ k. part d u r (f k)) i + shifted beyond (λ k. part (opposite d) u (m - r) (f k)) i = omega arith in
    t ∙ moved_parts d m n q r beyond z f i rm l zs fs h ∙ ap (λ k. digit_at m (moved d z k) (place d n i)) (sym one)
staged_is d m n q r beyond distance z (suc (suc c)) f i rm l zs cs e fs h = absurd (omega arith)

-- ---- entries are blocks

pub kept_below : (w u i : ℕ) → 0 < u → kept_entry w u i < u
kept_below w u i h = omega (arith, kept_le w u i h)

pub entry_below : (d : Direction) (u bits i : ℕ) → 0 < u → part_entry d u bits i < u
entry_below d u bits i h = part_below d u bits (kept_entry 1 u i) (kept_below 1 u i h)

pub comes_some : (n q r beyond : ℕ) → 1 ≤ n → Comes n q r beyond → 1 ≤ beyond
comes_some n q r beyond s h = elim h [ inl e ↦ omega arith | inr e ↦ omega (arith, e.1) ]
