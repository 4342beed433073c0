-- Groups of terms, and the rounds that bring them down to two.
use Rattle.std.proofs.Common.{◌≡◌, ℕ, zero, suc, ◌+◌, ◌-◌, ◌*◌, ◌<◌, ◌≤◌, refl, sym, ◌∙◌, ap, arith, cond, nat_lt, inl, inr}
use Rattle.std.proofs.lemmas.Bool.{cases_lt, lt-ltb, le-ltb}
use Rattle.std.proofs.lemmas.Nat.{mul-le}
use Rattle.std.proofs.lemmas.Grind.{div_ceil_times}
use Rattle.rx_costs.specs.Rounds.{groups, rounds_in, rounds, round_jobs_in, round_jobs}

-- enough groups, and no more
pub groups_hold : (most count : ℕ) → 1 ≤ most → count ≤ groups most count * most
unfolding groups
groups_hold most count h = (div_ceil_times count most h).0

pub groups_needed : (most count : ℕ) → 1 ≤ most → groups most count * most < count + most
unfolding groups
groups_needed most count h = (div_ceil_times count most h).1

pub groups_some : (most count : ℕ) → 1 ≤ most → 1 ≤ count → 1 ≤ groups most count
groups_some most count h k =
    let a : count ≤ groups most count * most = groups_hold most count h in
    elim (cases_lt (groups most count) 1) [
      | inl l ↦ let z : groups most count ≡ 0 = omega arith in let m : groups most count * most ≡ 0 * most = ap (λ x. x * most) z in absurd (omega arith)
      | inr l ↦ l
    ]

-- three terms and more become fewer
pub groups_fewer : (most count : ℕ) → 5 ≤ most → 2 < count → 2 * groups most count < count
groups_fewer most count h k =
    let q : ℕ = groups most count in
    let t : q * most < count + most = groups_needed most count (omega arith) in
    let some : 1 ≤ q = groups_some most count (omega arith) (omega arith) in
    let m : (q - 1) * 5 ≤ (q - 1) * most = mul-le (q - 1) 5 (q - 1) most (omega arith) h in
    let e : (q - 1) * most + most ≡ q * most = (let s : suc (q - 1) ≡ q = omega arith in let r : suc (q - 1) * most ≡ q * most = ap (λ x. x * most) s in omega arith) in
    omega arith

-- a group begins at a term
pub group_start : (most count i : ℕ) → 1 ≤ most → i < groups most count → i * most < count
group_start most count i h k =
    let q : ℕ = groups most count in
    let t : q * most < count + most = groups_needed most count h in
    let m : (i + 1) * most ≤ q * most = mul-le (i + 1) most q most (omega arith) (omega arith) in
    omega arith

rounds_same : (most m n count : ℕ) → 5 ≤ most → count ≤ m → count ≤ n → rounds_in m most count ≡ rounds_in n most count
unfolding rounds_in
rounds_same most zero zero c h p q = refl
rounds_same most zero (suc n) c h p q = sym (ap (λ b. cond b (1 + rounds_in n most (2 * groups most c)) 0) (le-ltb 2 c (omega arith)))
rounds_same most (suc m) zero c h p q = ap (λ b. cond b (1 + rounds_in m most (2 * groups most c)) 0) (le-ltb 2 c (omega arith))
rounds_same most (suc m) (suc n) c h p q =
    elim (cases_lt 2 c) as (λ _. cond (nat_lt 2 c) (1 + rounds_in m most (2 * groups most c)) 0 ≡ cond (nat_lt 2 c) (1 + rounds_in n most (2 * groups most c)) 0) [
      | inl l ↦
          let f : 2 * groups most c < c = groups_fewer most c h l in
          ap (λ x. cond (nat_lt 2 c) (1 + x) 0) (rounds_same most m n (2 * groups most c) h (omega arith) (omega arith))
      | inr l ↦ ap (λ b. cond b (1 + rounds_in m most (2 * groups most c)) 0) (le-ltb 2 c l) ∙ sym (ap (λ b. cond b (1 + rounds_in n most (2 * groups most c)) 0) (le-ltb 2 c l))
    ]

pub rounds_none : (most count : ℕ) → count ≤ 2 → rounds most count ≡ 0
unfolding rounds rounds_in
rounds_none most zero h = refl
rounds_none most (suc c) h = ap (λ b. cond b (1 + rounds_in c most (2 * groups most (suc c))) 0) (le-ltb 2 (suc c) h)

pub rounds_step : (most count : ℕ) → 5 ≤ most → 2 < count → rounds most count ≡ 1 + rounds most (2 * groups most count)
unfolding rounds rounds_in
rounds_step most zero h k = absurd (omega arith)
rounds_step most (suc c) h k =
    let f : 2 * groups most (suc c) < suc c = groups_fewer most (suc c) h k in
    ap (λ b. cond b (1 + rounds_in c most (2 * groups most (suc c))) 0) (lt-ltb 2 (suc c) k)
    ∙ ap (λ x. 1 + x) (rounds_same most c (2 * groups most (suc c)) (2 * groups most (suc c)) h (omega arith) (omega arith))

jobs_same : (columns most m n count : ℕ) → 5 ≤ most → count ≤ m → count ≤ n → round_jobs_in m columns most count ≡ round_jobs_in n columns most count
unfolding round_jobs_in
jobs_same w most zero zero c h p q = refl
jobs_same w most zero (suc n) c h p q = sym (ap (λ b. cond b (2 * w * groups most c + round_jobs_in n w most (2 * groups most c)) 0) (le-ltb 2 c (omega arith)))
jobs_same w most (suc m) zero c h p q = ap (λ b. cond b (2 * w * groups most c + round_jobs_in m w most (2 * groups most c)) 0) (le-ltb 2 c (omega arith))
jobs_same w most (suc m) (suc n) c h p q =
    elim (cases_lt 2 c) as (λ _. cond (nat_lt 2 c) (2 * w * groups most c + round_jobs_in m w most (2 * groups most c)) 0 ≡ cond (nat_lt 2 c) (2 * w * groups most c + round_jobs_in n w most (2 * groups most c)) 0) [
      | inl l ↦
          let f : 2 * groups most c < c = groups_fewer most c h l in
          ap (λ x. cond (nat_lt 2 c) (2 * w * groups most c + x) 0) (jobs_same w most m n (2 * groups most c) h (omega arith) (omega arith))
      | inr l ↦ ap (λ b. cond b (2 * w * groups most c + round_jobs_in m w most (2 * groups most c)) 0) (le-ltb 2 c l) ∙ sym (ap (λ b. cond b (2 * w * groups most c + round_jobs_in n w most (2 * groups most c)) 0) (le-ltb 2 c l))
    ]

pub jobs_none : (columns most count : ℕ) → count ≤ 2 → round_jobs columns most count ≡ 0
unfolding round_jobs round_jobs_in
jobs_none w most zero h = refl
jobs_none w most (suc c) h = ap (λ b. cond b (2 * w * groups most (suc c) + round_jobs_in c w most (2 * groups most (suc c))) 0) (le-ltb 2 (suc c) h)

pub jobs_step : (columns most count : ℕ) → 5 ≤ most → 2 < count → round_jobs columns most count ≡ 2 * columns * groups most count + round_jobs columns most (2 * groups most count)
unfolding round_jobs round_jobs_in
jobs_step w most zero h k = absurd (omega arith)
jobs_step w most (suc c) h k =
    let f : 2 * groups most (suc c) < suc c = groups_fewer most (suc c) h k in
    ap (λ b. cond b (2 * w * groups most (suc c) + round_jobs_in c w most (2 * groups most (suc c))) 0) (lt-ltb 2 (suc c) k)
    ∙ ap (λ x. 2 * w * groups most (suc c) + x) (jobs_same w most c (2 * groups most (suc c)) (2 * groups most (suc c)) h (omega arith) (omega arith))

-- each round has a job to spare
few_in : (f columns most count : ℕ) → 5 ≤ most → 1 ≤ columns → count ≤ f → rounds most count ≤ round_jobs columns most count
few_in zero w most c h n l = omega (arith, rounds_none most c (omega arith))
few_in (suc f) w most c h n l =
    elim (cases_lt 2 c) [
      | inl k ↦
          let g : 1 ≤ groups most c = groups_some most c (omega arith) (omega arith) in
          let m : 1 * 1 ≤ w * groups most c = mul-le 1 1 w (groups most c) n g in
          let e : 2 * w * groups most c ≡ 2 * (w * groups most c) = omega arith in
          let i : rounds most (2 * groups most c) ≤ round_jobs w most (2 * groups most c) = few_in f w most (2 * groups most c) h n (omega (arith, groups_fewer most c h k)) in
          omega (arith, rounds_step most c h k, jobs_step w most c h k)
      | inr k ↦ omega (arith, rounds_none most c k)
    ]

pub rounds_few : (columns most count : ℕ) → 5 ≤ most → 1 ≤ columns → rounds most count ≤ round_jobs columns most count
rounds_few w most c h n = few_in c w most c h n (omega arith)
