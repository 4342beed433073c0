-- Round after round.
use Rattle.std.proofs.Common.{◌≡◌, ℕ, zero, suc, List, ◌<◌, ◌≤◌, ◌+◌, ◌-◌, ◌*◌, ◌%◌, ◌^◌, length, sym, ◌∙◌, ap, refl, arith, subst}
use Rattle.rx_net.specs.declared.net.Net.{Net}
use Rattle.rx_net.specs.Legal.{IsBounded}
use Rattle.rx_net.specs.Growth.{Extends}
use Rattle.rx_costs.specs.Rounds.{groups, rounds, round_jobs}
use Rattle.rx_costs.proofs.Groupings.{groups_some, groups_fewer, rounds_none, rounds_step, jobs_none, jobs_step}
use Rattle.rx_plan.specs.Values.{AreInputs, total}
use Rattle.rx_plan.specs.Planned.{Each, AreBlocks, Lays}
use Rattle.rx_plan.specs.Rows.{rows_number}
use Rattle.rx_plan.proofs.Kept.{within_now}
use Rattle.rx_plan.proofs.Planned.{planned_start, planned_lays, lays_then, lays_weaken}

pub record Reduced (old now : Net) (all cs : List ℕ) (w total count most : ℕ) : Type 0 where
  pub jobs : ℕ
  pub levels : ℕ
  pub planned : Lays old now cs (count * w) jobs levels (Each all)
  pub value_is : (xs : List ℕ) → AreInputs old xs → rows_number (2 ^ old.space) now cs w count xs % (2 ^ old.space) ^ w ≡ rows_number (2 ^ old.space) old all w total xs % (2 ^ old.space) ^ w
  pub levels_are : levels + rounds most count ≡ rounds most total
  pub jobs_are : jobs + levels + round_jobs w most count ≤ round_jobs w most total
  pub low : 2 ≤ count
  pub high : count ≤ total

pub reduced_start : (p : Net) (all : List ℕ) (w count most : ℕ) → IsBounded p → 3 ≤ count → length all ≡ count * w → AreBlocks p all → Reduced p p all all w count count most
reduced_start p all w count most b l s k = record {
  jobs = 0;
  levels = 0;
  planned = planned_lays p p all (λ _. 2 ^ p.space - 1) (count * w) 0 0 0 (Each all) _ (λ i q. omega arith) (omega arith) (planned_start p all (λ _. 2 ^ p.space - 1) (count * w) s b k);
  value_is = λ xs v. refl;
  levels_are = omega arith;
  jobs_are = omega arith;
  low = omega arith;
  high = omega arith;
}

groups_room : (q w : ℕ) → 1 ≤ w → q * (2 * w - 1) + q ≡ 2 * w * q
groups_room q zero h = absurd (omega arith)
groups_room q (suc v) h = let e : 2 * suc v - 1 ≡ 2 * v + 1 = omega arith in let f : q * (2 * suc v - 1) ≡ q * (2 * v + 1) = ap (λ x. q * x) e in omega arith

pub round_fits : (w most count : ℕ) → 5 ≤ most → 1 ≤ w → 2 < count → groups most count * (2 * w - 1) + 1 + round_jobs w most (2 * groups most count) ≤ round_jobs w most count
round_fits w most count h n l =
    omega (arith, groups_room (groups most count) w n, jobs_step w most count h l, groups_some most count (omega arith) (omega arith))

pub reduced_more : (old now new : Net) (all cs ds : List ℕ) (w total count next most : ℕ) → 5 ≤ most → 1 ≤ w → 2 < count → most ≡ 2 ^ old.space + 1 → next ≡ 2 * groups most count
    → Reduced old now all cs w total count most
    → Lays now new ds (2 * groups (2 ^ now.space + 1) count * w) (groups (2 ^ now.space + 1) count * (2 * w - 1)) 1 (Each cs)
    → ((xs : List ℕ) → AreInputs now xs → rows_number (2 ^ now.space) new ds w (2 * groups (2 ^ now.space + 1) count) xs % (2 ^ now.space) ^ w ≡ rows_number (2 ^ now.space) now cs w count xs % (2 ^ now.space) ^ w)
    → Reduced old new all ds w total next most
reduced_more old now new all cs ds w total count next most h n l m x r q v =
    let e : Extends old now = r.planned.extends in
    let mm : 2 ^ now.space + 1 ≡ most = ap (λ s. 2 ^ s + 1) e.space ∙ sym m in
    let q' : Lays now new ds (2 * groups most count * w) (groups most count * (2 * w - 1)) 1 (Each cs) =
    subst (λ (k : ℕ). Lays now new ds (2 * groups k count * w) (groups k count * (2 * w - 1)) 1 (Each cs)) mm q in
    let v' : (xs : List ℕ) → AreInputs now xs → rows_number (2 ^ now.space) new ds w (2 * groups most count) xs % (2 ^ now.space) ^ w ≡ rows_number (2 ^ now.space) now cs w count xs % (2 ^ now.space) ^ w =
    subst (λ (k : ℕ). (xs : List ℕ) → AreInputs now xs → rows_number (2 ^ now.space) new ds w (2 * groups k count) xs % (2 ^ now.space) ^ w ≡ rows_number (2 ^ now.space) now cs w count xs % (2 ^ now.space) ^ w) mm v in
    let v'' : (xs : List ℕ) → AreInputs now xs → rows_number (2 ^ old.space) new ds w (2 * groups most count) xs % (2 ^ old.space) ^ w ≡ rows_number (2 ^ old.space) now cs w count xs % (2 ^ old.space) ^ w =
    subst (λ (s : ℕ). (xs : List ℕ) → AreInputs now xs → rows_number (2 ^ s) new ds w (2 * groups most count) xs % (2 ^ s) ^ w ≡ rows_number (2 ^ s) now cs w count xs % (2 ^ s) ^ w) e.space v' in
    let c : 2 * groups most count * w ≡ next * w = sym (ap (λ k. k * w) x) in
    let f = round_fits w most count h n l in
    let rs : rounds most count ≡ 1 + rounds most (2 * groups most count) = rounds_step most count h l in
    let rn : rounds most next ≡ rounds most (2 * groups most count) = ap (rounds most) x in
    let jn : round_jobs w most next ≡ round_jobs w most (2 * groups most count) = ap (round_jobs w most) x in
    let gs : 1 ≤ groups most count = groups_some most count (omega arith) (omega arith) in
    let gf : 2 * groups most count < count = groups_fewer most count h l in
    record {
      jobs = r.jobs + groups most count * (2 * w - 1);
      levels = r.levels + 1;
      planned =
          lays_weaken old new ds (2 * groups most count * w) (next * w) (r.jobs + groups most count * (2 * w - 1)) (r.jobs + groups most count * (2 * w - 1)) (r.levels + 1) (r.levels + 1) (Each all) c (omega arith) (omega arith)
          (lays_then old now new cs ds (count * w) (2 * groups most count * w) r.jobs (groups most count * (2 * w - 1)) r.levels 1 (Each all) r.planned q');
      value_is = λ xs i. ap (λ k. rows_number (2 ^ old.space) new ds w k xs % (2 ^ old.space) ^ w) x ∙ v'' xs (within_now old now e xs i) ∙ r.value_is xs i;
      levels_are = omega (arith, r.levels_are);
      jobs_are = omega (arith, r.jobs_are);
      low = omega arith;
      high = omega (arith, r.high);
    }

pub reduced_end : (old now : Net) (all cs : List ℕ) (w total count most : ℕ) → count ≤ 2 → most ≡ 2 ^ old.space + 1 → Reduced old now all cs w total count most
    → Lays old now cs (2 * w) (round_jobs w (2 ^ old.space + 1) total - rounds (2 ^ old.space + 1) total) (rounds (2 ^ old.space + 1) total) (Each all)
reduced_end old now all cs w total count most l m r =
    let two : count ≡ 2 = omega (arith, r.low) in
    let z : rounds most count ≡ 0 = rounds_none most count l in
    let y : round_jobs w most count ≡ 0 = jobs_none w most count l in
    subst (λ (k : ℕ). Lays old now cs (2 * w) (round_jobs w k total - rounds k total) (rounds k total) (Each all)) m
    (lays_weaken old now cs (count * w) (2 * w) r.jobs (round_jobs w most total - rounds most total) r.levels (rounds most total) (Each all) (ap (λ k. k * w) two)
    (omega (arith, r.levels_are, r.jobs_are)) (omega (arith, r.levels_are)) r.planned)

pub reduced_number : (old now : Net) (all cs : List ℕ) (w total count most : ℕ) → count ≤ 2 → Reduced old now all cs w total count most
    → (xs : List ℕ) → AreInputs old xs → rows_number (2 ^ old.space) now cs w 2 xs % (2 ^ old.space) ^ w ≡ rows_number (2 ^ old.space) old all w total xs % (2 ^ old.space) ^ w
reduced_number old now all cs w total count most l r xs v =
    let two : 2 ≡ count = omega (arith, r.low) in
    ap (λ k. rows_number (2 ^ old.space) now cs w k xs % (2 ^ old.space) ^ w) two ∙ r.value_is xs v
