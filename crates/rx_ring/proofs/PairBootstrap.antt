-- The bootstrap by pairs, and the worst case of its noise.
use Rattle.std.proofs.Common.{◌≡◌, ℕ, zero, suc, ℤ, pos, ◌+ℤ◌, ◌*ℤ◌, ◌-ℤ◌, ◌+◌, ◌-◌, ◌<◌, ◌≤◌, refl, sym, ◌∙◌, ap, arith, ◌*◌, ◌/◌, ◌%◌, ◌^◌}
use Rattle.std.proofs.lemmas.Int.{ints}
use Rattle.std.proofs.lemmas.Nat.{mod_below}
use Rattle.rx_laws.specs.Sum.{sum_to}
use Rattle.rx_laws.specs.Torus.{word, distance}
use Rattle.rx_laws.specs.Lwe.{lwe_phase}
use Rattle.rx_laws.proofs.Lwe.{lwe_phase_is}
use Rattle.rx_laws.proofs.Sums.{sum_to-suc}
use Rattle.rx_ring.specs.Polynomial.{turns}
use Rattle.rx_ring.specs.Glwe.{glwe_phase, extracted, flat}
use Rattle.rx_ring.specs.Switch.{switched_by, switched_marks}
use Rattle.rx_ring.specs.Keys.{level_weight, IsBitKey, IsSwitch}
use Rattle.rx_ring.specs.Accumulator.{accumulator}
use Rattle.rx_ring.specs.Noise.{turn_bound, switch_bound, turns_so_far}
use Rattle.rx_ring.specs.Pairs.{pair_turn, pair_rotation, pair_chosen}
use Rattle.rx_ring.specs.PairLaws.{ArePairs, PairTurnLaws, PairBootstrapLaws}
use Rattle.rx_ring.proofs.KeySwitch.{extracted_phase}
use Rattle.rx_ring.proofs.BlindRotation.{rotation_noise}
use Rattle.rx_ring.proofs.Bootstrap.{index_near}
use Rattle.rx_ring.proofs.Pairs.{one_phase, pair_identity, pair_turn_near, pair_first_phase, pair_turns_near}

-- what the pairs choose is what their bits choose
pairs_sum : (bits a : ℕ → ℕ) (m : ℕ) → pos (turns_so_far (pair_chosen bits a) m) ≡ sum_to (2 * m) (λ i. pos (bits i) *ℤ pos (a i))
unfolding turns_so_far pair_chosen sum_to
pairs_sum bits a zero = refl
pairs_sum bits a (suc m) =
    let g : ℕ → ℤ = λ i. pos (bits i) *ℤ pos (a i) in
    let next : 2 * suc m ≡ suc (suc (2 * m)) = omega arith in
    let second : suc (2 * m) ≡ 2 * m + 1 = omega arith in
    let one : sum_to (suc (suc (2 * m))) g ≡ sum_to (suc (2 * m)) g +ℤ g (suc (2 * m)) = sum_to-suc (suc (2 * m)) g in
    let two : sum_to (suc (2 * m)) g ≡ sum_to (2 * m) g +ℤ g (2 * m) = sum_to-suc (2 * m) g in
    let made : pos (turns_so_far (pair_chosen bits a) m) +ℤ (g (2 * m) +ℤ g (2 * m + 1)) ≡ sum_to (suc (suc (2 * m))) g =
    omega (arith, ints, pairs_sum bits a m, one, two, ap g second) in
    made ∙ ap (λ k. sum_to k g) (sym next)

all_pairs : (bits a : ℕ → ℕ) (d : ℕ) → d % 2 ≡ 0 → pos (turns_so_far (pair_chosen bits a) (d / 2)) ≡ sum_to d (λ i. pos (bits i) *ℤ pos (a i))
all_pairs bits a d even =
    let whole : 2 * (d / 2) ≡ d = omega arith in
    pairs_sum bits a (d / 2) ∙ ap (λ k. sum_to k (λ i. pos (bits i) *ℤ pos (a i))) whole

pub pair_bootstrap_noise : (n k d pb pl kb kl p h e x unit within noise snoise : ℕ) (key : ℕ → ℕ → ℤ) (small table : ℕ → ℕ)
    (rows : ℕ → ℕ → ℕ → ℕ → ℕ → ℤ) (srows : ℕ → ℕ → ℕ → ℤ) (w : ℕ → ℤ) →
    0 < n → 0 < e → n ≡ p * (2 * h) → 2 * e * (2 * n) ≡ 2 ^ 64 → x < p → d % 2 ≡ 0 → 1 ≤ pb → pb * pl ≤ 63 → 1 ≤ kb → kb * kl ≤ 63 →
    IsBitKey n k key → ((i : ℕ) → i < d → small i ≤ 1) → ArePairs n k d pl noise (level_weight pb) key small rows →
    IsSwitch (k * n) d kl snoise (level_weight kb) (flat n key) (λ i. pos (small i)) srows →
    distance (lwe_phase (k * n) (flat n key) w -ℤ pos (2 * e * (2 * h * x))) ≤ within →
    within + switch_bound (k * n) kb kl snoise + (d + 1) * e < 2 * e * h →
    distance (lwe_phase (k * n) (flat n key) (extracted n k (pair_rotation n k pb pl d rows (switched_marks e (2 * n) (k * n) d kb kl srows w) (accumulator unit h p table))) -ℤ pos (unit * table x))
    ≤ d / 2 * turn_bound n k pb pl (6 * noise)
pair_bootstrap_noise n k d pb pl kb kl p h e x unit within noise snoise key small table rows srows w o oe box whole xp even b1 b2 k1 k2 bits smalls hides shides near room =
    let a : ℕ → ℕ = switched_marks e (2 * n) (k * n) d kb kl srows w in
    let first : ℕ → ℤ = turns n (accumulator unit h p table) (2 * n - a d) in
    let c : ℕ → ℕ → ℕ → ℤ = pair_turn n k pb pl rows a first in
    let f : ℕ → ℕ → ℤ = λ t. glwe_phase n k key (c t) in
    let step : ℕ = turn_bound n k pb pl (6 * noise) in
    let chosen : ℤ = sum_to d (λ i. pos (small i) *ℤ pos (a i)) in
    let index : distance (pos (2 * e) *ℤ (pos (a d) -ℤ chosen) -ℤ pos (2 * e * (2 * h * x))) < 2 * e * h =
    omega (
      arith,
      ap (λ z. distance (pos (2 * e) *ℤ z -ℤ pos (2 * e * (2 * h * x)))) (lwe_phase_is d (λ i. pos (small i)) (λ i. pos (a i))),
      index_near n k d kb kl e (2 * e * (2 * h * x)) snoise within key small srows w o oe whole k1 k2 bits smalls shides near,
    ) in
    let rotation : distance (f (d / 2) 0 -ℤ pos (unit * table x)) ≤ d / 2 * step =
    rotation_noise n (2 * e) h p x unit (d / 2) step (a d) table (pair_chosen small a) chosen f o box whole xp
    (mod_below ((word (switched_by (k * n) d kb kl srows w d) + e) / (2 * e)) (2 * n) (omega arith))
    (λ i q. pair_first_phase n k pb pl key rows a first i q) (all_pairs small a d even)
    (λ t i q r. pair_turn_near n k pb pl noise d key small rows a first t i q r b1 b2 bits smalls hides) index in
    omega (arith, rotation, ap (λ z. distance (z -ℤ pos (unit * table x))) (extracted_phase n k key (c (d / 2))))

pub pair_turn_laws : PairTurnLaws
pair_turn_laws = record {
  one = one_phase;
  identity = pair_identity;
  one_turn = λ n k base_log levels noise d key small rows amount f t i below p low fits bits ones are.
      pair_turn_near n k base_log levels noise d key small rows amount f t i below p low fits bits ones are;
  all_turns = λ n k base_log levels noise d key small rows amount f i p low fits bits ones are.
      pair_turns_near n k base_log levels noise d key small rows amount f i p low fits bits ones are;
}

pub pair_bootstrap_laws : PairBootstrapLaws
pair_bootstrap_laws = record { looks_up = pair_bootstrap_noise }
