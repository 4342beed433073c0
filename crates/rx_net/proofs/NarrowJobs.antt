-- The numbers of a legal net's jobs fit the types that hold them.
use Rattle.std.proofs.Common.{◌≡◌, ℕ, ℤ, pos, negsuc, zero, suc, ◌+◌, ◌-◌, ◌*◌, ◌<◌, ◌≤◌, ◌^◌, ◌⊎◌, inl, inr, ◌≤ℤ◌, ◌<ℤ◌, ◌*ℤ◌, List, [], ◌∷◌, ◌++◌, length, get_or, replicate, sym, ◌∙◌, arith, subst, length-append}
use Rattle.std.specs.Prelude.{◌&&◌, not, nat_le, IsTrue}
use Rattle.std.specs.List.{AllByRecursion}
use Rattle.std.specs.Int.{w8, w16}
use Rattle.std.specs.Int.RustNames.{FitsSigned, unsigned_abs}
use Rattle.std.proofs.lemmas.Bool.{cases_lt, and_parts}
use Rattle.std.proofs.lemmas.Int.{ints, fits_signed_from_abs}
use Rattle.std.proofs.lemmas.List.{get_or_append_left, get_or-append_right, length-replicate, get_or-replicate}
use Rattle.rx_laws.specs.Decode.{plaintexts}
use Rattle.rx_params.specs.Derived.{noise_limit}
use Rattle.rx_params.specs.Kinds.{greatest, block_count, is_form}
use Rattle.rx_net.specs.declared.term.Term.{Term}
use Rattle.rx_net.specs.declared.net.Job.{Job}
use Rattle.rx_net.specs.declared.net.NetInput.{NetInput}
use Rattle.rx_net.specs.declared.net.Net.{Net}
use Rattle.rx_net.specs.Tags.{negative_part, positive_part, low_of, high_of, noise_of}
use Rattle.rx_net.specs.Cells.{input_cells, given, degrees_after, noises_after}
use Rattle.rx_net.specs.Legal.{InTurn, has_input_tags, names_input, is_input, IsJob, Legal}
use Rattle.rx_net.specs.Narrow.{IsNarrow}
use Rattle.rx_net.proofs.Each.{all_map}
use Rattle.rx_net.proofs.Bounded.{between_below}
use Rattle.rx_net.proofs.Fits.{nat_le_yes}
use Rattle.rx_net.proofs.Inputs.{given_noise, job_noise_at}
use Rattle.rx_net.proofs.Limits.{few_input_cells}

-- ---- noises are at least 1

given_low : (space : ℕ) (before is : List NetInput) → InTurn (λ before i. IsTrue (is_input space before i)) before is → (c : ℕ) → c < input_cells space is
    → 1 ≤ get_or (given space (λ i. i.noise) is) c 0
unfolding given input_cells
given_low space before [] h c p = absurd (omega (arith, p))
given_low space before (i ∷ is) h c p =
    let n : ℕ = block_count i.kind space i.bits in
    let rest = given space (λ (i : NetInput). i.noise) is in
    let a = and_parts (is_form space i.kind i.bits) (has_input_tags space i && not (names_input i.name before)) h.0 in
    let b = and_parts (has_input_tags space i) (not (names_input i.name before)) a.1 in
    let d = and_parts (nat_le i.degree (greatest i.kind space)) (nat_le 1 i.noise && nat_le i.noise (noise_limit space)) b.0 in
    let low : 1 ≤ i.noise = nat_le_yes _ _ (and_parts (nat_le 1 i.noise) (nat_le i.noise (noise_limit space)) d.1).0 in
    elim (cases_lt c n) [
      | inl lt ↦ subst (λ (x : ℕ). 1 ≤ x) (sym (get_or_append_left (replicate n i.noise) rest 0 c (omega (arith, lt, length-replicate n i.noise)) ∙ get_or-replicate n c i.noise 0 lt)) low
      | inr le ↦ subst (λ (x : ℕ). 1 ≤ x) (sym (get_or-append_right (replicate n i.noise) rest n c 0 (length-replicate n i.noise) le)) (given_low space (before ++ i ∷ []) is h.1 (c - n) (omega (arith, p, le)))
    ]

noise_low : (space : ℕ) (is : List NetInput) (js : List Job) → InTurn (λ before i. IsTrue (is_input space before i)) [] is → (j : Job) (c : ℕ) → c < input_cells space is + length js
    → 1 ≤ get_or (noises_after space is js) c 0
noise_low space is js h j c p =
    elim (cases_lt c (input_cells space is)) [
      | inl lt ↦ subst (λ (x : ℕ). 1 ≤ x) (sym (given_noise space is js c lt)) (given_low space [] is h c lt)
      | inr le ↦ subst (λ (x : ℕ). 1 ≤ x) (sym (job_noise_at space is js c (c - input_cells space is) j (omega (arith, le)) (omega (arith, le, p)))) (omega arith)
    ]

-- ---- what follows for the weights

at_least : (a n : ℕ) → 1 ≤ n → a ≤ a * n
at_least a (suc n) h = omega arith
at_least a zero h = absurd (omega (arith, h))

weights_low : (count most : ℕ) (noise : ℕ → ℕ) → ((c : ℕ) → c < count → 1 ≤ noise c) → most < 128 → (ts : List Term) → AllByRecursion (λ (t : Term). t.cell < count) ts → noise_of noise ts ≤ most
    → AllByRecursion (λ (t : Term). FitsSigned w8 t.weight) ts
weights_low count most noise low small [] forward sum = tt
weights_low count most noise low small (t ∷ ts) forward sum = (
  fits_signed_from_abs w8 t.weight (omega (arith, at_least (unsigned_abs t.weight) (noise t.cell) (low t.cell forward.0), sum, small)),
  weights_low count most noise low small ts forward.1 (omega (arith, sum)),
)

-- ---- the constant

negative_low : (w : ℤ) (d : ℕ) → (negative_part w *ℤ pos d) ≤ℤ pos 0
negative_low (pos n) d = omega (arith, ints)
negative_low (negsuc n) d = omega (arith, ints)

positive_high : (w : ℤ) (d : ℕ) → pos 0 ≤ℤ (positive_part w *ℤ pos d)
positive_high (pos n) d = omega (arith, ints)
positive_high (negsuc n) d = omega (arith, ints)

low_under : (degree : ℕ → ℕ) (k : ℤ) (ts : List Term) → low_of degree k ts ≤ℤ k
low_under degree k [] = omega (arith, ints)
low_under degree k (t ∷ ts) = omega (arith, ints, negative_low t.weight (degree t.cell), low_under degree k ts)

high_over : (degree : ℕ → ℕ) (k : ℤ) (ts : List Term) → k ≤ℤ high_of degree k ts
high_over degree k [] = omega (arith, ints)
high_over degree k (t ∷ ts) = omega (arith, ints, positive_high t.weight (degree t.cell), high_over degree k ts)

constant_low : (k : ℤ) (most : ℕ) → pos 0 ≤ℤ k → k <ℤ pos most → most ≤ 64 → FitsSigned w16 k
constant_low (pos n) most low high small = fits_signed_from_abs w16 (pos n) (omega (arith, ints, high, small))
constant_low (negsuc n) most low high small = absurd (omega (arith, ints, low))

-- ---- jobs

space_small : (space : ℕ) → (space ≡ 2) ⊎ (space ≡ 3) → (plaintexts space ≤ 64) × (noise_limit space < 128)
space_small space (inl e) = subst (λ (s : ℕ). (plaintexts s ≤ 64) × (noise_limit s < 128)) (sym e) (omega arith, omega arith)
space_small space (inr e) = subst (λ (s : ℕ). (plaintexts s ≤ 64) × (noise_limit s < 128)) (sym e) (omega arith, omega arith)

job_narrow : (space : ℕ) (is : List NetInput) (before : List Job) (j : Job) → (space ≡ 2) ⊎ (space ≡ 3) → InTurn (λ before i. IsTrue (is_input space before i)) [] is
    → input_cells space is + length before < 2 ^ 32 → IsJob space is before j → IsNarrow j
job_narrow space is before j s inputs few h =
    let small = space_small space s in
    let degree = λ (c : ℕ). get_or (degrees_after space is before) c 0 in
    let noise = λ (c : ℕ). get_or (noises_after space is before) c 0 in
    let low = low_under degree j.constant j.terms in
    let high = high_over degree j.constant j.terms in
    let table : AllByRecursion (λ entry. entry < 2 ^ 8) j.table = all_map (λ entry. entry < plaintexts space) (λ entry. entry < 2 ^ 8) j.table (λ entry low. omega (arith, low, small.0)) h.fits.table_entries in
    record {
      cells = all_map (λ (t : Term). t.cell < input_cells space is + length before) (λ (t : Term). t.cell < 2 ^ 32) j.terms (λ t low. omega (arith, low, few)) h.fits.forward;
      weights = weights_low (input_cells space is + length before) (noise_limit space) noise (noise_low space is before inputs j) small.1 j.terms h.fits.forward h.fits.noise_in;
      constant = constant_low j.constant (plaintexts space) (omega (arith, ints, low, h.fits.low)) (omega (arith, ints, high, h.fits.high)) small.0;
      table = table;
      degree = subst (λ (d : ℕ). d < 2 ^ 8) (sym h.declared) (between_below (2 ^ 8) j.table _ _ (omega arith) table);
    }

jobs_narrow : (space : ℕ) (is : List NetInput) → (space ≡ 2) ⊎ (space ≡ 3) → InTurn (λ before i. IsTrue (is_input space before i)) [] is → (before js : List Job)
    → input_cells space is + (length before + length js) < 2 ^ 32 → InTurn (IsJob space is) before js → AllByRecursion IsNarrow js
jobs_narrow space is s inputs before [] few h = tt
jobs_narrow space is s inputs before (j ∷ js) few h = (
  job_narrow space is before j s inputs (omega (arith, few)) h.0,
  jobs_narrow space is s inputs (before ++ j ∷ []) js (omega (arith, few, length-append before (j ∷ []))) h.1,
)

pub narrow_from_legal : (net : Net) → Legal net → AllByRecursion IsNarrow net.jobs
narrow_from_legal net h =
    jobs_narrow net.space net.inputs h.limits.space h.limits.inputs [] net.jobs (omega (arith, few_input_cells net h.limits, h.limits.few_jobs)) h.jobs
