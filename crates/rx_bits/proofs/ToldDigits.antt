-- The digits of a number that is told, one after another, and the cells that hold them.
use Rattle.std.proofs.Common.{◌≡◌, ◌^◌, ℕ, ◌+◌, ◌-◌, ◌*◌, ◌/◌, ◌%◌, ◌<◌, ◌≤◌, List, [], ◌∷◌, ◌++◌, length, get_or, sym, ◌∙◌, ap, arith, subst, length-append}
use Rattle.std.proofs.lemmas.Nat.{shr-shr}
use Rattle.rx_params.specs.Kinds.{digit_at}
use Rattle.rx_net.specs.declared.net.Net.{Net}
use Rattle.rx_net.specs.Cells.{value, depth}
use Rattle.rx_net.specs.Growth.{Extends}
use Rattle.rx_plan.specs.Values.{AreInputs}
use Rattle.rx_plan.specs.Planned.{IsCell, Gives, Planned}
use Rattle.rx_plan.proofs.Lists.{by_push}
use Rattle.rx_plan.proofs.Kept.{within_now}
use Rattle.rx_plan.proofs.Planned.{planned_push}
use Rattle.rx_bits.specs.Constants.{AreMade}

-- the digits so far, and what is left of the number
pub record Told (s number count : ℕ) (digits : List ℕ) (rest : ℕ) : Type 0 where
  pub count_is : length digits ≡ count
  pub rest_is : rest ≡ number / 2 ^ (s * count)
  pub digits_are : (i : ℕ) → i < length digits → get_or digits i 0 ≡ digit_at s number i

pub told_more : (s number count : ℕ) (digits : List ℕ) (rest digit unit : ℕ) → unit ≡ 2 ^ s → digit ≡ rest % unit → Told s number count digits rest
    → Told s number (count + 1) (digits ++ digit ∷ []) (rest / unit)
told_more s number count digits rest digit unit u d h =
    let e : s * count + s ≡ s * (count + 1) = omega arith in
    record {
      count_is = omega (arith, length-append digits (digit ∷ []), h.count_is);
      rest_is = ap (λ v. rest / v) u ∙ ap (λ r. r / 2 ^ s) h.rest_is ∙ shr-shr number (s * count) s ∙ ap (λ k. number / 2 ^ k) e;
      digits_are = by_push digits digit (λ i x. x ≡ digit_at s number i) h.digits_are
          (d ∙ ap (λ v. rest % v) u ∙ ap (λ r. r % 2 ^ s) h.rest_is ∙ ap (λ k. number / 2 ^ (s * k) % 2 ^ s) (sym h.count_is));
    }

-- the cells so far, as cells of their digits
pub planned_made : (old now : Net) (cells digits : List ℕ) (number i : ℕ) → Planned old now cells (λ _. 2 ^ old.space - 1) i i 1 (λ _. Unit {0}) (λ _ i. digit_at old.space number i)
    → ((j : ℕ) → j < length digits → get_or digits j 0 ≡ digit_at old.space number j) → i ≤ length digits → AreMade now cells digits
planned_made old now cells digits number i p d l j q =
    let e : Extends old now = p.extends in
    record {
      cell = subst (λ (s : ℕ). IsCell now (2 ^ s - 1) (get_or cells j 0)) (sym e.space) (p.cells_are j q);
      shallow = p.deep_cells 0 tt j q;
      holds = λ xs w.
          let j1 : j < i = omega (arith, p.count_is) in
          let w' : AreInputs old xs = subst (λ (s : ℕ). AreInputs (record old { space = s }) xs) e.space (subst (λ is. AreInputs (record now { inputs = is }) xs) e.inputs w) in
          p.values_are xs w' j j1 ∙ sym (d j (omega arith));
    }

pub made_push : (old now new : Net) (cells digits : List ℕ) (number i c : ℕ) → ((j : ℕ) → j < length digits → get_or digits j 0 ≡ digit_at old.space number j) → i < length digits
    → Planned old now cells (λ _. 2 ^ old.space - 1) i i 1 (λ _. Unit {0}) (λ _ i. digit_at old.space number i)
    → Gives now new c (2 ^ now.space - 1) 1 → depth new c ≤ 1
    → ((xs : List ℕ) → AreInputs now xs → value new xs c ≡ get_or digits i 0)
    → Planned old new (cells ++ c ∷ []) (λ _. 2 ^ old.space - 1) (i + 1) (i + 1) 1 (λ _. Unit {0}) (λ _ i. digit_at old.space number i)
made_push old now new cells digits number i c d l p g shallow v =
    planned_push old now new cells (λ _. 2 ^ old.space - 1) i i 1 1 (λ _. Unit {0}) (λ _ i. digit_at old.space number i) c p
    (subst (λ (s : ℕ). Gives now new c (2 ^ s - 1) 1) p.extends.space g)
    (λ d o. omega arith)
    (λ xs w. v xs (within_now old now p.extends xs w) ∙ d i l)
