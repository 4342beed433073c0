-- Numbers and bits that public planners give.
use Rattle.std.proofs.Common.{◌≡◌, ◌^◌, ℕ, ◌-◌, ◌%◌, ◌<◌, ◌≤◌, List, ◌++◌, length, drop, get_or, sym, ◌∙◌, ap, arith, subst}
use Rattle.std.proofs.Math.Seq.{drop-append_seam}
use Rattle.std.proofs.lemmas.Nat.{pow_pos}
use Rattle.rx_params.specs.Kinds.{digit_at}
use Rattle.rx_net.specs.declared.net.Net.{Net}
use Rattle.rx_net.specs.Cells.{value, depth}
use Rattle.rx_plan.specs.Values.{AreInputs, number, number_held, cell_value}
use Rattle.rx_plan.specs.Planned.{Planned}
use Rattle.rx_plan.specs.Results.{appended, GivesNumber, GivesBit}
use Rattle.rx_plan.proofs.Kept.{within_now, value_in}
use Rattle.rx_plan.proofs.Planned.{planned_same, planned_weaken}
use Rattle.rx_plan.proofs.Numbers.{number_same, pow_pow, number_held-is, digits_are, digits_number}

pub appended-is : (before after cells : List ℕ) → after ≡ before ++ cells → appended before after ≡ cells
appended-is before after cells e = ap (drop (length before)) e ∙ drop-append_seam before cells

-- the number of the cells of a planner
pub planned_number : (old new : Net) (cs : List ℕ) (tops : ℕ → ℕ) (count jobs levels : ℕ) (O : (ℕ → Type 0) → Type 0) (f : List ℕ → ℕ → ℕ)
    → Planned old new cs tops count jobs levels O f → (xs : List ℕ) → AreInputs old xs → number_held new cs xs ≡ number (2 ^ old.space) count (f xs)
planned_number old new cs tops count jobs levels O f h xs w =
    number_held-is new cs xs
    ∙ ap (λ s. number (2 ^ s) (length cs) (cell_value new cs xs)) h.extends.space
    ∙ ap (λ n. number (2 ^ old.space) n (cell_value new cs xs)) h.count_is
    ∙ number_same (2 ^ old.space) count (cell_value new cs xs) (f xs) (λ i q. h.values_are xs w i q)

-- the same of blocks that are there
pub blocks_number : (p : Net) (cs xs : List ℕ) (n : ℕ) → length cs ≡ n → number (2 ^ p.space) n (cell_value p cs xs) ≡ number_held p cs xs
blocks_number p cs xs n e = ap (λ n. number (2 ^ p.space) n (cell_value p cs xs)) (sym e) ∙ sym (number_held-is p cs xs)

-- what a planner of blocks says is a digit
pub says_below : (old new : Net) (cs : List ℕ) (count jobs levels : ℕ) (O : (ℕ → Type 0) → Type 0) (f : List ℕ → ℕ → ℕ)
    → Planned old new cs (λ _. 2 ^ old.space - 1) count jobs levels O f → (xs : List ℕ) → AreInputs old xs → (i : ℕ) → i < count → f xs i < 2 ^ old.space
says_below old new cs count jobs levels O f h xs w i q =
    let q' : i < length cs = omega (arith, h.count_is) in
    let v : value new xs (get_or cs i 0) ≡ f xs i = h.values_are xs w i q in
    let l : value new xs (get_or cs i 0) ≤ 2 ^ old.space - 1 = value_in new (2 ^ old.space - 1) (get_or cs i 0) h.bounded (h.cells_are i q') xs (within_now old new h.extends xs w) in
    let z : 0 < 2 ^ old.space = pow_pos old.space in
    omega arith

-- A planner whose digits have the number that a whole number leaves gives its digits.
pub planned_digits : (old new : Net) (cs : List ℕ) (count jobs levels : ℕ) (O : (ℕ → Type 0) → Type 0) (f : List ℕ → ℕ → ℕ) (whole : List ℕ → ℕ)
    → ((xs : List ℕ) → AreInputs old xs → number (2 ^ old.space) count (f xs) ≡ whole xs % (2 ^ old.space) ^ count)
    → Planned old new cs (λ _. 2 ^ old.space - 1) count jobs levels O f
    → Planned old new cs (λ _. 2 ^ old.space - 1) count jobs levels O (λ xs i. digit_at old.space (whole xs) i)
planned_digits old new cs count jobs levels O f whole e h =
    planned_same old new cs (λ _. 2 ^ old.space - 1) (λ _. 2 ^ old.space - 1) count jobs levels O f (λ xs i. digit_at old.space (whole xs) i)
    (λ i q. omega arith)
    (λ xs w i q. digits_are old.space count (whole xs) (f xs) (says_below old new cs count jobs levels O f h xs w) (e xs w) i q)
    h

pub number_given : (old new : Net) (before after cs : List ℕ) (count jobs levels : ℕ) (O : (ℕ → Type 0) → Type 0) (whole : List ℕ → ℕ)
    → after ≡ before ++ cs
    → Planned old new cs (λ _. 2 ^ old.space - 1) count jobs levels O (λ xs i. digit_at old.space (whole xs) i)
    → GivesNumber old new before after count jobs levels O whole
number_given old new before after cs count jobs levels O whole e h =
    let a : appended before after ≡ cs = appended-is before after cs e in
    let p : Planned old new (appended before after) (λ _. 2 ^ old.space - 1) count jobs levels O (λ xs i. digit_at old.space (whole xs) i) =
    subst (λ (cs : List ℕ). Planned old new cs (λ _. 2 ^ old.space - 1) count jobs levels O (λ xs i. digit_at old.space (whole xs) i)) (sym a) h in
    record {
      kept = e ∙ ap (λ cs. before ++ cs) (sym a);
      blocks = p;
      number = λ xs w.
          planned_number old new (appended before after) (λ _. 2 ^ old.space - 1) count jobs levels O (λ xs i. digit_at old.space (whole xs) i) p xs w
          ∙ digits_number old.space count (whole xs) ∙ ap (λ x. whole xs % x) (pow_pow old.space count);
    }

pub bit_given : (old new : Net) (before after cs : List ℕ) (jobs levels : ℕ) (O : (ℕ → Type 0) → Type 0) (bit : List ℕ → ℕ)
    → after ≡ before ++ cs → Planned old new cs (λ _. 1) 1 jobs levels O (λ xs _. bit xs) → GivesBit old new before after jobs levels O bit
bit_given old new before after cs jobs levels O bit e h =
    let a : appended before after ≡ cs = appended-is before after cs e in
    record {
      kept = e ∙ ap (λ cs. before ++ cs) (sym a);
      cell = subst (λ (cs : List ℕ). Planned old new cs (λ _. 1) 1 jobs levels O (λ xs _. bit xs)) (sym a) h;
    }

-- the same with operands said otherwise, and with more jobs and levels
pub number_operands : (old new : Net) (before after : List ℕ) (count jobs more levels deeper : ℕ) (O Q : (ℕ → Type 0) → Type 0) (whole : List ℕ → ℕ)
    → jobs ≤ more → levels ≤ deeper → ((d : ℕ) → Q (λ o. depth old o ≤ d) → O (λ o. depth old o ≤ d))
    → GivesNumber old new before after count jobs levels O whole → GivesNumber old new before after count more deeper Q whole
number_operands old new before after count jobs more levels deeper O Q whole j l t g = record {
  kept = g.kept;
  blocks = planned_weaken old new (appended before after) (λ _. 2 ^ old.space - 1) count jobs more levels deeper O Q (λ xs i. digit_at old.space (whole xs) i) j l t g.blocks;
  number = g.number;
}
