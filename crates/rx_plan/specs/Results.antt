-- What public planners give: a number or a bit, whose cells they append to a list.
use Rattle.std.specs.Prelude.{ℕ, ◌-◌, ◌*◌, ◌%◌, ◌^◌, ◌≡◌, List, ◌++◌, length, drop}
use Rattle.rx_params.specs.Kinds.{digit_at}
use Rattle.rx_net.specs.declared.net.Net.{Net}
use Rattle.rx_plan.specs.Values.{AreInputs, number_held}
use Rattle.rx_plan.specs.Planned.{Planned}

-- what was appended to a list
abbrev pub appended : List ℕ → List ℕ → List ℕ
appended before after = drop (length before) after

-- The planner appended count blocks, which hold the digits of a whole number that is made of the inputs: they are its residue.
pub record GivesNumber (old new : Net) (before after : List ℕ) (count jobs levels : ℕ) (Operands : (ℕ → Type 0) → Type 0)
    (whole : List ℕ → ℕ) : Type 0 where
  pub kept : after ≡ before ++ appended before after
  pub blocks : Planned old new (appended before after) (λ _. 2 ^ old.space - 1) count jobs levels Operands (λ inputs i. digit_at old.space (whole inputs) i)
  pub number : (inputs : List ℕ) → AreInputs old inputs → number_held new (appended before after) inputs ≡ whole inputs % 2 ^ (old.space * count)

-- The planner appended one cell, which holds a bit that is made of the inputs.
pub record GivesBit (old new : Net) (before after : List ℕ) (jobs levels : ℕ) (Operands : (ℕ → Type 0) → Type 0)
    (bit : List ℕ → ℕ) : Type 0 where
  pub kept : after ≡ before ++ appended before after
  pub cell : Planned old new (appended before after) (λ _. 1) 1 jobs levels Operands (λ inputs _. bit inputs)
