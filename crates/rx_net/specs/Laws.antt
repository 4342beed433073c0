-- The laws of legal nets, and of numbers of several digits.
use Rattle.std.specs.Prelude.{ℕ, ◌+◌, ◌*◌, ◌^◌, ◌<◌, ◌≤◌, ◌≡◌, ◌↔◌, List, None, length, get_or, []}
use Rattle.rx_net.specs.declared.net.Job.{Job}
use Rattle.rx_net.specs.declared.net.Net.{Net}
use Rattle.std.specs.List.{AllByRecursion}
use Rattle.rx_net.specs.Cells.{input_cells, cell_count, operand_words, cells_of}
use Rattle.rx_net.specs.Numbers.{AreDigits, digits_of, number_of}
use Rattle.rx_net.specs.Legal.{Legal, IsBounded}
use Rattle.rx_net.specs.Faults.{fault_of}
use Rattle.rx_net.specs.Narrow.{IsNarrow}
use Rattle.rx_net.specs.Growth.{Extends}

-- A net is legal exactly where it has no fault. A legal net has few cells, its jobs' numbers fit the types that hold them, and
-- no cell passes its degree. A net extends itself, and what it extends in several steps.
-- The words of an input's cell are those that were given, and the words of a job's cell are those that the
-- definition gives for its operands among the same cells.
pub record NetLaws : Type 0 where
  pub lawful : (net : Net) → (fault_of net ≡ None) ↔ Legal net
  pub few_cells : (net : Net) → Legal net → cell_count net ≤ 67584
  pub narrow : (net : Net) → Legal net → AllByRecursion IsNarrow net.jobs
  pub bounded : (net : Net) → Legal net → IsBounded net
  pub same : (net : Net) → Extends net net
  pub onward : (first second third : Net) → Extends first second → Extends second third → Extends first third
  pub input_cell : (words_of : List ℕ → Job → List ℕ → List ℕ) (basis : List ℕ) (net : Net) (inputs : List (List ℕ)) (c : ℕ) →
      c < length inputs → get_or (cells_of words_of basis net inputs) c [] ≡ get_or inputs c []
  pub job_cell : (words_of : List ℕ → Job → List ℕ → List ℕ) (basis : List ℕ) (net : Net) (inputs : List (List ℕ)) (j : ℕ) (job : Job) →
      Legal net → length inputs ≡ input_cells net.space net.inputs → j < length net.jobs → job ≡ get_or net.jobs j job →
      get_or (cells_of words_of basis net inputs) (input_cells net.space net.inputs + j) []
      ≡ words_of basis job (operand_words (cells_of words_of basis net inputs) job.terms)

-- A number and its digits to the base 2 ^ message_bits tell each other: each number below 2 ^ (message_bits * count) is the number
-- of its count digits, and digits are those of their number.
pub record NumberLaws : Type 0 where
  pub number_of_digits : (message_bits count number : ℕ) → number < 2 ^ (message_bits * count) →
      number_of message_bits (digits_of message_bits count number) ≡ number
  pub digits_of_number : (message_bits : ℕ) (digits : List ℕ) → AreDigits message_bits digits →
      digits_of message_bits (length digits) (number_of message_bits digits) ≡ digits
  pub below : (message_bits : ℕ) (digits : List ℕ) → AreDigits message_bits digits →
      number_of message_bits digits < 2 ^ (message_bits * length digits)
  pub small : (message_bits count number : ℕ) → AreDigits message_bits (digits_of message_bits count number)
