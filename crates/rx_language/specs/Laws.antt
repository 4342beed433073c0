-- Laws of circuits and their texts, as a contract can name them.
use Rattle.std.specs.Prelude.{ℕ, ◌≡◌, List, Err, None}
use Rattle.rx_text.specs.declared.fault.LineFault.{LineFault}
use Rattle.rx_language.specs.Programs.{Program, IsProgram}
use Rattle.rx_language.specs.Texts.{program_text, IsCircuit}
use Rattle.rx_language.specs.Reading.{circuit_from, bad_line}

pub record CircuitLaws : Type 0 where
  -- a circuit has a text, and no other
  pub has_text : (p : Program) → IsProgram p → IsCircuit (program_text p) p
  pub one_text : (a b : List ℕ) (p : Program) → IsCircuit a p → IsCircuit b p → a ≡ b
  -- a text is that of one circuit at most
  pub one_circuit : (bytes : List ℕ) (p q : Program) → IsCircuit bytes p → IsCircuit bytes q → p ≡ q
  -- a text has no wrong line exactly where it is that of a circuit
  pub good : (bytes : List ℕ) (p : Program) → IsCircuit bytes p → bad_line bytes ≡ None
  pub lawful : (bytes : List ℕ) → bad_line bytes ≡ None → (p : Program) × IsCircuit bytes p
