-- Reading one line after the other, as a loop does.
use Rattle.std.proofs.Common.{◌≡◌, ◌<◌, ◌+◌, ℕ, List, [], ◌∷◌, ◌++◌, length, Ok, Err, refl, sym, ap, arith}
use Rattle.rx_text.specs.declared.fault.LineCause.{LineCause}
use Rattle.rx_text.specs.declared.fault.LineCause.TheVariants.{Form}
use Rattle.rx_text.specs.Faults.{fault_at}
use Rattle.rx_text.specs.Lines.{words_of}
use Rattle.rx_circuit.specs.declared.values.ValueLine.{ValueLine}
use Rattle.rx_circuit.specs.Values.{spelled_line, line_after, lines_from}

pub goes_on : (before : List ValueLine) (line : List ℕ) (rest : List (List ℕ)) (v : ValueLine) → 0 < length rest
    → Ok v ≡ line_after before (spelled_line (words_of line)) → lines_from before (line ∷ rest) ≡ lines_from (before ++ v ∷ []) rest
goes_on before line [] v some h = absurd (omega arith)
goes_on before [] (next ∷ rest) v some h = absurd cc
goes_on before (byte ∷ bytes) (next ∷ rest) v some h = rw (sym h, lines_from) refl

pub stops : (before : List ValueLine) (line : List ℕ) (rest : List (List ℕ)) (cause : LineCause) → 0 < length rest
    → Err cause ≡ line_after before (spelled_line (words_of line)) → lines_from before (line ∷ rest) ≡ Err (fault_at (length before + 1) cause)
stops before line [] cause some h = absurd (omega arith)
stops before [] (next ∷ rest) cause some h =
    let same : Form ≡ cause = cc in
    ap (λ (c : LineCause). Err (fault_at (length before + 1) c)) same
stops before (byte ∷ bytes) (next ∷ rest) cause some h = rw (sym h, lines_from) refl

pub ends : (before : List ValueLine) (parts : List (List ℕ)) → parts ≡ [] ∷ [] → lines_from before parts ≡ Ok before
ends before parts h = ap (lines_from before) h

pub breaks_off : (before : List ValueLine) (parts : List (List ℕ)) → length parts ≡ 1 → (parts ≡ [] ∷ [] → ⊥) → lines_from before parts ≡ Err (fault_at (length before + 1) Form)
breaks_off before [] one more = absurd (omega arith)
breaks_off before ([] ∷ []) one more = absurd (more refl)
breaks_off before ((byte ∷ bytes) ∷ []) one more = refl
breaks_off before (a ∷ b ∷ parts) one more = absurd (omega arith)
