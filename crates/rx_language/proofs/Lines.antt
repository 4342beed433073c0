-- Reading one line after the other.
use Rattle.std.proofs.Common.{◌≡◌, ◌<◌, ◌+◌, ℕ, List, [], ◌∷◌, ◌++◌, length, Result, Ok, Err, refl, sym, ap, ◌∙◌, arith}
use Rattle.rx_text.specs.declared.fault.LineCause.{LineCause}
use Rattle.rx_text.specs.declared.fault.LineCause.TheVariants.{Form}
use Rattle.rx_text.specs.declared.fault.LineFault.{LineFault}
use Rattle.rx_text.specs.Faults.{fault_at}
use Rattle.rx_text.specs.Lines.{words_of}
use Rattle.rx_language.specs.declared.line.Line.{Line}
use Rattle.rx_language.specs.Programs.{Program}
use Rattle.rx_language.specs.Reading.{line_after, lines_from, program_by}
use Rattle.rx_language.specs.Drafts.{with_line, extended}

-- a part that a line feed ends, and what follows
pub goes_on : (space width : ℕ) (before : List Line) (part : List ℕ) (rest : List (List ℕ)) (line : Line) → 0 < length rest
    → line_after space width before (words_of part) ≡ Ok line → lines_from space width before (part ∷ rest) ≡ lines_from space width (before ++ line ∷ []) rest
goes_on space width before part [] line some h = absurd (omega arith)
goes_on space width before [] (next ∷ rest) line some h = rw (h, lines_from) refl
goes_on space width before (byte ∷ bytes) (next ∷ rest) line some h = rw (h, lines_from) refl

pub stops : (space width : ℕ) (before : List Line) (part : List ℕ) (rest : List (List ℕ)) (cause : LineCause) → 0 < length rest
    → line_after space width before (words_of part) ≡ Err cause → lines_from space width before (part ∷ rest) ≡ Err (fault_at (length before + 2) cause)
stops space width before part [] cause some h = absurd (omega arith)
stops space width before [] (next ∷ rest) cause some h = rw (h, lines_from) refl
stops space width before (byte ∷ bytes) (next ∷ rest) cause some h = rw (h, lines_from) refl

pub breaks_off : (space width : ℕ) (before : List Line) (parts : List (List ℕ)) → length parts ≡ 1 → (parts ≡ [] ∷ [] → ⊥)
    → lines_from space width before parts ≡ Err (fault_at (length before + 2) Form)
breaks_off space width before [] one more = absurd (omega arith)
breaks_off space width before ([] ∷ []) one more = absurd (more refl)
breaks_off space width before ((byte ∷ bytes) ∷ []) one more = refl
breaks_off space width before (a ∷ b ∷ parts) one more = absurd (omega arith)
