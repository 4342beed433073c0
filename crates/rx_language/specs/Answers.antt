-- What a reading in the code answers, beside the definition of the text.
use Rattle.std.specs.Prelude.{ℕ, ◌≡◌, List, Result, Ok, Err}
use Rattle.std.specs.Global.{Vec}
use Rattle.rx_text.specs.declared.fault.LineCause.{LineCause}
use Rattle.rx_text.specs.declared.fault.LineFault.{LineFault}
use Rattle.rx_language.specs.declared.error.ParseError.{ParseError}
use Rattle.rx_language.specs.declared.error.ParseError.TheVariants.{Line, Memory}
use Rattle.rx_language.specs.declared.line_error.LineError.{LineError}
use Rattle.rx_language.specs.declared.line_error.LineError.TheVariants.{Cause, Memory as NoMemory}

-- an error of a reading is the fault of the text, unless it is want of memory
abbrev pub Fails : {X : Type 0} → ParseError → Result X LineFault → Type 0
Fails Memory read = Unit {0}
Fails (Line fault) read = read ≡ Err fault

-- a reading answers what the text spells or its fault, unless it wants memory
abbrev pub Gives : {X : Type 0} → Result X ParseError → Result X LineFault → Type 0
Gives (Ok x) read = read ≡ Ok x
Gives (Err e) read = Fails e read

-- the same of a vector, by its elements
abbrev pub GivesItems : {X : Type 0} → Result (Vec X) ParseError → Result (List X) LineFault → Type 0
GivesItems (Ok v) read = read ≡ Ok v.items
GivesItems (Err e) read = Fails e read

-- an error of a line is its cause, unless it is want of memory
abbrev pub LineFails : {X : Type 0} → LineError → Result X LineCause → Type 0
LineFails NoMemory read = Unit {0}
LineFails (Cause cause) read = read ≡ Err cause

-- a reading of a line, seen by a view, gives what the line spells or its cause, unless it wants memory
abbrev pub LineGives : {A B : Type 0} → (A → B) → Result A LineError → Result B LineCause → Type 0
LineGives view (Ok value) read = read ≡ Ok (view value)
LineGives view (Err e) read = LineFails e read

-- the same, where these words are left afterwards
abbrev pub LineGivesLeft : {A B : Type 0} → (A → B) → List (List ℕ) → Result A LineError → Result (B × List (List ℕ)) LineCause → Type 0
LineGivesLeft view left (Ok value) read = read ≡ Ok (view value, left)
LineGivesLeft view left (Err e) read = LineFails e read

-- The same of a function that takes no memory: it answers what the reading gives.
abbrev pub ExactlyLeft : {A B : Type 0} → (A → B) → List (List ℕ) → Result A LineCause → Result (B × List (List ℕ)) LineCause → Type 0
ExactlyLeft view left (Ok value) read = read ≡ Ok (view value, left)
ExactlyLeft view left (Err cause) read = read ≡ Err cause
