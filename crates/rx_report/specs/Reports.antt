-- Refusals: the kind, which gives the status, and the line that reports it. Each line ends with a line feed. A file is named
-- by the word that named it.
use Rattle.std.specs.Prelude.{ℕ, ◌+◌, ◌-◌, ◌==◌, List, [], ◌∷◌, ◌++◌, codes, decimal, get_or, Option, Some, None, if◌then◌else◌}
use Rattle.std.specs.Fmt.{signed_decimal}
use Rattle.rx_text.specs.declared.fault.LineCause.{LineCause}
use Rattle.rx_text.specs.declared.fault.LineCause.TheVariants.{Form, Number, Unknown, Kind as WrongKind, Again, Limit as TooMany}
use Rattle.rx_text.specs.declared.fault.LineFault.{LineFault}
use Rattle.rx_params.specs.declared.params.Params.{Params}
use Rattle.rx_params.specs.declared.bounds.Refused.{Refused}
use Rattle.rx_params.specs.declared.bounds.Refused.TheVariants.{Limit as OutsideLimit, NarrowBox, Noise}
use Rattle.rx_params.specs.Text.{field_names, fields_of}
use Rattle.rx_codec.specs.declared.fault.CodecFault.{CodecFault}
use Rattle.rx_net.specs.declared.fault.NetFault.{NetFault}
use Rattle.rx_net.specs.declared.fault.NetFault.TheVariants.{Forward, Range, Noise as NetNoise, Table, Degree as NetDegree, Output, Limit as NetLimit}
use Rattle.rx_codec.specs.declared.fault.CodecFault.TheVariants.{Magic, Short, Long, Field, Params as RefusedParams, Net as NotLegal, Memory}
use Rattle.rx_client.specs.declared.decrypt.Damage.{Damage}
use Rattle.rx_server.specs.declared.fault.InputFault.{InputFault}
use Rattle.rx_server.specs.declared.fault.InputFault.TheVariants.{Missing, Twice, Form as WrongForm, Degree, Noise as TooNoisy}
use Rattle.rx_report.specs.declared.difference.Difference.{Difference}
use Rattle.rx_report.specs.declared.refusal.Kind.{Kind}
use Rattle.rx_report.specs.declared.refusal.Kind.TheVariants.{Malformed, NotAccepted, Mismatch, Inputs, Damaged, Limit, Seed}

-- the status of a kind of refusal
abbrev pub status_of : Kind → ℕ
status_of Malformed = 5
status_of NotAccepted = 6
status_of Mismatch = 7
status_of Inputs = 8
status_of Damaged = 9
status_of Limit = 10
status_of Seed = 12

-- a kind of refusal, and the line that reports it
abbrev pub Report : Type 0
Report = Kind × List ℕ

-- the line of words that are no command
abbrev pub usage_line : List ℕ
usage_line = codes "usage" ++ 10 ∷ []

-- a file that is longer than the limit
abbrev pub too_long : List ℕ → ℕ → Report
too_long name size = (Limit, codes "limit file " ++ (name ++ (codes " " ++ (decimal size ++ 10 ∷ []))))

-- ---- a text that has not its format
abbrev pub cause_word : LineCause → List ℕ
cause_word Form = codes "form"
cause_word Number = codes "number"
cause_word Unknown = codes "unknown"
cause_word WrongKind = codes "kind"
cause_word Again = codes "again"
cause_word TooMany = codes "limit"

abbrev pub malformed_text : List ℕ → LineFault → Report
malformed_text name fault =
    (Malformed, codes "malformed " ++ (name ++ (codes " line " ++ (decimal fault.line ++ (codes " " ++ (cause_word fault.cause ++ 10 ∷ []))))))

-- ---- a set that is not accepted
-- the name of a field by its place from 1, the number of key words after the last
abbrev pub field_word : ℕ → List ℕ
field_word field = get_or field_names (field - 1) (codes "key_words")

abbrev pub not_accepted : Refused → Report
not_accepted (OutsideLimit field value) =
    (NotAccepted, codes "refused limit " ++ (field_word field ++ (codes " " ++ (decimal value ++ 10 ∷ []))))
not_accepted (NarrowBox n p) = (NotAccepted, codes "refused box " ++ (decimal n ++ (codes " " ++ (decimal p ++ 10 ∷ []))))
not_accepted (Noise left right) =
    (NotAccepted, codes "refused noise " ++ (decimal left ++ (codes " " ++ (decimal right ++ 10 ∷ []))))

-- ---- a net that is not legal: its first fault, at the end of a line
abbrev pub net_words : NetFault → List ℕ
net_words (Forward job) = codes "forward " ++ (decimal job ++ 10 ∷ [])
net_words (Range job low high) =
    codes "range " ++ (decimal job ++ (codes " " ++ (signed_decimal low ++ (codes " " ++ (signed_decimal high ++ 10 ∷ [])))))
net_words (NetNoise job sum) = codes "noise " ++ (decimal job ++ (codes " " ++ (decimal sum ++ 10 ∷ [])))
net_words (Table job) = codes "table " ++ (decimal job ++ 10 ∷ [])
net_words (NetDegree job declared reached) =
    codes "degree " ++ (decimal job ++ (codes " " ++ (decimal declared ++ (codes " " ++ (decimal reached ++ 10 ∷ [])))))
net_words (Output index) = codes "output " ++ (decimal index ++ 10 ∷ [])
net_words (NetLimit field value) = codes "limit " ++ (decimal field ++ (codes " " ++ (decimal value ++ 10 ∷ [])))

abbrev pub illegal_net : List ℕ → NetFault → Report
illegal_net name fault = (Malformed, codes "malformed " ++ (name ++ (codes " net " ++ net_words fault)))

-- ---- a binary file that has not its format, or whose set is not accepted; want of memory is no refusal
abbrev pub malformed_binary : List ℕ → CodecFault → Option Report
malformed_binary name Magic = Some (Malformed, codes "malformed " ++ (name ++ (codes " magic" ++ 10 ∷ [])))
malformed_binary name (Short need have) =
    Some (Malformed, codes "malformed " ++ (name ++ (codes " short " ++ (decimal need ++ (codes " " ++ (decimal have ++ 10 ∷ []))))))
malformed_binary name (Long extra) =
    Some (Malformed, codes "malformed " ++ (name ++ (codes " long " ++ (decimal extra ++ 10 ∷ []))))
malformed_binary name (Field at) =
    Some (Malformed, codes "malformed " ++ (name ++ (codes " field " ++ (decimal at ++ 10 ∷ []))))
malformed_binary name (NotLegal fault) = Some (illegal_net name fault)
malformed_binary name (RefusedParams refused) = Some (not_accepted refused)
malformed_binary name Memory = None

-- ---- two files whose sets differ
-- the first field that differs, by its place counted on from here, with both values
abbrev pub first_difference : ℕ → List ℕ → List ℕ → Option Difference
first_difference field [] others = None
first_difference field (a ∷ firsts) [] = None
first_difference field (a ∷ firsts) (b ∷ others) =
    if a == b then first_difference (field + 1) firsts others else Some (record { field = field; first = a; other = b })

abbrev pub difference_of : Params → Params → Option Difference
difference_of first other = first_difference 1 (fields_of first) (fields_of other)

abbrev pub mismatch : List ℕ → Difference → Report
mismatch name d =
    (Mismatch, codes "mismatch " ++ (name ++ (codes " " ++ (field_word d.field ++ (codes " " ++ (decimal d.first ++ (codes " " ++ (decimal d.other ++ 10 ∷ []))))))))

-- ---- a mask word that a seed does not draw, by its place in the file
abbrev pub wrong_mask : List ℕ → ℕ → Report
wrong_mask name at = (Seed, codes "seed " ++ (name ++ (codes " " ++ (decimal at ++ 10 ∷ []))))

-- ---- a number whose bits the blocks of a set do not make up
abbrev pub wrong_width : List ℕ → ℕ → Report
wrong_width name bits = (Inputs, codes "inputs " ++ (name ++ (codes " width " ++ (decimal bits ++ 10 ∷ []))))

-- ---- a block that exceeds its degree
abbrev pub damaged : Damage → Report
damaged d =
    (Damaged, codes "damaged " ++ (d.name ++ (codes " " ++ (decimal d.block ++ (codes " " ++ (decimal d.decoded ++ (codes " " ++ (decimal d.degree ++ 10 ∷ []))))))))

-- ---- an input of a net that the files do not give as the net wants it
abbrev pub wrong_input : InputFault → Report
wrong_input (Missing name) = (Inputs, codes "inputs " ++ (name ++ (codes " missing" ++ 10 ∷ [])))
wrong_input (Twice name) = (Inputs, codes "inputs " ++ (name ++ (codes " twice" ++ 10 ∷ [])))
wrong_input (WrongForm name) = (Inputs, codes "inputs " ++ (name ++ (codes " form" ++ 10 ∷ [])))
wrong_input (Degree name value limit) =
    (Inputs, codes "inputs " ++ (name ++ (codes " degree " ++ (decimal value ++ (codes " " ++ (decimal limit ++ 10 ∷ []))))))
wrong_input (TooNoisy name value limit) =
    (Inputs, codes "inputs " ++ (name ++ (codes " noise " ++ (decimal value ++ (codes " " ++ (decimal limit ++ 10 ∷ []))))))

-- ---- limits of a run: its workers, its jobs, the words of its board
abbrev pub wrong_workers : ℕ → Report
wrong_workers count = (Limit, codes "limit workers " ++ (decimal count ++ 10 ∷ []))

abbrev pub many_jobs : ℕ → Report
many_jobs count = (Limit, codes "limit jobs " ++ (decimal count ++ 10 ∷ []))

abbrev pub wide_board : ℕ → Report
wide_board words = (Limit, codes "limit board " ++ (decimal words ++ 10 ∷ []))
