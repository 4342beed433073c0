-- Worked lines of refusals, computed by the definitions.
use Rattle.std.proofs.Common.{◌≡◌, ℕ, pos, negsuc, List, [], ◌∷◌, ◌++◌, Some, None, refl}
use Rattle.std.specs.Fmt.{digits}
use Rattle.std.specs.Prelude.{codes}
use Rattle.rx_params.specs.declared.bounds.Refused.TheVariants.{Limit as OutsideLimit, NarrowBox, Noise}
use Rattle.rx_params.specs.Sets.{rx_test, rx_k2}
use Rattle.rx_text.specs.declared.fault.LineCause.TheVariants.{Unknown, Kind as WrongKind, Again, Limit as TooMany}
use Rattle.rx_text.specs.Faults.{fault_at}
use Rattle.rx_net.specs.declared.fault.NetFault.TheVariants.{Range}
use Rattle.rx_codec.specs.declared.fault.CodecFault.TheVariants.{Magic, Short, Long, Field, Params as RefusedParams, Memory}
use Rattle.rx_server.specs.declared.fault.InputFault.TheVariants.{Degree}
use Rattle.rx_report.specs.declared.refusal.Kind.{Kind}
use Rattle.rx_report.specs.declared.refusal.Kind.TheVariants.{Malformed, NotAccepted, Mismatch, Inputs, Damaged, Limit, Seed}
use Rattle.rx_report.specs.Reports.{status_of, Report, usage_line, too_long, malformed_text, not_accepted, illegal_net, malformed_binary, difference_of, mismatch, wrong_mask, wrong_width, damaged, wrong_input, wrong_workers, many_jobs, wide_board}

statuses : (status_of Malformed ≡ 5) × (status_of NotAccepted ≡ 6) × (status_of Mismatch ≡ 7) × (status_of Inputs ≡ 8) × (status_of Damaged ≡ 9) × (status_of Limit ≡ 10) × (status_of Seed ≡ 12)
statuses = (refl, refl, refl, refl, refl, refl, refl)

-- a line of this kind
abbrev reported : Kind → List ℕ → Report
reported kind text = (kind, text ++ 10 ∷ [])

usage : usage_line ≡ codes "usage" ++ 10 ∷ []
usage = refl

long_file : too_long (codes "f") 536870913 ≡ reported Limit (codes "limit file f 536870913")
unfolding digits
long_file = refl

texts : (malformed_text (codes "f") (fault_at 65 TooMany) ≡ reported Malformed (codes "malformed f line 65 limit"))
    × (malformed_text (codes "f") (fault_at 2 Again) ≡ reported Malformed (codes "malformed f line 2 again"))
    × (malformed_text (codes "f") (fault_at 3 WrongKind) ≡ reported Malformed (codes "malformed f line 3 kind"))
    × (malformed_text (codes "f") (fault_at 4 Unknown) ≡ reported Malformed (codes "malformed f line 4 unknown"))
unfolding digits
texts = (refl, refl, refl, refl)

sets : (not_accepted (OutsideLimit 3 100) ≡ reported NotAccepted (codes "refused limit poly_size 100"))
    × (not_accepted (OutsideLimit 11 16797696) ≡ reported NotAccepted (codes "refused limit key_words 16797696"))
    × (not_accepted (NarrowBox 64 64) ≡ reported NotAccepted (codes "refused box 64 64"))
    × (not_accepted (Noise 290630635804950528 288230376151711744) ≡ reported NotAccepted (codes "refused noise 290630635804950528 288230376151711744"))
unfolding digits
sets = (refl, refl, refl, refl)

nets : illegal_net (codes "n") (Range 0 (negsuc 4) (pos 16)) ≡ reported Malformed (codes "malformed n net range 0 -5 16")
unfolding digits
nets = refl

files : (malformed_binary (codes "f") Magic ≡ Some (reported Malformed (codes "malformed f magic")))
    × (malformed_binary (codes "f") (Short 8284 8283) ≡ Some (reported Malformed (codes "malformed f short 8284 8283")))
    × (malformed_binary (codes "f") (Long 1) ≡ Some (reported Malformed (codes "malformed f long 1")))
    × (malformed_binary (codes "f") (Field 44) ≡ Some (reported Malformed (codes "malformed f field 44")))
    × (malformed_binary (codes "f") (RefusedParams (NarrowBox 64 64)) ≡ Some (reported NotAccepted (codes "refused box 64 64")))
    × (malformed_binary (codes "f") Memory ≡ None)
unfolding digits
files = (refl, refl, refl, refl, refl, refl)

-- the first field that differs, the first file's value before the other's
differences : (difference_of rx_k2 rx_test ≡ Some (record { field = 2; first = 2; other = 1 })) × (difference_of rx_test rx_test ≡ None)
differences = (refl, refl)

mismatches : mismatch (codes "f") (record { field = 2; first = 2; other = 1 }) ≡ reported Mismatch (codes "mismatch f glwe_dim 2 1")
unfolding digits
mismatches = refl

masks : wrong_mask (codes "f") 54 ≡ reported Seed (codes "seed f 54")
unfolding digits
masks = refl

inputs : (wrong_width (codes "b") 9 ≡ reported Inputs (codes "inputs b width 9")) × (wrong_input (Degree (codes "a") 3 2) ≡ reported Inputs (codes "inputs a degree 3 2"))
unfolding digits
inputs = (refl, refl)

damages : damaged (record { name = codes "a"; block = 0; decoded = 3; degree = 2 }) ≡ reported Damaged (codes "damaged a 0 3 2")
unfolding digits
damages = refl

limits : (wrong_workers 0 ≡ reported Limit (codes "limit workers 0")) × (many_jobs 68208 ≡ reported Limit (codes "limit jobs 68208")) × (wide_board 33554826 ≡ reported Limit (codes "limit board 33554826"))
unfolding digits
limits = (refl, refl, refl)
