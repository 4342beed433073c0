-- Commands of words, what they read and what refuses them, computed by the definitions.
use Rattle.std.proofs.Common.{◌≡◌, ◌-◌, ◌^◌, ℕ, List, [], ◌∷◌, ◌++◌, Some, None, refl, replicate, take}
use Rattle.std.specs.Fmt.{digits}
use Rattle.std.specs.Prelude.{codes}
use Rattle.hex.specs.Hex.{decode_pairs}
use Rattle.rx_store.specs.Files.{Files, with_file}
use Rattle.rx_params.specs.declared.params.Params.{Params}
use Rattle.rx_params.specs.Derived.{large_dim, key_words, rest_of, step_of, boot_of, base_of, switch_of, round_of, left_of}
use Rattle.rx_params.specs.declared.bounds.Bounds.{Bounds}
use Rattle.rx_params.specs.Acceptance.{refusal_of}
use Rattle.rx_params.specs.Sets.{set_of, rx_2_2, rx_test, rx_k2}
use Rattle.rx_params.specs.Text.{params_text, params_from}
use Rattle.rx_circuit.specs.declared.values.ValueLine.{ValueLine}
use Rattle.rx_circuit.specs.Values.{values_from}
use Rattle.rx_net.specs.declared.net.Net.{Net}
use Rattle.rx_net.specs.Cells.{laid, values_after}
use Rattle.rx_net.specs.declared.net.NetInput.{NetInput}
use Rattle.rx_params.specs.declared.kind.Kind.TheVariants.{Int}
use Rattle.rx_codec.specs.declared.client.Client.{Client}
use Rattle.rx_codec.specs.declared.cipher.Cipher.{Cipher}
use Rattle.rx_codec.specs.ParamsFields.{fields_at, params_at}
use Rattle.rx_codec.specs.ClientFile.{client_bytes, client_from}
use Rattle.rx_codec.specs.CipherFile.{cipher_bytes, cipher_from}
use Rattle.rx_codec.specs.ServerFile.{server_from}
use Rattle.rx_report.specs.declared.refusal.Kind.{Kind}
use Rattle.rx_report.specs.declared.refusal.Kind.TheVariants.{Malformed, NotAccepted, Mismatch, Inputs, Limit}
use Rattle.rx_report.specs.Reports.{Report}
use Rattle.rx_tool.specs.declared.command.Command.TheVariants.{Check, MakeClient, Keygen, Encrypt, Run, Decrypt}
use Rattle.rx_tool.specs.declared.command.Source.TheVariants.{Named, File}
use Rattle.rx_tool.specs.Check.{bounds_lines}
use Rattle.rx_tool.specs.MakeClient.{seed_of}
use Rattle.rx_tool.specs.Run.{word_number, values_refusal, jobs_line, output_digits}
use Rattle.rx_tool.specs.Refusals.{limits_refusal}
use Rattle.rx_tool.specs.Commands.{command_of, reads_of, command_refusal}
use Rattle.rx_tool.specs.Got.{file_limit, whole, long, missing, got_one, refuses}
use Rattle.rx_tool.specs.Left.{written}
use Rattle.rx_tool.specs.WholeWay.{plain_digits, plain_lines}

-- ---- words
abbrev zeros : List ℕ
zeros = replicate 64 48

-- 64 hexadecimal digits, in either case
seeds : (seed_of (replicate 64 97) ≡ Some (replicate 32 170)) × (seed_of (replicate 64 65) ≡ Some (replicate 32 170)) × (seed_of (replicate 63 97) ≡ None) × (seed_of (replicate 64 103) ≡ None)
unfolding decode_pairs
seeds = (refl, refl, refl, refl)

numbers : (word_number (codes "18446744073709551615") ≡ Some (2 ^ 64 - 1)) × (word_number (codes "18446744073709551616") ≡ None) × (word_number (codes "01") ≡ None) × (word_number (codes "0") ≡ Some 0)
numbers = (refl, refl, refl, refl)

checks : (command_of (codes "check" ∷ codes "rx-2-2" ∷ []) ≡ Some (Check (Named rx_2_2))) × (command_of (codes "check" ∷ codes "mine" ∷ []) ≡ Some (Check (File (codes "mine")))) × (command_of (codes "check" ∷ []) ≡ None) × (command_of (codes "check" ∷ codes "a" ∷ codes "b" ∷ []) ≡ None)
checks = (refl, refl, refl, refl)

no_commands : (command_of [] ≡ None) × (command_of (codes "checks" ∷ codes "rx-2-2" ∷ []) ≡ None) × (command_of (codes "keygen" ∷ codes "c" ∷ codes "00" ∷ codes "s" ∷ []) ≡ None)
unfolding decode_pairs
no_commands = (refl, refl, refl)

commands : (command_of (codes "client" ∷ codes "rx-k2" ∷ zeros ∷ codes "c" ∷ []) ≡ Some (MakeClient (Named rx_k2) (replicate 32 0) (codes "c")))
    × (command_of (codes "keygen" ∷ codes "c" ∷ zeros ∷ codes "s" ∷ []) ≡ Some (Keygen (codes "c") (replicate 32 0) (codes "s")))
    × (command_of (codes "encrypt" ∷ codes "c" ∷ zeros ∷ zeros ∷ codes "v" ∷ codes "out" ∷ []) ≡ Some (Encrypt (codes "c") (replicate 32 0) (replicate 32 0) (codes "v") (codes "out")))
    × (command_of (codes "decrypt" ∷ codes "c" ∷ codes "out" ∷ []) ≡ Some (Decrypt (codes "c") (codes "out")))
unfolding decode_pairs
commands = (refl, refl, refl, refl)

-- a run of 0 to 64 files, one of them twice
runs : (command_of (codes "run" ∷ codes "s" ∷ codes "n" ∷ codes "0" ∷ codes "o" ∷ []) ≡ Some (Run (codes "s") (codes "n") 0 (codes "o") []))
    × (command_of (codes "run" ∷ codes "s" ∷ codes "n" ∷ codes "1" ∷ codes "o" ∷ codes "i" ∷ codes "i" ∷ []) ≡ Some (Run (codes "s") (codes "n") 1 (codes "o") (codes "i" ∷ codes "i" ∷ [])))
    × (command_of (codes "run" ∷ codes "s" ∷ codes "n" ∷ codes "1" ∷ codes "o" ∷ replicate 64 (codes "i")) ≡ Some (Run (codes "s") (codes "n") 1 (codes "o") (replicate 64 (codes "i"))))
    × (command_of (codes "run" ∷ codes "s" ∷ codes "n" ∷ codes "1" ∷ codes "o" ∷ replicate 65 (codes "i")) ≡ None)
    × (command_of (codes "run" ∷ codes "s" ∷ codes "n" ∷ codes "1" ∷ []) ≡ None)
runs = (refl, refl, refl, refl, refl)

-- ---- what is read, in the order of the words
reads : (reads_of (Check (Named rx_test)) ≡ []) × (reads_of (MakeClient (File (codes "p")) [] (codes "c")) ≡ codes "p" ∷ []) × (reads_of (Encrypt (codes "c") [] [] (codes "v") (codes "o")) ≡ codes "c" ∷ codes "v" ∷ []) × (reads_of (Run (codes "s") (codes "n") 1 (codes "o") (codes "i" ∷ codes "i" ∷ [])) ≡ codes "s" ∷ codes "n" ∷ codes "i" ∷ codes "i" ∷ [])
reads = (refl, refl, refl, refl)

-- a file that is missing ends the reading, and so does one that is too long
the_file_limit : file_limit ≡ 536870912
the_file_limit = refl

got_files : (got_one (codes "a") (Some (1 ∷ [])) (whole ((2 ∷ []) ∷ [])) ≡ whole ((1 ∷ []) ∷ (2 ∷ []) ∷ [])) × (got_one (codes "a") (Some (1 ∷ [])) missing ≡ missing) × (got_one (codes "a") None (long (codes "b") 536870913) ≡ missing) × (got_one (codes "a") (Some []) (long (codes "b") 536870913) ≡ long (codes "b") 536870913)
got_files = (refl, refl, refl, refl)

-- ---- what refuses
abbrev reported : Kind → List ℕ → Report
reported kind text = (kind, text ++ 10 ∷ [])

refusals : (refuses None (whole []) ≡ Some (2, codes "usage" ++ 10 ∷ [])) × (refuses (Some (Check (File (codes "f")))) (long (codes "f") 536870913) ≡ Some (10, codes "limit file f 536870913" ++ 10 ∷ [])) × (refuses (Some (Check (File (codes "f")))) missing ≡ None)
unfolding digits
refusals = (refl, refl, refl)

-- a text is read first, and then its set is checked
check_refusals : (command_refusal (Check (File (codes "p"))) ((codes "message_bits 02" ++ 10 ∷ []) ∷ []) ≡ Some (reported Malformed (codes "malformed p line 1 form")))
    × (command_refusal (Check (File (codes "p"))) (params_text (set_of 2 1 100 24 12 2 4 6 17 20) ∷ []) ≡ Some (reported NotAccepted (codes "refused limit poly_size 100")))
    × (command_refusal (Check (Named rx_2_2)) [] ≡ None)
unfolding digits params_from key_words rest_of step_of boot_of base_of switch_of round_of left_of refusal_of
check_refusals = (refl, refl, refl)

abbrev client_of_set : Params → Client
client_of_set p = record { params = p; seed = replicate 32 0 }

abbrev no_items : Params → Cipher
no_items p = record { params = p; items = [] }

-- the client file comes before the value file, and that before a width
encrypt_refusals : (command_refusal (Encrypt (codes "c") [] [] (codes "v") (codes "o")) (take 75 (client_bytes (client_of_set rx_test)) ∷ (codes "int") ∷ []) ≡ Some (reported Malformed (codes "malformed c short 76 75")))
    × (command_refusal (Encrypt (codes "c") [] [] (codes "v") (codes "o")) (client_bytes (client_of_set rx_test) ∷ (codes "int b 9 1" ++ 10 ∷ codes "int") ∷ []) ≡ Some (reported Malformed (codes "malformed v line 2 form")))
    × (command_refusal (Encrypt (codes "c") [] [] (codes "v") (codes "o")) (client_bytes (client_of_set rx_test) ∷ (codes "int a 8 1" ++ 10 ∷ codes "int b 9 1" ++ 10 ∷ []) ∷ []) ≡ Some (reported Inputs (codes "inputs b width 9")))
    × (command_refusal (Keygen (codes "c") [] (codes "s")) (client_bytes (client_of_set rx_test) ∷ []) ≡ None)
unfolding digits client_from values_from params_at fields_at key_words rest_of step_of boot_of base_of switch_of round_of left_of refusal_of
encrypt_refusals = (refl, refl, refl, refl)

-- the sets of the two files are compared field by field
decrypt_refusals : (command_refusal (Decrypt (codes "c") (codes "f")) (client_bytes (client_of_set rx_k2) ∷ cipher_bytes (no_items rx_test) ∷ []) ≡ Some (reported Mismatch (codes "mismatch f glwe_dim 2 1")))
    × (command_refusal (Decrypt (codes "c") (codes "f")) (client_bytes (client_of_set rx_test) ∷ cipher_bytes (no_items rx_test) ∷ []) ≡ None)
unfolding digits client_from cipher_from params_at fields_at key_words rest_of step_of boot_of base_of switch_of round_of left_of refusal_of
decrypt_refusals = (refl, refl)

-- ---- a run over values: the net's message bits, then the sets of the files, then the inputs, then the workers
abbrev net_of : ℕ → List NetInput → Net
net_of space inputs = record { space = space; inputs = inputs; jobs = []; outputs = [] }

abbrev input_a : NetInput
input_a = record { name = codes "a"; kind = Int; bits = 2; degree = 3; noise = 1 }

run_refusals : (values_refusal rx_test (codes "n") (net_of 3 (input_a ∷ [])) 0 (codes "f" ∷ []) (no_items rx_k2 ∷ []) ≡ Some (reported Mismatch (codes "mismatch n message_bits 2 3")))
    × (values_refusal rx_test (codes "n") (net_of 2 (input_a ∷ [])) 0 (codes "e" ∷ codes "f" ∷ []) (no_items rx_test ∷ no_items rx_k2 ∷ []) ≡ Some (reported Mismatch (codes "mismatch f glwe_dim 1 2")))
    × (values_refusal rx_test (codes "n") (net_of 2 (input_a ∷ [])) 0 [] [] ≡ Some (reported Inputs (codes "inputs a missing")))
    × (values_refusal rx_test (codes "n") (net_of 2 []) 0 [] [] ≡ Some (reported Limit (codes "limit workers 0")))
    × (values_refusal rx_test (codes "n") (net_of 2 []) 65 [] [] ≡ Some (reported Limit (codes "limit workers 65")))
    × (values_refusal rx_test (codes "n") (net_of 2 []) 64 [] [] ≡ None)
unfolding digits large_dim
run_refusals = (refl, refl, refl, refl, refl, refl)

-- the workers before the jobs, and these before the board
limits_in_order : (limits_refusal rx_2_2 65 68208 ≡ Some (reported Limit (codes "limit workers 65")))
    × (limits_refusal rx_2_2 1 68208 ≡ Some (reported Limit (codes "limit jobs 68208")))
    × (limits_refusal rx_2_2 1 65155 ≡ Some (reported Limit (codes "limit board 33554826")))
    × (limits_refusal rx_2_2 1 65154 ≡ None)
unfolding digits large_dim
limits_in_order = (refl, refl, refl, refl)

malformed_server : command_refusal (Run (codes "s") (codes "n") 0 (codes "o") []) (codes "RXC1" ∷ [] ∷ []) ≡ Some (reported Malformed (codes "malformed s magic"))
unfolding server_from
malformed_server = refl

-- ---- lines, and files that are written one after another
abbrev worked : Bounds
worked = record { step = 1; boot = 2; base = 3; switch = 4; round = 5; left = 6; right = 7 }

printed : bounds_lines worked ≡ codes "step 1" ++ 10 ∷ codes "boot 2" ++ 10 ∷ codes "switch 4" ++ 10 ∷ codes "round 5" ++ 10 ∷ codes "left 6" ++ 10 ∷ codes "right 7" ++ 10 ∷ codes "accepted" ++ 10 ∷ []
unfolding digits
printed = refl

jobs : jobs_line 0 ≡ codes "jobs 0" ++ 10 ∷ []
unfolding digits
jobs = refl

last_stays : (files : Files) → written ((codes "a", 1 ∷ []) ∷ (codes "a", 2 ∷ []) ∷ []) files ≡ with_file (codes "a") (2 ∷ []) (with_file (codes "a") (1 ∷ []) files)
last_stays files = refl

-- the digits of an output of the cells 1 and 0, for the digits 3 and 2
given_digits : output_digits (record { space = 2; inputs = []; jobs = []; outputs = record { name = codes "s"; kind = Int; bits = 4; cells = 1 ∷ 0 ∷ [] } ∷ [] }) (3 ∷ 2 ∷ []) ≡ (2 ∷ 3 ∷ []) ∷ []
unfolding laid values_after
given_digits = refl

-- a net that exchanges the two digits of `nine` gives 6 for 9, and takes nothing from a line that it does not name
abbrev value : List ℕ → ℕ → ValueLine
value name number = record { kind = Int; name = name; bits = 4; value = number }

abbrev exchange : Net
exchange = record {
  space = 2;
  inputs = record { kind = Int; name = codes "nine"; bits = 4; degree = 3; noise = 1 } ∷ [];
  jobs = [];
  outputs = record { name = codes "s"; kind = Int; bits = 4; cells = 1 ∷ 0 ∷ [] } ∷ [];
}

exchanged : (plain_digits 2 exchange.inputs (value (codes "other") 3 ∷ value (codes "nine") 9 ∷ []) ≡ 1 ∷ 2 ∷ [])
    × (plain_lines exchange (value (codes "other") 3 ∷ value (codes "nine") 9 ∷ []) ≡ codes "s 6" ++ 10 ∷ [])
unfolding digits laid values_after
exchanged = (refl, refl)
