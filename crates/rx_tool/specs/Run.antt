-- run SERVER NET WORKERS OUT IN..: evaluates a net over the items of ciphertext files, and writes its outputs.
use Rattle.std.specs.Prelude.{ℕ, ◌≡◌, ◌<◌, ◌≤◌, ◌^◌, nat_lt, nat_le, if◌then◌else◌, List, [], ◌∷◌, ◌++◌, length, map, codes, decimal, Option, Some, None, Result, Ok, Err}
use Rattle.std.specs.Option.{option_map, option_and_then, option_or}
use Rattle.std.specs.List.{AllByRecursion}
use Rattle.rx_text.specs.Numerals.{numeral_of}
use Rattle.rx_params.specs.declared.params.Params.{Params}
use Rattle.rx_net.specs.declared.net.NetInput.{NetInput}
use Rattle.rx_net.specs.declared.net.Net.{Net}
use Rattle.rx_net.specs.Cells.{input_cells, cell_count, values_after, degree}
use Rattle.rx_net.specs.Numbers.{values_of}
use Rattle.rx_boot.specs.ServerKeys.{ServerWords, IsSecret, IsServerKey}
use Rattle.rx_block.specs.declared.block.Block.{Block}
use Rattle.rx_block.specs.Combine.{degree_in, noise_in}
use Rattle.rx_block.specs.Keeps.{AreKept}
use Rattle.rx_codec.specs.declared.cipher.Cipher.{Cipher}
use Rattle.rx_codec.specs.declared.fault.CodecFault.{CodecFault}
use Rattle.rx_codec.specs.NetFile.{NetFile, net_from}
use Rattle.rx_codec.specs.CipherFile.{CipherFile, IsCipher}
use Rattle.rx_seeded.specs.Versions.{ServerRead, CipherRead, any_server_from, any_cipher_from}
use Rattle.rx_codec.specs.Kept.{AreItemsKept}
use Rattle.rx_server.specs.Inputs.{items_of, first_fault, blocks_found, digits_found}
use Rattle.rx_server.specs.Outputs.{outputs_cipher}
use Rattle.rx_crew.specs.Evaluation.{evaluated}
use Rattle.rx_crew.specs.Noise.{KeepsCells}
use Rattle.rx_report.specs.Reports.{Report, malformed_binary, wrong_input}
use Rattle.rx_tool.specs.declared.command.Command.{Command}
use Rattle.rx_tool.specs.declared.command.Command.TheVariants.{Run}
use Rattle.rx_tool.specs.Refusals.{space_difference, set_difference, IsWithinLimits, limits_refusal}

-- the number of a word: a numeral below 2 ^ 64
abbrev pub word_number : List ℕ → Option ℕ
word_number word = option_and_then (λ n. if nat_lt n (2 ^ 64) then Some n else None) (numeral_of word)

-- the most ciphertext files of a run
abbrev pub most_files : ℕ
most_files = 64

abbrev pub run_of : List (List ℕ) → Option Command
run_of (server ∷ net ∷ workers ∷ out ∷ inputs) =
    if nat_le (length inputs) most_files then option_map (λ count. Run server net count out inputs) (word_number workers) else None
run_of _ = None

-- ---- what refuses, one thing after another
-- an input file that is no ciphertext file, else what is wrong later
abbrev pub one_malformed : List ℕ → Result Cipher CodecFault → Option Report → Option Report
one_malformed name (Err fault) later = malformed_binary name fault
one_malformed name (Ok c) later = later

-- the first input file that is no ciphertext file
abbrev pub malformed_input : List (List ℕ) → List (List ℕ) → Option Report
malformed_input [] files = None
malformed_input (name ∷ names) [] = None
malformed_input (name ∷ names) (file ∷ files) = one_malformed name (any_cipher_from file) (malformed_input names files)

-- the ciphers of files that spell them
abbrev pub cipher_before : Result Cipher CodecFault → List Cipher → List Cipher
cipher_before (Err fault) ciphers = ciphers
cipher_before (Ok c) ciphers = c ∷ ciphers

abbrev pub ciphers_of : List (List ℕ) → List Cipher
ciphers_of [] = []
ciphers_of (file ∷ files) = cipher_before (any_cipher_from file) (ciphers_of files)

-- the first input of the net that the files do not give as it wants it
abbrev pub inputs_refusal : List NetInput → List Cipher → Option Report
inputs_refusal inputs ciphers = option_map wrong_input (first_fault inputs (items_of ciphers))

-- what refuses the values of well-formed files: a difference from the key's set, an input, a limit
abbrev pub values_refusal : Params → List ℕ → Net → ℕ → List (List ℕ) → List Cipher → Option Report
values_refusal p net_name net workers names ciphers =
    option_or (space_difference net_name p net.space)
    (option_or (set_difference p names ciphers)
    (option_or (inputs_refusal net.inputs ciphers) (limits_refusal p workers (length net.jobs))))

abbrev pub run_refused : List ℕ → List ℕ → ℕ → List (List ℕ) → Result ServerWords CodecFault → Result Net CodecFault → List (List ℕ) → Option Report
run_refused server net workers names (Err fault) read files = malformed_binary server fault
run_refused server net workers names (Ok k) (Err fault) files = malformed_binary net fault
run_refused server net workers names (Ok k) (Ok n) files =
    option_or (malformed_input names files) (values_refusal k.params net n workers names (ciphers_of files))

-- what refuses: the server file, the net file, the ciphertext files in their order, and then their values
abbrev pub run_refusal : List ℕ → List ℕ → ℕ → List (List ℕ) → List (List ℕ) → Option Report
run_refusal server net workers names (server_file ∷ net_file ∷ files) =
    run_refused server net workers names (any_server_from server_file) (net_from net_file) files
run_refusal server net workers names _ = None

-- ---- what is known where nothing refuses
abbrev pub AreCipherValues : List Cipher → Type 0
AreCipherValues ciphers = AllByRecursion IsCipher ciphers

abbrev pub AreOfSet : Params → List Cipher → Type 0
AreOfSet p ciphers = AllByRecursion (λ (c : Cipher). c.params ≡ p) ciphers

-- a net that may be run under a key of a set over some ciphers
pub record MayRun (p : Params) (net : Net) (workers : ℕ) (ciphers : List Cipher) : Type 0 where
  pub space : net.space ≡ p.message_bits
  pub sets : AreOfSet p ciphers
  pub found : first_fault net.inputs (items_of ciphers) ≡ None
  pub limits : IsWithinLimits p workers (length net.jobs)

-- ---- what it does
-- each file reads as a cipher
abbrev pub AreCiphers : List (List ℕ) → List Cipher → Type 0
AreCiphers [] [] = Unit {0}
AreCiphers [] (c ∷ ciphers) = ⊥
AreCiphers (file ∷ files) [] = ⊥
AreCiphers (file ∷ files) (c ∷ ciphers) = CipherRead file c × AreCiphers files ciphers

-- the blocks of the net's inputs that the items of some ciphers give
abbrev pub input_blocks : Net → List Cipher → List Block
input_blocks net ciphers = blocks_found net.inputs (items_of ciphers)

-- the ciphertext of a net's outputs over blocks of its inputs, and over the items of some ciphers
abbrev pub evaluation : ServerWords → Net → List Block → Cipher
evaluation k net inputs = outputs_cipher k.params (evaluated k net inputs) net.outputs

abbrev pub run_cipher : ServerWords → Net → List Cipher → Cipher
run_cipher k net ciphers = evaluation k net (input_blocks net ciphers)

abbrev pub jobs_line : ℕ → List ℕ
jobs_line jobs = codes "jobs " ++ (decimal jobs ++ 10 ∷ [])

-- each job's cell has the degree that the job declares, and a noise tag of 1
abbrev pub HasJobTags : Net → List Block → Type 0
HasJobTags net cells =
    (c : ℕ) → input_cells net.space net.inputs ≤ c → c < cell_count net →
    (degree_in cells c ≡ degree net c) × (noise_in cells c ≡ 1)

-- the values of each output's cells, for values of the input cells
abbrev pub output_digits : Net → List ℕ → List (List ℕ)
output_digits net values = map (values_of (values_after values net.jobs)) net.outputs

-- For every secret of which the server key is one: where the blocks of the net's inputs keep values, each block of
-- the outputs keeps the value that the net gives its cell.
abbrev pub KeepsRun : ServerWords → Net → List Cipher → Type 0
KeepsRun k net ciphers =
    (small large values : List ℕ) → IsSecret k.params small large → IsServerKey small large k →
    AreKept k.params large (input_blocks net ciphers) values →
    AreItemsKept k.params large (run_cipher k net ciphers).items (output_digits net values)

-- For every such secret: where the items of the input files keep digits, those that are written keep the digits that
-- the net gives for the digits of its inputs.
abbrev pub KeepsItems : ServerWords → Net → List Cipher → Type 0
KeepsItems k net ciphers =
    (small large : List ℕ) (lists : List (List ℕ)) → IsSecret k.params small large → IsServerKey small large k →
    AreItemsKept k.params large (items_of ciphers) lists →
    AreItemsKept k.params large (run_cipher k net ciphers).items
    (output_digits net (digits_found net.inputs (items_of ciphers) lists))

-- The one ciphertext file that the server key, the net and the inputs determine, whatever the number of workers is; that
-- every cell of the net keeps its value and each job's its tags; and the line of the number of jobs.
pub record RunsOver (out server_file net_file : List ℕ) (files : List (List ℕ)) (writes : List (List ℕ × List ℕ)) (lines : List ℕ) : Type 0 where
  pub key : ServerWords
  pub net : Net
  pub ciphers : List Cipher
  pub bytes : List ℕ
  pub server : ServerRead server_file key
  pub program : NetFile net_file net
  pub inputs : AreCiphers files ciphers
  pub output : CipherFile bytes (run_cipher key net ciphers)
  pub cells_keep : KeepsCells key net (input_blocks net ciphers)
  pub job_tags : HasJobTags net (evaluated key net (input_blocks net ciphers))
  pub outputs_keep : KeepsRun key net ciphers
  pub items_keep : KeepsItems key net ciphers
  pub wrote : writes ≡ (out, bytes) ∷ []
  pub printed : lines ≡ jobs_line (length net.jobs)

abbrev pub RunDoes : List ℕ → List (List ℕ) → List (List ℕ × List ℕ) → List ℕ → Type 0
RunDoes out (server_file ∷ net_file ∷ files) writes lines = RunsOver out server_file net_file files writes lines
RunDoes out _ writes lines = ⊥
