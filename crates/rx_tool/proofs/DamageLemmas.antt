-- Damage is told by `decrypt` alone: no other command has a refusal of that kind.
use Rattle.std.proofs.Common.{◌≡◌, ◌≢◌, ℕ, List, [], ◌∷◌, refl, ap, Some, None, Option, Result, Ok, Err, IfSome, Bool, true, false, arith, unwrap_or}
use Rattle.std.specs.Prelude.{if◌then◌else◌, codes}
use Rattle.std.specs.Option.{option_map, option_or}
use Rattle.rx_text.specs.declared.fault.LineFault.{LineFault}
use Rattle.rx_params.specs.declared.params.Params.{Params}
use Rattle.rx_params.specs.declared.bounds.Refused.{Refused}
use Rattle.rx_params.specs.declared.bounds.Refused.TheVariants.{Limit as OutsideLimit, NarrowBox, Noise}
use Rattle.rx_params.specs.Acceptance.{refusal_of}
use Rattle.rx_params.specs.Text.{params_from}
use Rattle.rx_circuit.specs.declared.values.ValueLine.{ValueLine}
use Rattle.rx_circuit.specs.Values.{values_from}
use Rattle.rx_circuit.specs.declared.inputs.InputError.{InputError}
use Rattle.rx_circuit.specs.declared.inputs.InputError.TheVariants.{Missing as MissingNumber, Form as NumberForm, Memory as NoMemory}
use Rattle.rx_circuit.specs.Inputs.{found_inputs}
use Rattle.rx_language.specs.Programs.{Program, inputs_of}
use Rattle.rx_language.specs.Reading.{circuit_from}
use Rattle.rx_meaning.specs.Bounds.{jobs_of}
use Rattle.rx_client.specs.Encrypt.{first_width}
use Rattle.rx_net.specs.declared.net.Net.{Net}
use Rattle.rx_boot.specs.ServerKeys.{ServerWords}
use Rattle.rx_codec.specs.declared.client.Client.{Client}
use Rattle.rx_codec.specs.declared.cipher.Cipher.{Cipher}
use Rattle.rx_codec.specs.declared.fault.CodecFault.{CodecFault}
use Rattle.rx_codec.specs.declared.fault.CodecFault.TheVariants.{Magic, Short, Long, Field, Params as RefusedParams, Net as NotLegal, Memory}
use Rattle.rx_codec.specs.ClientFile.{client_from}
use Rattle.rx_codec.specs.ServerFile.{server_from}
use Rattle.rx_codec.specs.NetFile.{net_from}
use Rattle.rx_codec.specs.CipherFile.{cipher_from}
use Rattle.rx_seeded.specs.FileKinds.{begins}
use Rattle.rx_seeded.specs.SeededServer.{seeded_server_from, wrong_server_mask}
use Rattle.rx_seeded.specs.SeededCipher.{seeded_cipher_from, wrong_cipher_mask}
use Rattle.rx_seeded.specs.Versions.{any_server_from, any_cipher_from}
use Rattle.rx_server.specs.declared.fault.InputFault.{InputFault}
use Rattle.rx_server.specs.declared.fault.InputFault.TheVariants.{Missing, Twice, Form as WrongForm, Degree, Noise as TooNoisy}
use Rattle.rx_server.specs.Inputs.{items_of, first_fault}
use Rattle.rx_report.specs.declared.difference.Difference.{Difference}
use Rattle.rx_report.specs.declared.refusal.Kind.{Kind}
use Rattle.rx_report.specs.declared.refusal.Kind.TheVariants.{Malformed, NotAccepted, Mismatch, Inputs, Damaged, Limit, Seed}
use Rattle.rx_report.specs.Reports.{Report, status_of, not_accepted, malformed_binary, mismatch, difference_of, wrong_input, wrong_mask, wrong_width}
use Rattle.rx_tool.specs.declared.command.Source.{Source}
use Rattle.rx_tool.specs.declared.command.Source.TheVariants.{Named, File}
use Rattle.rx_tool.specs.declared.command.Command.{Command}
use Rattle.rx_tool.specs.declared.command.Command.TheVariants.{Check, MakeClient, Keygen, Encrypt, Compile, Fold, Run, Decrypt, Trip, Plain, Make, Migrate, Expand}
use Rattle.rx_tool.specs.declared.command.TripWords.{TripWords}
use Rattle.rx_tool.specs.Sources.{read_refusal, source_refusal}
use Rattle.rx_tool.specs.Keygen.{keygen_refused, keygen_refusal}
use Rattle.rx_tool.specs.Encrypt.{width_refusal, encrypt_refused, encrypt_refusal}
use Rattle.rx_tool.specs.Compile.{compile_refused, compile_refusal}
use Rattle.rx_tool.specs.Fold.{fold_refused, fold_refusal}
use Rattle.rx_tool.specs.Refusals.{space_difference, set_difference, workers_refusal, jobs_refusal, board_refusal, limits_refusal}
use Rattle.rx_tool.specs.Run.{one_malformed, malformed_input, ciphers_of, inputs_refusal, values_refusal, run_refused, run_refusal}
use Rattle.rx_tool.specs.Trip.{trip_values_refusal, trip_refused, trip_refusal}
use Rattle.rx_tool.specs.Plain.{inputs_refused, plain_refused, plain_refusal}
use Rattle.rx_tool.specs.Migrate.{migrate_server_refused, migrate_cipher_refused, migrate_refusal}
use Rattle.rx_tool.specs.Expand.{expand_server_refused, expand_cipher_refused, expand_refusal}
use Rattle.rx_tool.specs.Commands.{command_refusal}
use Rattle.rx_tool.specs.Got.{Got, whole, long, missing, as_report, refuses}
use Rattle.rx_tool.specs.Told.{IsDecrypt}

-- if it refuses, it is not for damage
abbrev NotDamage : Option Report → Type 0
NotDamage refusal = IfSome refusal (λ report. report.0 ≢ Damaged)

-- ---- the parts of refusals

either : (first later : Option Report) → NotDamage first → NotDamage later → NotDamage (option_or first later)
either (Some report) later p q = p
either None later p q = q

of_set : (refused : Option Refused) → NotDamage (option_map not_accepted refused)
of_set None = tt
of_set (Some (OutsideLimit field value)) = λ e. cc
of_set (Some (NarrowBox n p)) = λ e. cc
of_set (Some (Noise left right)) = λ e. cc

of_binary : (name : List ℕ) (fault : CodecFault) → NotDamage (malformed_binary name fault)
of_binary name Magic = λ e. cc
of_binary name (Short need have) = λ e. cc
of_binary name (Long extra) = λ e. cc
of_binary name (Field at) = λ e. cc
of_binary name (NotLegal fault) = λ e. cc
of_binary name (RefusedParams refused) = of_set (Some refused)
of_binary name Memory = tt

of_input : (fault : Option InputFault) → NotDamage (option_map wrong_input fault)
of_input None = tt
of_input (Some (Missing name)) = λ e. cc
of_input (Some (Twice name)) = λ e. cc
of_input (Some (WrongForm name)) = λ e. cc
of_input (Some (Degree name value limit)) = λ e. cc
of_input (Some (TooNoisy name value limit)) = λ e. cc

of_width : (line : Option ValueLine) → NotDamage (option_map (λ v. wrong_width v.name v.bits) line)
of_width None = tt
of_width (Some v) = λ e. cc

-- a report of another kind where a test fails
of_test : (passed : Bool) (report : Report) → report.0 ≢ Damaged → NotDamage (if passed then None else Some report)
of_test true report other = tt
of_test false report other = other

of_difference : (name : List ℕ) (found : Option Difference) → NotDamage (option_map (mismatch name) found)
of_difference name None = tt
of_difference name (Some difference) = λ e. cc

of_sets : (p : Params) (names : List (List ℕ)) (ciphers : List Cipher) → NotDamage (set_difference p names ciphers)
of_sets p [] ciphers = tt
of_sets p (name ∷ names) [] = tt
of_sets p (name ∷ names) (c ∷ ciphers) =
    either (option_map (mismatch name) (difference_of p c.params)) (set_difference p names ciphers)
    (of_difference name (difference_of p c.params)) (of_sets p names ciphers)

of_limits : (p : Params) (workers jobs : ℕ) → NotDamage (limits_refusal p workers jobs)
of_limits p workers jobs =
    either (workers_refusal workers) (option_or (jobs_refusal jobs) (board_refusal p jobs)) (of_test _ _ (λ e. cc))
    (either (jobs_refusal jobs) (board_refusal p jobs) (of_test _ _ (λ e. cc)) (of_test _ _ (λ e. cc)))

-- ---- the commands

of_source : (source : Source) (files : List (List ℕ)) → NotDamage (source_refusal source files)
of_source (Named set) files = of_set (refusal_of set)
of_source (File name) [] = tt
of_source (File name) (bytes ∷ []) = of_read (params_from bytes)
  where
    of_read : (read : Result Params LineFault) → NotDamage (read_refusal name read)
    of_read (Err fault) = λ e. cc
    of_read (Ok p) = of_set (refusal_of p)
of_source (File name) (bytes ∷ more ∷ files) = tt

of_keygen : (client : List ℕ) (files : List (List ℕ)) → NotDamage (keygen_refusal client files)
of_keygen client [] = tt
of_keygen client (file ∷ []) = of_read (client_from file)
  where
    of_read : (read : Result Client CodecFault) → NotDamage (keygen_refused client read)
    of_read (Err fault) = of_binary client fault
    of_read (Ok c) = tt
of_keygen client (file ∷ more ∷ files) = tt

of_encrypt : (client values : List ℕ) (files : List (List ℕ)) → NotDamage (encrypt_refusal client values files)
of_encrypt client values [] = tt
of_encrypt client values (file ∷ []) = tt
of_encrypt client values (first ∷ second ∷ []) = of_read (client_from first) (values_from second)
  where
    of_read : (read : Result Client CodecFault) (lines : Result (List ValueLine) LineFault) → NotDamage (encrypt_refused client values read lines)
    of_read (Err fault) lines = of_binary client fault
    of_read (Ok c) (Err fault) = λ e. cc
    of_read (Ok c) (Ok lines) = of_width (first_width c.params.message_bits lines)
of_encrypt client values (first ∷ second ∷ more ∷ files) = tt

of_inputs : (names files : List (List ℕ)) → NotDamage (malformed_input names files)
of_inputs [] files = tt
of_inputs (name ∷ names) [] = tt
of_inputs (name ∷ names) (file ∷ files) = of_one (any_cipher_from file) (of_inputs names files)
  where
    of_one : (read : Result Cipher CodecFault) → NotDamage (malformed_input names files) → NotDamage (one_malformed name read (malformed_input names files))
    of_one (Err fault) rest = of_binary name fault
    of_one (Ok c) rest = rest

of_values : (p : Params) (net_name : List ℕ) (net : Net) (workers : ℕ) (names : List (List ℕ)) (ciphers : List Cipher) → NotDamage (values_refusal p net_name net workers names ciphers)
of_values p net_name net workers names ciphers =
    either (space_difference net_name p net.space) _ (of_test _ _ (λ e. cc))
    (either (set_difference p names ciphers) _ (of_sets p names ciphers)
    (either (inputs_refusal net.inputs ciphers) _ (of_input (first_fault net.inputs (items_of ciphers)))
    (of_limits p workers _)))

of_run : (server net : List ℕ) (workers : ℕ) (names files : List (List ℕ)) → NotDamage (run_refusal server net workers names files)
of_run server net workers names [] = tt
of_run server net workers names (file ∷ []) = tt
of_run server net workers names (first ∷ second ∷ files) = of_read (any_server_from first) (net_from second)
  where
    of_read : (key : Result ServerWords CodecFault) (read : Result Net CodecFault) → NotDamage (run_refused server net workers names key read files)
    of_read (Err fault) read = of_binary server fault
    of_read (Ok k) (Err fault) = of_binary net fault
    of_read (Ok k) (Ok n) =
        either (malformed_input names files) _ (of_inputs names files) (of_values k.params net n workers names (ciphers_of files))

of_compile : (circuit : List ℕ) (files : List (List ℕ)) → NotDamage (compile_refusal circuit files)
of_compile circuit [] = tt
of_compile circuit (file ∷ []) = of_read (circuit_from file)
  where
    of_read : (read : Result Program LineFault) → NotDamage (compile_refused circuit read)
    of_read (Err fault) = λ e. cc
    of_read (Ok p) = of_test _ _ (λ e. cc)
of_compile circuit (file ∷ more ∷ files) = tt

of_fold : (net : List ℕ) (files : List (List ℕ)) → NotDamage (fold_refusal net files)
of_fold net [] = tt
of_fold net (file ∷ []) = of_read (net_from file)
  where
    of_read : (read : Result Net CodecFault) → NotDamage (fold_refused net read)
    of_read (Err fault) = of_binary net fault
    of_read (Ok n) = tt
of_fold net (file ∷ more ∷ files) = tt

of_given : (found : Result (List ℕ) InputError) → NotDamage (inputs_refused found)
of_given (Ok numbers) = tt
of_given (Err (MissingNumber name)) = λ e. cc
of_given (Err (NumberForm name)) = λ e. cc
of_given (Err NoMemory) = tt

of_trip_values : (t : TripWords) (c : Client) (p : Program) (lines : List ValueLine) → NotDamage (trip_values_refusal t c p lines)
of_trip_values t c p lines =
    either (space_difference t.circuit c.params p.space) _ (of_test _ _ (λ e. cc))
    (either (inputs_refused (found_inputs (inputs_of p) lines)) _ (of_given (found_inputs (inputs_of p) lines))
    (either (width_refusal c lines) _ (of_width (first_width c.params.message_bits lines))
    (of_limits c.params t.workers (jobs_of p))))

of_trip : (t : TripWords) (files : List (List ℕ)) → NotDamage (trip_refusal t files)
of_trip t [] = tt
of_trip t (first ∷ []) = tt
of_trip t (first ∷ second ∷ []) = tt
of_trip t (first ∷ second ∷ third ∷ []) = of_read (client_from first) (circuit_from second) (values_from third)
  where
    of_read : (client : Result Client CodecFault) (read : Result Program LineFault) (lines : Result (List ValueLine) LineFault) →
        NotDamage (trip_refused t client read lines)
    of_read (Err fault) read lines = of_binary t.client fault
    of_read (Ok c) (Err fault) lines = λ e. cc
    of_read (Ok c) (Ok p) (Err fault) = λ e. cc
    of_read (Ok c) (Ok p) (Ok lines) = of_trip_values t c p lines
of_trip t (first ∷ second ∷ third ∷ more ∷ files) = tt

of_plain : (circuit values : List ℕ) (files : List (List ℕ)) → NotDamage (plain_refusal circuit values files)
of_plain circuit values [] = tt
of_plain circuit values (file ∷ []) = tt
of_plain circuit values (first ∷ second ∷ []) = of_read (circuit_from first) (values_from second)
  where
    of_read : (read : Result Program LineFault) (lines : Result (List ValueLine) LineFault) → NotDamage (plain_refused circuit values read lines)
    of_read (Err fault) lines = λ e. cc
    of_read (Ok p) (Err fault) = λ e. cc
    of_read (Ok p) (Ok lines) = of_given (found_inputs (inputs_of p) lines)
of_plain circuit values (first ∷ second ∷ more ∷ files) = tt

of_mask : (name : List ℕ) (wrong : Option ℕ) → NotDamage (option_map (wrong_mask name) wrong)
of_mask name None = tt
of_mask name (Some at) = λ e. cc

-- one of two refusals
of_either : (b : Bool) (first later : Option Report) → NotDamage first → NotDamage later → NotDamage (if b then first else later)
of_either true first later p q = p
of_either false first later p q = q

of_migrate : (mask_seed input : List ℕ) (files : List (List ℕ)) → NotDamage (migrate_refusal mask_seed input files)
of_migrate mask_seed input [] = tt
of_migrate mask_seed input (file ∷ []) =
    of_either (begins file (codes "RXS1")) _ _ (of_server (server_from file)) (of_cipher (cipher_from file))
  where
    of_server : (read : Result ServerWords CodecFault) → NotDamage (migrate_server_refused mask_seed input read)
    of_server (Err fault) = of_binary input fault
    of_server (Ok k) = of_mask input (wrong_server_mask mask_seed k)

    of_cipher : (read : Result Cipher CodecFault) → NotDamage (migrate_cipher_refused mask_seed input read)
    of_cipher (Err fault) = of_binary input fault
    of_cipher (Ok c) = of_mask input (wrong_cipher_mask mask_seed c)
of_migrate mask_seed input (file ∷ more ∷ files) = tt

of_expand : (input : List ℕ) (files : List (List ℕ)) → NotDamage (expand_refusal input files)
of_expand input [] = tt
of_expand input (file ∷ []) =
    of_either (begins file (codes "RXS2")) _ _ (of_server (seeded_server_from file)) (of_cipher (seeded_cipher_from file))
  where
    of_server : (read : Result ServerWords CodecFault) → NotDamage (expand_server_refused input read)
    of_server (Err fault) = of_binary input fault
    of_server (Ok k) = tt

    of_cipher : (read : Result Cipher CodecFault) → NotDamage (expand_cipher_refused input read)
    of_cipher (Err fault) = of_binary input fault
    of_cipher (Ok c) = tt
of_expand input (file ∷ more ∷ files) = tt

-- ---- the status of damage

of_kind : (kind : Kind) → status_of kind ≡ 9 → kind ≡ Damaged
of_kind Malformed nine = absurd (omega arith)
of_kind NotAccepted nine = absurd (omega arith)
of_kind Mismatch nine = absurd (omega arith)
of_kind Inputs nine = absurd (omega arith)
of_kind Damaged nine = refl
of_kind Limit nine = absurd (omega arith)
of_kind Seed nine = absurd (omega arith)

pub same_status : (a b : ℕ) (l m : List ℕ) → ◌≡◌ {A = Option (ℕ × List ℕ)} (Some (a, l)) (Some (b, m)) → a ≡ b
same_status a b l m e = ap (λ o. (unwrap_or {T = ℕ × List ℕ} o (a, l)).0) e

other_status : (refusal : Option Report) (line : List ℕ) → NotDamage refusal → option_map as_report refusal ≡ Some (9, line) → ⊥
other_status None line other e = absurd (cc)
other_status (Some (kind, words)) line other e = other (of_kind kind (same_status _ _ _ _ e))

-- a command whose refusal has the status of damage decrypts
of_files : (command : Command) (files : List (List ℕ)) (line : List ℕ) → option_map as_report (command_refusal command files) ≡ Some (9, line) → IsDecrypt (Some command)
of_files (Check source) files line e = absurd (other_status _ line (of_source source files) e)
of_files (MakeClient source seed client) files line e = absurd (other_status _ line (of_source source files) e)
of_files (Keygen client mask_seed server) files line e = absurd (other_status _ line (of_keygen client files) e)
of_files (Encrypt client mask_seed noise_seed values out) files line e = absurd (other_status _ line (of_encrypt client values files) e)
of_files (Compile circuit net) files line e = absurd (other_status _ line (of_compile circuit files) e)
of_files (Fold net out) files line e = absurd (other_status _ line (of_fold net files) e)
of_files (Run server net workers out inputs) files line e = absurd (other_status _ line (of_run server net workers inputs files) e)
of_files (Decrypt client input) files line e = tt
of_files (Trip t) files line e = absurd (other_status _ line (of_trip t files) e)
of_files (Plain circuit values) files line e = absurd (other_status _ line (of_plain circuit values files) e)
of_files (Make number circuit values) files line e = absurd (other_status None line tt e)
of_files (Migrate mask_seed input out) files line e = absurd (other_status _ line (of_migrate mask_seed input files) e)
of_files (Expand input out) files line e = absurd (other_status _ line (of_expand input files) e)

pub of_decrypt : (command : Option Command) (given : Got) (line : List ℕ) → refuses command given ≡ Some (9, line) → IsDecrypt command
of_decrypt None given line e = absurd (omega (arith, same_status _ _ _ _ e))
of_decrypt (Some command) (whole files) line e = of_files command files line e
of_decrypt (Some command) (long name size) line e = absurd (omega (arith, same_status _ _ _ _ e))
of_decrypt (Some command) missing line e = absurd (cc)
