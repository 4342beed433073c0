-- The commands: the words that name each, the files that it reads, what refuses it and what it does. A new command adds a
-- case to each definition here, and a file of its own.
use Rattle.std.specs.Prelude.{ℕ, List, [], ◌∷◌, codes, Option, None, if◌then◌else◌}
use Rattle.std.specs.Str.{bytes_eq}
use Rattle.rx_report.specs.Reports.{Report}
use Rattle.rx_tool.specs.declared.command.Command.{Command}
use Rattle.rx_tool.specs.declared.command.Command.TheVariants.{Check, MakeClient, Keygen, Encrypt, Compile, Fold, Run, Decrypt, Trip, Plain, Make, Migrate, Expand}
use Rattle.rx_tool.specs.Sources.{source_reads, source_refusal}
use Rattle.rx_tool.specs.Check.{check_of, CheckDoes}
use Rattle.rx_tool.specs.MakeClient.{client_of, ClientDoes}
use Rattle.rx_tool.specs.Keygen.{keygen_of, keygen_refusal, KeygenDoes}
use Rattle.rx_tool.specs.Encrypt.{encrypt_of, encrypt_refusal, EncryptDoes}
use Rattle.rx_tool.specs.Compile.{compile_of, compile_refusal, CompileDoes}
use Rattle.rx_tool.specs.Fold.{fold_of, fold_refusal, FoldDoes}
use Rattle.rx_tool.specs.Run.{run_of, run_refusal, RunDoes}
use Rattle.rx_tool.specs.Decrypt.{decrypt_of, decrypt_refusal, DecryptDoes}
use Rattle.rx_tool.specs.Trip.{trip_of, trip_refusal, TripDoes}
use Rattle.rx_tool.specs.Plain.{plain_of, plain_refusal, PlainDoes}
use Rattle.rx_tool.specs.Make.{make_of, MakeDoes}
use Rattle.rx_tool.specs.Migrate.{migrate_of, migrate_refusal, MigrateDoes}
use Rattle.rx_tool.specs.Expand.{expand_of, expand_refusal, ExpandDoes}

-- the command of some words, none where they are no command
abbrev pub command_of : List (List ℕ) → Option Command
command_of [] = None
command_of (word ∷ arguments) =
    if bytes_eq word (codes "check") then check_of arguments
    else if bytes_eq word (codes "client") then client_of arguments
    else if bytes_eq word (codes "keygen") then keygen_of arguments
    else if bytes_eq word (codes "encrypt") then encrypt_of arguments
    else if bytes_eq word (codes "compile") then compile_of arguments
    else if bytes_eq word (codes "fold") then fold_of arguments
    else if bytes_eq word (codes "run") then run_of arguments
    else if bytes_eq word (codes "decrypt") then decrypt_of arguments
    else if bytes_eq word (codes "trip") then trip_of arguments
    else if bytes_eq word (codes "plain") then plain_of arguments
    else if bytes_eq word (codes "make") then make_of arguments
    else if bytes_eq word (codes "migrate") then migrate_of arguments
    else if bytes_eq word (codes "expand") then expand_of arguments
    else None

-- the names of the files that it reads, in order
abbrev pub reads_of : Command → List (List ℕ)
reads_of (Check source) = source_reads source
reads_of (MakeClient source seed client) = source_reads source
reads_of (Keygen client mask_seed server) = client ∷ []
reads_of (Encrypt client mask_seed noise_seed values out) = client ∷ values ∷ []
reads_of (Compile circuit net) = circuit ∷ []
reads_of (Fold net out) = net ∷ []
reads_of (Run server net workers out inputs) = server ∷ net ∷ inputs
reads_of (Decrypt client input) = client ∷ input ∷ []
reads_of (Trip t) = t.client ∷ t.circuit ∷ t.values ∷ []
reads_of (Plain circuit values) = circuit ∷ values ∷ []
reads_of (Make number circuit values) = []
reads_of (Migrate mask_seed input out) = input ∷ []
reads_of (Expand input out) = input ∷ []

-- the first refusal of a command whose files were all read whole, or none
abbrev pub command_refusal : Command → List (List ℕ) → Option Report
command_refusal (Check source) files = source_refusal source files
command_refusal (MakeClient source seed client) files = source_refusal source files
command_refusal (Keygen client mask_seed server) files = keygen_refusal client files
command_refusal (Encrypt client mask_seed noise_seed values out) files = encrypt_refusal client values files
command_refusal (Compile circuit net) files = compile_refusal circuit files
command_refusal (Fold net out) files = fold_refusal net files
command_refusal (Run server net workers out inputs) files = run_refusal server net workers inputs files
command_refusal (Decrypt client input) files = decrypt_refusal client input files
command_refusal (Trip t) files = trip_refusal t files
command_refusal (Plain circuit values) files = plain_refusal circuit values files
command_refusal (Make number circuit values) files = None
command_refusal (Migrate mask_seed input out) files = migrate_refusal mask_seed input files
command_refusal (Expand input out) files = expand_refusal input files

-- A command that is not refused writes these files in this order, and then prints these bytes.
abbrev pub Does : Command → List (List ℕ) → List (List ℕ × List ℕ) → List ℕ → Type 0
Does (Check source) files writes lines = CheckDoes source files writes lines
Does (MakeClient source seed client) files writes lines = ClientDoes source seed client files writes lines
Does (Keygen client mask_seed server) files writes lines = KeygenDoes mask_seed server files writes lines
Does (Encrypt client mask_seed noise_seed values out) files writes lines =
    EncryptDoes mask_seed noise_seed out files writes lines
Does (Compile circuit net) files writes lines = CompileDoes net files writes lines
Does (Fold net out) files writes lines = FoldDoes out files writes lines
Does (Run server net workers out inputs) files writes lines = RunDoes out files writes lines
Does (Decrypt client input) files writes lines = DecryptDoes files writes lines
Does (Trip t) files writes lines = TripDoes t files writes lines
Does (Plain circuit values) files writes lines = PlainDoes files writes lines
Does (Make number circuit values) files writes lines = MakeDoes number circuit values writes lines
Does (Migrate mask_seed input out) files writes lines = MigrateDoes mask_seed out files writes lines
Does (Expand input out) files writes lines = ExpandDoes out files writes lines
