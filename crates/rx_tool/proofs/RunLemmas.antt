-- A run is its parts.
use Rattle.std.proofs.Common.{◌≡◌, ◌≢◌, ℕ, List, [], refl, sym, ap, subst, ◌∙◌, inl, inr, arith, Some, None, Option, IfSome, Err}
use Rattle.std.specs.Option.{option_map}
use Rattle.rx_store.specs.Files.{Files}
use Rattle.rx_report.specs.declared.refusal.Kind.TheVariants.{Limit}
use Rattle.rx_tool.specs.declared.command.Command.{Command}
use Rattle.rx_tool.specs.declared.outcome.Stop.{Stop}
use Rattle.rx_tool.specs.declared.outcome.Stop.TheVariants.{Refused, Read, Memory}
use Rattle.rx_report.specs.Reports.{status_of, too_long, usage_line}
use Rattle.rx_tool.specs.Commands.{reads_of, command_refusal, Does}
use Rattle.rx_tool.specs.World.{world}
use Rattle.rx_tool.specs.Got.{Got, whole, long, got_all, MayGive, Given, refuses, as_report, ReadsAll}
use Rattle.rx_tool.specs.Answers.{Answers}
use Rattle.rx_tool.specs.Ends as ends
use Rattle.rx_tool.specs.Ends.{ReportGives, GivesUp, Performs, at_write, at_put, short_of_memory}
use Rattle.rx_tool.specs.Ran.{Ran, refused, unread, no_memory, stopped, out_of_memory, finished}

is_some : (command : Command) → Some command ≢ None
is_some command = λ e. cc

-- what was read whole
abbrev pub ReadWhole : Command → Option Files → List (List ℕ) → Type 0
ReadWhole command f0 files =
    MayGive (reads_of command) (whole files) × IfSome f0 (λ f. got_all (reads_of command) f ≡ whole files)

given_whole : (command : Command) (f0 : Option Files) (files : List (List ℕ)) → ReadWhole command f0 files → Given (Some command) f0 (whole files)
given_whole command f0 files read = record { may = read.0; told = read.1 }

-- a report is the end of a run that is refused, or it wants memory
pub reported : (command : Option Command) (given : Got) (code status : ℕ) (line : List ℕ) (f0 f1 : Option Files) (r0 r1 w0 w1 : ℕ) (p0 p1 : Option (List ℕ)) (q0 q1 : ℕ) →
    Given command f0 given → refuses command given ≡ Some (code, line) → f1 ≡ f0 → ReportGives code line p0 q0 p1 q1 status →
    Ran command (world f0 r0 w0 p0 q0) (world f1 r1 w1 p1 q1) status
reported command given code status line f0 f1 r0 r1 w0 w1 p0 p1 q0 q1 is refuse same (inl (code_is, prints)) =
    refused given status line is (refuse ∙ ap (λ s. Some (s, line)) (sym code_is)) same prints
reported command given code status line f0 f1 r0 r1 w0 w1 p0 p1 q0 q1 is refuse same (inr (eleven, silent)) =
    subst (λ s. Ran command (world f0 r0 w0 p0 q0) (world f1 r1 w1 p1 q1) s) (sym eleven)
    (no_memory (record { same_files = same; same_printed = silent }))

module _ (command : Command) (status : ℕ) (f0 f1 : Option Files) (r0 r1 w0 w1 : ℕ) (p0 p1 : Option (List ℕ)) (q0 q1 : ℕ) (same : f1 ≡ f0) where
  -- the reading did not give all files
  gave_up_reading : (stop : Stop) → ReadsAll f0 (reads_of command) r0 r1 (Err stop) → GivesUp stop p0 q0 p1 q1 status →
      Ran (Some command) (world f0 r0 w0 p0 q0) (world f1 r1 w1 p1 q1) status
  gave_up_reading (Refused refusal) reads gives =
      reported (Some command) (long reads.0 reads.1) (status_of Limit) status (too_long reads.0 reads.1).1 f0 f1 r0 r1 w0 w1 p0 p1 q0 q1
      (record { may = reads.3; told = reads.4 }) refl same
      (subst (λ r. ReportGives (status_of r.0) r.1 p0 q0 p1 q1 status) reads.2 gives)
  gave_up_reading Read reads gives =
      subst (λ s. Ran (Some command) (world f0 r0 w0 p0 q0) (world f1 r1 w1 p1 q1) s) (sym gives.0)
      (unread (is_some command) (record { same_files = same; same_printed = gives.1 }) reads)
  gave_up_reading Memory reads gives =
      subst (λ s. Ran (Some command) (world f0 r0 w0 p0 q0) (world f1 r1 w1 p1 q1) s) (sym gives.0)
      (no_memory (record { same_files = same; same_printed = gives.1 }))

  pub gave_up_on : (names : List (List ℕ)) (stop : Stop) → names ≡ reads_of command → ReadsAll f0 names r0 r1 (Err stop) → GivesUp stop p0 q0 p1 q1 status → Ran (Some command) (world f0 r0 w0 p0 q0) (world f1 r1 w1 p1 q1) status
  gave_up_on names stop is reads gives = gave_up_reading stop (subst (λ n. ReadsAll f0 n r0 r1 (Err stop)) is reads) gives

  -- the command itself gave up
  gave_up : (stop : Stop) (files : List (List ℕ)) → ReadWhole command f0 files → Answers command files (Err stop) → GivesUp stop p0 q0 p1 q1 status →
      Ran (Some command) (world f0 r0 w0 p0 q0) (world f1 r1 w1 p1 q1) status
  gave_up (Refused refusal) files is answers gives =
      reported (Some command) (whole files) (status_of refusal.0) status refusal.1 f0 f1 r0 r1 w0 w1 p0 p1 q0 q1
      (given_whole command f0 files is) (ap (option_map as_report) answers) same gives
  gave_up Read files is answers gives = absurd answers
  gave_up Memory files is answers gives =
      subst (λ s. Ran (Some command) (world f0 r0 w0 p0 q0) (world f1 r1 w1 p1 q1) s) (sym gives.0)
      (no_memory (record { same_files = same; same_printed = gives.1 }))

  pub gave_up_with : (given : List (List ℕ)) (stop : Stop) (files : List (List ℕ)) → given ≡ files → ReadWhole command f0 files → Answers command given (Err stop) → GivesUp stop p0 q0 p1 q1 status → Ran (Some command) (world f0 r0 w0 p0 q0) (world f1 r1 w1 p1 q1) status
  gave_up_with given stop files same_given is answers gives = gave_up stop files is (subst (λ g. Answers command g (Err stop)) same_given answers) gives

-- the command was done, and its files were written and its lines printed, or some of them
pub performed : (command : Command) (status : ℕ) (files : List (List ℕ)) (writes : List (List ℕ × List ℕ)) (lines : List ℕ)
    (f0 f1 f2 : Option Files) (r0 r1 r2 w0 w1 w2 : ℕ) (p0 p2 : Option (List ℕ)) (q0 q2 : ℕ) → f1 ≡ f0 → w1 ≡ w0 →
    ReadWhole command f0 files → command_refusal command files ≡ None → Does command files writes lines →
    Performs writes lines (world f1 r1 w1 p0 q0) (world f2 r2 w2 p2 q2) status →
    Ran (Some command) (world f0 r0 w0 p0 q0) (world f2 r2 w2 p2 q2) status
performed command status files writes lines f0 f1 f2 r0 r1 r2 w0 w1 w2 p0 p2 q0 q2 same_files same_faults is accepted does performs =
    ended status (subst (λ f. Performs writes lines (world f r1 w0 p0 q0) (world f2 r2 w2 p2 q2) status) same_files
    (subst (λ w. Performs writes lines (world f1 r1 w p0 q0) (world f2 r2 w2 p2 q2) status) same_faults performs))
  where
    given : Given (Some command) f0 (whole files)
    given = given_whole command f0 files is

    none : refuses (Some command) (whole files) ≡ None
    none = ap (option_map as_report) accepted

    ended : (status : ℕ) → Performs writes lines (world f0 r1 w0 p0 q0) (world f2 r2 w2 p2 q2) status → Ran (Some command) (world f0 r0 w0 p0 q0) (world f2 r2 w2 p2 q2) status
    ended status (ends.whole zero all put) =
        subst (λ s. Ran (Some command) (world f0 r0 w0 p0 q0) (world f2 r2 w2 p2 q2) s) (sym zero)
        (finished (whole files) given none (record { writes = writes; lines = lines; does = does; wrote = all; put = put }))
    ended status (at_write made four rose torn silent) =
        subst (λ s. Ran (Some command) (world f0 r0 w0 p0 q0) (world f2 r2 w2 p2 q2) s) (sym four)
        (stopped (whole files) given none (inl (record { writes = writes; lines = lines; does = does; failed = rose; made = made; torn = torn; silent = silent })))
    ended status (at_put four rose all part) =
        subst (λ s. Ran (Some command) (world f0 r0 w0 p0 q0) (world f2 r2 w2 p2 q2) s) (sym four)
        (stopped (whole files) given none (inr (record { writes = writes; lines = lines; does = does; failed = rose; wrote = all; put = part })))
    ended status (short_of_memory made eleven first silent) =
        subst (λ s. Ran (Some command) (world f0 r0 w0 p0 q0) (world f2 r2 w2 p2 q2) s) (sym eleven)
        (out_of_memory (whole files) given none (record { writes = writes; lines = lines; does = does; made = made; wrote = first; silent = silent }))

no_names : (files : Option Files) → Given None files (whole [])
no_names None = record { may = (refl, λ k d h. absurd (omega arith)); told = tt }
no_names (Some f) = record { may = (refl, λ k d h. absurd (omega arith)); told = refl }

-- words that are no command are reported, with nothing read
pub usage_reported : (command : Option Command) (status : ℕ) (f : Option Files) (r w : ℕ) (p0 p1 : Option (List ℕ)) (q0 q1 : ℕ) →
    None ≡ command → ReportGives 2 usage_line p0 q0 p1 q1 status →
    Ran command (world f r w p0 q0) (world f r w p1 q1) status
usage_reported command status f r w p0 p1 q0 q1 none gives =
    subst (λ c. Ran c (world f r w p0 q0) (world f r w p1 q1) status) none
    (reported None (whole []) 2 status usage_line f f r r w w p0 p1 q0 q1 (no_names f) refl refl gives)
