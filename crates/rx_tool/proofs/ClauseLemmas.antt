-- Each public clause of the tool follows from the way in which the run ended.
use Rattle.std.proofs.Common.{◌≤◌, lit≤, ◌≡◌, ◌⊎◌, ◌≢◌, ℕ, List, [], refl, sym, ap, subst, ◌∙◌, inl, inr, arith, Some, None, Option, IfSome, IsSomeAnd, unwrap_or}
use Rattle.std.specs.Option.{option_map}
use Rattle.rx_store.specs.Files.{Files}
use Rattle.rx_seeded.specs.Laws.{SeededFileLaws}
use Rattle.rx_codec.specs.Laws.{FileLaws}
use Rattle.rx_client.specs.Laws.{ReadingLaws}
use Rattle.rx_report.specs.declared.refusal.Kind.{Kind}
use Rattle.rx_report.specs.declared.refusal.Kind.TheVariants.{Malformed, NotAccepted, Mismatch, Inputs, Damaged, Limit, Seed}
use Rattle.rx_tool.specs.declared.command.Command.{Command}
use Rattle.rx_report.specs.Reports.{status_of, usage_line}
use Rattle.rx_tool.specs.Commands.{command_refusal}
use Rattle.rx_tool.specs.Got.{Got, whole, long, missing, got, refuses, as_report, DoesAll}
use Rattle.rx_tool.specs.World.{World, ReadFailed, WriteFailed, PrintFailed, Faultless, Prints}
use Rattle.rx_tool.specs.Ran.{IsMissing, Finished, Stopped, Ran, refused, unread, no_memory, stopped, out_of_memory, finished}
use Rattle.rx_tool.proofs.GotLemmas.{one_told}
use Rattle.rx_tool.proofs.KeptFiles.{kept_passes}
use Rattle.rx_tool.specs.Told.{IsRefusal, RefusedBy, Refuses, SaysSo, OfReading, ShortOfMemory, Accepted, LeftAlone, Complete, IsDecrypt, DecryptsKept, NeverDamaged}
use Rattle.rx_tool.specs.Outcome.{IsOutcome}
use Rattle.rx_tool.proofs.DamageLemmas.{same_status, of_decrypt}

same_line : (a b : ℕ) (l m : List ℕ) → ◌≡◌ {A = Option (ℕ × List ℕ)} (Some (a, l)) (Some (b, m)) → l ≡ m
same_line a b l m e = ap (λ o. (unwrap_or {T = ℕ × List ℕ} o (a, l)).1) e

-- the statuses of refusals of a command: neither done, nor usage, nor a fault, nor want of memory
record IsOfKind (status : ℕ) : Type 0 where
  not_usage : status ≢ 2
  refusal : IsRefusal status

of_kind : (status : ℕ) → 5 ≤ status → status ≢ 11 → IsOfKind status
of_kind status low other = record {
  not_usage = λ e. omega arith;
  refusal = record { not_done = λ e. omega arith; not_read = λ e. omega arith; not_write = λ e. omega arith; not_memory = other };
}

kind_status : (kind : Kind) → IsOfKind (status_of kind)
kind_status Malformed = of_kind 5 (lit≤ tt) (λ e. omega arith)
kind_status NotAccepted = of_kind 6 (lit≤ tt) (λ e. omega arith)
kind_status Mismatch = of_kind 7 (lit≤ tt) (λ e. omega arith)
kind_status Inputs = of_kind 8 (lit≤ tt) (λ e. omega arith)
kind_status Damaged = of_kind 9 (lit≤ tt) (λ e. omega arith)
kind_status Limit = of_kind 10 (lit≤ tt) (λ e. omega arith)
kind_status Seed = of_kind 12 (lit≤ tt) (λ e. omega arith)

usage_status : IsRefusal 2
usage_status = record { not_done = omega arith; not_read = omega arith; not_write = omega arith; not_memory = omega arith }

reported_status : (refusal : Option (Kind × List ℕ)) (status : ℕ) (line : List ℕ) → option_map as_report refusal ≡ Some (status, line) → IsOfKind status
reported_status None status line e = absurd (cc)
reported_status (Some (kind, words)) status line e =
    subst IsOfKind (same_status _ _ _ _ e) (kind_status kind)

-- what refuses a command has a status of its own
of_command : (command : Command) (given : Got) (status : ℕ) (line : List ℕ) → refuses (Some command) given ≡ Some (status, line) → IsOfKind status
of_command command (whole files) status line e = reported_status (command_refusal command files) status line e
of_command command (long name size) status line e =
    subst IsOfKind (same_status _ _ _ _ e) (kind_status Limit)
of_command command missing status line e = absurd (cc)

of_refusal : (command : Option Command) (given : Got) (status : ℕ) (line : List ℕ) → refuses command given ≡ Some (status, line) → IsRefusal status
of_refusal (Some command) given status line e = (of_command command given status line e).refusal
of_refusal None given status line e =
    subst IsRefusal (same_status _ _ _ _ e) usage_status

no_command : (command : Option Command) (given : Got) (status : ℕ) (line : List ℕ) → refuses command given ≡ Some (status, line) → status ≡ 2 → command ≡ None
no_command (Some command) given status line e two = absurd ((of_command command given status line e).not_usage two)
no_command None given status line e two = refl

kind_of : (refusal : Option (Kind × List ℕ)) (status : ℕ) (line : List ℕ) → option_map as_report refusal ≡ Some (status, line) → (kind : Kind) × (status ≡ status_of kind)
kind_of None status line e = absurd (cc)
kind_of (Some (kind, words)) status line e = (kind, sym (same_status _ _ _ _ e))

-- a claim of whatever is told
any_told : {X : Type 0} {P : X → Type 0} (o : Option X) → ((x : X) → P x) → IfSome o P
any_told None all = tt
any_told (Some x) all = all x

-- a missing file refuses nothing
missing_passes : (command : Option Command) (given : Got) → command ≢ None → given ≡ missing → refuses command given ≡ None
missing_passes None given has is = absurd (has refl)
missing_passes (Some command) given has is = ap (refuses (Some command)) is

-- what does something was read whole
does_whole : (command : Option Command) (given : Got) (writes : List (List ℕ × List ℕ)) (lines : List ℕ) → DoesAll command given writes lines → given ≢ missing
does_whole (Some command) (whole files) writes lines does = λ e. cc
does_whole (Some command) (long name size) writes lines does = absurd does
does_whole (Some command) missing writes lines does = absurd does
does_whole None given writes lines does = absurd does

-- where a file is missing nothing refuses
missing_not_refused : (command : Option Command) (f : Files) (given : Got) (status : ℕ) (line : List ℕ) →
    got command f ≡ given → got command f ≡ missing → refuses command given ≡ Some (status, line) → ⊥
missing_not_refused None f given status line g none refuse = let e : whole [] ≡ missing = none in cc
missing_not_refused (Some command) f given status line g none refuse =
    let e : refuses (Some command) given ≡ None = ap (refuses (Some command)) (sym g ∙ none) in cc

known_status : (command : Option Command) (given : Got) (status : ℕ) (line : List ℕ) → refuses command given ≡ Some (status, line) → (status ≡ 2) ⊎ ((kind : Kind) × (status ≡ status_of kind))
known_status None given status line e = inl (sym (same_status _ _ _ _ e))
known_status (Some command) (whole files) status line e = inr (kind_of (command_refusal command files) status line e)
known_status (Some command) (long name size) status line e = inr (Limit, sym (same_status _ _ _ _ e))
known_status (Some command) missing status line e = absurd (cc)

-- words that are no command are refused
not_accepted : (command : Option Command) (given : Got) → command ≡ None → refuses command given ≡ None → ⊥
not_accepted command given none accept =
    let e : refuses None given ≡ None = subst (λ c. refuses c given ≡ None) none accept in cc

-- ---- the clauses, one by one
module _ {command : Option Command} {before after : World} where
  usage : {status : ℕ} → Ran command before after status → status ≡ 2 → command ≡ None
  usage (refused given status line is refuse same prints) two = no_command command given status line refuse two
  usage (unread has alone why) two = absurd (omega arith)
  usage (no_memory alone) two = absurd (omega arith)
  usage (stopped given is accept stop) two = absurd (omega arith)
  usage (out_of_memory given is accept out) two = absurd (omega arith)
  usage (finished given is accept done) two = absurd (omega arith)

  no_usage : {status : ℕ} → Ran command before after status → command ≡ None → (status ≡ 2) ⊎ (status ≡ 11)
  no_usage (refused given status line is refuse same prints) none =
      let e : refuses None given ≡ Some (status, line) = subst (λ c. refuses c given ≡ Some (status, line)) none refuse in
      inl (sym (same_status _ _ _ _ e))
  no_usage (unread has alone why) none = absurd (has none)
  no_usage (no_memory alone) none = inr refl
  no_usage (stopped given is accept stop) none = absurd (not_accepted command given none accept)
  no_usage (out_of_memory given is accept out) none = inr refl
  no_usage (finished given is accept done) none = absurd (not_accepted command given none accept)

  usage_reported : {status : ℕ} → Ran command before after status → status ≡ 2 → Prints usage_line before after
  usage_reported (refused given status line is refuse same prints) two =
      let none : command ≡ None = no_command command given status line refuse two in
      let line_is = same_line _ _ _ _ (subst (λ c. refuses c given ≡ Some (status, line)) none refuse) in
      subst (λ l. Prints l before after) (sym line_is) prints
  usage_reported (unread has alone why) two = absurd (omega arith)
  usage_reported (no_memory alone) two = absurd (omega arith)
  usage_reported (stopped given is accept stop) two = absurd (omega arith)
  usage_reported (out_of_memory given is accept out) two = absurd (omega arith)
  usage_reported (finished given is accept done) two = absurd (omega arith)

  read_cause : {status : ℕ} → Ran command before after status → status ≡ 3 → ReadFailed before after ⊎ IsMissing command before
  read_cause (refused given status line is refuse same prints) three = absurd ((of_refusal command given status line refuse).not_read three)
  read_cause (unread has alone why) three = why
  read_cause (no_memory alone) three = absurd (omega arith)
  read_cause (stopped given is accept stop) three = absurd (omega arith)
  read_cause (out_of_memory given is accept out) three = absurd (omega arith)
  read_cause (finished given is accept done) three = absurd (omega arith)

  stops : {given : Got} → Stopped command given before after → WriteFailed before after ⊎ PrintFailed before after
  stops (inl writing) = inl writing.failed
  stops (inr printing) = inr printing.failed

  write_cause : {status : ℕ} → Ran command before after status → status ≡ 4 → WriteFailed before after ⊎ PrintFailed before after
  write_cause (refused given status line is refuse same prints) four = absurd ((of_refusal command given status line refuse).not_write four)
  write_cause (unread has alone why) four = absurd (omega arith)
  write_cause (no_memory alone) four = absurd (omega arith)
  write_cause (stopped given is accept stop) four = stops stop
  write_cause (out_of_memory given is accept out) four = absurd (omega arith)
  write_cause (finished given is accept done) four = absurd (omega arith)

  stop_does : {given : Got} → Stopped command given before after → given ≢ missing
  stop_does (inl writing) = does_whole command _ writing.writes writing.lines writing.does
  stop_does (inr printing) = does_whole command _ printing.writes printing.lines printing.does

  absent_told : {status : ℕ} → Ran command before after status → IfSome before.files (λ f. got command f ≡ missing → (status ≡ 3) ⊎ (status ≡ 11))
  absent_told (refused given status line is refuse same prints) =
      one_told before.files is.told (λ f g none. absurd (missing_not_refused command f given status line g none refuse))
  absent_told (unread has alone why) = any_told before.files (λ f none. inl refl)
  absent_told (no_memory alone) = any_told before.files (λ f none. inr refl)
  absent_told (stopped given is accept stop) = one_told before.files is.told (λ f g none. absurd (stop_does stop (sym g ∙ none)))
  absent_told (out_of_memory given is accept out) = any_told before.files (λ f none. inr refl)
  absent_told (finished given is accept done) =
      one_told before.files is.told (λ f g none. absurd (does_whole command given done.writes done.lines done.does (sym g ∙ none)))

  refused_by : {status : ℕ} → Ran command before after status → IsRefusal status → RefusedBy command before after status
  refused_by (refused given status line is refuse same prints) it =
      record { given = given; line = line; read = is; refusal = refuse; put = prints }
  refused_by (unread has alone why) it = absurd (it.not_read refl)
  refused_by (no_memory alone) it = absurd (it.not_memory refl)
  refused_by (stopped given is accept stop) it = absurd (it.not_write refl)
  refused_by (out_of_memory given is accept out) it = absurd (it.not_memory refl)
  refused_by (finished given is accept done) it = absurd (it.not_done refl)

  refuses_all : {status : ℕ} → Ran command before after status → Refuses command before after status
  refuses_all (refused given status line is refuse same prints) =
      one_told before.files is.told (λ f g. subst (λ o. IfSome o (SaysSo status before after))
      (sym refuse ∙ ap (refuses command) (sym g)) (inl refl))
  refuses_all (unread has alone (inl rose)) = any_told before.files (λ f. any_told (refuses command (got command f)) (λ report. inr (inr (refl, rose))))
  refuses_all (unread has alone (inr none)) = if_missing before.files has none
    where
      if_missing : (files : Option Files) → command ≢ None → IsSomeAnd files (λ f. got command f ≡ missing) → IfSome files (λ f. IfSome (refuses command (got command f)) (SaysSo 3 before after))
      if_missing None has none = tt
      if_missing (Some f) has none = subst (λ o. IfSome o (SaysSo 3 before after)) (sym (missing_passes command (got command f) has none)) tt
  refuses_all (no_memory alone) = any_told before.files (λ f. any_told (refuses command (got command f)) (λ report. inr (inl refl)))
  refuses_all (stopped given is accept stop) =
      one_told before.files is.told (λ f g. subst (λ o. IfSome o (SaysSo 4 before after)) (sym accept ∙ ap (refuses command) (sym g)) tt)
  refuses_all (out_of_memory given is accept out) = any_told before.files (λ f. any_told (refuses command (got command f)) (λ report. inr (inl refl)))
  refuses_all (finished given is accept done) =
      one_told before.files is.told (λ f g. subst (λ o. IfSome o (SaysSo 0 before after)) (sym accept ∙ ap (refuses command) (sym g)) tt)

  status_known : {status : ℕ} → Ran command before after status → IsRefusal status → (status ≡ 2) ⊎ ((kind : Kind) × (status ≡ status_of kind))
  status_known (refused given status line is refuse same prints) it = known_status command given status line refuse
  status_known (unread has alone why) it = absurd (it.not_read refl)
  status_known (no_memory alone) it = absurd (it.not_memory refl)
  status_known (stopped given is accept stop) it = absurd (it.not_write refl)
  status_known (out_of_memory given is accept out) it = absurd (it.not_memory refl)
  status_known (finished given is accept done) it = absurd (it.not_done refl)

  unwritten : {status : ℕ} → Ran command before after status → IsRefusal status ⊎ (status ≡ 3) → after.files ≡ before.files
  unwritten (refused given status line is refuse same prints) it = same
  unwritten (unread has alone why) it = alone.same_files
  unwritten (no_memory alone) it = alone.same_files
  unwritten (stopped given is accept stop) (inl it) = absurd (it.not_write refl)
  unwritten (stopped given is accept stop) (inr three) = absurd (omega arith)
  unwritten (out_of_memory given is accept out) (inl it) = absurd (it.not_memory refl)
  unwritten (out_of_memory given is accept out) (inr three) = absurd (omega arith)
  unwritten (finished given is accept done) (inl it) = absurd (it.not_done refl)
  unwritten (finished given is accept done) (inr three) = absurd (omega arith)

  silent : {status : ℕ} → Ran command before after status → (status ≡ 3) ⊎ (status ≡ 11) → after.printed ≡ before.printed
  silent (refused given status line is refuse same prints) (inl three) = absurd ((of_refusal command given status line refuse).not_read three)
  silent (refused given status line is refuse same prints) (inr eleven) = absurd ((of_refusal command given status line refuse).not_memory eleven)
  silent (unread has alone why) it = alone.same_printed
  silent (no_memory alone) it = alone.same_printed
  silent (stopped given is accept stop) (inl three) = absurd (omega arith)
  silent (stopped given is accept stop) (inr eleven) = absurd (omega arith)
  silent (out_of_memory given is accept out) it = out.silent
  silent (finished given is accept done) (inl three) = absurd (omega arith)
  silent (finished given is accept done) (inr eleven) = absurd (omega arith)

  damage : {status : ℕ} → Ran command before after status → status ≡ 9 → IsDecrypt command
  damage (refused given status line is refuse same prints) nine =
      of_decrypt command given line (refuse ∙ ap (λ s. Some (s, line)) nine)
  damage (unread has alone why) nine = absurd (omega arith)
  damage (no_memory alone) nine = absurd (omega arith)
  damage (stopped given is accept stop) nine = absurd (omega arith)
  damage (out_of_memory given is accept out) nine = absurd (omega arith)
  damage (finished given is accept done) nine = absurd (omega arith)

  never_damaged : {status : ℕ} → ReadingLaws → FileLaws → SeededFileLaws → Ran command before after status → NeverDamaged command before status
  never_damaged reading laws versions (refused given status line is refuse same prints) =
      one_told before.files is.told (λ f g kept nine.
      kept_passes reading laws versions command given line (subst (DecryptsKept command) g kept) (refuse ∙ ap (λ s. Some (s, line)) nine))
  never_damaged reading laws versions (unread has alone why) = any_told before.files (λ f kept nine. omega arith)
  never_damaged reading laws versions (no_memory alone) = any_told before.files (λ f kept nine. omega arith)
  never_damaged reading laws versions (stopped given is accept stop) = any_told before.files (λ f kept nine. omega arith)
  never_damaged reading laws versions (out_of_memory given is accept out) = any_told before.files (λ f kept nine. omega arith)
  never_damaged reading laws versions (finished given is accept done) = any_told before.files (λ f kept nine. omega arith)

  done_by : {status : ℕ} → Ran command before after status → status ≡ 0 → OfReading command before (λ given. Finished command given before after)
  done_by (refused given status line is refuse same prints) zero = absurd ((of_refusal command given status line refuse).not_done zero)
  done_by (unread has alone why) zero = absurd (omega arith)
  done_by (no_memory alone) zero = absurd (omega arith)
  done_by (stopped given is accept stop) zero = absurd (omega arith)
  done_by (out_of_memory given is accept out) zero = absurd (omega arith)
  done_by (finished given is accept done) zero = (given, is, accept, done)

  stopped_by : {status : ℕ} → Ran command before after status → status ≡ 4 → OfReading command before (λ given. Stopped command given before after)
  stopped_by (refused given status line is refuse same prints) four = absurd ((of_refusal command given status line refuse).not_write four)
  stopped_by (unread has alone why) four = absurd (omega arith)
  stopped_by (no_memory alone) four = absurd (omega arith)
  stopped_by (stopped given is accept stop) four = (given, is, accept, stop)
  stopped_by (out_of_memory given is accept out) four = absurd (omega arith)
  stopped_by (finished given is accept done) four = absurd (omega arith)

  ran_out : {status : ℕ} → Ran command before after status → status ≡ 11 → ShortOfMemory command before after
  ran_out (refused given status line is refuse same prints) eleven = absurd ((of_refusal command given status line refuse).not_memory eleven)
  ran_out (unread has alone why) eleven = absurd (omega arith)
  ran_out (no_memory alone) eleven = inl alone
  ran_out (stopped given is accept stop) eleven = absurd (omega arith)
  ran_out (out_of_memory given is accept out) eleven = inr (given, is, accept, out)
  ran_out (finished given is accept done) eleven = absurd (omega arith)

  left_alone : {status : ℕ} → Ran command before after status → status ≡ 11 → LeftAlone command before after
  left_alone (refused given status line is refuse same prints) eleven = absurd ((of_refusal command given status line refuse).not_memory eleven)
  left_alone (unread has alone why) eleven = absurd (omega arith)
  left_alone (no_memory alone) eleven = any_told before.files (λ f not_accepted. alone)
  left_alone (stopped given is accept stop) eleven = absurd (omega arith)
  left_alone (out_of_memory given is accept out) eleven =
      one_told before.files is.told (λ f g not_accepted. absurd (not_accepted (record {
        not_refused = ap (refuses command) g ∙ accept;
        not_missing = λ none. does_whole command given out.writes out.lines out.does (sym g ∙ none);
      })))
  left_alone (finished given is accept done) eleven = absurd (omega arith)

  complete : {status : ℕ} → Ran command before after status → Faultless before after → Complete command before status
  complete (refused given status line is refuse same prints) faultless =
      one_told before.files is.told (λ f g accepted. let none : refuses command given ≡ None = ap (refuses command) (sym g) ∙ accepted.not_refused in absurd (cc))
  complete (unread has alone (inl rose)) faultless = absurd (faultless.no_read rose)
  complete (unread has alone (inr none)) faultless = if_missing before.files none
    where
      if_missing : (files : Option Files) → IsSomeAnd files (λ f. got command f ≡ missing) → IfSome files (λ f. Accepted command f → (◌≡◌ {A = ℕ} 3 0) ⊎ (◌≡◌ {A = ℕ} 3 11))
      if_missing None none = tt
      if_missing (Some f) none = λ accepted. absurd (accepted.not_missing none)
  complete (no_memory alone) faultless = any_told before.files (λ f accepted. inr refl)
  complete (stopped given is accept (inl writing)) faultless = absurd (faultless.no_write writing.failed)
  complete (stopped given is accept (inr printing)) faultless = absurd (faultless.no_print printing.failed)
  complete (out_of_memory given is accept out) faultless = any_told before.files (λ f accepted. inr refl)
  complete (finished given is accept done) faultless = any_told before.files (λ f accepted. inl refl)

-- a fact of whatever is told holds of what is told
of_told : (P : Files → Type 0) (Q : Type 0) (files : Option Files) → IfSome files (λ f. P f → Q) → IsSomeAnd files P → Q
of_told P Q None all some = absurd some
of_told P Q (Some f) all some = all some

-- the whole contract
pub outcome : {command : Option Command} {before after : World} {status : ℕ} → ReadingLaws → FileLaws → SeededFileLaws → Ran command before after status → IsOutcome command before after status
outcome {command} {before} {after} {status} reading laws versions ran = record {
  usage = usage ran;
  no_command = no_usage ran;
  usage_reported = usage_reported ran;
  read_cause = read_cause ran;
  write_cause = write_cause ran;
  absent = of_told _ _ before.files (absent_told ran);
  refused = refused_by ran;
  refusing = refuses_all ran;
  known = status_known ran;
  unwritten = unwritten ran;
  silent = silent ran;
  damage = damage ran;
  undamaged = never_damaged reading laws versions ran;
  done = done_by ran;
  stopped = stopped_by ran;
  ran_out = ran_out ran;
  left_alone = left_alone ran;
  complete = complete ran;
}
