-- What the calls of a board tell of a view before and after.
use Rattle.std.specs.Prelude.{◌≡◌, ◌≢◌, ℕ, min, ◌+◌, ◌<◌, Bool, true, false, ◌⊎◌, List, [], ◌∷◌, ◌++◌, Contains, Option, Some, None}
use Rattle.rx_board.specs.declared.view.Plan.{Plan}
use Rattle.rx_board.specs.declared.view.Found.{Found}
use Rattle.rx_board.specs.declared.view.View.{View}
use Rattle.rx_board.specs.declared.view.Trial.{Trial}
use Rattle.rx_board.specs.declared.view.Trial.TheVariants.{Present, Taken, Waiting, Claimed}
use Rattle.rx_board.specs.declared.view.Seek.{Seek}
use Rattle.rx_board.specs.declared.view.Seek.TheVariants.{Won, Lost, AllPresent}
use Rattle.rx_board.specs.declared.view.Step.{Step}
use Rattle.rx_board.specs.declared.view.Step.TheVariants.{Ran, NotReady, Done, Refused}
use Rattle.rx_board.specs.Rule.{holding, job_count, IsOperandAt}
use Rattle.rx_board.specs.Steps.{published_at}

-- a count that stays at the last value of a u64
abbrev pub counted : ℕ → ℕ
counted n = min (n + 1) 18446744073709551615

-- v has become w: the plan and the jobs run are as before, no job known or ready is forgotten, and the entries of `met` are kept
pub record Grows (v w : View) : Type 0 where
  pub plan : w.plan ≡ v.plan
  pub ran : w.ran ≡ v.ran
  pub known : (j : ℕ) → Contains v.known j → Contains w.known j
  pub ready : (j : ℕ) → Contains v.ready j → Contains w.ready j
  pub met : (ms : List Found) × (w.met ≡ v.met ++ ms)

-- the pair is among the entries by which `met` grew
pub record MetSince (v w : View) (j r : ℕ) : Type 0 where
  pub more : List Found
  pub is : w.met ≡ v.met ++ more
  pub has : Contains more record { job = j; state = r }

-- the last of the entries by which `met` grew is the pair
pub record EndsWith (v w : View) (j r : ℕ) : Type 0 where
  pub more : List Found
  pub is : w.met ≡ v.met ++ (more ++ record { job = j; state = r } ∷ [])

-- a count of faults rose, or stands at its last value
pub record HasFault (before after : ℕ) : Type 0 where
  pub either : (before < after) ⊎ (after ≡ 18446744073709551615)

-- an operand job of j, which the view v did not know, was found not present
pub record WaitsFor (p : Plan) (v w : View) (j k : ℕ) : Type 0 where
  pub operand : ℕ
  pub state : ℕ
  pub is : IsOperandAt p j k operand
  pub not_present : state ≢ 2
  pub met : MetSince v w operand state
  pub unknown : Contains v.known operand → state ≡ 2
  pub earlier : operand < j

-- the job was found taken, or an operand job of it was found not present
abbrev pub IsBlocked : Plan → View → View → ℕ → Type 0
IsBlocked p v w j = MetSince v w j 1 ⊎ ((o r k : ℕ) × IsOperandAt p j k o × (r ≢ 2) × MetSince v w o r)

-- what a trial of the job j tells
abbrev pub Tried : Plan → View → View → ℕ → Trial → Type 0
Tried p v w j Present = (w.held ≡ None) × Contains w.known j
Tried p v w j Taken = (w.held ≡ None) × MetSince v w j 1
Tried p v w j Waiting = (w.held ≡ None) × ((k : ℕ) × WaitsFor p v w j k)
Tried p v w j Claimed =
    (w.held ≡ Some (holding j 0 0)) × Contains w.ready j × (Contains v.ran j → ⊥) × EndsWith v w j 0 × (Contains w.known j → ⊥)

-- what a call of `step` tells
abbrev pub Told : Plan → View → View → Step → Type 0
Told p v w (Ran j) =
    (j < job_count p) × (w.ran ≡ v.ran ++ j ∷ []) × (Contains v.ran j → ⊥) × Contains w.known j × Contains w.ready j
Told p v w (NotReady j) =
    (j < job_count p) × (w.ran ≡ v.ran) × MetSince v w j 1 × ((k : ℕ) → k < job_count p → Contains w.known k ⊎ IsBlocked p v w k)
    × ((k : ℕ) × (k < job_count p) × (Contains w.known k → ⊥))
Told p v w (Refused j) =
    (j < job_count p) × (w.ran ≡ v.ran) × EndsWith v w j 0 × (Contains w.known j → ⊥) × Contains w.ready j
Told p v w Done = (w.ran ≡ v.ran) × ((k : ℕ) → k < job_count p → Contains w.known k)

-- the plan stays, no job known or ready is forgotten, and the entries of `met` are kept
pub record Keeps (v w : View) : Type 0 where
  pub plan : w.plan ≡ v.plan
  pub known : (j : ℕ) → Contains v.known j → Contains w.known j
  pub ready : (j : ℕ) → Contains v.ready j → Contains w.ready j
  pub met : (ms : List Found) × (w.met ≡ v.met ++ ms)

-- each job below n is known, or blocked
abbrev pub Seen : Plan → View → View → ℕ → Type 0
Seen p v w n = (k : ℕ) → k < n → Contains w.known k ⊎ IsBlocked p v w k

-- what a search for a free and ready job tells
abbrev pub Sought : Plan → View → View → Seek → Type 0
Sought p v w (Won j) =
    (j < job_count p) × (w.held ≡ Some (holding j 0 0)) × Contains w.ready j × (Contains v.ran j → ⊥) × EndsWith v w j 0 × (Contains w.known j → ⊥)
Sought p v w (Lost j) = (j < job_count p) × (w.held ≡ None) × MetSince v w j 1 × Seen p v w (job_count p)
Sought p v w AllPresent = (w.held ≡ None) × ((k : ℕ) → k < job_count p → Contains w.known k)

-- the first job found taken
abbrev pub first_taken : Option ℕ → ℕ → Trial → Option ℕ
first_taken (Some k) j t = Some k
first_taken None j Taken = Some j
first_taken None j Present = None
first_taken None j Waiting = None
first_taken None j Claimed = None

-- how many runs there are after a step
abbrev pub runs_after : Step → ℕ → ℕ
runs_after (Ran j) n = counted n
runs_after (NotReady j) n = n
runs_after Done n = n
runs_after (Refused j) n = counted n

-- after a step that ran a job, or whose run was refused, the kernel was told of that job before its last run
abbrev pub IsLastRun : (ℕ → Type 0) → Step → Type 0
IsLastRun last (Ran j) = last j
IsLastRun last (NotReady j) = Unit {0}
IsLastRun last Done = Unit {0}
IsLastRun last (Refused j) = last j

-- what a step tells of its kernel's faults, before and after
abbrev pub FaultsAfter : Step → ℕ → ℕ → Type 0
FaultsAfter (Ran j) a b = Unit {0}
FaultsAfter (NotReady j) a b = Unit {0}
FaultsAfter Done a b = Unit {0}
FaultsAfter (Refused j) a b = HasFault a b

-- what is left of the view that held j: it has published j, or given it back
abbrev pub after_run : View → ℕ → Bool → View
after_run v j true = published_at v j
after_run v j false = record v { held = None }

-- what a search for a free job with the count 0 tells
abbrev pub Hunted : Plan → View → View → Option ℕ → Type 0
Hunted p v w (Some j) = Sought p v w (Won j)
Hunted p v w None = w.held ≡ None
