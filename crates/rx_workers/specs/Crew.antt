-- What a worker is, and what it leaves.
use Rattle.std.specs.Prelude.{◌≡◌, ℕ, ◌+◌, ◌<◌, ◌≤◌, ◌==◌, ◌⊎◌, List, [], ◌∷◌, map, Option, None, All, Contains}
use Rattle.rx_board.specs.declared.view.View.{View}
use Rattle.rx_board.specs.declared.view.Found.{Found}
use Rattle.rx_board.specs.Seats.{IsOf}
use Rattle.rx_board.specs.Rule.{BoardValue, job_count, one_if}
use Rattle.rx_workers.specs.declared.worker.Worker.{Worker}

-- how often a job was found taken
abbrev pub taken_in : List Found → ℕ
taken_in [] = 0
taken_in (x ∷ xs) = one_if (x.state == 1) + taken_in xs

-- it knows each job, or found a job taken 2^20 times
pub record HasDrained (b : BoardValue) (v : View) : Type 0 where
  pub either : ((k : ℕ) → k < job_count b.plan → Contains v.known k) ⊎ (1048576 ≤ taken_in v.met)

-- w knows all that v knows: the jobs that v found present, those that it found ready, and those that it ran
pub record KnowsAll (v w : View) : Type 0 where
  pub known : (j : ℕ) → Contains v.known j → Contains w.known j
  pub ready : (j : ℕ) → Contains v.ready j → Contains w.ready j
  pub ran : (j : ℕ) → Contains v.ran j → Contains w.ran j

-- v knows all that the seats of these workers know
abbrev pub HasJoined : {K : Type 0} → List (Worker K) → View → Type 0
HasJoined workers v = All (λ w. KnowsAll w.seat.view v) workers

-- the kernels of workers, in their order
abbrev pub kernels_of : {K : Type 0} → List (Worker K) → List K
kernels_of workers = map (λ w. w.kernel) workers

-- a kernel, by its basis, its width, its space and what it is told, that runs the jobs of a board
module _ {K : Type 0} (basis : K → List ℕ) (width space : K → ℕ) (told : K → Option ℕ → Type 0) where
  pub record Suits (b : BoardValue) (k : K) : Type 0 where
    pub basis_is : basis k ≡ b.basis
    pub width_is : width k ≡ b.plan.width
    pub space_is : space k ≡ b.plan.net.space
    pub idle : told k None

  -- its seat is of the board, and its desk and kernel fit it
  pub record IsFit (b : BoardValue) (w : Worker K) : Type 0 where
    pub seat : IsOf b w.seat
    pub desk : w.desk ≡ b.plan.width
    pub kernel : Suits b w.kernel
