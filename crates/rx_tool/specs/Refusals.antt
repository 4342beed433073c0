-- What refuses the values of well-formed files, whatever the command is: a difference from a set, a limit that is passed.
use Rattle.std.specs.Prelude.{ℕ, ◌≤◌, nat_le, ◌==◌, ◌&&◌, if◌then◌else◌, List, [], ◌∷◌, Option, Some, None}
use Rattle.std.specs.Option.{option_map, option_or}
use Rattle.rx_params.specs.declared.params.Params.{Params}
use Rattle.rx_net.specs.Limits.{most_jobs}
use Rattle.rx_codec.specs.declared.cipher.Cipher.{Cipher}
use Rattle.rx_crew.specs.Board.{board_words, board_limit, worker_limit}
use Rattle.rx_report.specs.Reports.{Report, difference_of, mismatch, wrong_workers, many_jobs, wide_board}

-- ---- differences

-- a file of a space other than the message bits of a set
abbrev pub space_difference : List ℕ → Params → ℕ → Option Report
space_difference name p space =
    if p.message_bits == space then None
    else Some (mismatch name (record { field = 1; first = p.message_bits; other = space }))

-- the first ciphertext file of another set, each of the name at its place
abbrev pub set_difference : Params → List (List ℕ) → List Cipher → Option Report
set_difference p [] ciphers = None
set_difference p (name ∷ names) [] = None
set_difference p (name ∷ names) (c ∷ ciphers) =
    option_or (option_map (mismatch name) (difference_of p c.params)) (set_difference p names ciphers)

-- ---- limits

abbrev pub workers_refusal : ℕ → Option Report
workers_refusal count = if nat_le 1 count && nat_le count worker_limit then None else Some (wrong_workers count)

abbrev pub jobs_refusal : ℕ → Option Report
jobs_refusal jobs = if nat_le jobs most_jobs then None else Some (many_jobs jobs)

abbrev pub board_refusal : Params → ℕ → Option Report
board_refusal p jobs = if nat_le (board_words p jobs) board_limit then None else Some (wide_board (board_words p jobs))

-- the first limit that is passed: of the workers, of the jobs, of the board
abbrev pub limits_refusal : Params → ℕ → ℕ → Option Report
limits_refusal p workers jobs =
    option_or (workers_refusal workers) (option_or (jobs_refusal jobs) (board_refusal p jobs))

-- none is passed
pub record IsWithinLimits (p : Params) (workers jobs : ℕ) : Type 0 where
  pub workers_low : 1 ≤ workers
  pub workers_high : workers ≤ worker_limit
  pub few_jobs : jobs ≤ most_jobs
  pub board : board_words p jobs ≤ board_limit
