-- The limits of a run.
use Rattle.std.specs.Prelude.{ℕ, ◌+◌, ◌*◌, ◌^◌}
use Rattle.rx_params.specs.declared.params.Params.{Params}
use Rattle.rx_params.specs.Derived.{large_dim}

-- the words of the board of so many jobs of a set: one, and for each job its words, its state and its count
abbrev pub board_words : Params → ℕ → ℕ
board_words p jobs = 1 + jobs * (large_dim p + 3)

-- the most words of a board
abbrev pub board_limit : ℕ
board_limit = 2 ^ 25

-- the most workers of a run
abbrev pub worker_limit : ℕ
worker_limit = 64
