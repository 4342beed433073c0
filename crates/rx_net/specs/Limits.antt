-- The limits of a net's lists.
use Rattle.std.specs.Prelude.{ℕ}

abbrev pub most_inputs : ℕ
most_inputs = 64

abbrev pub most_outputs : ℕ
most_outputs = 64

-- of a job
abbrev pub most_terms : ℕ
most_terms = 16

abbrev pub most_jobs : ℕ
most_jobs = 65536
