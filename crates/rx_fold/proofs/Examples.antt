-- Worked nets, computed by the definitions.
use Rattle.std.proofs.Common.{◌≡◌, ℕ, pos, negsuc, List, [], ◌∷◌, refl}
use Rattle.std.specs.Prelude.{codes, true, false}
use Rattle.rx_params.specs.declared.kind.Kind.TheVariants.{Int}
use Rattle.rx_net.specs.declared.term.Term.{Term}
use Rattle.rx_net.specs.declared.net.Job.{Job}
use Rattle.rx_net.specs.declared.net.NetInput.{NetInput}
use Rattle.rx_net.specs.declared.net.Net.{Net}
use Rattle.rx_net.specs.Cells.{input_cells, given, laid, job_value, one_deeper, values_after, depths_after, net_depth}
use Rattle.rx_net.specs.Tags.{greatest_of}
use Rattle.rx_net.specs.Numbers.{outs}
use Rattle.rx_fold.specs.Folded.{rep_among, merged_by, rep, is_needed, is_live, is_kept, numbered, kept_of, anew, folded_jobs, folded}

abbrev term : ℕ → Term
term cell = record { cell = cell; weight = pos 1 }

abbrev by_four : List ℕ
by_four = 0 ∷ 1 ∷ 2 ∷ 3 ∷ 0 ∷ 1 ∷ 2 ∷ 3 ∷ 0 ∷ 1 ∷ 2 ∷ 3 ∷ 0 ∷ 1 ∷ 2 ∷ 3 ∷ []

abbrev job : List Term → Job
job terms = record { terms = terms; constant = pos 0; table = by_four; degree = 3 }

abbrev number : NetInput
number = record { name = codes "a"; kind = Int; bits = 2; degree = 3; noise = 1 }

abbrev net_of : List Job → List ℕ → Net
net_of jobs cells = record { space = 2; inputs = number ∷ []; jobs = jobs; outputs = record { name = codes "s"; kind = Int; bits = 2; cells = cells } ∷ [] }

-- the first two jobs are equal, and no output needs the last
abbrev four : Net
four = net_of (job (term 0 ∷ []) ∷ job (term 0 ∷ []) ∷ job (term 1 ∷ term 2 ∷ []) ∷ job (term 3 ∷ []) ∷ []) (3 ∷ [])

abbrev two : Net
two = net_of (job (term 0 ∷ []) ∷ job (term 1 ∷ term 1 ∷ []) ∷ []) (2 ∷ [])

reps : (rep four 0 ≡ 0) × (rep four 1 ≡ 1) × (rep four 2 ≡ 1) × (rep four 3 ≡ 3) × (rep four 4 ≡ 4)
unfolding rep rep_among merged_by laid input_cells
reps = (refl, refl, refl, refl, refl)

live : (is_live four 0 ≡ true) × (is_live four 1 ≡ true) × (is_live four 2 ≡ false) × (is_live four 3 ≡ true) × (is_live four 4 ≡ false)
unfolding is_live is_needed rep rep_among merged_by laid input_cells
live = (refl, refl, refl, refl, refl)

two_jobs : folded four ≡ two
unfolding folded folded_jobs anew kept_of numbered is_kept is_live is_needed rep rep_among merged_by laid input_cells
two_jobs = refl

stays : folded two ≡ two
unfolding folded folded_jobs anew kept_of numbered is_kept is_live is_needed rep rep_among merged_by laid input_cells
stays = refl

depth_two : (net_depth (folded four) ≡ 2) × (net_depth four ≡ 3)
unfolding net_depth depths_after greatest_of given one_deeper folded folded_jobs anew kept_of numbered is_kept is_live is_needed rep rep_among merged_by laid input_cells
depth_two = (refl, refl)

-- on 3 both give 2
same_outputs : (outs four (values_after (3 ∷ []) four.jobs) ≡ 2 ∷ []) × (outs two (values_after (3 ∷ []) two.jobs) ≡ 2 ∷ [])
unfolding values_after job_value laid
same_outputs = (refl, refl)

-- jobs that differ in a weight alone stay two, and an output of a job that another stands for names that one
others : folded (net_of (job (term 0 ∷ []) ∷ job (record { cell = 0; weight = negsuc 0 } ∷ []) ∷ job (term 0 ∷ []) ∷ []) (3 ∷ 2 ∷ []))
    ≡ net_of (job (term 0 ∷ []) ∷ job (record { cell = 0; weight = negsuc 0 } ∷ []) ∷ []) (1 ∷ 2 ∷ [])
unfolding folded folded_jobs anew kept_of numbered is_kept is_live is_needed rep rep_among merged_by laid input_cells
others = refl
