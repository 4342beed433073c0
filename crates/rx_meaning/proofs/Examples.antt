-- The tables of values and of costs at worked rows, and whole circuits.
use Rattle.std.proofs.Common.{◌≡◌, ℕ, ◌+◌, ◌*◌, List, [], ◌∷◌, refl}
use Rattle.std.specs.Prelude.{codes}
use Rattle.rx_residue.specs.Residues.{residue, signed}
use Rattle.rx_residue.specs.Division.{quotient, remainder}
use Rattle.rx_language.specs.declared.word.Word.{Word}
use Rattle.rx_language.specs.declared.word.Word.TheVariants.{In, Ins, Add, Out, Sub, Mul, Div, Rem, Neg, And, Or, Xor, Not, Shl, Shr, Shlv, Shrv, Eq, Ne, Lt, Le, Gt, Ge, Select, Min, Max, Cast, Casts}
use Rattle.rx_language.specs.declared.kind.NameKind.TheVariants.{Int, Sint, Bit}
use Rattle.rx_costs.specs.declared.table.Cost.{Cost}
use Rattle.rx_costs.specs.Logs.{log_from, log_up}
use Rattle.rx_costs.specs.Rounds.{groups, rounds_in, rounds, round_jobs_in, round_jobs}
use Rattle.rx_costs.specs.Table.{row}
use Rattle.rx_language.specs.declared.line.Line.{Line}
use Rattle.rx_language.specs.Programs.{Program, steps_by}
use Rattle.rx_meaning.specs.declared.operand.Operand.{Operand}
use Rattle.rx_meaning.specs.Operations.{given_by}
use Rattle.rx_meaning.specs.Values.{values_from, given_out, outputs_for}
use Rattle.rx_meaning.specs.Costs.{cost_by}
use Rattle.rx_meaning.specs.Bounds.{costs_of, jobs_of, greatest, depths_from, depth_of}

abbrev int : ℕ → Operand
int x = record { kind = Int 8; value = x }

abbrev sint : ℕ → Operand
sint x = record { kind = Sint 4; value = x }

abbrev small : ℕ → Operand
small x = record { kind = Int 4; value = x }

abbrev bit : ℕ → Operand
bit x = record { kind = Bit; value = x }

-- a word over numbers of eight bits, over bits, and over numbers of four bits with a sign
abbrev eight : Word → ℕ → ℕ → ℕ → ℕ
eight word given x y = residue 8 (given_by word given (int x) (int y) (bit 0))

abbrev four : Word → ℕ → ℕ → ℕ → ℕ
four word given x y = residue 4 (given_by word given (sint x) (sint y) (bit 0))

arithmetic : (eight Sub 0 0 1 ≡ 255) × (eight Neg 0 0 0 ≡ 0) × (eight Mul 0 15 17 ≡ 255) × (eight Mul 0 16 16 ≡ 0) × (eight Mul 0 15 15 ≡ 225)
unfolding residue given_by
arithmetic = (refl, refl, refl, refl, refl)

divisions : (eight Div 0 200 7 ≡ 28) × (eight Rem 0 200 7 ≡ 4) × (eight Div 0 5 0 ≡ 255) × (eight Rem 0 5 0 ≡ 5) × (eight Div 0 0 3 ≡ 0) × (eight Div 0 255 255 ≡ 1) × (eight Rem 0 255 255 ≡ 0)
unfolding residue given_by quotient remainder
divisions = (refl, refl, refl, refl, refl, refl, refl)

bits : (eight And 0 204 170 ≡ 136) × (eight Or 0 204 170 ≡ 238) × (eight Xor 0 204 170 ≡ 102) × (eight Not 0 0 0 ≡ 255) × (residue 1 (given_by Not 0 (bit 0) (bit 0) (bit 0)) ≡ 1)
unfolding residue given_by
bits = (refl, refl, refl, refl, refl)

comparisons : (eight Lt 0 3 3 ≡ 0) × (eight Le 0 3 3 ≡ 1) × (eight Gt 0 3 3 ≡ 0) × (eight Ge 0 3 3 ≡ 1) × (eight Eq 0 3 3 ≡ 1) × (eight Ne 0 3 3 ≡ 0) × (eight Max 0 255 0 ≡ 255) × (eight Min 0 255 0 ≡ 0)
unfolding residue given_by
comparisons = (refl, refl, refl, refl, refl, refl, refl, refl)

shifts : (eight Shl 9 200 0 ≡ 0) × (eight Shr 3 200 0 ≡ 25) × (eight Shlv 0 1 7 ≡ 128) × (eight Shlv 0 1 8 ≡ 0) × (eight Shrv 0 255 255 ≡ 0)
unfolding residue given_by
shifts = (refl, refl, refl, refl, refl)

choice : (residue 8 (given_by Select 0 (bit 1) (int 7) (int 9)) ≡ 7) × (residue 8 (given_by Select 0 (bit 0) (int 7) (int 9)) ≡ 9)
unfolding residue given_by
choice = (refl, refl)

-- 9 is minus 7
signed_numbers : (residue 1 (given_by Lt 0 (sint 9) (sint 3) (bit 0)) ≡ 1) × (residue 1 (given_by Ge 0 (sint 9) (sint 3) (bit 0)) ≡ 0) × (four Min 0 9 3 ≡ 9) × (four Max 0 9 3 ≡ 3) × (four Mul 0 9 3 ≡ 11)
unfolding residue signed given_by
signed_numbers = (refl, refl, refl, refl, refl)

signed_shifts : (four Shr 1 9 0 ≡ 12) × (four Shr 9 9 0 ≡ 15) × (residue 4 (given_by Shrv 0 (sint 9) (small 15) (bit 0)) ≡ 15) × (residue 4 (given_by Shlv 0 (sint 9) (small 15) (bit 0)) ≡ 0)
unfolding residue signed given_by
signed_shifts = (refl, refl, refl, refl)

casts : (residue 8 (given_by Casts 0 (sint 9) (bit 0) (bit 0)) ≡ 249) × (residue 8 (given_by Cast 0 (small 15) (bit 0) (bit 0)) ≡ 15) × (residue 2 (given_by Cast 0 (sint 9) (bit 0) (bit 0)) ≡ 1) × (residue 8 (given_by Cast 0 (bit 1) (bit 0) (bit 0)) ≡ 1)
unfolding residue signed given_by
casts = (refl, refl, refl, refl)

-- ---- circuits
abbrev line : Word → List ℕ → List (List ℕ) → ℕ → ℕ → Line
line word name args number width = record { word = word; name = name; args = args; number = number; width = width }

-- the sum of a and b
abbrev sum : Program
sum = record {
  space = 2;
  width = 8;
  lines = line In (codes "a") [] 0 0 ∷ line In (codes "b") [] 0 0 ∷ line Add (codes "s") (codes "a" ∷ codes "b" ∷ []) 0 0 ∷ line Out (codes "s") [] 0 0 ∷ [];
}

sum_value : outputs_for sum (200 ∷ 100 ∷ []) ≡ 44 ∷ []
unfolding outputs_for values_from given_out given_by residue steps_by
sum_value = refl

sum_bounds : (jobs_of sum ≡ 13) × (depth_of sum ≡ 4)
unfolding costs_of depths_from greatest cost_by log_from log_up steps_by
sum_bounds = (refl, refl)

-- a number of four bits with a sign, in eight
abbrev longer : Program
longer = record { space = 2; width = 8; lines = line Ins (codes "a") [] 0 4 ∷ line Casts (codes "c") (codes "a" ∷ []) 0 8 ∷ line Out (codes "c") [] 0 0 ∷ [] }

longer_value : outputs_for longer (9 ∷ []) ≡ 249 ∷ []
unfolding outputs_for values_from given_out given_by residue signed steps_by
longer_value = refl

longer_bounds : (jobs_of longer ≡ 2) × (depth_of longer ≡ 1)
unfolding costs_of depths_from greatest cost_by steps_by
longer_bounds = (refl, refl)

-- a product of 64 bits, of which a circuit may have 23 and not 24
abbrev long : Cost
long = cost_by Mul 2 (Int 64) (Int 64)

long_bounds : (long.jobs ≡ 2842) × (long.depth ≡ 13) × (23 * long.jobs ≡ 65366) × (24 * long.jobs ≡ 68208)
unfolding cost_by log_from log_up groups rounds_in rounds round_jobs_in round_jobs
long_bounds = (refl, refl, refl, refl)

-- a quotient of 64 bits, of which a circuit may have two
abbrev longest : Cost
longest = cost_by Div 2 (Int 64) (Int 64)

longest_bounds : (longest.jobs ≡ 29186) × (2 * longest.jobs ≡ 58372) × (3 * longest.jobs ≡ 87558)
unfolding cost_by log_from log_up
longest_bounds = (refl, refl, refl)

-- a shift of a number with a sign by an encrypted amount takes more
signed_costs : (cost_by Shrv 2 (Sint 8) (Sint 8) ≡ row (3 + 4 * 4 * 3 + 4 * 4 + 2) 10) × (cost_by Shrv 2 (Int 8) (Int 8) ≡ row (3 + 4 * 4 * 3 + 2 * 4 + 1) 8) × (cost_by And 2 Bit Bit ≡ row 1 1) × (cost_by Cast 3 (Int 9) Bit ≡ row 2 1)
unfolding cost_by log_from log_up
signed_costs = (refl, refl, refl, refl)
