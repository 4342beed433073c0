-- Which nets are legal.
use Rattle.std.specs.Prelude.{ℕ, ℤ, pos, ◌≤ℤ◌, ◌<ℤ◌, ◌+◌, ◌<◌, ◌≤◌, ◌≡◌, ◌⊎◌, ◌==◌, nat_le, nat_lt, not, ◌&&◌, Bool, IsTrue, List, [], ◌∷◌, ◌++◌, length, get_or}
use Rattle.std.specs.List.{list_all, list_any, AllByRecursion}
use Rattle.std.specs.Str.{bytes_eq}
use Rattle.rx_laws.specs.Decode.{plaintexts}
use Rattle.rx_params.specs.Derived.{noise_limit}
use Rattle.rx_params.specs.Kinds.{greatest, block_count, is_form}
use Rattle.rx_net.specs.declared.term.Term.{Term}
use Rattle.rx_net.specs.declared.net.Job.{Job}
use Rattle.rx_net.specs.declared.net.NetInput.{NetInput}
use Rattle.rx_net.specs.declared.net.NetOutput.{NetOutput}
use Rattle.rx_net.specs.declared.net.Net.{Net}
use Rattle.rx_net.specs.Limits.{most_inputs, most_outputs, most_terms, most_jobs}
use Rattle.rx_net.specs.Tags.{low_of, high_of, noise_of, greatest_between, natural}
use Rattle.rx_net.specs.Cells.{input_cells, cell_count, degrees_after, noises_after, value, degree, Within}

-- each element is lawful after those before it
abbrev pub InTurn : {A : Type 0} → (List A → A → Type 0) → List A → List A → Type 0
InTurn Lawful before [] = Unit {0}
InTurn Lawful before (x ∷ xs) = Lawful before x × InTurn Lawful (before ++ x ∷ []) xs

abbrev pub has_input_tags : ℕ → NetInput → Bool
has_input_tags space i = nat_le i.degree (greatest i.kind space) && (nat_le 1 i.noise && nat_le i.noise (noise_limit space))

abbrev pub names_input : List ℕ → List NetInput → Bool
names_input name inputs = list_any (λ i. bytes_eq i.name name) inputs

-- whether an input may follow the inputs before it
abbrev pub is_input : ℕ → List NetInput → NetInput → Bool
is_input space before i = is_form space i.kind i.bits && (has_input_tags space i && not (names_input i.name before))

-- The job may follow cells of these numbers, degrees and noises: it names earlier cells alone, its weighted sum is
-- an index of its table whatever they hold, their noise is within the limit, and its table is one of the space.
pub record JobFits (space count : ℕ) (degree noise : ℕ → ℕ) (terms : List Term) (constant : ℤ) (table : List ℕ) : Type 0 where
  pub forward : AllByRecursion (λ t. t.cell < count) terms
  pub low : pos 0 ≤ℤ low_of degree constant terms
  pub high : high_of degree constant terms <ℤ pos (plaintexts space)
  pub noise_in : noise_of noise terms ≤ noise_limit space
  pub table_count : length table ≡ plaintexts space
  pub table_entries : AllByRecursion (λ entry. entry < plaintexts space) table

-- the greatest entry of the table that the job can reach
abbrev pub reached : (ℕ → ℕ) → List Term → ℤ → List ℕ → ℕ
reached degree terms constant table =
    greatest_between table (natural (low_of degree constant terms)) (natural (high_of degree constant terms))

-- the job may follow the jobs before it, and declares the degree that it reaches
pub record IsJob (space : ℕ) (inputs : List NetInput) (before : List Job) (j : Job) : Type 0 where
  pub fits : JobFits space (input_cells space inputs + length before)
      (λ c. get_or (degrees_after space inputs before) c 0) (λ c. get_or (noises_after space inputs before) c 0)
      j.terms j.constant j.table
  pub declared : j.degree ≡ reached (λ c. get_or (degrees_after space inputs before) c 0) j.terms j.constant j.table

abbrev pub names_output : List ℕ → List NetOutput → Bool
names_output name outputs = list_any (λ o. bytes_eq o.name name) outputs

-- whether each is a cell whose degree is at most this
abbrev pub are_cells : ℕ → (ℕ → ℕ) → ℕ → List ℕ → Bool
are_cells count degree most cells = list_all (λ c. nat_lt c count && nat_le (degree c) most) cells

-- whether an output of cells of these numbers and degrees may follow the outputs before it
abbrev pub is_output : ℕ → ℕ → (ℕ → ℕ) → List NetOutput → NetOutput → Bool
is_output space count degree before o =
    is_form space o.kind o.bits && ((length o.cells == block_count o.kind space o.bits)
    && (not (names_output o.name before) && are_cells count degree (greatest o.kind space) o.cells))

-- the limits of a net's lists
pub record WithinLimits (net : Net) : Type 0 where
  pub space : (net.space ≡ 2) ⊎ (net.space ≡ 3)
  pub few_inputs : length net.inputs ≤ most_inputs
  pub inputs : InTurn (λ before i. IsTrue (is_input net.space before i)) [] net.inputs
  pub few_jobs : length net.jobs ≤ most_jobs
  pub few_terms : InTurn (λ before (j : Job). length j.terms ≤ most_terms) [] net.jobs
  pub few_outputs : length net.outputs ≤ most_outputs

pub record Legal (net : Net) : Type 0 where
  pub limits : WithinLimits net
  pub jobs : InTurn (IsJob net.space net.inputs) [] net.jobs
  pub outputs : InTurn (λ before o. IsTrue (is_output net.space (cell_count net) (degree net) before o)) [] net.outputs

-- no cell passes its degree, whatever inputs within their degrees the net is given
abbrev pub IsBounded : Net → Type 0
IsBounded net = (inputs : List ℕ) → Within net.space net.inputs inputs → (c : ℕ) → c < cell_count net → value net inputs c ≤ degree net c
