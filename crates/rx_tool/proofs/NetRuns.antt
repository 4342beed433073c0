-- A net that may be run: its inputs, the file of its outputs, and the whole run.
use Rattle.std.proofs.Common.{◌≡◌, ◌≤◌, ℕ, List, [], ◌∷◌, length, get_or, take, drop, map, None, Ok, sym, ◌∙◌, ap, subst, arith, ◌+◌, length-drop}
use Rattle.std.specs.Prelude.{◌-◌, String, string_bytes}
use Rattle.std.specs.declared.alloc.Global.{Global}
use Rattle.std.proofs.lemmas.List.{take_all, length-map}
use Rattle.std.specs.Option.{option_or}
use Rattle.rx_params.specs.declared.params.Params.{Params}
use Rattle.rx_params.specs.Acceptance.{Accepts}
use Rattle.rx_net.specs.declared.net.NetOutput.{NetOutput}
use Rattle.rx_net.specs.declared.net.Net.{Net}
use Rattle.rx_net.specs.Cells.{input_cells, values_after}
use Rattle.rx_net.specs.Named.{IsNet}
use Rattle.rx_boot.specs.ServerKeys.{ServerWords}
use Rattle.rx_block.specs.declared.block.Block.{Block}
use Rattle.rx_block.specs.Outputs.{output_blocks}
use Rattle.rx_codec.specs.declared.cipher.Item.{Item}
use Rattle.rx_codec.specs.declared.cipher.Cipher.{Cipher}
use Rattle.rx_codec.specs.CipherFile.{CipherFile, IsCipher}
use Rattle.rx_seeded.specs.Versions.{ServerRead, any_server_from}
use Rattle.rx_codec.specs.NetFile.{NetFile, net_from}
use Rattle.rx_crew.specs.Evaluation.{evaluated, AreInputs}
use Rattle.rx_crew.proofs.CellTags.{evaluation_laws}
use Rattle.rx_crew.specs.Noise.{KeepsCells}
use Rattle.rx_server.specs.Inputs.{items_of, digits_found}
use Rattle.rx_server.specs.Outputs.{output_item}
use Rattle.rx_net.specs.Legal.{Legal}
use Rattle.rx_server.specs.Laws.{AreCellBlocks, ServerLaws}
use Rattle.rx_tool.specs.declared.outcome.Stop.{Stop}
use Rattle.rx_tool.specs.Answers.{StopsFor}
use Rattle.rx_tool.specs.Words.{texts}
use Rattle.rx_tool.specs.Run.{AreCipherValues, AreCiphers, MayRun, HasJobTags, ciphers_of, jobs_line, malformed_input, input_blocks, evaluation, run_refused, run_refusal, values_refusal, KeepsRun, KeepsItems, RunsOver, RunDoes}
use Rattle.rx_tool.proofs.RunInputs.{of_set, length-ciphers}
use Rattle.rx_tool.proofs.EvaluatedBlocks.{are_inputs, evaluated_fit}

pub found_fit : (k : ServerWords) (net : Net) (workers : ℕ) (ciphers : List Cipher) → ServerLaws → AreCipherValues ciphers → MayRun k.params net workers ciphers
    → AreCellBlocks k.params net (input_cells net.space net.inputs) (input_blocks net ciphers)
found_fit k net workers ciphers laws fit may = laws.inputs k.params net ciphers may.space (of_set k.params ciphers may.sets fit) may.found

-- the same of lists that are lent
pub inputs_fit : (k : ServerWords) (net : Net) (workers : ℕ) (p : Params) (ciphers lent : List Cipher) (blocks lent_blocks : List Block) → ServerLaws → AreCipherValues ciphers
    → p ≡ k.params → lent ≡ ciphers → MayRun p net workers lent → blocks ≡ input_blocks net lent → lent_blocks ≡ blocks
    → AreCellBlocks k.params net (input_cells net.space net.inputs) lent_blocks
inputs_fit k net workers p ciphers lent blocks lent_blocks laws fit set same may found lend =
    subst (AreCellBlocks k.params net (input_cells net.space net.inputs)) (sym (lend ∙ found))
    (found_fit k net workers lent laws (subst AreCipherValues (sym same) fit) (subst (λ q. MayRun q net workers lent) set may))

-- the outputs are a ciphertext that has a file
pub outputs_fit : (k : ServerWords) (net : Net) (inputs : List Block) → ServerLaws → Accepts k.params → net.space ≡ k.params.message_bits → IsNet net
    → AreCellBlocks k.params net (input_cells net.space net.inputs) inputs → IsCipher (evaluation k net inputs)
outputs_fit k net inputs laws accepted space is fit =
    laws.outputs k.params net (evaluated k net inputs) accepted space is.legal is.output_names (evaluated_fit k net inputs fit)

-- each job's cell has its tags
pub job_tags : (k : ServerWords) (net : Net) (inputs : List Block) → AreCellBlocks k.params net (input_cells net.space net.inputs) inputs
    → HasJobTags net (evaluated k net inputs)
job_tags k net inputs fit c after low =
    let are : AreInputs k.params net inputs = are_inputs k.params net inputs fit in
    let later : length inputs ≤ c = omega (arith, fit.count, after) in
    (evaluation_laws.job_degree k net inputs c are later low, evaluation_laws.job_noise k net inputs c are later low)

-- where the cells keep values, the items of the outputs keep theirs
pub cells_keep_run : (k : ServerWords) (net : Net) (ciphers : List Cipher) → ServerLaws → Legal net
    → AreCellBlocks k.params net (input_cells net.space net.inputs) (input_blocks net ciphers)
    → KeepsCells k net (input_blocks net ciphers) → KeepsRun k net ciphers
cells_keep_run k net ciphers laws legal fit cells =
    let found : List Block = input_blocks net ciphers in
    λ small large values secret server kept.
    laws.kept k.params net large (evaluated k net found) (values_after values net.jobs) legal (evaluated_fit k net found fit).count
    (cells small large values secret server kept)

-- and where the items of the inputs keep digits
pub keeps_items : (k : ServerWords) (net : Net) (ciphers : List Cipher) → ServerLaws → KeepsRun k net ciphers → KeepsItems k net ciphers
keeps_items k net ciphers laws keeps =
    let items : List Item = items_of ciphers in
    λ small large lists secret server kept.
    keeps small large (digits_found net.inputs items lists) secret server (laws.found_kept k.params large net.inputs items lists kept)

-- the cipher that is given is the one that the key, the net and the inputs determine
pub outputs_made : (k : ServerWords) (net : Net) (p : Params) (inputs made blocks : List Block) (os : List NetOutput) (items : List Item)
    → p ≡ k.params → os ≡ net.outputs → made ≡ output_blocks (evaluated k net inputs) net.outputs
    → blocks ≡ made → ((cells : List Block) → blocks ≡ output_blocks cells os → items ≡ map (output_item cells) os)
    → record { params = p; items = items } ≡ evaluation k net inputs
outputs_made k net p inputs made blocks os items set outputs run same of_cells =
    let cells : List Block = evaluated k net inputs in
    let are : blocks ≡ output_blocks cells os = same ∙ run ∙ ap (output_blocks cells) (sym outputs) in
    let all : items ≡ map (output_item cells) net.outputs = of_cells cells are ∙ ap (map (output_item cells)) outputs in
    let of : Params → List Item → Cipher = λ q xs. record { params = q; items = xs } in
    ap (λ q. of q items) set ∙ ap (of k.params) all

-- ---- a run over its files

pub two_files : (files : List (List ℕ)) (s n first second : List ℕ) → 2 ≤ length files → first ≡ get_or files 0 first → second ≡ get_or files 1 second → s ≡ first → n ≡ second
    → files ≡ s ∷ n ∷ take (length files - 2) (drop 2 files)
two_files [] s n first second l e f h i = absurd (omega (arith, l))
two_files (a ∷ []) s n first second l e f h i = absurd (omega (arith, l))
two_files (a ∷ b ∷ files) s n first second l e f h i =
    let all : take (length (a ∷ b ∷ files) - 2) files ≡ files = take_all (length (a ∷ b ∷ files) - 2) files (omega arith) in
    ap (λ x. x ∷ b ∷ files) (sym e ∙ sym h) ∙ ap (λ y. s ∷ y ∷ files) (sym f ∙ sym i) ∙ ap (λ rest. s ∷ n ∷ rest) (sym all)

pub count_is : (files names : List (List ℕ)) (ciphers lent : List Cipher) (words : List (String Global)) → 2 ≤ length files → length files ≡ length names + 2
    → texts words ≡ names → lent ≡ ciphers → AreCiphers (take (length files - 2) (drop 2 files)) ciphers → length lent ≡ length words
count_is files names ciphers lent words l m e same are =
    let left : List (List ℕ) = drop 2 files in
    let all : take (length files - 2) left ≡ left = take_all (length files - 2) left (omega (arith, length-drop 2 files)) in
    omega (arith, ap length same, length-ciphers (take (length files - 2) left) ciphers are, ap length all, length-drop 2 files, ap length e, length-map words string_bytes)

module _ (server net out : List ℕ) (workers : ℕ) (names files : List (List ℕ)) (s n : List ℕ) (rest : List (List ℕ)) (k : ServerWords) (m : Net) (ciphers : List Cipher) where
  pub refusal_is : (net_name : List ℕ) (p : Params) (words : List (List ℕ)) (lent : List Cipher) → files ≡ s ∷ n ∷ rest → any_server_from s ≡ Ok k → net_from n ≡ Ok m
      → net_name ≡ net → p ≡ k.params → words ≡ names → lent ≡ ciphers → (malformed_input words rest ≡ None) × ((ciphers ≡ ciphers_of rest) × AreCiphers rest ciphers)
      → run_refusal server net workers names files ≡ values_refusal p net_name m workers words lent
  refusal_is net_name p words lent e key legal same_net same_set same_words same read =
      ap (run_refusal server net workers names) e
      ∙ ap (λ r. run_refused server net workers names r (net_from n) rest) key
      ∙ ap (λ r. run_refused server net workers names (Ok k) r rest) legal
      ∙ sym (ap (λ ws. option_or (malformed_input ws rest) (values_refusal k.params net m workers ws (ciphers_of rest))) same_words)
      ∙ ap (λ r. option_or r (values_refusal k.params net m workers words (ciphers_of rest))) read.0
      ∙ sym (ap (λ q. values_refusal q net m workers words (ciphers_of rest)) same_set)
      ∙ sym (ap (λ name. values_refusal p name m workers words (ciphers_of rest)) same_net)
      ∙ sym (ap (values_refusal p net_name m workers words) (same ∙ read.1.0))

  pub stopped_by_values : (net_name : List ℕ) (p : Params) (words : List (List ℕ)) (lent : List Cipher) (stop : Stop) → files ≡ s ∷ n ∷ rest → any_server_from s ≡ Ok k → net_from n ≡ Ok m
      → net_name ≡ net → p ≡ k.params → words ≡ names → lent ≡ ciphers → (malformed_input words rest ≡ None) × ((ciphers ≡ ciphers_of rest) × AreCiphers rest ciphers)
      → StopsFor (values_refusal p net_name m workers words lent) stop → StopsFor (run_refusal server net workers names files) stop
  stopped_by_values net_name p words lent stop e key legal same_net same_set same_words same read stops =
      subst (λ r. StopsFor r stop) (sym (refusal_is net_name p words lent e key legal same_net same_set same_words same read)) stops

  pub run_does : (inputs : List Block) (bytes : List ℕ) (writes : List (List ℕ × List ℕ)) (lines : List ℕ) → ServerLaws → Legal m → files ≡ s ∷ n ∷ rest
      → ServerRead s k → NetFile n m → AreCiphers rest ciphers → inputs ≡ input_blocks m ciphers
      → AreCellBlocks k.params m (input_cells m.space m.inputs) inputs → CipherFile bytes (evaluation k m inputs) → KeepsCells k m inputs
      → writes ≡ (out, bytes) ∷ [] → lines ≡ jobs_line (length m.jobs) → RunDoes out files writes lines
  run_does inputs bytes writes lines laws is_legal e key legal are found fit file keeps wrote printed =
      let given : List Block = input_blocks m ciphers in
      let fits : AreCellBlocks k.params m (input_cells m.space m.inputs) given =
      subst (AreCellBlocks k.params m (input_cells m.space m.inputs)) found fit in
      let cells : KeepsCells k m given = subst (KeepsCells k m) found keeps in
      let outputs : KeepsRun k m ciphers = cells_keep_run k m ciphers laws is_legal fits cells in
      let over : RunsOver out s n rest writes lines = record {
        key = k;
        net = m;
        ciphers = ciphers;
        bytes = bytes;
        server = key;
        program = legal;
        inputs = are;
        output = subst (λ xs. CipherFile bytes (evaluation k m xs)) found file;
        cells_keep = cells;
        job_tags = job_tags k m given fits;
        outputs_keep = outputs;
        items_keep = keeps_items k m ciphers laws outputs;
        wrote = wrote;
        printed = printed;
      } in
      subst (λ fs. RunDoes out fs writes lines) (sym e) over
