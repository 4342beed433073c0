-- Runs with a net and with its folded net.
use Rattle.std.proofs.Common.{◌≡◌, ◌≤◌, ◌⊎◌, inl, inr, ℕ, ℤ, ◌+◌, ◌*◌, Bool, true, false, List, [], ◌∷◌, ◌++◌, length, get_or, map, Option, Some, None, Result, Ok, Err, refl, sym, ◌∙◌, ap, subst, arith}
use Rattle.std.specs.Prelude.{pos, ◌==◌, ◌+ℤ◌, ◌*ℤ◌, nat_lt, nat_le, if◌then◌else◌}
use Rattle.std.specs.List.{AllByRecursion}
use Rattle.std.specs.Option.{option_map, option_or}
use Rattle.std.proofs.lemmas.Bool.{le-leb, leb-true, eqb-true}
use Rattle.std.proofs.lemmas.List.{length-map}
use Rattle.std.proofs.Math.ListN.{get_or-map}
use Rattle.std.proofs.Math.Nat.{mul-le-mul_right}
use Rattle.rx_laws.specs.Sum.{sum_to}
use Rattle.rx_laws.specs.Words.{words_below}
use Rattle.rx_laws.specs.Decode.{unit}
use Rattle.rx_params.specs.declared.params.Params.{Params}
use Rattle.rx_params.specs.Derived.{large_dim}
use Rattle.rx_net.specs.declared.term.Term.{Term}
use Rattle.rx_net.specs.declared.net.Job.{Job}
use Rattle.rx_net.specs.declared.net.NetOutput.{NetOutput}
use Rattle.rx_net.specs.declared.net.Net.{Net}
use Rattle.rx_net.specs.Cells.{input_cells, laid}
use Rattle.rx_net.specs.Legal.{Legal}
use Rattle.rx_net.specs.Limits.{most_jobs}
use Rattle.rx_net.proofs.Each.{all_map}
use Rattle.rx_boot.specs.ServerKeys.{ServerWords}
use Rattle.rx_boot.specs.Bootstrap.{bootstrapped}
use Rattle.rx_block.specs.declared.block.Block.{Block}
use Rattle.rx_block.specs.Combine.{no_block, no_term}
use Rattle.rx_codec.specs.declared.cipher.Item.{Item}
use Rattle.rx_codec.specs.declared.cipher.Cipher.{Cipher}
use Rattle.rx_codec.specs.declared.fault.CodecFault.{CodecFault}
use Rattle.rx_codec.specs.NetFile.{NetFile, net_from}
use Rattle.rx_codec.specs.CipherFile.{CipherFile, cipher_bytes}
use Rattle.rx_codec.specs.Laws.{FileLaws}
use Rattle.rx_codec.proofs.Fields.{ok_is}
use Rattle.rx_seeded.specs.Versions.{any_server_from}
use Rattle.rx_seeded.specs.Laws.{SeededFileLaws}
use Rattle.rx_seeded.proofs.WrongMasks.{or_none}
use Rattle.rx_crew.specs.Kernel.{key_basis, basis_key, job_words, mixed_operands}
use Rattle.rx_crew.specs.Evaluation.{job_block}
use Rattle.rx_crew.specs.Board.{board_words, board_limit}
use Rattle.rx_crew.proofs.Laying.{evaluated-laid}
use Rattle.rx_fold.specs.Jobs.{moved_output}
use Rattle.rx_fold.specs.Folded.{cells_given, anew, folded_jobs, folded}
use Rattle.rx_fold.specs.Laws.{ReadsWeights, FoldLaws}
use Rattle.rx_fold.proofs.Transfers.{Reads, words_reads}
use Rattle.rx_fold.proofs.Results.{anew_cell, Given, all_given}
use Rattle.rx_report.specs.Reports.{Report, difference_of, many_jobs, wide_board, wrong_input, mismatch}
use Rattle.rx_server.specs.Inputs.{items_of, first_fault}
use Rattle.rx_server.specs.Outputs.{output_item, outputs_cipher}
use Rattle.rx_server.specs.Laws.{ServerLaws}
use Rattle.rx_tool.specs.Refusals.{space_difference, set_difference, workers_refusal, jobs_refusal, board_refusal, limits_refusal}
use Rattle.rx_tool.specs.Run.{AreOfSet, AreCiphers, AreCipherValues, ciphers_of, cipher_before, malformed_input, inputs_refusal, values_refusal, run_refused, input_blocks, evaluation, run_cipher, RunDoes}
use Rattle.rx_tool.specs.FoldWay.{IsFoldOf, RunWith, files_with, refusal_with, NarrowerBoard}
use Rattle.rx_tool.proofs.RunInputs.{same_set, of_set, values_fit, length-ciphers}

-- ---- the words of a job, by the weights of its terms

abbrev weight_of : Term → ℤ
weight_of t = t.weight

abbrev mixed_by : Params → List ℤ → ℤ → List ℕ → ℕ → ℤ
mixed_by p weights constant operands i =
    sum_to (length weights) (λ t. get_or weights t (pos 0) *ℤ pos (get_or operands (t * (large_dim p + 1) + i) 0))
    +ℤ (if nat_lt i (large_dim p) then pos 0 else pos (unit p.message_bits) *ℤ constant)

mixed_is : (p : Params) (terms : List Term) (constant : ℤ) (operands : List ℕ) (i : ℕ) →
    mixed_operands p terms constant operands i ≡ mixed_by p (map weight_of terms) constant operands i
mixed_is p terms constant operands i = λ n.
    sum_to (sym (length-map terms weight_of) n) (λ t. sym (get_or-map weight_of terms t no_term) n *ℤ pos (get_or operands (t * (large_dim p + 1) + i) 0))
    +ℤ (if nat_lt i (large_dim p) then pos 0 else pos (unit p.message_bits) *ℤ constant)

pub job_reads : ReadsWeights job_words
unfolding job_words
job_reads basis i j operands same =
    let p : Params = let k : ServerWords = basis_key basis in k.params in
    let mixed : (x : ℕ) → mixed_operands p i.terms i.constant operands x ≡ mixed_operands p j.terms j.constant operands x =
    λ x. mixed_is p i.terms i.constant operands x
    ∙ (λ n. mixed_by p (same.weights n) (same.constant n) operands x)
    ∙ sym (mixed_is p j.terms j.constant operands x) in
    λ n. bootstrapped (basis_key basis) (same.table n) (words_below (large_dim p + 1) (λ x. mixed x n))

-- ---- the blocks of all cells, and the outputs

abbrev words_in : Block → List ℕ
words_in b = b.words

abbrev block_with : Job → List ℕ → Block
block_with j words = record { words = words; degree = j.degree; noise = 1 }

block_reads : (k : ServerWords) → Reads no_block (job_block k)
unfolding Reads
block_reads k f j xs ys same =
    ap (block_with j) (words_reads job_words (key_basis k) job_reads f j (map words_in xs) (map words_in ys)
    (all_map (λ (t : Term). get_or xs (f t.cell) no_block ≡ get_or ys t.cell no_block)
    (λ (t : Term). get_or (map words_in xs) (f t.cell) [] ≡ get_or (map words_in ys) t.cell []) j.terms
    (λ t e. get_or-map words_in xs (f t.cell) no_block ∙ ap words_in e ∙ sym (get_or-map words_in ys t.cell no_block)) same))

all_front : (P : ℕ → Type 0) (xs ys : List ℕ) → AllByRecursion P (xs ++ ys) → AllByRecursion P xs
all_front P [] ys h = tt
all_front P (x ∷ xs) ys h = (h.0, all_front P xs ys h.1)

all_back : (P : ℕ → Type 0) (xs ys : List ℕ) → AllByRecursion P (xs ++ ys) → AllByRecursion P ys
all_back P [] ys h = h
all_back P (x ∷ xs) ys h = all_back P xs ys h.1

module _ (f : ℕ → ℕ) (new old : List Block) where
  abbrev IsSame : ℕ → Type 0
  IsSame c = get_or new (f c) no_block ≡ get_or old c no_block

  blocks_same : (cells : List ℕ) → AllByRecursion IsSame cells →
      map (λ c. get_or new c no_block) (map f cells) ≡ map (λ c. get_or old c no_block) cells
  blocks_same [] same = refl
  blocks_same (c ∷ cells) same =
      ap (λ b. b ∷ map (λ c. get_or new c no_block) (map f cells)) same.0 ∙ ap (λ bs. get_or old c no_block ∷ bs) (blocks_same cells same.1)

  abbrev item_of : NetOutput → List Block → Item
  item_of o blocks = record { name = o.name; kind = o.kind; bits = o.bits; blocks = blocks }

  items_same : (outputs : List NetOutput) → AllByRecursion IsSame (cells_given outputs) →
      map (output_item new) (map (moved_output f) outputs) ≡ map (output_item old) outputs
  items_same [] same = refl
  items_same (o ∷ outputs) same =
      ap (λ bs. item_of o bs ∷ map (output_item new) (map (moved_output f) outputs))
      (blocks_same o.cells (all_front IsSame o.cells (cells_given outputs) same))
      ∙ ap (λ items. output_item old o ∷ items) (items_same outputs (all_back IsSame o.cells (cells_given outputs) same))

abbrev cipher_with : Params → List Item → Cipher
cipher_with p items = record { params = p; items = items }

pub outputs_same : (k : ServerWords) (net : Net) (inputs : List Block) → Legal net → length inputs ≡ input_cells net.space net.inputs →
    evaluation k (folded net) inputs ≡ evaluation k net inputs
unfolding folded
outputs_same k net inputs legal count =
    let new : List Block = laid (job_block k) inputs (folded_jobs net) in
    let old : List Block = laid (job_block k) inputs net.jobs in
    let cells : AllByRecursion (IsSame (anew net) new old) (cells_given net.outputs) =
    all_map (Given net) (IsSame (anew net) new old) (cells_given net.outputs)
    (λ c given. anew_cell net legal no_block (job_block k) (block_reads k) inputs count c given.within given.kept) (all_given net legal) in
    ap (λ bs. outputs_cipher k.params bs (map (moved_output (anew net)) net.outputs)) (evaluated-laid k (folded net) inputs)
    ∙ ap (cipher_with k.params) (items_same (anew net) new old net.outputs cells)
    ∙ sym (ap (λ bs. outputs_cipher k.params bs net.outputs) (evaluated-laid k net inputs))

-- ---- refusals

abbrev NoMore : Option Report → Option Report → Type 0
NoMore before after = (after ≡ before) ⊎ NarrowerBoard before after

no_more_after : (first before after : Option Report) → NoMore before after → NoMore (option_or first before) (option_or first after)
no_more_after None before after no_more = no_more
no_more_after (Some report) before after no_more = inl refl

board_no_more : (words fewer : ℕ) (is_within is_narrow : Bool) → fewer ≤ words → (is_within ≡ true → is_narrow ≡ true) →
    NoMore (if is_within then None else Some (wide_board words)) (if is_narrow then None else Some (wide_board fewer))
board_no_more words fewer true true le follows = inl refl
board_no_more words fewer true false le follows = absurd (let e : ◌≡◌ {A = Bool} false true = follows refl in cc)
board_no_more words fewer false true le follows = inr (words, refl, inl refl)
board_no_more words fewer false false le follows = inr (words, refl, inr (fewer, le, refl))

board_narrower : (p : Params) (jobs fewer : ℕ) → fewer ≤ jobs → NoMore (board_refusal p jobs) (board_refusal p fewer)
board_narrower p jobs fewer le =
    let m : fewer * (large_dim p + 3) ≤ jobs * (large_dim p + 3) = mul-le-mul_right (large_dim p + 3) le in
    board_no_more (board_words p jobs) (board_words p fewer) (nat_le (board_words p jobs) board_limit) (nat_le (board_words p fewer) board_limit)
    (omega (arith, m))
    (λ within. let w = leb-true (board_words p jobs) board_limit within in le-leb (board_words p fewer) board_limit (omega (arith, m, w)))

limits_no_more : (p : Params) (workers jobs fewer : ℕ) → jobs ≤ most_jobs → fewer ≤ jobs →
    NoMore (limits_refusal p workers jobs) (limits_refusal p workers fewer)
limits_no_more p workers jobs fewer few le =
    let none : (count : ℕ) → count ≤ most_jobs → jobs_refusal count ≡ None =
    λ count within. ap (λ (b : Bool). if b then None else Some (many_jobs count)) (le-leb count most_jobs within) in
    no_more_after (workers_refusal workers) (option_or (jobs_refusal jobs) (board_refusal p jobs)) (option_or (jobs_refusal fewer) (board_refusal p fewer))
    (subst (λ (r : Option Report). NoMore (option_or r (board_refusal p jobs)) (option_or (jobs_refusal fewer) (board_refusal p fewer))) (sym (none jobs few))
    (subst (λ (r : Option Report). NoMore (board_refusal p jobs) (option_or r (board_refusal p fewer))) (sym (none fewer (omega (arith, few, le))))
    (board_narrower p jobs fewer le)))

-- what refuses the values of well-formed files
values_no_more : (p : Params) (name : List ℕ) (net : Net) (workers : ℕ) (names : List (List ℕ)) (ciphers : List Cipher) → FoldLaws → Legal net →
    NoMore (values_refusal p name net workers names ciphers) (values_refusal p name (folded net) workers names ciphers)
unfolding folded
values_no_more p name net workers names ciphers laws legal =
    let rest : ℕ → Option Report = λ jobs. limits_refusal p workers jobs in
    let inputs : ℕ → Option Report = λ jobs. option_or (inputs_refusal net.inputs ciphers) (rest jobs) in
    let sets : ℕ → Option Report = λ jobs. option_or (set_difference p names ciphers) (inputs jobs) in
    let jobs : ℕ = length net.jobs in
    let fewer : ℕ = length (folded_jobs net) in
    no_more_after (space_difference name p net.space) (sets jobs) (sets fewer)
    (no_more_after (set_difference p names ciphers) (inputs jobs) (inputs fewer)
    (no_more_after (inputs_refusal net.inputs ciphers) (rest jobs) (rest fewer)
    (limits_no_more p workers jobs fewer legal.limits.few_jobs (laws.folds net legal).fewer)))

read_no_more : (server name : List ℕ) (workers : ℕ) (names files : List (List ℕ)) (net : Net) (key : Result ServerWords CodecFault) → FoldLaws → Legal net →
    NoMore (run_refused server name workers names key (Ok net) files) (run_refused server name workers names key (Ok (folded net)) files)
read_no_more server name workers names files net (Err fault) laws legal = inl refl
read_no_more server name workers names files net (Ok k) laws legal =
    no_more_after (malformed_input names files) (values_refusal k.params name net workers names (ciphers_of files))
    (values_refusal k.params name (folded net) workers names (ciphers_of files))
    (values_no_more k.params name net workers names (ciphers_of files) laws legal)

-- the name of the net's file is told by a refusal alone
renamed : (server name other : List ℕ) (workers : ℕ) (names files : List (List ℕ)) (net : Net) (key : Result ServerWords CodecFault) →
    run_refused server name workers names key (Ok net) files ≡ None → run_refused server other workers names key (Ok net) files ≡ None
renamed server name other workers names files net (Err fault) none = none
renamed server name other workers names files net (Ok k) none =
    let later : Option Report =
    option_or (set_difference k.params names (ciphers_of files))
    (option_or (inputs_refusal net.inputs (ciphers_of files)) (limits_refusal k.params workers (length net.jobs))) in
    let both = or_none (malformed_input names files) (option_or (space_difference name k.params net.space) later) none in
    let values = or_none (space_difference name k.params net.space) later both.1 in
    ap (λ r. option_or r (option_or (space_difference other k.params net.space) later)) both.0
    ∙ ap (λ r. option_or r later) (named_otherwise (k.params.message_bits == net.space) (difference name) (difference other) values.0) ∙ values.1
  where
    difference : List ℕ → Report
    difference file = mismatch file (record { field = 1; first = k.params.message_bits; other = net.space })

    named_otherwise : (is_same : Bool) (x y : Report) → (if is_same then None else Some x) ≡ None → (if is_same then None else Some y) ≡ None
    named_otherwise true x y none = refl
    named_otherwise false x y none = absurd cc

-- ---- a run that nothing refuses

-- what is known where nothing refuses a run over files that were read
record Known (k : ServerWords) (net : Net) (ciphers : List Cipher) : Type 0 where
  space : net.space ≡ k.params.message_bits
  sets : AreOfSet k.params ciphers
  found : first_fault net.inputs (items_of ciphers) ≡ None

no_map : {A B : Type 0} (f : A → B) (o : Option A) → option_map f o ≡ None → o ≡ None
no_map f None none = refl
no_map f (Some x) none = absurd cc

are_of_set : (p : Params) (names : List (List ℕ)) (ciphers : List Cipher) → length names ≡ length ciphers → set_difference p names ciphers ≡ None →
    AreOfSet p ciphers
are_of_set p names [] count none = tt
are_of_set p [] (c ∷ ciphers) count none = absurd (omega (arith, count))
are_of_set p (name ∷ names) (c ∷ ciphers) count none =
    let both = or_none (option_map (mismatch name) (difference_of p c.params)) (set_difference p names ciphers) none in (
      same_set p c.params (no_map (mismatch name) (difference_of p c.params) both.0),
      are_of_set p names ciphers (omega (arith, count)) both.1,
    )

known : (server name : List ℕ) (workers : ℕ) (names files : List (List ℕ)) (k : ServerWords) (net : Net) →
    length names ≡ length (ciphers_of files) → run_refused server name workers names (Ok k) (Ok net) files ≡ None → Known k net (ciphers_of files)
known server name workers names files k net count none =
    let ciphers : List Cipher = ciphers_of files in
    let limits : Option Report = limits_refusal k.params workers (length net.jobs) in
    let inputs : Option Report = option_or (inputs_refusal net.inputs ciphers) limits in
    let sets : Option Report = option_or (set_difference k.params names ciphers) inputs in
    let read = or_none (malformed_input names files) (option_or (space_difference name k.params net.space) sets) none in
    let space = or_none (space_difference name k.params net.space) sets read.1 in
    let set = or_none (set_difference k.params names ciphers) inputs space.1 in
    let input = or_none (inputs_refusal net.inputs ciphers) limits set.1 in
    record {
      space = is_space (k.params.message_bits == net.space) (eqb-true k.params.message_bits net.space)
          (mismatch name (record { field = 1; first = k.params.message_bits; other = net.space })) space.0;
      sets = are_of_set k.params names ciphers count set.0;
      found = no_map wrong_input (first_fault net.inputs (items_of ciphers)) input.0;
    }
  where
    is_space : (is_same : Bool) → (is_same ≡ true → k.params.message_bits ≡ net.space) → (x : Report) → (if is_same then None else Some x) ≡ None →
        net.space ≡ k.params.message_bits
    is_space true same x none = sym (same refl)
    is_space false same x none = absurd cc

-- ---- the laws

-- what stands in the one write
bytes_in : List (List ℕ × List ℕ) → List ℕ
bytes_in [] = []
bytes_in ((name, bytes) ∷ writes) = bytes

written : (out x bytes : List ℕ) → ◌≡◌ {A = List (List ℕ × List ℕ)} ((out, x) ∷ []) ((out, bytes) ∷ []) → x ≡ bytes
unfolding bytes_in
written out x bytes e = ap bytes_in e

-- the net of a file that was folded, and that of the file which `fold` wrote
record Both (net_file folded_file : List ℕ) : Type 0 where
  net : Net
  old : NetFile net_file net
  new : NetFile folded_file (folded net)

both_nets : (net_file folded_file : List ℕ) → IsFoldOf folded_file net_file → Both net_file folded_file
both_nets net_file folded_file (out, lines, (net, bytes, old, new, wrote, printed)) = record {
  net = net;
  old = old;
  new = subst (λ file. NetFile file (folded net)) (sym (written out folded_file bytes wrote)) new;
}

module _ (folds : FoldLaws) (files : FileLaws) (versions : SeededFileLaws) (server : ServerLaws) where
  read_ciphers : (files : List (List ℕ)) (ciphers : List Cipher) → AreCiphers files ciphers → ciphers_of files ≡ ciphers
  read_ciphers [] [] are = refl
  read_ciphers [] (c ∷ ciphers) are = absurd are
  read_ciphers (file ∷ files) [] are = absurd are
  read_ciphers (file ∷ files) (c ∷ ciphers) are =
      ap (λ r. cipher_before r (ciphers_of files)) (versions.cipher_read file c are.0) ∙ ap (λ cs. c ∷ cs) (read_ciphers files ciphers are.1)

  pub refuses : (run : RunWith) (net net_file folded_file : List ℕ) → IsFoldOf folded_file net_file →
      NoMore (refusal_with run net net_file) (refusal_with run net folded_file)
  refuses run net net_file folded_file is =
      let both = both_nets net_file folded_file is in
      let key : Result ServerWords CodecFault = any_server_from run.server_file in
      let over : Result Net CodecFault → Option Report = λ read. run_refused run.server net run.workers run.inputs key read run.input_files in
      subst (λ read. NoMore (over read) (over (net_from folded_file))) (sym (files.net_read net_file both.net both.old))
      (subst (λ read. NoMore (over (Ok both.net)) (over read)) (sym (files.net_read folded_file (folded both.net) both.new))
      (read_no_more run.server net run.workers run.inputs run.input_files both.net key folds both.old.fits.legal))

  pub accepts : (run : RunWith) (net other net_file folded_file : List ℕ) → IsFoldOf folded_file net_file →
      refusal_with run net net_file ≡ None → refusal_with run other folded_file ≡ None
  accepts run net other net_file folded_file is none =
      let both = both_nets net_file folded_file is in
      let key : Result ServerWords CodecFault = any_server_from run.server_file in
      let read = files.net_read folded_file (folded both.net) both.new in
      let over : List ℕ → Result Net CodecFault → Option Report = λ name r. run_refused run.server name run.workers run.inputs key r run.input_files in
      ap (over other) read
      ∙ renamed run.server net other run.workers run.inputs run.input_files (folded both.net) key
      (sym (ap (over net) read) ∙ accepted (refuses run net net_file folded_file is))
    where
      accepted : NoMore (refusal_with run net net_file) (refusal_with run net folded_file) → refusal_with run net folded_file ≡ None
      accepted (inl same) = same ∙ none
      accepted (inr (words, was, after)) = absurd (let e = sym was ∙ none in cc)

  -- the two files, over what was read
  same_bytes : (k : ServerWords) (net : Net) (ciphers : List Cipher) (bytes again : List ℕ) → Legal net →
      length (input_blocks net ciphers) ≡ input_cells net.space net.inputs → CipherFile bytes (run_cipher k net ciphers) →
      CipherFile again (run_cipher k (folded net) ciphers) → again ≡ bytes
  unfolding folded
  same_bytes k net ciphers bytes again legal count first second =
      second.spelled ∙ ap cipher_bytes (outputs_same k net (input_blocks net ciphers) legal count) ∙ sym first.spelled

  pub writes : (run : RunWith) (net net_file folded_file out other bytes again lines more : List ℕ) → IsFoldOf folded_file net_file →
      length run.inputs ≡ length run.input_files → refusal_with run net net_file ≡ None →
      RunDoes out (files_with run net_file) ((out, bytes) ∷ []) lines →
      RunDoes other (files_with run folded_file) ((other, again) ∷ []) more → again ≡ bytes
  writes run net net_file folded_file out other bytes again lines more is named none first second =
      let both = both_nets net_file folded_file is in
      let m : Net = both.net in
      let legal : Legal m = both.old.fits.legal in
      let k : ServerWords = first.key in
      let ciphers : List Cipher = ciphers_of run.input_files in
      let read : any_server_from run.server_file ≡ Ok k = versions.server_read run.server_file k first.server in
      let key : second.key ≡ k = ok_is second.key k (sym (versions.server_read run.server_file second.key second.server) ∙ read) in
      let old : first.net ≡ m = ok_is first.net m (sym (files.net_read net_file first.net first.program) ∙ files.net_read net_file m both.old) in
      let new : second.net ≡ folded m =
      ok_is second.net (folded m) (sym (files.net_read folded_file second.net second.program) ∙ files.net_read folded_file (folded m) both.new) in
      let given : ciphers ≡ first.ciphers = read_ciphers run.input_files first.ciphers first.inputs in
      let again_given : ciphers ≡ second.ciphers = read_ciphers run.input_files second.ciphers second.inputs in
      let over : Result ServerWords CodecFault → Result Net CodecFault → Option Report =
      λ r n. run_refused run.server net run.workers run.inputs r n run.input_files in
      let many : length run.inputs ≡ length ciphers =
      omega (arith, named, length-ciphers run.input_files first.ciphers first.inputs, ap length given) in
      let is_known : Known k m ciphers =
      known run.server net run.workers run.inputs run.input_files k m many
      (sym (ap (over (Ok k)) (files.net_read net_file m both.old)) ∙ sym (ap (λ r. over r (net_from net_file)) read) ∙ none) in
      let fit = subst AreCipherValues (sym given) (values_fit run.input_files first.ciphers first.inputs) in
      let cells = server.inputs k.params m ciphers is_known.space (of_set k.params ciphers is_known.sets fit) is_known.found in
      let before : CipherFile bytes (run_cipher k m ciphers) =
      subst (λ cs. CipherFile bytes (run_cipher k m cs)) (sym given)
      (subst (λ n. CipherFile bytes (run_cipher k n first.ciphers)) old
      (subst (λ file. CipherFile file (run_cipher k first.net first.ciphers)) (sym (written out bytes first.bytes first.wrote)) first.output)) in
      let after : CipherFile again (run_cipher k (folded m) ciphers) =
      subst (λ cs. CipherFile again (run_cipher k (folded m) cs)) (sym again_given)
      (subst (λ n. CipherFile again (run_cipher k n second.ciphers)) new
      (subst (λ s. CipherFile again (run_cipher s second.net second.ciphers)) key
      (subst (λ file. CipherFile file (run_cipher second.key second.net second.ciphers)) (sym (written other again second.bytes second.wrote)) second.output))) in
      same_bytes k m ciphers bytes again legal cells.count before after
