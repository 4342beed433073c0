-- A trip: what its parts ask for and what they made, over its files.
use Rattle.std.proofs.Common.{◌≡◌, ◌⊎◌, inl, inr, ◌+◌, ◌*◌, ◌≤◌, ℕ, List, [], ◌∷◌, length, get_or, map, None, Ok, refl, sym, ap, subst, ◌∙◌, arith}
use Rattle.std.proofs.lemmas.List.{append-nil}
use Rattle.std.proofs.Math.Nat.{mul-le-mul_right}
use Rattle.std.specs.List.{AllByRecursion}
use Rattle.rx_params.specs.declared.params.Params.{Params}
use Rattle.rx_params.specs.Acceptance.{Accepts}
use Rattle.rx_params.specs.Derived.{large_dim}
use Rattle.rx_lwe.specs.Secret.{small_key, large_key}
use Rattle.rx_net.specs.declared.net.NetInput.{NetInput}
use Rattle.rx_net.specs.declared.net.Net.{Net}
use Rattle.rx_net.specs.Cells.{input_cells, net_depth}
use Rattle.rx_net.specs.Named.{IsNet}
use Rattle.rx_boot.specs.ServerKeys.{ServerWords, IsServerKey, server_key}
use Rattle.rx_block.specs.declared.block.Block.{Block}
use Rattle.rx_language.specs.Programs.{Program, IsProgram, inputs_of}
use Rattle.rx_language.specs.Texts.{IsCircuit}
use Rattle.rx_language.specs.Reading.{circuit_from}
use Rattle.rx_meaning.specs.Bounds.{jobs_of}
use Rattle.rx_circuit.specs.declared.values.ValueLine.{ValueLine}
use Rattle.rx_circuit.specs.Values.{AreValues, ValuesText, values_from}
use Rattle.rx_circuit.specs.Inputs.{found_inputs}
use Rattle.rx_codec.specs.declared.client.Client.{Client}
use Rattle.rx_codec.specs.declared.cipher.Cipher.{Cipher}
use Rattle.rx_codec.specs.ClientFile.{ClientFile, client_from}
use Rattle.rx_codec.specs.CipherFile.{CipherFile, IsItem, IsCipher}
use Rattle.rx_codec.specs.NetFile.{NetFile}
use Rattle.rx_codec.specs.Kept.{AreItemsKept}
use Rattle.rx_seeded.specs.SeededServer.{SeededServer}
use Rattle.rx_seeded.specs.SeededCipher.{SeededCipher}
use Rattle.rx_client.specs.Encrypt.{line_digits, encrypted_values, KeepsValues}
use Rattle.rx_client.proofs.Encrypted.{values_params}
use Rattle.rx_client.specs.Decrypt.{first_damage, item_lines}
use Rattle.rx_server.specs.Inputs.{items_of, first_fault, blocks_found}
use Rattle.rx_server.specs.Laws.{AreCellBlocks, ServerLaws}
use Rattle.rx_crew.specs.Board.{board_words, board_limit}
use Rattle.rx_crew.specs.Noise.{KeepsCells}
use Rattle.rx_compile.specs.Compiled.{Compiled}
use Rattle.rx_tool.specs.declared.command.TripWords.{TripWords}
use Rattle.rx_tool.specs.Refusals.{IsWithinLimits}
use Rattle.rx_tool.specs.Encrypt.{encryption}
use Rattle.rx_tool.specs.Compile.{size_line}
use Rattle.rx_tool.specs.Run.{input_blocks, evaluation, jobs_line}
use Rattle.rx_tool.specs.Decrypt.{PrintsKept}
use Rattle.rx_tool.specs.WholeWay.{Batch, batch_of, batch_lines, GoTogether}
use Rattle.rx_tool.specs.CircuitWay.{InputsOnce, CircuitGoes, CircuitWayLaws}
use Rattle.rx_tool.specs.declared.outcome.Stop.{Stop}
use Rattle.rx_tool.specs.Answers.{StopsFor}
use Rattle.rx_tool.specs.Trip.{trip_values_refusal, trip_refused, trip_refusal, MayTrip, TripsOver, TripDoes, TripsWith, outputs_name, trip_files}
use Rattle.rx_tool.proofs.NetRuns.{outputs_fit, run_does}
use Rattle.rx_tool.proofs.FoundLines.{inputs_once}

-- fewer jobs than those within the limits are within them
pub fewer_jobs : (p : Params) (workers jobs bound : ℕ) → jobs ≤ bound → IsWithinLimits p workers bound → IsWithinLimits p workers jobs
fewer_jobs p workers jobs bound few within =
    let words : jobs * (large_dim p + 3) ≤ bound * (large_dim p + 3) = mul-le-mul_right (large_dim p + 3) few in
    let most : 1 + bound * (large_dim p + 3) ≤ board_limit = within.board in
    record {
      workers_low = within.workers_low;
      workers_high = within.workers_high;
      few_jobs = omega (arith, within.few_jobs);
      board = omega (arith, words, most);
    }

-- the set of a client's server key
key_set : (p : Params) (seed mask : List ℕ) → (server_key p seed mask).params ≡ p
unfolding server_key
key_set p seed mask = refl

-- What is known before anything is made.
pub record IsReady (t : TripWords) (c : Client) (p : Program) (values : List ValueLine) : Type 0 where
  pub accepted : Accepts c.params
  pub program : IsProgram p
  pub are_values : AreValues values
  pub may : MayTrip t c p values

module _ (circuit : CircuitWayLaws) (server : ServerLaws) (t : TripWords) (c : Client) (p : Program) (values : List ValueLine)
    (ready : IsReady t c p values) (net : Net) (compiled : Compiled p net) where
  abbrev fresh : Cipher
  fresh = encryption c t.mask_seed t.noise_seed values

  abbrev batches : List Batch
  batches = batch_of t.mask_seed t.noise_seed values ∷ []

  abbrev made_key : ServerWords
  made_key = server_key c.params c.seed t.key_seed

  goes : CircuitGoes c p net batches ready.may.inputs.numbers
  goes =
      let all : batch_lines batches ≡ values = append-nil values in
      record {
        accepted = ready.accepted;
        is_program = ready.program;
        space = ready.may.space;
        compiled = compiled;
        each = (record { values = ready.are_values; widths = ready.may.widths }, tt);
        once = subst (InputsOnce (inputs_of p)) (sym all) (inputs_once (inputs_of p) values ready.are_values.once);
        found = ap (found_inputs (inputs_of p)) all ∙ ready.may.inputs.found;
      }

  together : GoTogether c net batches
  together = circuit.together c p net batches ready.may.inputs.numbers goes

  pub space_is : net.space ≡ c.params.message_bits
  space_is = together.space

  pub is_net : IsNet net
  is_net = together.is_net

  pub inputs_found : first_fault net.inputs (items_of (fresh ∷ [])) ≡ None
  inputs_found = together.found

  module _ (key : ServerWords) (key_is : key ≡ made_key) where
    pub set_is : key.params ≡ c.params
    set_is = ap (λ (k : ServerWords). k.params) key_is ∙ key_set c.params c.seed t.key_seed

    pub space_of_key : net.space ≡ key.params.message_bits
    space_of_key = space_is ∙ ap (λ (q : Params). q.message_bits) (sym set_is)

    pub limits : IsWithinLimits key.params t.workers (length net.jobs)
    limits =
        subst (λ q. IsWithinLimits q t.workers (length net.jobs)) (sym set_is)
        (fewer_jobs c.params t.workers (length net.jobs) (jobs_of p) compiled.jobs_in ready.may.limits)

    module _ (blocks : List Block) (found : blocks ≡ input_blocks net (fresh ∷ []))
        (fit : AreCellBlocks c.params net (input_cells net.space net.inputs) blocks) where
      pub fit_key : AreCellBlocks key.params net (input_cells net.space net.inputs) blocks
      fit_key = subst (λ q. AreCellBlocks q net (input_cells net.space net.inputs) blocks) (sym set_is) fit

      pub output_items : AllByRecursion (IsItem c.params) (evaluation key net blocks).items
      output_items =
          let is : IsCipher (evaluation key net blocks) =
          outputs_fit key net blocks server (subst Accepts (sym set_is) ready.accepted) space_of_key is_net fit_key in
          subst (λ q. AllByRecursion (IsItem q) (evaluation key net blocks).items) set_is is.items

      over_made : evaluation key net blocks ≡ evaluation made_key net (input_blocks net (fresh ∷ []))
      over_made = ap (λ k. evaluation k net blocks) key_is ∙ ap (evaluation made_key net) found

      pub undamaged : first_damage c.params (large_key c.params c.seed) (evaluation key net blocks).items ≡ None
      undamaged =
          ap (λ (x : Cipher). first_damage c.params (large_key c.params c.seed) x.items) over_made
          ∙ circuit.undamaged c t.key_seed p net batches ready.may.inputs.numbers goes

-- ---- the blocks of the inputs

pub blocks_are : ServerLaws → (c : Client) (mask noise key : List ℕ) (values lent : List ValueLine) (net : Net) (inputs : List NetInput) (x : Cipher)
    (blocks : List Block) → key ≡ large_key c.params c.seed → lent ≡ values → x ≡ encrypted_values c.params key mask noise lent → IsCipher x →
    net.space ≡ c.params.message_bits → inputs ≡ net.inputs →
    (first_fault inputs (items_of (x ∷ [])) ≡ None) × (blocks ≡ blocks_found inputs (items_of (x ∷ []))) →
    (blocks ≡ input_blocks net (encryption c mask noise values ∷ [])) × AreCellBlocks c.params net (input_cells net.space net.inputs) blocks
blocks_are server c mask noise key values lent net inputs x blocks key_is lent_is exact is space inputs_are gathered =
    let own : List ℕ = large_key c.params c.seed in
    let e : x ≡ encryption c mask noise values =
    exact ∙ ap (λ k. encrypted_values c.params k mask noise lent) key_is ∙ ap (encrypted_values c.params own mask noise) lent_is in
    let none : first_fault net.inputs (items_of (x ∷ [])) ≡ None =
    sym (ap (λ is. first_fault is (items_of (x ∷ []))) inputs_are) ∙ gathered.0 in
    let found : blocks ≡ blocks_found net.inputs (items_of (x ∷ [])) =
    gathered.1 ∙ ap (λ is. blocks_found is (items_of (x ∷ []))) inputs_are in
    let set : x.params ≡ c.params = ap (λ (y : Cipher). y.params) e ∙ values_params c.params own mask noise values in (
      found ∙ ap (λ y. input_blocks net (y ∷ [])) e,
      subst (AreCellBlocks c.params net (input_cells net.space net.inputs)) (sym found)
          (server.inputs c.params net (x ∷ []) space ((set, is), tt) none),
    )

-- ---- what was made

-- The parts were made of one another, and spelled and read: the key and the net evaluated over some blocks give this ciphertext.
pub record IsMade (t : TripWords) (c : Client) (values : List ValueLine) (net : Net) (key : ServerWords) (blocks : List Block) (x : Cipher)
    (server net_file inputs outputs lines : List ℕ) : Type 0 where
  pub server_is : SeededServer server t.key_seed (server_key c.params c.seed t.key_seed)
  pub near : IsServerKey (small_key c.params c.seed) (large_key c.params c.seed) key
  pub net_is : NetFile net_file net
  pub inputs_are : SeededCipher inputs t.mask_seed (encryption c t.mask_seed t.noise_seed values)
  pub keeps : KeepsValues c.params (large_key c.params c.seed) (encryption c t.mask_seed t.noise_seed values).items values
  pub kept : AreItemsKept c.params (large_key c.params c.seed) (encryption c t.mask_seed t.noise_seed values).items
      (map (line_digits c.params.message_bits) values)
  pub found : blocks ≡ input_blocks net (encryption c t.mask_seed t.noise_seed values ∷ [])
  pub fit : AreCellBlocks c.params net (input_cells net.space net.inputs) blocks
  pub cells : KeepsCells key net blocks
  pub evaluated : x ≡ evaluation key net blocks
  pub output : CipherFile outputs x
  pub read : lines ≡ item_lines c.params (large_key c.params c.seed) x.items
  pub prints : PrintsKept c x lines

over_made_key : (circuit : CircuitWayLaws) (server_laws : ServerLaws) (t : TripWords) (c : Client) (p : Program) (values : List ValueLine) →
    IsReady t c p values → (net : Net) → Compiled p net → (blocks : List Block) (x : Cipher) (server net_file inputs outputs lines : List ℕ) →
    IsMade t c values net (server_key c.params c.seed t.key_seed) blocks x server net_file inputs outputs lines →
    TripsWith t c p values (trip_files t server net_file inputs outputs) lines
over_made_key circuit server_laws t c p values ready net compiled blocks x server net_file inputs outputs lines made =
    λ client_file circuit_file value_file of_client of_circuit of_values.
    let key : ServerWords = server_key c.params c.seed t.key_seed in
    let e : Cipher = encryption c t.mask_seed t.noise_seed values in
    let one : List Batch = batch_of t.mask_seed t.noise_seed values ∷ [] in
    let fit : AreCellBlocks key.params net (input_cells net.space net.inputs) blocks =
    fit_key circuit server_laws t c p values ready net compiled key refl blocks made.found made.fit in
    let output : CipherFile outputs (evaluation key net blocks) = subst (CipherFile outputs) made.evaluated made.output in
    let numbers : List ℕ = ready.may.inputs.numbers in
    record {
      server = server;
      net = net_file;
      inputs = inputs;
      outputs = outputs;
      wrote = refl;
      keygen = (c, server, of_client, made.server_is, made.near, refl, refl);
      size = size_line (length net.jobs) (net_depth net);
      compile = (p, net, net_file, of_circuit, compiled, made.net_is, refl, refl);
      encrypt = (c, values, inputs, of_client, of_values, made.inputs_are, made.keeps, made.kept, refl, refl);
      jobs = jobs_line (length net.jobs);
      run = run_does server net_file (outputs_name t) t.workers [] (server ∷ net_file ∷ inputs ∷ []) server net_file (inputs ∷ []) key net (e ∷ [])
          blocks outputs ((outputs_name t, outputs) ∷ []) (jobs_line (length net.jobs)) server_laws compiled.legal refl
          (inr (t.key_seed, made.server_is)) made.net_is (inr (t.mask_seed, made.inputs_are), tt) made.found fit output made.cells refl refl;
      decrypt = (
        c,
        x,
        of_client,
        inl made.output,
        ap (λ (y : Cipher). y.params) made.evaluated ∙ key_set c.params c.seed t.key_seed,
        refl,
        made.read,
        made.prints,
      );
      circuit = p;
      values = values;
      numbers = numbers;
      is_circuit = of_circuit;
      are_values = of_values;
      found = ready.may.inputs.found;
      printed = made.read
          ∙ ap (λ (y : Cipher). item_lines c.params (large_key c.params c.seed) y.items) made.evaluated
          ∙ ap (λ bs. item_lines c.params (large_key c.params c.seed) (evaluation key net bs).items) made.found
          ∙ circuit.lines c t.key_seed p net one numbers (goes circuit server_laws t c p values ready net compiled);
      client = c;
      compiled = net;
      is_client = of_client;
      is_net = made.net_is;
      cells_keep = circuit.cells c t.key_seed p net one numbers (goes circuit server_laws t c p values ready net compiled);
    }

pub trips_with : (circuit : CircuitWayLaws) (server_laws : ServerLaws) (t : TripWords) (c : Client) (p : Program) (values : List ValueLine) →
    IsReady t c p values → (net : Net) → Compiled p net → (key : ServerWords) → key ≡ server_key c.params c.seed t.key_seed →
    (blocks : List Block) (x : Cipher) (server net_file inputs outputs lines : List ℕ) →
    IsMade t c values net key blocks x server net_file inputs outputs lines →
    TripsWith t c p values (trip_files t server net_file inputs outputs) lines
trips_with circuit server_laws t c p values ready net compiled key is blocks x server net_file inputs outputs lines made =
    over_made_key circuit server_laws t c p values ready net compiled blocks x server net_file inputs outputs lines
    (subst (λ k. IsMade t c values net k blocks x server net_file inputs outputs lines) is made)

-- ---- the three files

pub three_files : (files : List (List ℕ)) (a b d first second third : List ℕ) → length files ≡ 3 → first ≡ get_or files 0 first →
    second ≡ get_or files 1 second → third ≡ get_or files 2 third → a ≡ first → b ≡ second → d ≡ third → files ≡ a ∷ b ∷ d ∷ []
three_files [] a b d first second third three e f g h i j = absurd (omega (arith, three))
three_files (x ∷ []) a b d first second third three e f g h i j = absurd (omega (arith, three))
three_files (x ∷ y ∷ []) a b d first second third three e f g h i j = absurd (omega (arith, three))
three_files (x ∷ y ∷ z ∷ []) a b d first second third three e f g h i j =
    ap (λ u. u ∷ y ∷ z ∷ []) (sym e ∙ sym h) ∙ ap (λ v. a ∷ v ∷ z ∷ []) (sym f ∙ sym i) ∙ ap (λ w. a ∷ b ∷ w ∷ []) (sym g ∙ sym j)
three_files (x ∷ y ∷ z ∷ more ∷ files) a b d first second third three e f g h i j = absurd (omega (arith, three))

module _ (t : TripWords) (files : List (List ℕ)) (a b d : List ℕ) (c : Client) (p : Program) (values : List ValueLine) where
  refusal_is : files ≡ a ∷ b ∷ d ∷ [] → client_from a ≡ Ok c → circuit_from b ≡ Ok p → values_from d ≡ Ok values →
      trip_refusal t files ≡ trip_values_refusal t c p values
  refusal_is three client circuit lines =
      ap (trip_refusal t) three
      ∙ ap (λ read. trip_refused t read (circuit_from b) (values_from d)) client
      ∙ ap (λ read. trip_refused t (Ok c) read (values_from d)) circuit
      ∙ ap (trip_refused t (Ok c) (Ok p)) lines

  pub trip_stops : (stop : Stop) → files ≡ a ∷ b ∷ d ∷ [] → client_from a ≡ Ok c → circuit_from b ≡ Ok p → values_from d ≡ Ok values →
      StopsFor (trip_values_refusal t c p values) stop → StopsFor (trip_refusal t files) stop
  trip_stops stop three client circuit lines stops =
      subst (λ refusal. StopsFor refusal stop) (sym (refusal_is three client circuit lines)) stops

  pub trip_done : (writes : List (List ℕ × List ℕ)) (printed : List ℕ) (files_are : List (List ℕ × List ℕ)) (text : List ℕ) →
      files ≡ a ∷ b ∷ d ∷ [] → client_from a ≡ Ok c → circuit_from b ≡ Ok p → values_from d ≡ Ok values →
      trip_values_refusal t c p values ≡ None → ClientFile a c → IsCircuit b p → ValuesText d values →
      TripsWith t c p values files_are text → writes ≡ files_are → printed ≡ text →
      (trip_refusal t files ≡ None) × TripDoes t files writes printed
  trip_done writes printed files_are text three client circuit lines none of_client of_circuit of_values trips wrote put =
      let over : TripsOver t a b d writes printed =
      subst (λ l. TripsOver t a b d writes l) (sym put) (subst (λ w. TripsOver t a b d w text) (sym wrote) (trips a b d of_client of_circuit of_values)) in (
        refusal_is three client circuit lines ∙ none,
        subst (λ fs. TripDoes t fs writes printed) (sym three) over,
      )
