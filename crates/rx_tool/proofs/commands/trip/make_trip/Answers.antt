use Rattle.std.proofs.Common.{◌∙◌, refl, sym, ap, subst, string_bytes}
use Rattle.std.specs.List.{AllByRecursion}
use Rattle.rx_lwe.specs.Secret.{large_key}
use Rattle.rx_net.specs.Cells.{input_cells}
use Rattle.rx_codec.specs.declared.cipher.Cipher.{Cipher}
use Rattle.rx_codec.specs.CipherFile.{IsItem}
use Rattle.rx_client.specs.Decrypt.{first_damage}
use Rattle.rx_server.specs.Laws.{AreCellBlocks}
use Rattle.rx_tool.proofs.Trips.{space_is, is_net, inputs_found, space_of_key, limits, fit_key, output_items, undamaged, trips_with}
use Rattle.rx_tool.proofs.commands.trip.make_trip.Goals as goal

pub compiled_net-requires : goal.compiled_net-requires
compiled_net-requires g c =
    c.requires.may.limits.few_jobs

pub encode_net-requires : goal.encode_net-requires
encode_net-requires g c =
    c.in-Ok.ensures.1.legal

pub encrypted-requires-clause-widths : goal.encrypted-requires-clause-widths
encrypted-requires-clause-widths g c =
    c.requires.may.widths

pub input_blocks-requires-clause-widths : goal.input_blocks-requires-clause-widths
input_blocks-requires-clause-widths g c =
    c.requires.may.widths

pub input_blocks-requires-clause-space : goal.input_blocks-requires-clause-space
input_blocks-requires-clause-space g c =
    space_is c.circuit_way_laws.ensures c.server_laws.ensures c.args.words.now c.args.given.now.keys c.args.given.now.circuit c.args.given.now.values
    (record { accepted = c.requires.accepted; program = c.requires.program; are_values = c.requires.values; may = c.requires.may }) c.in-Ok.net c.in-Ok.ensures.1

pub input_blocks-requires-clause-found : goal.input_blocks-requires-clause-found
input_blocks-requires-clause-found g c =
    inputs_found c.circuit_way_laws.ensures c.server_laws.ensures c.args.words.now c.args.given.now.keys c.args.given.now.circuit c.args.given.now.values
    (record { accepted = c.requires.accepted; program = c.requires.program; are_values = c.requires.values; may = c.requires.may }) c.in-Ok.net c.in-Ok.ensures.1

pub evaluate-requires-clause-net : goal.evaluate-requires-clause-net
evaluate-requires-clause-net g c lifetimes well_formed =
    is_net c.circuit_way_laws.ensures c.server_laws.ensures c.args.words.now c.args.given.now.keys c.args.given.now.circuit c.args.given.now.values
    (record { accepted = c.requires.accepted; program = c.requires.program; are_values = c.requires.values; may = c.requires.may }) c.in-Ok.net c.in-Ok.ensures.1

pub evaluate-requires-clause-space : goal.evaluate-requires-clause-space
evaluate-requires-clause-space g c lifetimes well_formed =
    space_of_key c.circuit_way_laws.ensures c.server_laws.ensures c.args.words.now c.args.given.now.keys c.args.given.now.circuit c.args.given.now.values
    (record { accepted = c.requires.accepted; program = c.requires.program; are_values = c.requires.values; may = c.requires.may }) c.in-Ok.net c.in-Ok.ensures.1 c.in_ok-key.key c.in_ok-key.ensures.key

pub evaluate-requires-clause-inputs : goal.evaluate-requires-clause-inputs
evaluate-requires-clause-inputs g c lifetimes well_formed =
    fit_key c.circuit_way_laws.ensures c.server_laws.ensures c.args.words.now c.args.given.now.keys c.args.given.now.circuit c.args.given.now.values
    (record { accepted = c.requires.accepted; program = c.requires.program; are_values = c.requires.values; may = c.requires.may }) c.in-Ok.net c.in-Ok.ensures.1 c.in_ok-key.key c.in_ok-key.ensures.key c.deref.result.now (c.deref.ensures.value ∙ c.in-Ok-input_blocks.ensures.1.0)
    (subst (AreCellBlocks c.args.given.now.keys.params c.in-Ok.net (input_cells c.in-Ok.net.space c.in-Ok.net.inputs)) (sym c.deref.ensures.value) c.in-Ok-input_blocks.ensures.1.1)

pub evaluate-requires-clause-limits : goal.evaluate-requires-clause-limits
evaluate-requires-clause-limits g c lifetimes well_formed =
    limits c.circuit_way_laws.ensures c.server_laws.ensures c.args.words.now c.args.given.now.keys c.args.given.now.circuit c.args.given.now.values
    (record { accepted = c.requires.accepted; program = c.requires.program; are_values = c.requires.values; may = c.requires.may }) c.in-Ok.net c.in-Ok.ensures.1 c.in_ok-key.key c.in_ok-key.ensures.key

pub decrypted_lines-requires-clause-items : goal.decrypted_lines-requires-clause-items
decrypted_lines-requires-clause-items g c =
    subst (λ (x : Cipher). AllByRecursion (IsItem c.args.given.now.keys.params) x.items) (sym c.in_ok-evaluation.ensures.outputs)
    (output_items c.circuit_way_laws.ensures c.server_laws.ensures c.args.words.now c.args.given.now.keys c.args.given.now.circuit c.args.given.now.values
    (record { accepted = c.requires.accepted; program = c.requires.program; are_values = c.requires.values; may = c.requires.may }) c.in-Ok.net c.in-Ok.ensures.1 c.in_ok-key.key c.in_ok-key.ensures.key c.deref.result.now (c.deref.ensures.value ∙ c.in-Ok-input_blocks.ensures.1.0)
    (subst (AreCellBlocks c.args.given.now.keys.params c.in-Ok.net (input_cells c.in-Ok.net.space c.in-Ok.net.inputs)) (sym c.deref.ensures.value) c.in-Ok-input_blocks.ensures.1.1))

pub decrypted_lines-requires-clause-undamaged : goal.decrypted_lines-requires-clause-undamaged
decrypted_lines-requires-clause-undamaged g c =
    ap (λ (x : Cipher). first_damage c.args.given.now.keys.params (large_key c.args.given.now.keys.params c.args.given.now.keys.seed) x.items)
    c.in_ok-evaluation.ensures.outputs
    ∙ undamaged c.circuit_way_laws.ensures c.server_laws.ensures c.args.words.now c.args.given.now.keys c.args.given.now.circuit c.args.given.now.values
    (record { accepted = c.requires.accepted; program = c.requires.program; are_values = c.requires.values; may = c.requires.may }) c.in-Ok.net c.in-Ok.ensures.1 c.in_ok-key.key c.in_ok-key.ensures.key c.deref.result.now (c.deref.ensures.value ∙ c.in-Ok-input_blocks.ensures.1.0)
    (subst (AreCellBlocks c.args.given.now.keys.params c.in-Ok.net (input_cells c.in-Ok.net.space c.in-Ok.net.inputs)) (sym c.deref.ensures.value) c.in-Ok-input_blocks.ensures.1.1)

pub returns-in-Ok-decrypted_lines : goal.returns-in-Ok-decrypted_lines
returns-in-Ok-decrypted_lines g c = (
  refl,
  trips_with c.circuit_way_laws.ensures c.server_laws.ensures c.args.words.now c.args.given.now.keys c.args.given.now.circuit c.args.given.now.values
      (record { accepted = c.requires.accepted; program = c.requires.program; are_values = c.requires.values; may = c.requires.may }) c.in-Ok.net c.in-Ok.ensures.1 c.in_ok-key.key c.in_ok-key.ensures.key c.deref.result.now c.in_ok-evaluation.evaluation.outputs
      c.in_ok-server.server.items c.in_ok-net_file.net_file.items c.in_ok-inputs.inputs.items c.in_ok-outputs.outputs.items
      (string_bytes c.in-Ok-decrypted_lines.lines)
      (record {
        server_is = c.in_ok-server.ensures;
        near = c.in_ok-key.ensures.near;
        net_is = c.in_ok-net_file.ensures;
        inputs_are = c.in_ok-inputs.ensures.file;
        keeps = c.in_ok-inputs.ensures.keeps;
        kept = c.in_ok-inputs.ensures.kept;
        found = c.deref.ensures.value ∙ c.in-Ok-input_blocks.ensures.1.0;
        fit = subst (AreCellBlocks c.args.given.now.keys.params c.in-Ok.net (input_cells c.in-Ok.net.space c.in-Ok.net.inputs)) (sym c.deref.ensures.value)
            c.in-Ok-input_blocks.ensures.1.1;
        cells = c.in_ok-evaluation.ensures.keeps;
        evaluated = c.in_ok-evaluation.ensures.outputs;
        output = c.in_ok-outputs.ensures;
        read = c.in-Ok-decrypted_lines.ensures.1.0;
        prints = c.in-Ok-decrypted_lines.ensures.1.1;
      }),
)
