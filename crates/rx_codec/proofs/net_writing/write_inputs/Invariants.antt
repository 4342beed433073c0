use Rattle.std.proofs.Common.{◌≡◌, ◌++◌, length, take}
use Rattle.std.specs.Prelude.{IsTrue}
use Rattle.std.specs.Int.{w16, to_le_bytes}
use Rattle.std.specs.List.{flat_map}
use Rattle.rx_text.specs.Names.{is_name}
use Rattle.rx_net.specs.declared.net.NetInput.{NetInput}
use Rattle.rx_codec.specs.NetFile.{input_bytes}
use Rattle.rx_codec.proofs.Named.{AreUpto}
use Rattle.rx_codec.proofs.net_writing.write_inputs.Given as goal

abbrev pub invariant-loop-input : goal.invariant-loop-input
invariant-loop-input l = record {
  text : l.out.items ≡ l.fn.out.items ++ (to_le_bytes w16 (length l.inputs) ++ flat_map input_bytes (take l.input-index l.inputs));
  named : AreUpto (λ (x : NetInput). IsTrue (is_name x.name)) l.input-index l.inputs;
}
