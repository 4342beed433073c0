use Rattle.std.proofs.Common.{◌≡◌, ◌++◌, length, take}
use Rattle.std.specs.Prelude.{IsTrue}
use Rattle.std.specs.Int.{w16, to_le_bytes}
use Rattle.std.specs.List.{flat_map}
use Rattle.rx_text.specs.Names.{is_name}
use Rattle.rx_net.specs.declared.net.NetOutput.{NetOutput}
use Rattle.rx_codec.specs.NetFile.{output_bytes}
use Rattle.rx_codec.proofs.Named.{AreUpto}
use Rattle.rx_codec.proofs.net_writing.write_outputs.Given as goal

abbrev pub invariant-loop-output : goal.invariant-loop-output
invariant-loop-output l = record {
  text : l.out.items ≡ l.fn.out.items ++ (to_le_bytes w16 (length l.outputs) ++ flat_map output_bytes (take l.output-index l.outputs));
  named : AreUpto (λ (x : NetOutput). IsTrue (is_name x.name)) l.output-index l.outputs;
}
