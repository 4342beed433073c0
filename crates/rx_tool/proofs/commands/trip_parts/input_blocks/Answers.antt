use Rattle.std.proofs.Common.{refl}
use Rattle.rx_tool.proofs.Trips.{blocks_are}
use Rattle.rx_tool.proofs.commands.trip_parts.input_blocks.Goals as goal

pub returns-in-Ok : goal.returns-in-Ok
returns-in-Ok c = (
  refl,
  blocks_are c.server_laws.ensures c.args.keys.now c.args.mask_seed.now c.args.noise_seed.now c.in_ok-secret.secret c.args.values.now c.lines.result.now
      c.args.net.now c.as_slice.result.now c.in_ok-cipher.cipher c.in-Ok.blocks.items c.in_ok-secret.ensures.key c.lines.ensures.lines
      c.in_ok-cipher.ensures.exact c.in_ok-cipher.ensures.fits c.requires.space c.as_slice.ensures c.in-Ok.ensures,
)
