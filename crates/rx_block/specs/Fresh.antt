-- Fresh blocks.
use Rattle.std.specs.Prelude.{ℕ, ◌*◌, List}
use Rattle.rx_laws.specs.Decode.{unit}
use Rattle.rx_torus.specs.Streams.{stream_of}
use Rattle.rx_torus.specs.Kinds.{stream_number}
use Rattle.rx_torus.specs.declared.kind.StreamKind.TheVariants.{BlockMask, BlockNoise}
use Rattle.rx_params.specs.declared.params.Params.{Params}
use Rattle.rx_params.specs.declared.kind.Kind.{Kind}
use Rattle.rx_params.specs.Kinds.{greatest}
use Rattle.rx_lwe.specs.Lwe.{encrypted}
use Rattle.rx_block.specs.declared.block.Block.{Block}

-- The fresh block of a number x under a key: it is block `number` of its file, whose masks and noises come from two
-- seeds. Its degree is the greatest number of its kind without a carry, and its noise tag is 1.
unfoldable pub fresh : Params → List ℕ → List ℕ → List ℕ → ℕ → Kind → ℕ → Block
fresh p key mask_seed noise_seed number kind x = record {
  words = encrypted key (stream_of mask_seed (stream_number BlockMask number))
      (stream_of noise_seed (stream_number BlockNoise number)) p.glwe_bound (unit p.message_bits * x);
  degree = greatest kind p.message_bits;
  noise = 1;
}
