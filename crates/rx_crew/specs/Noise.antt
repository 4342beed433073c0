-- What evaluated cells keep, whatever the noises are.
use Rattle.std.specs.Prelude.{ℕ, List, map}
use Rattle.rx_net.specs.declared.net.Net.{Net}
use Rattle.rx_net.specs.Cells.{values_after, value}
use Rattle.rx_boot.specs.ServerKeys.{ServerWords, IsSecret, IsServerKey}
use Rattle.rx_block.specs.declared.block.Block.{Block}
use Rattle.rx_block.specs.Keeps.{AreKept}
use Rattle.rx_block.specs.Outputs.{numbers_of}
use Rattle.rx_crew.specs.Evaluation.{evaluated}

-- For every secret of which the key is a server key: where the inputs keep values, each cell keeps the value that the net gives
-- it.
abbrev pub KeepsCells : ServerWords → Net → List Block → Type 0
KeepsCells key net inputs =
    (small large values : List ℕ) → IsSecret key.params small large → IsServerKey small large key →
    AreKept key.params large inputs values → AreKept key.params large (evaluated key net inputs) (values_after values net.jobs)

-- the values of the cells of all outputs, one output after another
abbrev pub output_values : Net → List ℕ → List ℕ
output_values net values = map (value net values) (numbers_of net.outputs)

-- The same of the blocks of the outputs.
abbrev pub KeepsOutputs : ServerWords → Net → List Block → List Block → Type 0
KeepsOutputs key net inputs outputs =
    (small large values : List ℕ) → IsSecret key.params small large → IsServerKey small large key →
    AreKept key.params large inputs values → AreKept key.params large outputs (output_values net values)
