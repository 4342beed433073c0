-- What sums of blocks and lookups keep, whatever the noises are.
use Rattle.std.specs.Prelude.{ℕ, ℤ, ◌<◌, ◌≡◌, List, length, get_or}
use Rattle.rx_laws.specs.Decode.{plaintexts}
use Rattle.rx_params.specs.declared.params.Params.{Params}
use Rattle.rx_params.specs.Derived.{large_dim}
use Rattle.rx_net.specs.declared.term.Term.{Term}
use Rattle.rx_net.specs.Tags.{value_of, natural}
use Rattle.rx_boot.specs.ServerKeys.{ServerWords, IsSecret, IsServerKey}
use Rattle.rx_block.specs.declared.block.Block.{Block}
use Rattle.rx_block.specs.Combine.{no_block, no_term}
use Rattle.rx_block.specs.Keeps.{Keeps}

-- each term's block keeps the value of its cell
abbrev pub KeepOperands : Params → List ℕ → List Block → List Term → (ℕ → ℕ) → Type 0
KeepOperands p key blocks terms value =
    (t : ℕ) → t < length terms → let x : Term = get_or terms t no_term in Keeps p key (get_or blocks x.cell no_block) (value x.cell)

-- For every key: where the operands keep values, the sum keeps their weighted sum, the constant added.
abbrev pub KeepsSum : Params → List Block → List Term → ℤ → Block → Type 0
KeepsSum p blocks terms constant sum =
    (key : List ℕ) (value : ℕ → ℕ) → length key ≡ large_dim p → KeepOperands p key blocks terms value →
    Keeps p key sum (natural (value_of value constant terms))

-- For every secret of which the key is a server key: where the block keeps a number, what was looked up keeps the table's entry
-- at that number. Its degree, the greatest entry that the block can reach, has to be one of a block.
abbrev pub KeepsEntry : ServerWords → List ℕ → Block → Block → Type 0
KeepsEntry key table block entry =
    (small large : List ℕ) (x : ℕ) → IsSecret key.params small large → IsServerKey small large key →
    entry.degree < plaintexts key.params.message_bits → Keeps key.params large block x → Keeps key.params large entry (get_or table x 0)
