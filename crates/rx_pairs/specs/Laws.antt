-- Reading and spelling of pair files agree, and no pair file is a server file.
use Rattle.std.specs.Prelude.{ℕ, ◌≡◌, List, Ok, Err}
use Rattle.rx_boot.specs.ServerKeys.{ServerWords}
use Rattle.rx_multi.specs.PairKeys.{PairWords}
use Rattle.rx_codec.specs.declared.fault.CodecFault.TheVariants.{Magic}
use Rattle.rx_codec.specs.Laws.{AreBytes}
use Rattle.rx_codec.specs.ServerFile.{ServerFile, server_from}
use Rattle.rx_pairs.specs.PairFile.{PairFile, pairs_from}

pub record PairFileLaws : Type 0 where
  pub pair_read : (bytes : List ℕ) (k : PairWords) → PairFile bytes k → pairs_from bytes ≡ Ok k
  pub pair_spelled : (bytes : List ℕ) (k : PairWords) → AreBytes bytes → pairs_from bytes ≡ Ok k → PairFile bytes k
  pub no_server : (bytes : List ℕ) (k : PairWords) → PairFile bytes k → server_from bytes ≡ Err Magic
  pub no_pairs : (bytes : List ℕ) (k : ServerWords) → ServerFile bytes k → pairs_from bytes ≡ Err Magic
