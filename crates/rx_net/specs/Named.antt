-- Nets whose names are names.
use Rattle.std.specs.Prelude.{IsTrue}
use Rattle.std.specs.List.{AllByRecursion}
use Rattle.rx_text.specs.Names.{is_name}
use Rattle.rx_net.specs.declared.net.NetInput.{NetInput}
use Rattle.rx_net.specs.declared.net.NetOutput.{NetOutput}
use Rattle.rx_net.specs.declared.net.Net.{Net}
use Rattle.rx_net.specs.Legal.{Legal}

-- a legal net whose names are names
pub record IsNet (n : Net) : Type 0 where
  pub legal : Legal n
  pub input_names : AllByRecursion (λ (i : NetInput). IsTrue (is_name i.name)) n.inputs
  pub output_names : AllByRecursion (λ (o : NetOutput). IsTrue (is_name o.name)) n.outputs
