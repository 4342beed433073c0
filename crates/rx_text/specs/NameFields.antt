-- How a name is held: its bytes and then zeros, 32 in all.
use Rattle.std.specs.Prelude.{◌-◌, ◌≤◌, ◌≡◌, ◌++◌, length, take, replicate, IsTrue}
use Rattle.rx_text.specs.Names.{is_name}
use Rattle.rx_text.specs.declared.name.Name.TheInside.{Inside}

-- the bytes within the length are a name, and those past it are 0
pub record IsHeldName (n : Inside) : Type 0 where
  pub whole : length n.bytes ≡ 32
  pub fits : n.len ≤ 32
  pub name : IsTrue (is_name (take n.len n.bytes))
  pub padded : n.bytes ≡ take n.len n.bytes ++ replicate (32 - n.len) 0
