-- As many values as the list has replace it.
use Rattle.std.proofs.Common.{◌≡◌, List, length, drop}
use Rattle.std.proofs.lemmas.List.{take_at}
use Rattle.rx_list.specs.Overwritten.{overwritten}

pub overwritten-all : {A : Type 0} (old values : List A) → length values ≡ length old → overwritten old values ≡ values
overwritten-all old values e = take_at values (drop (length values) old) (length old) e
