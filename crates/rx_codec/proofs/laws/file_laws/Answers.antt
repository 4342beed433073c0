use Rattle.std.proofs.Common.{ℕ, List, length, inl, inr, lit<}
use Rattle.std.proofs.lemmas.Bool.{cases_lt}
use Rattle.std.proofs.lemmas.List.{get_or_past}
use Rattle.rx_codec.specs.Laws.{AreBytes}
use Rattle.rx_codec.proofs.Fields.{IsBytes}
use Rattle.rx_codec.proofs.Clients.{client_again, client_spelled}
use Rattle.rx_codec.proofs.Servers.{server_again, server_spelled}
use Rattle.rx_codec.proofs.Ciphers.{cipher_again, cipher_spelled}
use Rattle.rx_codec.proofs.Nets.{net_again, net_spelled}
use Rattle.rx_codec.proofs.laws.file_laws.Goals as goal

fits : (bytes : List ℕ) → AreBytes bytes → IsBytes bytes
fits bytes h i = elim (cases_lt i (length bytes)) [ inl lt ↦ h i lt | inr le ↦ rw (get_or_past bytes i 0 le) (lit< tt) ]

pub returns : goal.returns
returns c = record {
  client_read = client_again;
  client_spelled = λ bytes client h. client_spelled bytes client (fits bytes h);
  server_read = server_again;
  server_spelled = λ bytes key h. server_spelled bytes key (fits bytes h);
  net_read = net_again c.net_laws.ensures;
  net_spelled = λ bytes net h. net_spelled c.net_laws.ensures bytes net (fits bytes h);
  cipher_read = cipher_again;
  cipher_spelled = λ bytes cipher h. cipher_spelled bytes cipher (fits bytes h);
}
