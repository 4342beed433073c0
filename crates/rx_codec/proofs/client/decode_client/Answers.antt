use Rattle.std.proofs.Common.{◌∙◌, arith}
use Rattle.rx_codec.proofs.Clients.{client_found, client_again}
use Rattle.rx_codec.proofs.client.decode_client.Goals as goal

pub returns-clause-found : goal.returns-clause-found
returns-clause-found c = client_found c.args.bytes.now c.read_client.result (λ i. omega (arith, c.type_inv.bytes i)) c.read_client.ensures

pub returns-clause-only : goal.returns-clause-only
returns-clause-only c = λ client file. c.read_client.ensures ∙ client_again c.args.bytes.now client file
