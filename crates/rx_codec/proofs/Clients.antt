-- The client file: what is read is spelled so, and what is spelled so is read.
use Rattle.std.proofs.Common.{◌≡◌, ℕ, ◌+◌, List, ◌++◌, length, Result, Ok, Err, refl, sym, ap, subst, ◌∙◌}
use Rattle.std.specs.Prelude.{IfOk, codes}
use Rattle.rx_params.specs.declared.params.Params.{Params}
use Rattle.rx_codec.specs.declared.client.Client.{Client}
use Rattle.rx_codec.specs.declared.fault.CodecFault.{CodecFault}
use Rattle.rx_codec.specs.Reading.{◌>>=◌, bytes_at, magic_at, ends_at}
use Rattle.rx_codec.specs.ParamsFields.{params_bytes, params_at}
use Rattle.rx_codec.specs.ClientFile.{ClientFile, client_bytes, client_from}
use Rattle.rx_codec.proofs.Fields.{IsBytes, IsBytes-within, Stands, Stands-then, Stands-first, Stands-second, Stands-whole, whole-Stands, bind_ok, bytes_takes, bytes_again, magic_takes, magic_again, ends_takes, ends_again}
use Rattle.rx_codec.proofs.Params.{params_takes, params_again}

abbrev client_of : Params → List ℕ → Client
client_of params seed = record { params = params; seed = seed }

-- what is read is a client file
pub client_spelled : (file : List ℕ) (c : Client) → IsBytes file → client_from file ≡ Ok c → ClientFile file c
unfolding client_from
client_spelled file c fits e =
    let magic = bind_ok (magic_at (codes "RXC1") file) (λ after. params_at file after >>= λ params. bytes_at file 32 params.1 >>= λ seed. ends_at file seed.1 (client_of params.0 seed.0)) c e in
    let params = bind_ok (params_at file magic.0) (λ params. bytes_at file 32 params.1 >>= λ seed. ends_at file seed.1 (client_of params.0 seed.0)) c magic.2 in
    let seed = bind_ok (bytes_at file 32 params.0.1) (λ seed. ends_at file seed.1 (client_of params.0.0 seed.0)) c params.2 in
    let end = ends_takes file seed.0.1 (client_of params.0.0 seed.0.0) c seed.2 in
    let t0 = magic_takes (codes "RXC1") file magic.0 magic.1 in
    let t1 = params_takes file magic.0 params.0 fits t0.within params.1 in
    let t2 = bytes_takes file 32 params.0.1 seed.0 seed.1 in
    let e01 = Stands-then file 0 (codes "RXC1") magic.0 (params_bytes params.0.0) params.0.1 t0 t1.there in
    let e02 = Stands-then file 0 (codes "RXC1" ++ params_bytes params.0.0) params.0.1 seed.0.0 seed.0.1 e01 t2.0 in
    let bytes : IsBytes seed.0.0 = IsBytes-within file params.0.1 seed.0.0 seed.0.1 fits t2.0 in
    subst (ClientFile file) end.1 (record {
      fits = record { accepted = t1.accepted; size = t2.1; bytes = λ i lt. bytes i };
      spelled = whole-Stands file (client_bytes (client_of params.0.0 seed.0.0)) seed.0.1 e02 end.0;
    })

pub client_found : (file : List ℕ) (result : Result Client CodecFault) → IsBytes file → result ≡ client_from file → IfOk result (λ c. ClientFile file c)
client_found file (Ok c) fits exact = client_spelled file c fits (sym exact)
client_found file (Err fault) fits exact = tt

-- a client file is read
pub client_again : (file : List ℕ) (c : Client) → ClientFile file c → client_from file ≡ Ok c
unfolding client_from
client_again file c h =
    let p = params_bytes c.params in
    let whole : Stands file 0 (codes "RXC1" ++ p ++ c.seed) (length file) = subst (λ (text : List ℕ). Stands file 0 text (length file)) h.spelled (Stands-whole file) in
    let front = Stands-first file 0 (codes "RXC1" ++ p) c.seed (length file) whole in
    let seed = Stands-second file 0 (codes "RXC1" ++ p) c.seed (length file) whole in
    let magic = Stands-first file 0 (codes "RXC1") p (0 + length (codes "RXC1" ++ p)) front in
    let params = Stands-second file 0 (codes "RXC1") p (0 + length (codes "RXC1" ++ p)) front in
    ap (λ (r : Result ℕ CodecFault). r >>= λ after. params_at file after >>= λ params. bytes_at file 32 params.1 >>= λ seed. ends_at file seed.1 (client_of params.0 seed.0))
    (magic_again (codes "RXC1") file _ refl magic)
    ∙ ap (λ (r : Result (Params × ℕ) CodecFault). r >>= λ params. bytes_at file 32 params.1 >>= λ seed. ends_at file seed.1 (client_of params.0 seed.0))
    (params_again file _ c.params _ h.fits.accepted params)
    ∙ ap (λ (r : Result (List ℕ × ℕ) CodecFault). r >>= λ seed. ends_at file seed.1 (client_of c.params seed.0))
    (bytes_again file 32 _ c.seed _ seed h.fits.size)
    ∙ ends_again file (length file) (client_of c.params c.seed) refl
