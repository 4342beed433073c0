-- The seeded ciphertext file with its bodies alone: what is read is spelled so, and what is spelled so is read.
use Rattle.std.proofs.Common.{◌≡◌, ℕ, ◌+◌, ◌^◌, ◌≤◌, Bool, true, leb, List, [], ◌++◌, length, Result, Ok, refl, sym, ap, subst, ◌∙◌, arith}
use Rattle.std.specs.Prelude.{codes}
use Rattle.std.specs.List.{flat_map, AllByRecursion}
use Rattle.std.specs.Int.{w32, to_le_bytes}
use Rattle.std.proofs.lemmas.Bool.{leb-true, le-leb}
use Rattle.rx_params.specs.declared.params.Params.{Params}
use Rattle.rx_params.specs.Acceptance.{Accepts}
use Rattle.rx_codec.specs.declared.cipher.Item.{Item}
use Rattle.rx_codec.specs.declared.fault.CodecFault.{CodecFault}
use Rattle.rx_codec.specs.Reading.{◌>>=◌, bytes_at, number_at, in_range, magic_at, ends_at}
use Rattle.rx_codec.specs.ParamsFields.{params_bytes, params_at}
use Rattle.rx_codec.specs.CipherFile.{item_bytes, IsSizedItem, ItemsOnce, item_at, items_at}
use Rattle.rx_codec.proofs.Fields.{IsBytes, IsBytes-within, Stands, Stands-then, Stands-first, Stands-second, Stands-whole, whole-Stands, bind_ok, wide32, bytes_takes, bytes_again, number_takes, number_again, in_range_takes, magic_takes, magic_again, ends_takes, ends_again}
use Rattle.rx_codec.proofs.Params.{params_takes, params_again}
use Rattle.rx_codec.proofs.Manys.{many_takes, many_again, each_of_turn}
use Rattle.rx_codec.proofs.ItemFields.{ItemFits, item_tells}
use Rattle.rx_codec.proofs.Ciphers.{items_once, items_fit, none_before}
use Rattle.rx_seeded.specs.declared.cipher.Bodies.{Bodies}
use Rattle.rx_seeded.specs.Masks.{IsSeed}
use Rattle.rx_seeded.specs.SeededCipher.{seeded_cipher_head, bodies_from}

abbrev bodies_of : Params → List ℕ → List Item → Bodies
bodies_of p mask_seed items = record { params = p; mask_seed = mask_seed; items = items }

-- the bytes of a set, a mask seed and items of bodies alone
abbrev pub bodies_bytes : Bodies → List ℕ
bodies_bytes b = seeded_cipher_head b.params b.mask_seed (length b.items) ++ flat_map item_bytes b.items

-- the bytes are those of these bodies, which keep to the ranges
pub record BodiesFile (bytes : List ℕ) (b : Bodies) : Type 0 where
  pub accepted : Accepts b.params
  pub seed : IsSeed b.mask_seed
  pub count : length b.items ≤ 64
  pub items : AllByRecursion (IsSizedItem 1 b.params) b.items
  pub once : ItemsOnce b.items
  pub spelled : bytes ≡ bodies_bytes b

-- the rest of a file, after the number of items, after the mask seed, and after the parameters
abbrev after_count : Params → List ℕ → List ℕ → ℕ × ℕ → Result Bodies CodecFault
after_count p mask_seed file count = items_at 1 p count.0 [] file count.1 >>= λ items. ends_at file items.1 (bodies_of p mask_seed items.0)

abbrev after_seed : Params → List ℕ → List ℕ × ℕ → Result Bodies CodecFault
after_seed p file seed = number_at w32 file seed.1 >>= λ count. in_range (leb count.0 64) seed.1 count >>= after_count p seed.0 file

abbrev after_params : List ℕ → Params × ℕ → Result Bodies CodecFault
after_params file params = bytes_at file 32 params.1 >>= after_seed params.0 file

pub bodies_spelled : (file : List ℕ) (b : Bodies) → IsBytes file → bodies_from file ≡ Ok b → BodiesFile file b
unfolding bodies_from
bodies_spelled file b fits e =
    let magic = bind_ok (magic_at (codes "RXE2") file) (λ after. params_at file after >>= after_params file) b e in
    let params = bind_ok (params_at file magic.0) (after_params file) b magic.2 in
    let p = params.0.0 in
    let seed = bind_ok (bytes_at file 32 params.0.1) (after_seed p file) b params.2 in
    let s = seed.0.0 in
    let number = bind_ok (number_at w32 file seed.0.1) (λ count. in_range (leb count.0 64) seed.0.1 count >>= after_count p s file) b seed.2 in
    let count = bind_ok (in_range (leb number.0.0 64) seed.0.1 number.0) (after_count p s file) b number.2 in
    let test = in_range_takes (leb number.0.0 64) seed.0.1 number.0 count.0 count.1 in
    let rest : after_count p s file number.0 ≡ Ok b = ap (after_count p s file) test.1 ∙ count.2 in
    let items = bind_ok (items_at 1 p number.0.0 [] file number.0.1) (λ items. ends_at file items.1 (bodies_of p s items.0)) b rest in
    let end = ends_takes file items.0.1 (bodies_of p s items.0.0) b items.2 in
    let t0 = magic_takes (codes "RXE2") file magic.0 magic.1 in
    let t1 = params_takes file magic.0 params.0 fits t0.within params.1 in
    let t2 = bytes_takes file 32 params.0.1 seed.0 seed.1 in
    let t3 = number_takes w32 (2 ^ 32) wide32 file seed.0.1 number.0 fits number.1 in
    let t4 = many_takes (item_at 1 p) item_bytes (ItemFits 1 p) (item_tells 1 p t1.accepted) number.0.0 [] file number.0.1 items.0 fits t3.0.within items.1 in
    let items-are : t4.more ≡ items.0.0 = sym t4.value in
    let size : length t4.more ≡ number.0.0 = t4.count-is in
    let e01 = Stands-then file 0 (codes "RXE2") magic.0 (params_bytes p) params.0.1 t0 t1.there in
    let e02 = Stands-then file 0 (codes "RXE2" ++ params_bytes p) params.0.1 s seed.0.1 e01 t2.0 in
    let e03 = Stands-then file 0 (codes "RXE2" ++ params_bytes p ++ s) seed.0.1 (to_le_bytes w32 number.0.0) number.0.1 e02 t3.0 in
    let e04 = Stands-then file 0 (codes "RXE2" ++ params_bytes p ++ s ++ to_le_bytes w32 number.0.0) number.0.1 (flat_map item_bytes t4.more) items.0.1 e03 t4.there in
    let bytes : IsBytes s = IsBytes-within file params.0.1 s seed.0.1 fits t2.0 in
    let whole : file ≡ bodies_bytes (bodies_of p s t4.more) =
    whole-Stands file _ items.0.1 e04 end.0
    ∙ ap (λ (n : ℕ). codes "RXE2" ++ params_bytes p ++ s ++ to_le_bytes w32 n ++ flat_map item_bytes t4.more) (sym size) in
    subst (BodiesFile file) (ap (bodies_of p s) items-are ∙ end.1) (record {
      accepted = t1.accepted;
      seed = record { size = t2.1; bytes = λ i lt. bytes i };
      count = omega (arith, size, leb-true _ _ test.0);
      items = each_of_turn (ItemFits 1 p) (IsSizedItem 1 p) (λ before i h. h.is) [] t4.more t4.fits;
      once = (items_once 1 p [] t4.more t4.fits).1;
      spelled = whole;
    })

pub bodies_again : (file : List ℕ) (b : Bodies) → BodiesFile file b → bodies_from file ≡ Ok b
unfolding bodies_from
bodies_again file b h =
    let magic = codes "RXE2" in
    let params = params_bytes b.params in
    let seed = b.mask_seed in
    let count = to_le_bytes w32 (length b.items) in
    let items = flat_map item_bytes b.items in
    let whole : Stands file 0 (magic ++ params ++ seed ++ count ++ items) (length file) = subst (λ (text : List ℕ). Stands file 0 text (length file)) h.spelled (Stands-whole file) in
    let p4 = Stands-first file 0 (magic ++ params ++ seed ++ count) items (length file) whole in
    let s4 = Stands-second file 0 (magic ++ params ++ seed ++ count) items (length file) whole in
    let p3 = Stands-first file 0 (magic ++ params ++ seed) count (0 + length (magic ++ params ++ seed ++ count)) p4 in
    let s3 = Stands-second file 0 (magic ++ params ++ seed) count (0 + length (magic ++ params ++ seed ++ count)) p4 in
    let p2 = Stands-first file 0 (magic ++ params) seed (0 + length (magic ++ params ++ seed)) p3 in
    let s2 = Stands-second file 0 (magic ++ params) seed (0 + length (magic ++ params ++ seed)) p3 in
    let p1 = Stands-first file 0 magic params (0 + length (magic ++ params)) p2 in
    let s1 = Stands-second file 0 magic params (0 + length (magic ++ params)) p2 in
    let few : leb (length b.items) 64 ≡ true = le-leb _ _ h.count in
    ap (λ (r : Result ℕ CodecFault). r >>= λ after. params_at file after >>= after_params file) (magic_again magic file _ refl p1)
    ∙ ap (λ (r : Result (Params × ℕ) CodecFault). r >>= after_params file) (params_again file _ b.params _ h.accepted s1)
    ∙ ap (λ (r : Result (List ℕ × ℕ) CodecFault). r >>= after_seed b.params file) (bytes_again file 32 _ seed _ s2 h.seed.size)
    ∙ ap (λ (r : Result (ℕ × ℕ) CodecFault). r >>= λ n. in_range (leb n.0 64) (0 + length (magic ++ params ++ seed)) n >>= after_count b.params seed file)
    (number_again w32 (2 ^ 32) wide32 file _ (length b.items) _ s3 (omega (arith, h.count)))
    ∙ ap (λ (t : Bool). in_range t (0 + length (magic ++ params ++ seed)) (length b.items, 0 + length (magic ++ params ++ seed ++ count)) >>= after_count b.params seed file) few
    ∙ ap (λ (r : Result (List Item × ℕ) CodecFault). r >>= λ is. ends_at file is.1 (bodies_of b.params seed is.0))
    (many_again (item_at 1 b.params) item_bytes (ItemFits 1 b.params) (item_tells 1 b.params h.accepted) b.items [] file _ (length file)
    (items_fit 1 b.params [] b.items h.items (none_before b.items) h.once) s4)
    ∙ ends_again file (length file) (bodies_of b.params seed b.items) refl
