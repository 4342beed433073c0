-- Server keys whose masks a seed draws: their sizes and bodies, and that each made key is one.
use Rattle.std.proofs.Common.{◌≡◌, ℕ, ◌+◌, ◌*◌, ◌/◌, ◌%◌, ◌<◌, ◌≤◌, ◌^◌, sym, ◌∙◌, ap, arith, List, ◌++◌, length, take, drop}
use Rattle.std.specs.List.{range_with_len, flat_map}
use Rattle.std.proofs.Math.Nat.{mul-le-mul_left}
use Rattle.std.proofs.lemmas.List.{length-append, length-take-le, length-drop, take-append-drop, take_at, drop_at}
use Rattle.rx_torus.specs.Streams.{stream_of}
use Rattle.rx_torus.specs.Kinds.{stream_number}
use Rattle.rx_torus.specs.declared.kind.StreamKind.TheVariants.{BootNoise}
use Rattle.rx_params.specs.declared.params.Params.{Params}
use Rattle.rx_params.specs.declared.rotation.Rotation.TheVariants.{Bits}
use Rattle.rx_params.specs.Acceptance.{FieldsInRange, Accepts}
use Rattle.rx_params.specs.Derived.{large_dim}
use Rattle.rx_lwe.specs.Secret.{small_key, large_key}
use Rattle.rx_lwe.specs.SwitchKeys.{SwitchRows, IsSized, switch_key, switch_size, switch_key_words}
use Rattle.rx_lwe.specs.Seeded.{drawn_words, row_bodies, seeded_switch, switch_bodies, switch_row_count}
use Rattle.rx_lwe.proofs.Keys.{small_key-length}
use Rattle.rx_lwe.proofs.SeededRows.{seeded_rows-length, row_bodies-length, seeded_rows-bodies, rows-bodies, rows-seeded}
use Rattle.rx_lwe.proofs.SeededSwitch.{seeded_switch-length, switch_bodies-length, seeded_switch-bodies, switch_key_words-bodies, switch_key_words-seeded}
use Rattle.rx_glwe.specs.Sizes.{glwe_size}
use Rattle.rx_glwe.proofs.DrawnMasks.{glwe_row-split, glwe_row-body}
use Rattle.rx_boot.specs.BootKeys.{boot_row_count, boot_size, row_hidden, key_row, numbered_row, key_rows, boot_key_words}
use Rattle.rx_boot.specs.ServerKeys.{ServerWords, server_key}
use Rattle.rx_boot.specs.Seeded.{boot_body_size, body_size, boot_masks, seeded_boot, boot_bodies, key_of_bodies, key_bodies, redrawn_key}
use Rattle.rx_boot.specs.FreshRows.{KeySeeds, fresh_boot_bodies, fresh_switch_bodies}
use Rattle.rx_boot.specs.SeededLaws.{SeededKeyLaws}
use Rattle.rx_boot.proofs.Sizes.{some_coefficients, row_number, row_number-of}
use Rattle.rx_boot.proofs.RowWords.{key_rows-length}
use Rattle.rx_boot.proofs.MadeKeys.{boot_size-few, all_words}

-- ---- counts

pub row_width : (p : Params) → large_dim p + p.poly_size ≡ glwe_size p
unfolding large_dim
row_width p = omega arith

pub boot_size-rows : (p : Params) → boot_row_count p * (large_dim p + p.poly_size) ≡ boot_size p
boot_size-rows p = ap (λ k. boot_row_count p * k) (row_width p) ∙ omega arith

pub boot_body_size-few : (p : Params) → Accepts p → boot_body_size p ≤ 2 ^ 24
boot_body_size-few p h =
    let room : boot_row_count p * p.poly_size ≤ boot_row_count p * (large_dim p + p.poly_size) =
    mul-le-mul_left (boot_row_count p) (omega arith) in
    omega (arith, room, boot_size-rows p, boot_size-few p h)

switch_row_count-few : (p : Params) → switch_row_count p ≤ switch_size p
switch_row_count-few p =
    let room : switch_row_count p * 1 ≤ switch_row_count p * (p.lwe_dim + 1) = mul-le-mul_left (switch_row_count p) (omega arith) in
    omega (arith, room)

pub body_size-few : (p : Params) → Accepts p → body_size p ≤ 2 ^ 24
body_size-few p h =
    let room : boot_row_count p * p.poly_size ≤ boot_row_count p * (large_dim p + p.poly_size) =
    mul-le-mul_left (boot_row_count p) (omega arith) in
    omega (arith, room, boot_size-rows p, switch_row_count-few p, all_words p, h.key)

-- ---- the bootstrapping rows

pub seeded_boot-length : (p : Params) (mask_seed bodies : List ℕ) → length bodies ≡ boot_body_size p →
    length (seeded_boot p mask_seed bodies) ≡ boot_size p
unfolding seeded_boot
seeded_boot-length p mask_seed bodies count =
    seeded_rows-length (boot_masks mask_seed) (large_dim p) p.poly_size (boot_row_count p) bodies count ∙ boot_size-rows p

pub boot_bodies-length : (p : Params) (words : List ℕ) → length words ≡ boot_size p → length (boot_bodies p words) ≡ boot_body_size p
unfolding boot_bodies
boot_bodies-length p words count =
    row_bodies-length (large_dim p) p.poly_size (boot_row_count p) words (count ∙ sym (boot_size-rows p))

seeded_boot-bodies : (p : Params) (mask_seed bodies : List ℕ) → length bodies ≡ boot_body_size p →
    boot_bodies p (seeded_boot p mask_seed bodies) ≡ bodies
unfolding seeded_boot boot_bodies
seeded_boot-bodies p mask_seed bodies count =
    seeded_rows-bodies (boot_masks mask_seed) (large_dim p) p.poly_size (boot_row_count p) bodies count

-- a row of a made key, after its masks
abbrev made_body : Params → List ℕ → List ℕ → List ℕ → List ℕ → ℕ → List ℕ
made_body p small large mask_seed noise_seed row = drop (large_dim p) (numbered_row Bits p small large mask_seed noise_seed row)

made_row : (p : Params) (small large mask_seed noise_seed : List ℕ) (row : ℕ) → 0 < p.poly_size →
    numbered_row Bits p small large mask_seed noise_seed row
    ≡ drawn_words (large_dim p) (boot_masks mask_seed row) ++ made_body p small large mask_seed noise_seed row
unfolding key_row
made_row p small large mask_seed noise_seed row some =
    let k : ℕ = p.glwe_dim + 1 in
    let l : ℕ = p.pbs_level in
    let number : ℕ = row_number k l (row / (k * l)) (row / l % k) (row % l) in
    let whole : row ≡ number = row_number-of k l row in
    glwe_row-split p large (boot_masks mask_seed number) (stream_of noise_seed (stream_number BootNoise number))
    (row_hidden p small large (row / (k * l)) (row / l % k) (row % l)) some
    ∙ ap (λ r. drawn_words (large_dim p) (boot_masks mask_seed r) ++ made_body p small large mask_seed noise_seed row) (sym whole)

made_body-length : (p : Params) (small large mask_seed noise_seed : List ℕ) (row : ℕ) → 0 < p.poly_size →
    length (made_body p small large mask_seed noise_seed row) ≡ p.poly_size
unfolding key_row
made_body-length p small large mask_seed noise_seed row some =
    let k : ℕ = p.glwe_dim + 1 in
    let l : ℕ = p.pbs_level in
    let number : ℕ = row_number k l (row / (k * l)) (row / l % k) (row % l) in
    glwe_row-body p large (boot_masks mask_seed number) (stream_of noise_seed (stream_number BootNoise number))
    (row_hidden p small large (row / (k * l)) (row / l % k) (row % l)) some

-- the bodies of a made key are those of its rows
boot_key_words-bodies : (p : Params) (small large mask_seed noise_seed : List ℕ) → 0 < p.poly_size →
    boot_bodies p (boot_key_words p small large mask_seed noise_seed)
    ≡ flat_map (made_body p small large mask_seed noise_seed) (range_with_len 0 (boot_row_count p))
unfolding boot_bodies key_rows
boot_key_words-bodies p small large mask_seed noise_seed some =
    rows-bodies (numbered_row Bits p small large mask_seed noise_seed) (boot_masks mask_seed)
    (made_body p small large mask_seed noise_seed) (large_dim p) p.poly_size (boot_row_count p)
    (λ r _. made_row p small large mask_seed noise_seed r some)
    (λ r _. made_body-length p small large mask_seed noise_seed r some)

-- the masks of a made key are those that its seed draws
boot_key_words-seeded : (p : Params) (small large mask_seed noise_seed : List ℕ) → 0 < p.poly_size →
    seeded_boot p mask_seed (boot_bodies p (boot_key_words p small large mask_seed noise_seed))
    ≡ boot_key_words p small large mask_seed noise_seed
unfolding seeded_boot boot_bodies key_rows
boot_key_words-seeded p small large mask_seed noise_seed some =
    rows-seeded (numbered_row Bits p small large mask_seed noise_seed) (boot_masks mask_seed)
    (made_body p small large mask_seed noise_seed) (large_dim p) p.poly_size (boot_row_count p)
    (λ r _. made_row p small large mask_seed noise_seed r some)
    (λ r _. made_body-length p small large mask_seed noise_seed r some)

-- ---- the whole key

front-length : (p : Params) (bodies : List ℕ) → length bodies ≡ body_size p → length (take (boot_body_size p) bodies) ≡ boot_body_size p
front-length p bodies count = length-take-le (boot_body_size p) bodies (omega (arith, count))

back-length : (p : Params) (bodies : List ℕ) → length bodies ≡ body_size p → length (drop (boot_body_size p) bodies) ≡ switch_row_count p
back-length p bodies count = length-drop (boot_body_size p) bodies ∙ omega (arith, count)

pub key_bodies-again : (p : Params) (mask_seed bodies : List ℕ) → length bodies ≡ body_size p →
    key_bodies (key_of_bodies p mask_seed bodies) ≡ bodies
key_bodies-again p mask_seed bodies count =
    let front : List ℕ = take (boot_body_size p) bodies in
    let back : List ℕ = drop (boot_body_size p) bodies in
    ap (λ xs. xs ++ switch_bodies p (seeded_switch p mask_seed back)) (seeded_boot-bodies p mask_seed front (front-length p bodies count))
    ∙ ap (λ ys. front ++ ys) (seeded_switch-bodies p mask_seed back (back-length p bodies count))
    ∙ take-append-drop (boot_body_size p) bodies

pub key_bodies-length : (key : ServerWords) → length key.boot ≡ boot_size key.params → length key.switch ≡ switch_size key.params →
    length (key_bodies key) ≡ body_size key.params
key_bodies-length key boot switch =
    length-append (boot_bodies key.params key.boot) (switch_bodies key.params key.switch)
    ∙ omega (arith, boot_bodies-length key.params key.boot boot, switch_bodies-length key.params key.switch switch)

-- a key of the bodies of two lists
pub two_parts : (p : Params) (mask_seed xs ys : List ℕ) → length xs ≡ boot_body_size p →
    key_of_bodies p mask_seed (xs ++ ys) ≡ record { params = p; boot = seeded_boot p mask_seed xs; switch = seeded_switch p mask_seed ys }
two_parts p mask_seed xs ys count =
    let key : List ℕ → List ℕ → ServerWords = λ b s. record { params = p; boot = seeded_boot p mask_seed b; switch = seeded_switch p mask_seed s } in
    ap (λ b. key b (drop (boot_body_size p) (xs ++ ys))) (take_at xs ys (boot_body_size p) count)
    ∙ ap (key xs) (drop_at xs ys (boot_body_size p) count)

made_redrawn : (p : Params) (client_seed mask_seed : List ℕ) → FieldsInRange p →
    redrawn_key mask_seed (server_key p client_seed mask_seed) ≡ server_key p client_seed mask_seed
unfolding server_key
made_redrawn p client_seed mask_seed fields =
    let small : List ℕ = small_key p client_seed in
    let large : List ℕ = large_key p client_seed in
    let some : 0 < p.poly_size = some_coefficients p fields in
    let boot : List ℕ = boot_key_words p small large mask_seed client_seed in
    let switch : List ℕ = switch_key_words p large small mask_seed client_seed in
    let key : List ℕ → List ℕ → ServerWords = λ b s. record { params = p; boot = b; switch = s } in
    two_parts p mask_seed (boot_bodies p boot) (switch_bodies p switch)
    (boot_bodies-length p boot (key_rows-length Bits p small large mask_seed client_seed some))
    ∙ ap (λ b. key b (seeded_switch p mask_seed (switch_bodies p switch))) (boot_key_words-seeded p small large mask_seed client_seed some)
    ∙ ap (key boot) (switch_key_words-seeded p large small mask_seed client_seed (small_key-length p client_seed))

-- the bodies of a made key are those of its rows, in order
made_bodies : (s : KeySeeds) → FieldsInRange s.params →
    key_bodies (server_key s.params s.client_seed s.mask_seed)
    ≡ fresh_boot_bodies s (boot_row_count s.params) ++ fresh_switch_bodies s (switch_row_count s.params)
unfolding server_key fresh_boot_bodies fresh_switch_bodies
made_bodies s fields =
    let p : Params = s.params in
    let small : List ℕ = small_key p s.client_seed in
    let large : List ℕ = large_key p s.client_seed in
    let switch : List ℕ = switch_key_words p large small s.mask_seed s.client_seed in
    let boot : List ℕ = flat_map (made_body p small large s.mask_seed s.client_seed) (range_with_len 0 (boot_row_count p)) in
    ap (λ xs. xs ++ switch_bodies p switch)
    (boot_key_words-bodies p small large s.mask_seed s.client_seed (some_coefficients p fields))
    ∙ ap (λ ys. boot ++ ys)
    (switch_key_words-bodies p large small s.mask_seed s.client_seed (small_key-length p s.client_seed))

-- the bodies that a code takes out of the two lists of a key
pub bodies_are : (p : Params) (boot switch xs ys out : List ℕ) (rows switch_rows : ℕ) →
    xs ≡ boot → ys ≡ switch → rows ≡ boot_row_count p → switch_rows ≡ switch_row_count p →
    out ≡ row_bodies (p.glwe_dim * p.poly_size) p.poly_size rows xs ++ row_bodies p.lwe_dim 1 switch_rows ys →
    out ≡ key_bodies (record { params = p; boot = boot; switch = switch })
unfolding large_dim boot_bodies switch_bodies
bodies_are p boot switch xs ys out rows switch_rows is_boot is_switch is_rows is_switch_rows made =
    let first : ℕ → List ℕ → List ℕ = λ r zs. row_bodies (p.glwe_dim * p.poly_size) p.poly_size r zs in
    let second : ℕ → List ℕ → List ℕ = λ r zs. row_bodies p.lwe_dim 1 r zs in
    made
    ∙ ap (λ r. first r xs ++ second switch_rows ys) is_rows
    ∙ ap (λ r. first (boot_row_count p) xs ++ second r ys) is_switch_rows
    ∙ ap (λ zs. first (boot_row_count p) zs ++ second (switch_row_count p) ys) is_boot
    ∙ ap (λ zs. first (boot_row_count p) boot ++ second (switch_row_count p) zs) is_switch

-- the words of a switch key of a set are as many as the set says
pub switch_words_are : (p : Params) (s : SwitchRows) (words : List ℕ) → words ≡ s.words → IsSized s → s ≡ switch_key p s.words →
    length s.words ≡ switch_size p
switch_words_are p s words _ sized is =
    sized.count ∙ ap (λ (r : SwitchRows). r.big * r.levels * (r.small + 1)) is

pub seeded_key_laws : SeededKeyLaws
seeded_key_laws = record {
  bodies = key_bodies-again;
  boot_words = λ p mask_seed bodies count.
      seeded_boot-length p mask_seed (take (boot_body_size p) bodies) (front-length p bodies count);
  switch_words = λ p mask_seed bodies count.
      seeded_switch-length p mask_seed (drop (boot_body_size p) bodies) (back-length p bodies count);
  body_words = key_bodies-length;
  made = made_redrawn;
  made_bodies = made_bodies;
}
