-- The words of a part of some bytes, row by row; and the key whose rows these are.
use Rattle.std.proofs.Common.{◌≡◌, ℕ, ◌+◌, ◌-◌, ◌*◌, ◌<◌, List, ◌++◌, take, drop, append_assoc, ap, sym, ◌∙◌, arith}
use Rattle.std.specs.List.{range_with_len, flat_map}
use Rattle.rx_torus.specs.Streams.{Draws}
use Rattle.rx_torus.specs.declared.kind.StreamKind.TheVariants.{BootMask, SwitchMask}
use Rattle.rx_params.specs.declared.params.Params.{Params}
use Rattle.rx_params.specs.Derived.{large_dim}
use Rattle.rx_lwe.specs.Seeded.{drawn_words, seeded_row, seeded_rows, seeded_switch, switch_row_count}
use Rattle.rx_lwe.proofs.Rows.{rows-more}
use Rattle.rx_lwe.proofs.SeededRows.{row_ends}
use Rattle.rx_boot.specs.BootKeys.{boot_row_count}
use Rattle.rx_boot.specs.Seeded.{boot_body_size, body_size, seeded_boot, key_of_bodies}
use Rattle.rx_boot.specs.ServerKeys.{ServerWords}
use Rattle.rx_codec.specs.WordFields.{words_in}
use Rattle.rx_codec.proofs.Servers.{words_in-take, words_in-drop}
use Rattle.rx_seeded.specs.Masks.{row_masks}
use Rattle.rx_seeded.specs.declared.seeded_rows.Rows.{Rows}

-- the words of one part of several of one width
part_in : (count wide row : ℕ) (bytes : List ℕ) → row < count →
    words_in wide (take (8 * wide) (drop (8 * (row * wide)) bytes)) ≡ take wide (drop (row * wide) (words_in (count * wide) bytes))
part_in count wide row bytes below =
    let before : ℕ = row * wide in
    let rest : ℕ = count * wide - (before + wide) in
    let whole : before + (wide + rest) ≡ count * wide = omega (arith, row_ends row count wide below) in
    sym (words_in-take wide rest (drop (8 * before) bytes))
    ∙ ap (take wide) (sym (words_in-drop before (wide + rest) bytes))
    ∙ ap (λ n. take wide (drop before (words_in n bytes))) whole

-- one more row behind those that stand
pub row_added : (mask : ℕ → Draws) (masks wide count row start size : ℕ) (stream : Draws) (bytes before out new line : List ℕ) →
    row < count → start ≡ row * (8 * wide) → size ≡ 8 * wide → stream ≡ mask row →
    line ≡ drawn_words masks stream ++ words_in wide (take (start + size - start) (drop start bytes)) →
    out ≡ before ++ seeded_rows mask masks wide row (words_in (count * wide) bytes) → new ≡ out ++ line →
    new ≡ before ++ seeded_rows mask masks wide (row + 1) (words_in (count * wide) bytes)
row_added mask masks wide count row start size stream bytes before out new line below is_start is_size is_stream is_line so_far added =
    let bodies : List ℕ = words_in (count * wide) bytes in
    let place : start ≡ 8 * (row * wide) = omega (arith, is_start) in
    let part : start + size - start ≡ 8 * wide = omega (arith, is_size) in
    let rows : List ℕ = seeded_rows mask masks wide row bodies in
    let made : line ≡ seeded_row mask masks wide bodies row =
    is_line
    ∙ ap (λ s. drawn_words masks s ++ words_in wide (take (start + size - start) (drop start bytes))) is_stream
    ∙ ap (λ k. drawn_words masks (mask row) ++ words_in wide (take k (drop start bytes))) part
    ∙ ap (λ k. drawn_words masks (mask row) ++ words_in wide (take (8 * wide) (drop k bytes))) place
    ∙ ap (λ xs. drawn_words masks (mask row) ++ xs) (part_in count wide row bytes below) in
    added
    ∙ ap (λ xs. xs ++ line) so_far
    ∙ append_assoc before rows line
    ∙ ap (λ xs. before ++ (rows ++ xs)) made
    ∙ ap (λ xs. before ++ xs) (rows-more (seeded_row mask masks wide bodies) row)

-- ---- the rows of a set

-- the words of rows whose bodies these bytes are
abbrev pub words_of_rows : List ℕ → List ℕ → Rows → List ℕ
words_of_rows mask_seed bytes r =
    seeded_rows (row_masks r.kind mask_seed) r.masks r.wide r.count (words_in (r.count * r.wide) bytes)

pub boot_words_are : (p : Params) (mask_seed bytes words : List ℕ) (r : Rows) →
    r ≡ record { kind = BootMask; masks = large_dim p; wide = p.poly_size; count = boot_row_count p } →
    words ≡ words_of_rows mask_seed bytes r → words ≡ seeded_boot p mask_seed (words_in (boot_body_size p) bytes)
unfolding seeded_boot
boot_words_are p mask_seed bytes words r rows e = e ∙ ap (words_of_rows mask_seed bytes) rows

pub switch_words_are : (p : Params) (mask_seed bytes words : List ℕ) (r : Rows) →
    r ≡ record { kind = SwitchMask; masks = p.lwe_dim; wide = 1; count = switch_row_count p } →
    words ≡ words_of_rows mask_seed bytes r → words ≡ seeded_switch p mask_seed (words_in (switch_row_count p) bytes)
unfolding seeded_switch
switch_words_are p mask_seed bytes words r rows e =
    let single : switch_row_count p * 1 ≡ switch_row_count p = omega arith in
    e ∙ ap (words_of_rows mask_seed bytes) rows ∙ ap (λ n. seeded_switch p mask_seed (words_in n bytes)) single

-- the key of the bodies that the two parts of the bytes are
pub key_of_parts : (p : Params) (mask_seed bytes front back boot switch : List ℕ) (k : ServerWords) →
    front ≡ take (8 * boot_body_size p) bytes → back ≡ drop (8 * boot_body_size p) bytes →
    boot ≡ seeded_boot p mask_seed (words_in (boot_body_size p) front) →
    switch ≡ seeded_switch p mask_seed (words_in (switch_row_count p) back) →
    k ≡ record { params = p; boot = boot; switch = switch } →
    k ≡ key_of_bodies p mask_seed (words_in (body_size p) bytes)
key_of_parts p mask_seed bytes front back boot switch k is_front is_back is_boot is_switch is_key =
    let m : ℕ = boot_body_size p in
    let n : ℕ = switch_row_count p in
    let all : List ℕ = words_in (m + n) bytes in
    let key : List ℕ → List ℕ → ServerWords = λ b s. record { params = p; boot = b; switch = s } in
    let first : boot ≡ seeded_boot p mask_seed (take m all) =
    is_boot ∙ ap (λ xs. seeded_boot p mask_seed (words_in m xs)) is_front
    ∙ ap (seeded_boot p mask_seed) (sym (words_in-take m n bytes)) in
    let second : switch ≡ seeded_switch p mask_seed (drop m all) =
    is_switch ∙ ap (λ xs. seeded_switch p mask_seed (words_in n xs)) is_back
    ∙ ap (seeded_switch p mask_seed) (sym (words_in-drop m n bytes)) in
    is_key ∙ ap (λ b. key b switch) first ∙ ap (key (seeded_boot p mask_seed (take m all))) second
