-- The digits of the inputs of a circuit, place by place.
use Rattle.std.proofs.Common.{◌≡◌, ℕ, ◌+◌, ◌-◌, ◌*◌, ◌/◌, ◌%◌, ◌^◌, ◌<◌, ◌≤◌, ◌⊎◌, List, [], ◌∷◌, ◌++◌, length, get_or, map, replicate, refl, sym, ap, subst, ◌∙◌, arith, inl, inr, length-append}
use Rattle.std.specs.Prelude.{IsTrue, ◌==◌, ◌&&◌, nat_le}
use Rattle.std.proofs.lemmas.Bool.{cases_lt, and_parts, eqb-true}
use Rattle.std.proofs.lemmas.List.{get_or_append_left, get_or-append_right, get_or-replicate, length-replicate}
use Rattle.std.proofs.lemmas.List.FromFn.{length-map-range_with_len, get_or-map-range_with_len}
use Rattle.std.proofs.lemmas.Nat.{pow_pos, mod_below, div-add-mod'}
use Rattle.rx_params.specs.declared.kind.Kind.TheVariants.{Int as WholeNumber}
use Rattle.rx_params.specs.Kinds.{greatest, block_count, is_form, digit_at}
use Rattle.rx_net.specs.declared.net.NetInput.{NetInput}
use Rattle.rx_net.specs.Cells.{input_cells, given, Within}
use Rattle.rx_language.specs.declared.kind.NameKind.{NameKind}
use Rattle.rx_language.specs.declared.kind.NameKind.TheVariants.{Int, Sint, Bit}
use Rattle.rx_language.specs.Kinds.{bits_of}
use Rattle.rx_language.specs.Programs.{Port}
use Rattle.rx_meaning.specs.Kinds.{is_kind}
use Rattle.rx_meaning.specs.Values.{AreWithin}
use Rattle.rx_compile.specs.Compiled.{file_kind, net_input, port_digits, input_digits}

-- how many blocks a port has
abbrev pub blocks : ℕ → Port → ℕ
blocks space port = block_count (file_kind port.kind) space (bits_of port.kind)

abbrev pub nets : ℕ → List Port → List NetInput
nets space ports = map (net_input space) ports

pub digits_count : (space : ℕ) (port : Port) (x : ℕ) → length (port_digits space port x) ≡ blocks space port
digits_count space port x = length-map-range_with_len (digit_at space x) 0 (blocks space port)

pub digit_here : (space : ℕ) (port : Port) (x i : ℕ) → i < blocks space port → get_or (port_digits space port x) i 0 ≡ digit_at space x i
digit_here space port x i h = get_or-map-range_with_len (digit_at space x) 0 (blocks space port) i i 0 h (omega arith)

pub digits_many : (space : ℕ) (ports : List Port) (xs : List ℕ) → AreWithin ports xs → length (input_digits space ports xs) ≡ input_cells space (nets space ports)
unfolding input_digits input_cells
digits_many space [] [] w = refl
digits_many space [] (x ∷ xs) w = absurd w
digits_many space (port ∷ ports) [] w = absurd w
digits_many space (port ∷ ports) (x ∷ xs) w =
    omega (arith, length-append (port_digits space port x) (input_digits space ports xs), digits_count space port x, digits_many space ports xs w.1)

-- ---- digits are within the greatest of their kind

digit_whole : (space x i : ℕ) → digit_at space x i ≤ 2 ^ space - 1
digit_whole space x i = let b : x / 2 ^ (space * i) % 2 ^ space < 2 ^ space = mod_below (x / 2 ^ (space * i)) (2 ^ space) (pow_pos space) in omega arith

digit_one : (space x i : ℕ) → x < 2 ^ 1 → i < 1 → digit_at space x i ≤ 1
digit_one space x i h l =
    let d : x / 2 ^ (space * i) * 2 ^ (space * i) + x % 2 ^ (space * i) ≡ x = div-add-mod' x (2 ^ (space * i)) in
    let q : ℕ = x / 2 ^ (space * i) in
    let p : 0 < 2 ^ (space * i) = pow_pos (space * i) in
    let m : q / 2 ^ space * 2 ^ space + q % 2 ^ space ≡ q = div-add-mod' q (2 ^ space) in
    let z : i ≡ 0 = omega arith in
    let e : space * i ≡ 0 = ap (λ i. space * i) z ∙ (omega arith) in
    let one : 2 ^ (space * i) ≡ 1 = ap (λ k. 2 ^ k) e in
    let s : x / 2 ^ (space * i) ≡ x / 1 = ap (λ k. x / k) one in
    omega arith

digit_small : (space : ℕ) (kind : NameKind) (x i : ℕ) → x < 2 ^ bits_of kind → i < block_count (file_kind kind) space (bits_of kind) → digit_at space x i ≤ greatest (file_kind kind) space
digit_small space (Int width) x i h l = digit_whole space x i
digit_small space (Sint width) x i h l = digit_whole space x i
digit_small space Bit x i h l = digit_one space x i h l

abbrev degree_of : NetInput → ℕ
degree_of i = i.degree

-- each digit is within the degree of its cell
digits_small : (space : ℕ) (ports : List Port) (xs : List ℕ) → AreWithin ports xs → (c : ℕ) → c < length (input_digits space ports xs)
    → get_or (input_digits space ports xs) c 0 ≤ get_or (given space degree_of (nets space ports)) c 0
unfolding input_digits given
digits_small space [] [] w c h = absurd (omega arith)
digits_small space [] (x ∷ xs) w c h = absurd w
digits_small space (port ∷ ports) [] w c h = absurd w
digits_small space (port ∷ ports) (x ∷ xs) w c h =
    let n : ℕ = blocks space port in
    let ds : List ℕ = port_digits space port x in
    let gs : List ℕ = replicate n (greatest (file_kind port.kind) space) in
    let ds' : List ℕ = input_digits space ports xs in
    let gs' : List ℕ = given space degree_of (nets space ports) in
    let p : length ds ≡ n = digits_count space port x in
    let q : length gs ≡ n = length-replicate n (greatest (file_kind port.kind) space) in
    elim (cases_lt c n) [
      | inl l ↦
          let a : get_or (ds ++ ds') c 0 ≡ digit_at space x c = get_or_append_left ds ds' 0 c (omega arith) ∙ digit_here space port x c l in
          let b : get_or (gs ++ gs') c 0 ≡ greatest (file_kind port.kind) space = get_or_append_left gs gs' 0 c (omega arith) ∙ get_or-replicate n c (greatest (file_kind port.kind) space) 0 l in
          let s : digit_at space x c ≤ greatest (file_kind port.kind) space = digit_small space port.kind x c w.0 l in
          omega arith
      | inr l ↦
          let l' : n ≤ c = l in
          let a : get_or (ds ++ ds') c 0 ≡ get_or ds' (c - n) 0 = get_or-append_right ds ds' n c 0 p l' in
          let b : get_or (gs ++ gs') c 0 ≡ get_or gs' (c - n) 0 = get_or-append_right gs gs' n c 0 q l' in
          let r : get_or ds' (c - n) 0 ≤ get_or gs' (c - n) 0 = digits_small space ports xs w.1 (c - n) (omega (arith, length-append ds ds')) in
          omega arith
    ]

pub digits_within : (space : ℕ) (ports : List Port) (xs : List ℕ) → AreWithin ports xs → Within space (nets space ports) (input_digits space ports xs)
digits_within space ports xs w = record { count = digits_many space ports xs w; each = digits_small space ports xs w }

-- ---- the digits of one input

pub digits_at : (space : ℕ) (before : List Port) (port : Port) (after : List Port) (xs : List ℕ) (i : ℕ) → AreWithin (before ++ port ∷ after) xs → i < blocks space port
    → get_or (input_digits space (before ++ port ∷ after) xs) (input_cells space (nets space before) + i) 0 ≡ digit_at space (get_or xs (length before) 0) i
unfolding input_digits input_cells
digits_at space [] port after [] i w h = absurd w
digits_at space [] port after (x ∷ xs) i w h =
    let z : 0 + i ≡ i = omega arith in
    ap (λ k. get_or (port_digits space port x ++ input_digits space after xs) k 0) z
    ∙ get_or_append_left (port_digits space port x) (input_digits space after xs) 0 i (omega (arith, digits_count space port x))
    ∙ digit_here space port x i h
digits_at space (b ∷ before) port after [] i w h = absurd w
digits_at space (b ∷ before) port after (x ∷ xs) i w h =
    let n : ℕ = blocks space b in
    let rest : List ℕ = input_digits space (before ++ port ∷ after) xs in
    let c : ℕ = input_cells space (nets space before) in
    let l : n ≤ n + c + i = omega arith in
    let s : n + c + i - n ≡ c + i = omega arith in
    get_or-append_right (port_digits space b x) rest n (n + c + i) 0 (digits_count space b x) l
    ∙ ap (λ k. get_or rest k 0) s
    ∙ digits_at space before port after xs i w.1 h

pub input_within : (before : List Port) (port : Port) (after : List Port) (xs : List ℕ) → AreWithin (before ++ port ∷ after) xs → get_or xs (length before) 0 < 2 ^ bits_of port.kind
input_within [] port after [] w = absurd w
input_within [] port after (x ∷ xs) w = w.0
input_within (b ∷ before) port after [] w = absurd w
input_within (b ∷ before) port after (x ∷ xs) w = input_within before port after xs w.1

-- the cells of one input are among those of all
pub cells_among : (space : ℕ) (before : List Port) (port : Port) (after : List Port)
    → input_cells space (nets space before) + blocks space port ≤ input_cells space (nets space (before ++ port ∷ after))
unfolding input_cells
cells_among space [] port after = omega arith
cells_among space (b ∷ before) port after = let r = cells_among space before port after in omega (arith, r)

-- the tags of its cells
pub given_among : (space : ℕ) (number : NetInput → ℕ) (before : List Port) (port : Port) (after : List Port) (i : ℕ) → i < blocks space port
    → get_or (given space number (nets space (before ++ port ∷ after))) (input_cells space (nets space before) + i) 0 ≡ number (net_input space port)
unfolding given input_cells
given_among space number [] port after i h =
    let n : ℕ = blocks space port in
    let xs : List ℕ = replicate n (number (net_input space port)) in
    let z : 0 + i ≡ i = omega arith in
    ap (λ k. get_or (xs ++ given space number (nets space after)) k 0) z
    ∙ get_or_append_left xs (given space number (nets space after)) 0 i (omega (arith, length-replicate n (number (net_input space port))))
    ∙ get_or-replicate n i (number (net_input space port)) 0 h
given_among space number (b ∷ before) port after i h =
    let n : ℕ = blocks space b in
    let xs : List ℕ = replicate n (number (net_input space b)) in
    let rest : List ℕ = given space number (nets space (before ++ port ∷ after)) in
    let c : ℕ = input_cells space (nets space before) in
    let l : n ≤ n + c + i = omega arith in
    let s : n + c + i - n ≡ c + i = omega arith in
    get_or-append_right xs rest n (n + c + i) 0 (length-replicate n (number (net_input space b))) l
    ∙ ap (λ k. get_or rest k 0) s
    ∙ given_among space number before port after i h

-- ---- so many blocks hold the whole number

whole_blocks : (space width : ℕ) → IsTrue (is_form space WholeNumber width) → space * (width / space) ≡ width
whole_blocks space width h =
    let a = and_parts (nat_le space width) (nat_le width 64 && (width % space == 0)) h in
    let b = and_parts (nat_le width 64) (width % space == 0) a.1 in
    let z : width % space ≡ 0 = eqb-true (width % space) 0 b.1 in
    let d : width / space * space + width % space ≡ width = div-add-mod' width space in
    omega arith

wide : (space width x : ℕ) → IsTrue (is_form space WholeNumber width) → x < 2 ^ width → x < 2 ^ (space * (width / space))
wide space width x k h = subst (λ n. x < 2 ^ n) (sym (whole_blocks space width k)) h

pub blocks_hold : (space : ℕ) (kind : NameKind) (x : ℕ) → (space ≡ 2) ⊎ (space ≡ 3) → IsTrue (is_kind space kind) → x < 2 ^ bits_of kind
    → x < 2 ^ (space * block_count (file_kind kind) space (bits_of kind))
blocks_hold space (Int width) x s k h = wide space width x k h
blocks_hold space (Sint width) x s k h = wide space width x k h
blocks_hold space Bit x s k h = let e : space * 1 ≡ space = omega arith in subst (λ n. x < 2 ^ n) (sym e) (elim s [ inl e ↦ subst (λ n. x < 2 ^ n) (sym e) (omega arith) | inr e ↦ subst (λ n. x < 2 ^ n) (sym e) (omega arith) ])
