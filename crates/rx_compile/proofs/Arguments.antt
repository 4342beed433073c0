-- Arguments of a kind, and what their cells are.
use Rattle.std.proofs.Common.{◌≡◌, ℕ, ◌-◌, ◌*◌, ◌/◌, ◌%◌, ◌^◌, ◌≤◌, ◌⊎◌, inl, inr, true, nat_le, ◌&&◌, List, length, refl, sym, ◌∙◌, ap, subst, arith}
use Rattle.std.specs.Prelude.{IsTrue, ◌==◌}
use Rattle.std.proofs.lemmas.Bool.{false≢true, and_parts, leb-true, eqb-true, cases_lt}
use Rattle.std.proofs.Math.Nat.{mod-eq-sub-mul-div, mul-div-le, pow-le-pow_right}
use Rattle.rx_params.specs.declared.kind.Kind.{Kind}
use Rattle.rx_params.specs.declared.kind.Kind.TheVariants.{Int as WholeNumber}
use Rattle.rx_params.specs.Kinds.{greatest, is_form}
use Rattle.rx_net.specs.declared.net.Net.{Net}
use Rattle.rx_plan.specs.Planned.{AreCells, AreBlocks}
use Rattle.rx_plan.proofs.PerBlock.{space_low}
use Rattle.rx_language.specs.declared.kind.NameKind.{NameKind}
use Rattle.rx_language.specs.declared.kind.NameKind.TheVariants.{Int, Sint, Bit}
use Rattle.rx_language.specs.Kinds.{bits_of, is_number}
use Rattle.rx_meaning.specs.Kinds.{is_kind}
use Rattle.rx_meaning.specs.Costs.{blocks_of}
use Rattle.rx_bits.specs.Bits.{IsCount}
use Rattle.rx_compile.specs.Compiled.{file_kind}
use Rattle.rx_compile.specs.Arms.{IsArgument, IsNumber}
use Rattle.rx_compile.proofs.Realizing.{form_count, number_greatest}

-- the space of a pen
pub two : (told space : ℕ) → (told ≡ 2) ⊎ (told ≡ 3) → told ≡ space → 2 ≤ space
two told space k e = let low : 2 ≤ told = space_low told k in omega arith

whole_blocks : (space width : ℕ) → 2 ≤ space → IsTrue (is_form space WholeNumber width) → (space * (width / space) ≡ width) × (1 ≤ width / space)
whole_blocks space width s h =
    let a = and_parts (nat_le space width) (nat_le width 64 && (width % space == 0)) h in
    let b = and_parts (nat_le width 64) (width % space == 0) a.1 in
    let low : space ≤ width = leb-true space width a.0 in
    let r : width % space ≡ 0 = eqb-true (width % space) 0 b.1 in
    let m : width % space ≡ width - space * (width / space) = mod-eq-sub-mul-div width space in
    let l : space * (width / space) ≤ width = mul-div-le width space in
    let e : space * (width / space) ≡ width = omega arith in (
      e,
      elim (cases_lt (width / space) 1) [
        | inl k ↦
            let z : width / space ≡ 0 = omega arith in
            let y : space * (width / space) ≡ space * 0 = ap (λ q. space * q) z in
            absurd (omega arith)
        | inr k ↦ k
      ],
    )

-- the blocks of a number of the space
pub number_blocks : (space : ℕ) (kind : NameKind) → 2 ≤ space → IsTrue (is_kind space kind) → is_number kind ≡ true → (space * blocks_of space kind ≡ bits_of kind) × (1 ≤ blocks_of space kind)
number_blocks space (Int width) s h e = whole_blocks space width s h
number_blocks space (Sint width) s h e = whole_blocks space width s h
number_blocks space Bit s h e = absurd (false≢true e)

pub argument_count : (net : Net) (kind : NameKind) (a : List ℕ) → IsArgument net kind a → length a ≡ blocks_of net.space kind
argument_count net kind a h = h.form.count ∙ sym (form_count net.space kind)

pub number_argument : (net : Net) (kind : NameKind) (a : List ℕ) → 2 ≤ net.space → is_number kind ≡ true → IsArgument net kind a → IsNumber net kind a
number_argument net kind a s e h =
    let n : length a ≡ blocks_of net.space kind = argument_count net kind a h in
    let b = number_blocks net.space kind s h.kind_is e in
    record {
      number = e;
      some = subst (λ (k : ℕ). 1 ≤ k) (sym n) b.1;
      count = n;
      bits = ap (λ k. net.space * k) n ∙ b.0;
      blocks = subst (λ (k : ℕ). AreCells net k a) (number_greatest net.space kind e) h.form.cells_are;
    }

kind_count : (space : ℕ) (kind : NameKind) → 2 ≤ space → IsTrue (is_kind space kind) → IsCount (file_kind kind) (blocks_of space kind)
kind_count space (Int width) s h = (whole_blocks space width s h).1
kind_count space (Sint width) s h = (whole_blocks space width s h).1
kind_count space Bit s h = refl

-- as many cells as a value of the kind has, where code tells the kind in files
pub is_count : (net : Net) (kind : NameKind) (a : List ℕ) (told : Kind) → told ≡ file_kind kind → 2 ≤ net.space → IsArgument net kind a → IsCount told (length a)
is_count net kind a told e s h =
    subst (λ (t : Kind). IsCount t (length a)) (sym e) (subst (IsCount (file_kind kind)) (sym (argument_count net kind a h)) (kind_count net.space kind s h.kind_is))

pub are_cells : (net : Net) (kind : NameKind) (a : List ℕ) (told : Kind) → told ≡ file_kind kind → IsArgument net kind a → AreCells net (greatest told net.space) a
are_cells net kind a told e h = subst (λ (t : Kind). AreCells net (greatest t net.space) a) (sym e) h.form.cells_are

pub argument_bits : (net : Net) (kind : NameKind) (a : List ℕ) → 2 ≤ net.space → IsArgument net kind a → is_number kind ≡ true → net.space * length a ≡ bits_of kind
argument_bits net kind a s h e = (number_argument net kind a s e h).bits

power_two : (space : ℕ) → 2 ≤ space → 2 ≤ 2 ^ space
power_two space h = let l : 1 ≤ space = omega arith in let p : 2 ^ 1 ≤ 2 ^ space = pow-le-pow_right {n = 2} (omega arith) l in omega arith

-- blocks that hold a value of the kind, also of one bit
pub are_blocks : (net : Net) (kind : NameKind) (a : List ℕ) → 2 ≤ net.space → IsArgument net kind a → AreBlocks net a
are_blocks net kind a s h = blocks_by kind h.form.cells_are
  where
    blocks_by : (kind : NameKind) → AreCells net (greatest (file_kind kind) net.space) a → AreCells net (2 ^ net.space - 1) a
    blocks_by (Int width) c = c
    blocks_by (Sint width) c = c
    blocks_by Bit c = λ i q. record { there = (c i q).there; degree_in = omega (arith, (c i q).degree_in, power_two net.space s); noise_is = (c i q).noise_is }
