-- What a planner appended to nothing, as the cells of a line.
use Rattle.std.proofs.Common.{◌≡◌, ℕ, ◌+◌, ◌-◌, ◌*◌, ◌%◌, ◌^◌, ◌<◌, ◌≤◌, ℤ, true, List, [], ◌++◌, length, get_or, refl, sym, ◌∙◌, ap, subst, arith}
use Rattle.std.proofs.lemmas.Bool.{false≢true}
use Rattle.std.proofs.Math.Nat.{mod-eq_of_lt, pow-zero}
use Rattle.rx_params.specs.Kinds.{greatest, block_count, digit_at}
use Rattle.rx_residue.specs.Residues.{residue}
use Rattle.rx_costs.specs.declared.table.Cost.{Cost}
use Rattle.rx_net.specs.declared.net.Net.{Net}
use Rattle.rx_net.specs.Cells.{cell_count, value, depth}
use Rattle.rx_plan.specs.Values.{AreInputs, number, number_held}
use Rattle.rx_plan.specs.Planned.{IsCell, Planned}
use Rattle.rx_plan.specs.Results.{appended, GivesNumber, GivesBit}
use Rattle.rx_plan.proofs.Kept.{value_in, within_now}
use Rattle.rx_plan.proofs.Given.{planned_number}
use Rattle.rx_language.specs.declared.kind.NameKind.{NameKind}
use Rattle.rx_language.specs.declared.kind.NameKind.TheVariants.{Int, Sint, Bit}
use Rattle.rx_language.specs.Kinds.{bits_of, is_number}
use Rattle.rx_meaning.specs.Costs.{blocks_of}
use Rattle.rx_bits.specs.Bits.{GivesKind}
use Rattle.rx_compile.specs.Compiled.{file_kind}
use Rattle.rx_compile.specs.Realized.{Realizes}

pub form_count : (space : ℕ) (kind : NameKind) → blocks_of space kind ≡ block_count (file_kind kind) space (bits_of kind)
form_count space (Int width) = refl
form_count space (Sint width) = refl
form_count space Bit = refl

pub number_greatest : (space : ℕ) (kind : NameKind) → is_number kind ≡ true → greatest (file_kind kind) space ≡ 2 ^ space - 1
number_greatest space (Int width) e = refl
number_greatest space (Sint width) e = refl
number_greatest space Bit e = absurd (false≢true e)

-- what was appended to nothing is all that is there
pub all_new : (before after : List ℕ) → before ≡ [] → after ≡ before ++ appended before after → appended before after ≡ after
all_new before after e k = sym (k ∙ ap (λ b. b ++ appended before after) e)

realized : (old new : Net) (kind : NameKind) (cells : List ℕ) (n jobs levels : ℕ) (O : (ℕ → Type 0) → Type 0) (f : List ℕ → ℕ → ℕ) (z : List ℕ → ℤ) (cost : Cost)
    → n ≡ blocks_of old.space kind → jobs ≡ cost.jobs → levels ≡ cost.depth
    → ((xs : List ℕ) → AreInputs old xs → number_held new cells xs ≡ residue (bits_of kind) (z xs))
    → Planned old new cells (λ _. greatest (file_kind kind) old.space) n jobs levels O f
    → Realizes old new kind cells cost O z
realized old new kind cells n jobs levels O f z cost e j l v p = record {
  extends = p.extends;
  bounded = p.bounded;
  form = record {
    count = p.count_is ∙ e ∙ ap (λ s. blocks_of s kind) (sym p.extends.space) ∙ form_count new.space kind;
    cells_are = λ i q. subst (λ (s : ℕ). IsCell new (greatest (file_kind kind) s) (get_or cells i 0)) (sym p.extends.space) (p.cells_are i q);
  };
  jobs_in = subst (λ (k : ℕ). cell_count new ≤ cell_count old + k) j p.jobs_in;
  deep = λ d o c x y. subst (λ (k : ℕ). depth new c ≤ d + k) l (p.deep d o c x y);
  deep_cells = λ d o i q. subst (λ (k : ℕ). depth new (get_or cells i 0) ≤ d + k) l (p.deep_cells d o i q);
  value_is = v;
}

pub number_realizes : (old new : Net) (kind : NameKind) (before after : List ℕ) (n jobs levels : ℕ) (O : (ℕ → Type 0) → Type 0) (whole : List ℕ → ℕ) (z : List ℕ → ℤ) (cost : Cost)
    → is_number kind ≡ true → old.space * n ≡ bits_of kind → n ≡ blocks_of old.space kind → before ≡ [] → jobs ≡ cost.jobs → levels ≡ cost.depth
    → ((xs : List ℕ) → AreInputs old xs → whole xs % 2 ^ bits_of kind ≡ residue (bits_of kind) (z xs))
    → GivesNumber old new before after n jobs levels O whole
    → Realizes old new kind after cost O z
number_realizes old new kind before after n jobs levels O whole z cost is bits e b j l v g =
    let all : appended before after ≡ after = all_new before after b g.kept in
    let digits : List ℕ → ℕ → ℕ = λ xs i. digit_at old.space (whole xs) i in
    let p : Planned old new after (λ _. 2 ^ old.space - 1) n jobs levels O digits =
    subst (λ (cs : List ℕ). Planned old new cs (λ _. 2 ^ old.space - 1) n jobs levels O digits) all g.blocks
    in
    realized old new kind after n jobs levels O digits z cost e j l
    (λ xs w.
    ap (λ cs. number_held new cs xs) (sym all) ∙ g.number xs w ∙ ap (λ k. whole xs % 2 ^ k) bits ∙ v xs w)
    (subst (λ (k : ℕ). Planned old new after (λ _. k) n jobs levels O digits) (sym (number_greatest old.space kind is)) p)

pub one_number : (u : ℕ) (f : ℕ → ℕ) → number u 1 f ≡ f 0
unfolding number
one_number u f = let e : u ^ 0 * f 0 ≡ 1 * f 0 = ap (λ x. x * f 0) (pow-zero u) in omega arith

pub bit_realizes : (old new : Net) (before after : List ℕ) (jobs levels : ℕ) (O : (ℕ → Type 0) → Type 0) (bit : List ℕ → ℕ) (z : List ℕ → ℤ) (cost : Cost)
    → before ≡ [] → jobs ≡ cost.jobs → levels ≡ cost.depth
    → ((xs : List ℕ) → AreInputs old xs → bit xs % 2 ^ 1 ≡ residue 1 (z xs))
    → GivesBit old new before after jobs levels O bit
    → Realizes old new Bit after cost O z
bit_realizes old new before after jobs levels O bit z cost b j l v g =
    let all : appended before after ≡ after = all_new before after b g.kept in
    let p : Planned old new after (λ _. 1) 1 jobs levels O (λ xs _. bit xs) =
    subst (λ (cs : List ℕ). Planned old new cs (λ _. 1) 1 jobs levels O (λ xs _. bit xs)) all g.cell
    in
    realized old new Bit after 1 jobs levels O (λ xs _. bit xs) z cost refl j l
    (λ xs w.
    let here : 0 < length after = omega (arith, p.count_is) in
    let is : value new xs (get_or after 0 0) ≡ bit xs = p.values_are xs w 0 (omega arith) in
    let low : value new xs (get_or after 0 0) ≤ 1 = value_in new 1 (get_or after 0 0) p.bounded (p.cells_are 0 here) xs (within_now old new p.extends xs w) in
    let below : bit xs < 2 ^ 1 = omega arith in
    planned_number old new after (λ _. 1) 1 jobs levels O (λ xs _. bit xs) p xs w
    ∙ one_number (2 ^ old.space) (λ _. bit xs) ∙ sym (mod-eq_of_lt below) ∙ v xs w) p

pub kind_realizes : (old new : Net) (kind : NameKind) (before after : List ℕ) (n jobs levels : ℕ) (O : (ℕ → Type 0) → Type 0) (whole : List ℕ → ℕ) (z : List ℕ → ℤ) (cost : Cost)
    → (is_number kind ≡ true → old.space * n ≡ bits_of kind) → n ≡ blocks_of old.space kind → before ≡ [] → jobs ≡ cost.jobs → levels ≡ cost.depth
    → ((xs : List ℕ) → AreInputs old xs → whole xs % 2 ^ bits_of kind ≡ residue (bits_of kind) (z xs))
    → GivesKind (file_kind kind) old new before after n jobs levels O whole
    → Realizes old new kind after cost O z
kind_realizes old new (Int width) before after n jobs levels O whole z cost bits e b j l v g =
    number_realizes old new (Int width) before after n jobs levels O whole z cost refl (bits refl) e b j l v g
kind_realizes old new (Sint width) before after n jobs levels O whole z cost bits e b j l v g =
    number_realizes old new (Sint width) before after n jobs levels O whole z cost refl (bits refl) e b j l v g
kind_realizes old new Bit before after n jobs levels O whole z cost bits e b j l v g =
    bit_realizes old new before after jobs levels O whole z cost b j l v g
