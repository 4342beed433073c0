-- The nets of the tests: one number of two bits, and a job over it.
use Rattle.std.proofs.Common.{◌≡◌, ◌<◌, ◌≤◌, ℕ, suc, zero, pos, negsuc, List, [], ◌∷◌, length, get_or, refl, sym, ◌∙◌, ap, subst, arith}
use Rattle.std.specs.Prelude.{nat_lt}
use Rattle.std.proofs.lemmas.Int.{ints}
use Rattle.rx_params.specs.declared.kind.Kind.TheVariants.{Int as Number}
use Rattle.rx_net.specs.declared.term.Term.{Term}
use Rattle.rx_net.specs.declared.net.NetInput.{NetInput}
use Rattle.rx_net.specs.declared.net.Net.{Net}
use Rattle.rx_net.specs.Cells.{Within, input_cells, cell_count, given, laid, degrees_after, noises_after, degree, noise}
use Rattle.rx_net.specs.Legal.{JobFits}
use Rattle.rx_net.specs.Pen.{empty_net, with_input}
use Rattle.rx_net.proofs.Faults.{all_from_test}
use Rattle.rx_net.proofs.Fits.{nat_lt_yes}

abbrev pub one_number : List ℕ → NetInput
one_number name = record { name = name; kind = Number; bits = 2; degree = 3; noise = 1 }

abbrev pub net_of_one : List ℕ → Net
net_of_one name = with_input (empty_net 2) (one_number name)

pub first_input : (pen new : Net) (i : NetInput) (name : List ℕ) → pen ≡ empty_net 2 → new ≡ with_input pen i → i ≡ one_number name → new ≡ net_of_one name
first_input pen new i name e f g = f ∙ ap (λ n. with_input n i) e ∙ ap (with_input (empty_net 2)) g

one_within : (name : List ℕ) (v : ℕ) → v ≤ 3 → Within 2 (one_number name ∷ []) (v ∷ [])
unfolding input_cells given
one_within name v small = record { count = refl; each = each }
  where
    each : (c : ℕ) → c < length (v ∷ []) → get_or (v ∷ []) c 0 ≤ get_or (given 2 (λ i. i.degree) (one_number name ∷ [])) c 0
    each zero p = small
    each (suc c) p = absurd (omega (arith, p))

pub number_within : (old new : Net) (name : List ℕ) (v : ℕ) → old ≡ net_of_one name → new.space ≡ old.space → new.inputs ≡ old.inputs → v ≤ 3 → Within new.space new.inputs (v ∷ [])
number_within old new name v e space inputs small =
    subst (λ (s : ℕ). Within s new.inputs (v ∷ [])) (sym (space ∙ ap (λ (n : Net). n.space) e))
    (subst (λ (is : List NetInput). Within 2 is (v ∷ [])) (sym (inputs ∙ ap (λ (n : Net). n.inputs) e)) (one_within name v small))

abbrev pub less_one : Term
less_one = record { cell = 0; weight = negsuc 0 }

abbrev pub sixteen : List ℕ
sixteen = 0 ∷ 1 ∷ 2 ∷ 3 ∷ 4 ∷ 5 ∷ 6 ∷ 7 ∷ 8 ∷ 9 ∷ 10 ∷ 11 ∷ 12 ∷ 13 ∷ 14 ∷ 15 ∷ []

-- 3 less the number is an index of the table
pub less_fits : (name : List ℕ) → JobFits 2 (cell_count (net_of_one name)) (degree (net_of_one name)) (noise (net_of_one name)) (less_one ∷ []) (pos 3) sixteen
unfolding degree noise cell_count degrees_after noises_after laid given input_cells
less_fits name =
    let count : cell_count (net_of_one name) ≡ 1 = refl in
    let d : degree (net_of_one name) 0 ≡ 3 = refl in
    let n : noise (net_of_one name) 0 ≡ 1 = refl in
    record {
      forward = (omega (arith, count), tt);
      low = omega (arith, ints, d);
      high = omega (arith, ints, d);
      noise_in = omega (arith, n);
      table_count = refl;
      table_entries = all_from_test (λ e. nat_lt e 16) (λ e. e < 16) (λ e h. nat_lt_yes e 16 h) sixteen refl;
    }
