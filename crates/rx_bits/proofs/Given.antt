-- What is given, from cells that hold its digits.
use Rattle.std.proofs.Common.{◌≡◌, ◌^◌, ℕ, ◌*◌, ◌<◌, List, ◌++◌, sym, ◌∙◌, ap, arith, subst}
use Rattle.rx_params.specs.declared.kind.Kind.{Kind}
use Rattle.rx_params.specs.declared.kind.Kind.TheVariants.{Int, Bit}
use Rattle.rx_params.specs.Kinds.{greatest, digit_at}
use Rattle.rx_net.specs.declared.net.Net.{Net}
use Rattle.rx_plan.specs.Values.{AreInputs}
use Rattle.rx_plan.specs.Planned.{Planned}
use Rattle.rx_plan.proofs.Planned.{planned_same}
use Rattle.rx_plan.proofs.Given.{number_given, bit_given}
use Rattle.rx_plan.proofs.Held.{digit_alone}
use Rattle.rx_bits.specs.Bits.{IsCount, GivesKind}

pub gives_kind : (kind : Kind) (old new : Net) (before cells after : List ℕ) (count jobs levels : ℕ) (O : (ℕ → Type 0) → Type 0) (whole : List ℕ → ℕ)
    → IsCount kind count → after ≡ before ++ cells
    → ((xs : List ℕ) → AreInputs old xs → whole xs < 2 ^ (old.space * count))
    → Planned old new cells (λ _. greatest kind old.space) count jobs levels O (λ xs i. digit_at old.space (whole xs) i)
    → GivesKind kind old new before after count jobs levels O whole
gives_kind Int old new before cells after count jobs levels O whole n e b p = number_given old new before after cells count jobs levels O whole e p
gives_kind Bit old new before cells after count jobs levels O whole n e b p =
    let q : Planned old new cells (λ _. 1) 1 jobs levels O (λ xs i. digit_at old.space (whole xs) i) = subst (λ (k : ℕ). Planned old new cells (λ _. 1) k jobs levels O (λ xs i. digit_at old.space (whole xs) i)) n p in
    bit_given old new before after cells jobs levels O whole e
    (planned_same old new cells (λ _. 1) (λ _. 1) 1 jobs levels O (λ xs i. digit_at old.space (whole xs) i) (λ xs _. whole xs) (λ i r. omega arith)
    (λ xs w i r.
    let z : 0 ≡ i = omega arith in
    let l : whole xs < 2 ^ (old.space * 1) = subst (λ (k : ℕ). whole xs < 2 ^ (old.space * k)) n (b xs w) in
    ap (digit_at old.space (whole xs)) (sym z) ∙ digit_alone old.space (whole xs) l) q)
