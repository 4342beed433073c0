-- The parameter fields: what is read is spelled so, and what is spelled so is read.
use Rattle.std.proofs.Common.{◌≡◌, ℕ, zero, suc, ◌^◌, ◌<◌, ◌≤◌, List, [], ◌∷◌, ◌++◌, length, get_or, Result, Ok, Err, refl, sym, ap, subst, ◌∙◌, arith}
use Rattle.std.specs.List.{flat_map, AllByRecursion}
use Rattle.std.specs.Int.{w32, to_le_bytes}
use Rattle.rx_params.specs.declared.params.Params.{Params}
use Rattle.rx_params.specs.declared.bounds.Bounds.{Bounds}
use Rattle.rx_params.specs.declared.bounds.Refused.{Refused}
use Rattle.rx_params.specs.Acceptance.{Accepts, checked}
use Rattle.rx_params.specs.Sets.{set_of}
use Rattle.rx_params.specs.Text.{fields_of}
use Rattle.rx_params.proofs.Refusals.{checked-accepted, checked-accepts}
use Rattle.rx_net.specs.Legal.{InTurn}
use Rattle.rx_codec.specs.declared.fault.CodecFault.{CodecFault}
use Rattle.rx_codec.specs.Reading.{◌>>=◌, number_at, many_at}
use Rattle.rx_codec.specs.ParamsFields.{params_bytes, accepted_or, fields_at, params_at}
use Rattle.rx_codec.proofs.Accepted.{fields_below}
use Rattle.rx_codec.proofs.Fields.{IsBytes, Stands, bind_ok, ok_is}
use Rattle.rx_codec.proofs.Manys.{many_takes, many_again, turn_of_each, IsFourBytes, four_bytes_tells}

-- the set with these values
abbrev set_from : List ℕ → Params
set_from ns =
    set_of (get_or ns 0 0) (get_or ns 1 0) (get_or ns 2 0) (get_or ns 3 0) (get_or ns 4 0)
    (get_or ns 5 0) (get_or ns 6 0) (get_or ns 7 0) (get_or ns 8 0) (get_or ns 9 0)

-- so many more values, after those before
abbrev fields_from : ℕ → List ℕ → List ℕ → ℕ → Result (Params × ℕ) CodecFault
fields_from zero before file at = Ok (set_from before, at)
fields_from (suc count) before file at = number_at w32 file at >>= λ n. fields_from count (before ++ n.0 ∷ []) file n.1

fields_at-is : (file : List ℕ) (at : ℕ) → fields_at file at ≡ fields_from 10 [] file at
unfolding fields_at
fields_at-is file at = refl

abbrev made_from : List ℕ × ℕ → Result (Params × ℕ) CodecFault
made_from ns = Ok (set_from ns.0, ns.1)

bind_then : {A B C : Type 0} (r : Result A CodecFault) (f : A → Result B CodecFault) (g : B → Result C CodecFault) (h : A → Result C CodecFault) → ((x : A) → h x ≡ (f x >>= g)) → (r >>= h) ≡ (r >>= f >>= g)
bind_then (Ok x) f g h same = same x
bind_then (Err fault) f g h same = refl

-- they are read as any list is, and then made a set
fields_from-is : (count : ℕ) (before file : List ℕ) (at : ℕ) → fields_from count before file at ≡ (many_at (λ before. number_at w32) count before file at >>= made_from)
fields_from-is zero before file at = refl
fields_from-is (suc count) before file at =
    bind_then (number_at w32 file at) (λ n. many_at (λ before. number_at w32) count (before ++ n.0 ∷ []) file n.1) made_from (λ n. fields_from count (before ++ n.0 ∷ []) file n.1)
    (λ n. fields_from-is count (before ++ n.0 ∷ []) file n.1)

fields_are : (file : List ℕ) (at : ℕ) → fields_at file at ≡ (many_at (λ before. number_at w32) 10 [] file at >>= made_from)
fields_are file at = fields_at-is file at ∙ fields_from-is 10 [] file at

-- ten values are the fields of the set that they make
ten : (ns : List ℕ) → length ns ≡ 10 → fields_of (set_from ns) ≡ ns
ten [] len = absurd (omega (arith, len))
ten (a ∷ []) len = absurd (omega (arith, len))
ten (a ∷ b ∷ []) len = absurd (omega (arith, len))
ten (a ∷ b ∷ c ∷ []) len = absurd (omega (arith, len))
ten (a ∷ b ∷ c ∷ d ∷ []) len = absurd (omega (arith, len))
ten (a ∷ b ∷ c ∷ d ∷ e ∷ []) len = absurd (omega (arith, len))
ten (a ∷ b ∷ c ∷ d ∷ e ∷ f ∷ []) len = absurd (omega (arith, len))
ten (a ∷ b ∷ c ∷ d ∷ e ∷ f ∷ g ∷ []) len = absurd (omega (arith, len))
ten (a ∷ b ∷ c ∷ d ∷ e ∷ f ∷ g ∷ h ∷ []) len = absurd (omega (arith, len))
ten (a ∷ b ∷ c ∷ d ∷ e ∷ f ∷ g ∷ h ∷ i ∷ []) len = absurd (omega (arith, len))
ten (a ∷ b ∷ c ∷ d ∷ e ∷ f ∷ g ∷ h ∷ i ∷ j ∷ []) len = refl
ten (a ∷ b ∷ c ∷ d ∷ e ∷ f ∷ g ∷ h ∷ i ∷ j ∷ k ∷ ns) len = absurd (omega (arith, len))

pub fields_takes : (file : List ℕ) (at : ℕ) (x : Params × ℕ) → IsBytes file → at ≤ length file → fields_at file at ≡ Ok x → Stands file at (params_bytes x.0) x.1
fields_takes file at x fits le e =
    let a = bind_ok (many_at (λ before. number_at w32) 10 [] file at) made_from x (sym (fields_are file at) ∙ e) in
    let t = many_takes (λ before. number_at w32) (to_le_bytes w32) IsFourBytes four_bytes_tells 10 [] file at a.0 fits le a.1 in
    let values : fields_of (set_from a.0.0) ≡ t.more = ten a.0.0 (ap length t.value ∙ t.count-is) ∙ t.value in
    let made : Params × ℕ = (set_from a.0.0, a.0.1) in
    subst (λ (y : Params × ℕ). Stands file at (params_bytes y.0) y.1) (ok_is made x a.2)
    (subst (λ (ns : List ℕ). Stands file at (flat_map (to_le_bytes w32) ns) a.0.1) (sym values) t.there)

pub fields_again : (file : List ℕ) (at : ℕ) (p : Params) (after : ℕ) → AllByRecursion (λ n. n < 2 ^ 32) (fields_of p) → Stands file at (params_bytes p) after → fields_at file at ≡ Ok (p, after)
fields_again file at p after fits there =
    let four : InTurn IsFourBytes [] (fields_of p) = turn_of_each (λ (n : ℕ). n < 2 ^ 32) IsFourBytes (λ before n below. below) [] (fields_of p) fits in
    fields_are file at
    ∙ ap (λ (r : Result (List ℕ × ℕ) CodecFault). r >>= made_from)
    (many_again (λ before. number_at w32) (to_le_bytes w32) IsFourBytes four_bytes_tells (fields_of p) [] file at after four there)

pub record TakenParams (file : List ℕ) (at : ℕ) (x : Params × ℕ) : Type 0 where
  pub there : Stands file at (params_bytes x.0) x.1
  pub accepted : Accepts x.0

pub accepted_takes : (answer : Result Bounds Refused) (x y : Params × ℕ) → accepted_or answer x ≡ Ok y → (x ≡ y) × (bounds : Bounds) × (answer ≡ Ok bounds)
accepted_takes (Ok bounds) x y e = (ok_is x y e, bounds, refl)
accepted_takes (Err refused) x y e = absurd cc

pub params_takes : (file : List ℕ) (at : ℕ) (x : Params × ℕ) → IsBytes file → at ≤ length file → params_at file at ≡ Ok x → TakenParams file at x
unfolding params_at
params_takes file at x fits le e =
    let a = bind_ok (fields_at file at) (λ read. accepted_or (checked read.0) read) x e in
    let b = accepted_takes (checked a.0.0) a.0 x a.2 in
    subst (TakenParams file at) b.0 (record { there = fields_takes file at a.0 fits le a.1; accepted = checked-accepts a.0.0 b.1 b.2 })

pub params_again : (file : List ℕ) (at : ℕ) (p : Params) (after : ℕ) → Accepts p → Stands file at (params_bytes p) after → params_at file at ≡ Ok (p, after)
unfolding params_at
params_again file at p after fits there =
    ap (λ (r : Result (Params × ℕ) CodecFault). r >>= λ read. accepted_or (checked read.0) read) (fields_again file at p after (fields_below p fits.fields) there)
    ∙ ap (λ (answer : Result Bounds Refused). accepted_or answer (p, after)) (checked-accepted p fits)
