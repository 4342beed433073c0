-- What is known of an accepted set: its fields fit four bytes, and the tags of its blocks one.
use Rattle.std.proofs.Common.{◌^◌, ◌<◌, ◌≤◌, arith, inl, inr, lit≤, lit<}
use Rattle.std.specs.List.{AllByRecursion}
use Rattle.std.proofs.Math.Nat.{pow-le-pow_right}
use Rattle.rx_params.specs.declared.params.Params.{Params}
use Rattle.rx_params.specs.declared.kind.Kind.{Kind}
use Rattle.rx_params.specs.declared.kind.Kind.TheVariants.{Int, Bit}
use Rattle.rx_params.specs.Derived.{noise_limit}
use Rattle.rx_params.specs.Kinds.{greatest}
use Rattle.rx_params.specs.Acceptance.{FieldsInRange, Accepts}
use Rattle.rx_params.specs.Text.{fields_of}
use Rattle.rx_params.proofs.Sizes.{poly_size-high}

few_bits : (p : Params) → FieldsInRange p → p.message_bits ≤ 3
few_bits p fields = elim fields.message_bits [ inl e ↦ omega (arith, e) | inr e ↦ omega (arith, e) ]

pub fields_below : (p : Params) → FieldsInRange p → AllByRecursion (λ n. n < 2 ^ 32) (fields_of p)
fields_below p fields = (
  omega (arith, few_bits p fields),
  (
    omega (arith, fields.glwe_dim.1),
    (
      omega (arith, poly_size-high p fields),
      (
        omega (arith, fields.lwe_dim.1),
        (
          omega (arith, fields.pbs_base_log.1),
          (
            omega (arith, fields.pbs_level.0.1),
            (
              omega (arith, fields.ks_base_log.1),
              (omega (arith, fields.ks_level.0.1), (omega (arith, fields.glwe_bound), (omega (arith, fields.lwe_bound), tt))),
            ),
          ),
        ),
      ),
    ),
  ),
)

power_below : (p : Params) → Accepts p → 2 ^ p.message_bits ≤ 8
power_below p h = pow-le-pow_right (lit≤ tt) (few_bits p h.fields)

pub degree_below : (p : Params) (kind : Kind) → Accepts p → greatest kind p.message_bits < 256
degree_below p Int h = omega (arith, power_below p h)
degree_below p Bit h = lit< tt

pub noise_below : (p : Params) → Accepts p → noise_limit p.message_bits < 256
noise_below p h = omega (arith, power_below p h)
