use Rattle.std.proofs.Common.{refl}
use Rattle.rx_params.proofs.Refusals.{two_or_three-within, at_most-within}
use Rattle.rx_params.proofs.bounds.limited_fields.Goals as goal

pub returns : goal.returns
returns c =
    rw (c.is_within.ensures, c.is_within-2.ensures, c.is_poly_size.ensures, c.is_turn_dim.ensures, c.is_within-3.ensures, c.are_digits.ensures, c.is_within-4.ensures, c.are_digits-2.ensures, c.is_within-5.ensures, c.is_within-6.ensures, two_or_three-within c.args.p.now.message_bits, at_most-within 40 c.args.p.now.glwe_bound, at_most-within 40 c.args.p.now.lwe_bound) refl
