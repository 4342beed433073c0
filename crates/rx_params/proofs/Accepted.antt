-- The sets that have names are accepted, by computing.
use Rattle.std.proofs.Common.{refl, inl, inr, lit<, lit≤}
use Rattle.rx_params.specs.Derived.{key_words, rest_of, step_of, boot_of, base_of, switch_of, round_of, left_of}
use Rattle.rx_params.specs.Acceptance.{Accepts}
use Rattle.rx_params.specs.Sets.{rx_2_2, rx_test, rx_3_3, rx_k2}

pub accepts-rx_2_2 : Accepts rx_2_2
unfolding key_words rest_of step_of boot_of base_of switch_of round_of left_of
accepts-rx_2_2 = record {
  fields = record {
    message_bits = inl refl;
    glwe_dim = (lit≤ tt, lit≤ tt);
    poly_size = (9, (lit≤ tt, lit≤ tt), refl);
    lwe_dim = (lit≤ tt, lit≤ tt);
    pbs_base_log = (lit≤ tt, lit≤ tt);
    pbs_level = ((lit≤ tt, lit≤ tt), lit≤ tt);
    ks_base_log = (lit≤ tt, lit≤ tt);
    ks_level = ((lit≤ tt, lit≤ tt), lit≤ tt);
    glwe_bound = lit≤ tt;
    lwe_bound = lit≤ tt;
  };
  key = lit≤ tt;
  wide = lit≤ tt;
  below = lit< tt;
}

pub accepts-rx_test : Accepts rx_test
unfolding key_words rest_of step_of boot_of base_of switch_of round_of left_of
accepts-rx_test = record {
  fields = record {
    message_bits = inl refl;
    glwe_dim = (lit≤ tt, lit≤ tt);
    poly_size = (8, (lit≤ tt, lit≤ tt), refl);
    lwe_dim = (lit≤ tt, lit≤ tt);
    pbs_base_log = (lit≤ tt, lit≤ tt);
    pbs_level = ((lit≤ tt, lit≤ tt), lit≤ tt);
    ks_base_log = (lit≤ tt, lit≤ tt);
    ks_level = ((lit≤ tt, lit≤ tt), lit≤ tt);
    glwe_bound = lit≤ tt;
    lwe_bound = lit≤ tt;
  };
  key = lit≤ tt;
  wide = lit≤ tt;
  below = lit< tt;
}

pub accepts-rx_3_3 : Accepts rx_3_3
unfolding key_words rest_of step_of boot_of base_of switch_of round_of left_of
accepts-rx_3_3 = record {
  fields = record {
    message_bits = inr refl;
    glwe_dim = (lit≤ tt, lit≤ tt);
    poly_size = (11, (lit≤ tt, lit≤ tt), refl);
    lwe_dim = (lit≤ tt, lit≤ tt);
    pbs_base_log = (lit≤ tt, lit≤ tt);
    pbs_level = ((lit≤ tt, lit≤ tt), lit≤ tt);
    ks_base_log = (lit≤ tt, lit≤ tt);
    ks_level = ((lit≤ tt, lit≤ tt), lit≤ tt);
    glwe_bound = lit≤ tt;
    lwe_bound = lit≤ tt;
  };
  key = lit≤ tt;
  wide = lit≤ tt;
  below = lit< tt;
}

pub accepts-rx_k2 : Accepts rx_k2
unfolding key_words rest_of step_of boot_of base_of switch_of round_of left_of
accepts-rx_k2 = record {
  fields = record {
    message_bits = inl refl;
    glwe_dim = (lit≤ tt, lit≤ tt);
    poly_size = (8, (lit≤ tt, lit≤ tt), refl);
    lwe_dim = (lit≤ tt, lit≤ tt);
    pbs_base_log = (lit≤ tt, lit≤ tt);
    pbs_level = ((lit≤ tt, lit≤ tt), lit≤ tt);
    ks_base_log = (lit≤ tt, lit≤ tt);
    ks_level = ((lit≤ tt, lit≤ tt), lit≤ tt);
    glwe_bound = lit≤ tt;
    lwe_bound = lit≤ tt;
  };
  key = lit≤ tt;
  wide = lit≤ tt;
  below = lit< tt;
}
