-- Worked parameter texts, computed by the definitions.
use Rattle.std.proofs.Common.{◌≡◌, [], ◌∷◌, ◌++◌, take, Ok, Err, refl}
use Rattle.std.specs.Fmt.{digits}
use Rattle.std.specs.Prelude.{codes}
use Rattle.rx_text.specs.declared.fault.LineCause.TheVariants.{Form, Number}
use Rattle.rx_text.specs.Faults.{fault_at}
use Rattle.rx_params.specs.Sets.{rx_test}
use Rattle.rx_params.specs.Text.{params_text, params_from}

first_line : take 15 (params_text rx_test) ≡ codes "message_bits 2" ++ 10 ∷ []
unfolding digits
first_line = refl

read_again : params_from (params_text rx_test) ≡ Ok rx_test
unfolding digits params_from
read_again = refl

eleventh_line : params_from (params_text rx_test ++ 10 ∷ []) ≡ Err (fault_at 11 Form)
unfolding digits params_from
eleventh_line = refl

too_large : params_from (codes "message_bits 4294967296" ++ 10 ∷ []) ≡ Err (fault_at 1 Number)
unfolding params_from
too_large = refl

missing_line : params_from (codes "message_bits 2" ++ 10 ∷ []) ≡ Err (fault_at 2 Form)
unfolding params_from
missing_line = refl

without_line_feed : params_from (codes "message_bits 2") ≡ Err (fault_at 1 Form)
unfolding params_from
without_line_feed = refl
