-- The cost table by words.
use Rattle.std.specs.Prelude.{ℕ, ◌/◌}
use Rattle.rx_costs.specs.declared.table.Cost.{Cost}
use Rattle.rx_costs.specs.Logs.{log_up}
use Rattle.rx_costs.specs.Table.{row, constant_jobs, constant_depth, add_jobs, add_depth, mul_jobs, mul_depth, div_jobs, div_depth, bitwise_jobs, bitwise_depth, shift_jobs, shift_depth, amount_shift_jobs, amount_shift_depth, signed_shift_jobs, signed_shift_depth, equal_jobs, equal_depth, compare_jobs, compare_depth, select_jobs, select_depth, extreme_jobs, extreme_depth, cast_jobs, cast_depth}
use Rattle.rx_language.specs.declared.word.Word.{Word}
use Rattle.rx_language.specs.declared.word.Word.TheVariants.{In, Inw, Ins, Inbit, Const, Constw, Add, Sub, Mul, Div, Rem, Neg, And, Or, Xor, Not, Shl, Shr, Shlv, Shrv, Eq, Ne, Lt, Le, Gt, Ge, Select, Min, Max, Cast, Casts, Out}
use Rattle.rx_language.specs.declared.kind.NameKind.{NameKind}
use Rattle.rx_language.specs.declared.kind.NameKind.TheVariants.{Int, Sint, Bit}
use Rattle.rx_language.specs.Kinds.{bits_of}

-- how many blocks of so many message bits a value of the kind has
abbrev pub blocks_of : ℕ → NameKind → ℕ
blocks_of space (Int width) = width / space
blocks_of space (Sint width) = width / space
blocks_of space Bit = 1

-- how many low bits of an amount to shift by are looked at one by one
abbrev pub amount_bits : NameKind → ℕ
amount_bits kind = log_up 2 (bits_of kind)

abbrev pub none : Cost
none = row 0 0

abbrev pub bitwise : ℕ → Cost
bitwise blocks = row (bitwise_jobs blocks) bitwise_depth

abbrev pub add : ℕ → Cost
add blocks = row (add_jobs blocks) (add_depth blocks)

abbrev pub shift : ℕ → Cost
shift blocks = row (shift_jobs blocks) shift_depth

abbrev pub amount_shift : ℕ → ℕ → Cost
amount_shift low_bits blocks = row (amount_shift_jobs low_bits blocks) (amount_shift_depth low_bits)

-- a signed number shifts in copies of its sign
abbrev pub amount_shift_right : ℕ → NameKind → Cost
amount_shift_right space (Sint width) =
    row (signed_shift_jobs (log_up 2 width) (width / space)) (signed_shift_depth (log_up 2 width))
amount_shift_right space kind = amount_shift (amount_bits kind) (blocks_of space kind)

abbrev pub equal : ℕ → ℕ → Cost
equal space blocks = row (equal_jobs blocks) (equal_depth space blocks)

abbrev pub compare : ℕ → Cost
compare blocks = row (compare_jobs blocks) (compare_depth blocks)

abbrev pub extreme : ℕ → Cost
extreme blocks = row (extreme_jobs blocks) (extreme_depth blocks)

abbrev pub cast : ℕ → ℕ → Cost
cast given wanted = row (cast_jobs given wanted) cast_depth

-- The cost of a line of this word, for the message bits, the kind that the line gives and the kind of its first argument.
unfoldable pub cost_by : Word → ℕ → NameKind → NameKind → Cost
cost_by In space kind first = none
cost_by Inw space kind first = none
cost_by Ins space kind first = none
cost_by Inbit space kind first = none
cost_by Const space kind first = row (constant_jobs (blocks_of space kind)) constant_depth
cost_by Constw space kind first = row (constant_jobs (blocks_of space kind)) constant_depth
cost_by Add space kind first = add (blocks_of space kind)
cost_by Sub space kind first = add (blocks_of space kind)
cost_by Mul space kind first = row (mul_jobs space (blocks_of space kind)) (mul_depth space (blocks_of space kind))
cost_by Div space kind first = row (div_jobs space (blocks_of space kind)) (div_depth space (blocks_of space kind))
cost_by Rem space kind first = row (div_jobs space (blocks_of space kind)) (div_depth space (blocks_of space kind))
cost_by Neg space kind first = add (blocks_of space kind)
cost_by And space kind first = bitwise (blocks_of space kind)
cost_by Or space kind first = bitwise (blocks_of space kind)
cost_by Xor space kind first = bitwise (blocks_of space kind)
cost_by Not space kind first = bitwise (blocks_of space kind)
cost_by Shl space kind first = shift (blocks_of space kind)
cost_by Shr space kind first = shift (blocks_of space kind)
cost_by Shlv space kind first = amount_shift (amount_bits kind) (blocks_of space kind)
cost_by Shrv space kind first = amount_shift_right space kind
cost_by Eq space kind first = equal space (blocks_of space first)
cost_by Ne space kind first = equal space (blocks_of space first)
cost_by Lt space kind first = compare (blocks_of space first)
cost_by Le space kind first = compare (blocks_of space first)
cost_by Gt space kind first = compare (blocks_of space first)
cost_by Ge space kind first = compare (blocks_of space first)
cost_by Select space kind first = row (select_jobs (blocks_of space kind)) select_depth
cost_by Min space kind first = extreme (blocks_of space kind)
cost_by Max space kind first = extreme (blocks_of space kind)
cost_by Cast space kind first = cast (blocks_of space first) (blocks_of space kind)
cost_by Casts space kind first = cast (blocks_of space first) (blocks_of space kind)
cost_by Out space kind first = none
