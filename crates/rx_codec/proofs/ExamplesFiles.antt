-- Worked fields, ciphertext files and net files, and their readings, by computing.
use Rattle.std.proofs.Common.{◌≡◌, ◌-◌, ◌^◌, ℕ, negsuc, List, [], ◌∷◌, ◌++◌, Ok, Err, refl, replicate, take, length}
use Rattle.std.specs.Prelude.{codes, true, false}
use Rattle.std.specs.Int.{w8, w16}
use Rattle.std.specs.List.{range_with_len}
use Rattle.rx_params.specs.declared.kind.Kind.TheVariants.{Int, Bit}
use Rattle.rx_params.specs.Derived.{key_words, rest_of, step_of, boot_of, base_of, switch_of, round_of, left_of}
use Rattle.rx_params.specs.Acceptance.{refusal_of}
use Rattle.rx_params.specs.Sets.{set_of, rx_test}
use Rattle.rx_net.specs.declared.net.Job.{Job}
use Rattle.rx_net.specs.declared.net.Net.{Net}
use Rattle.rx_net.specs.declared.fault.NetFault.TheVariants.{Range, Output}
use Rattle.rx_net.specs.Tags.{greatest_of, greatest_between}
use Rattle.rx_net.specs.Cells.{input_cells, cell_count, given, laid, degrees_after, noises_after, degree}
use Rattle.rx_net.specs.Faults.{limit_fault, new_fault, job_fault, fault_of}
use Rattle.rx_block.specs.declared.block.Block.{Block}
use Rattle.rx_boot.specs.ServerKeys.{ServerWords}
use Rattle.rx_codec.specs.declared.fault.CodecFault.TheVariants.{Magic, Short, Long, Field, Params as NotAccepted, Net as NotLegal}
use Rattle.rx_params.specs.declared.bounds.Refused.TheVariants.{Limit}
use Rattle.rx_codec.specs.declared.cipher.Cipher.{Cipher}
use Rattle.rx_codec.specs.Reading.{number_at, signed_at, signed_bytes, count_at, list_at, magic_at, ends_at}
use Rattle.rx_codec.specs.ParamsFields.{fields_at, params_at}
use Rattle.rx_codec.specs.WordFields.{word_bytes, words_in, words_at}
use Rattle.rx_codec.specs.NamedFields.{name_size_at, name_at, form_at}
use Rattle.rx_codec.specs.Kept.{AreItemsKept}
use Rattle.rx_codec.specs.CipherFile.{item_bytes, cipher_bytes, block_at, item_at, cipher_from}
use Rattle.rx_codec.specs.ServerFile.{server_bytes, key_of}
use Rattle.rx_codec.specs.NetFile.{net_bytes, input_at, term_at, job_at, output_at, space_at, lists_at, spelled_from, net_from}

-- ---- fields
fields : (number_at w16 (1 ∷ 2 ∷ 3 ∷ []) 1 ≡ Ok (770, 3)) × (signed_at w8 (255 ∷ []) 0 ≡ Ok (negsuc 0, 1)) × (signed_bytes w16 (negsuc 1) ≡ 254 ∷ 255 ∷ [])
fields = (refl, refl, refl)

-- what is wanted is told by the place of the field and its length
too_short : (number_at w16 (1 ∷ 2 ∷ 3 ∷ []) 2 ≡ Err (Short 4 3)) × (magic_at (codes "RXE1") (codes "RXE") ≡ Err (Short 4 3)) × (magic_at (codes "RXE1") (codes "RXC1") ≡ Err Magic)
too_short = (refl, refl, refl)

ends : (ends_at {A = ℕ} (1 ∷ 2 ∷ []) 2 7 ≡ Ok 7) × (ends_at {A = ℕ} (1 ∷ 2 ∷ []) 1 7 ≡ Err (Long 1))
ends = (refl, refl)

words : (word_bytes (1 ∷ (2 ^ 64 - 1) ∷ []) ≡ 1 ∷ replicate 7 0 ++ replicate 8 255) × (words_in 2 (1 ∷ replicate 7 0 ++ replicate 8 255) ≡ 1 ∷ (2 ^ 64 - 1) ∷ [])
words = (refl, refl)

-- a name of 32 bytes is the longest; a name that is taken is out of range at its bytes, a length at its own place
abbrev longest : List ℕ
longest = 32 ∷ replicate 32 97

name_long : name_at (λ name. false) longest 0 ≡ Ok (replicate 32 97, 33)
unfolding name_size_at name_at
name_long = refl

names : (name_at (λ name. true) (1 ∷ 97 ∷ []) 0 ≡ Err (Field 1)) × (name_at (λ name. false) (33 ∷ 97 ∷ []) 0 ≡ Err (Field 0)) × (name_at (λ name. false) (1 ∷ 65 ∷ []) 0 ≡ Err (Field 1))
unfolding name_size_at name_at
names = (refl, refl, refl)

-- an int of 63 bits has blocks of three bits, one of 64 bits has none
forms : (form_at 3 (0 ∷ 63 ∷ []) 0 ≡ Ok ((Int, 63), 2)) × (form_at 3 (0 ∷ 64 ∷ []) 0 ≡ Err (Field 1)) × (form_at 2 (0 ∷ 64 ∷ []) 0 ≡ Ok ((Int, 64), 2)) × (form_at 2 (1 ∷ 1 ∷ []) 0 ≡ Ok ((Bit, 1), 2)) × (form_at 2 (1 ∷ 2 ∷ []) 0 ≡ Err (Field 1)) × (form_at 2 (2 ∷ 1 ∷ []) 0 ≡ Err (Field 0))
unfolding form_at
forms = (refl, refl, refl, refl, refl, refl)

-- ---- blocks and items of two words
abbrev block : Block
block = record { words = 5 ∷ 6 ∷ []; degree = 3; noise = 1 }

item_spelled : item_bytes (record { name = codes "a"; kind = Int; bits = 2; blocks = block ∷ [] }) ≡ 1 ∷ 97 ∷ 0 ∷ 2 ∷ 3 ∷ 1 ∷ 5 ∷ replicate 7 0 ++ 6 ∷ replicate 7 0
item_spelled = refl

item_read : item_at 2 (set_of 2 1 1 1 1 1 1 1 0 0) [] (1 ∷ 97 ∷ 0 ∷ 2 ∷ 3 ∷ 1 ∷ 5 ∷ replicate 7 0 ++ 6 ∷ replicate 7 0) 0 ≡ Ok (record { name = codes "a"; kind = Int; bits = 2; blocks = block ∷ [] }, 22)
unfolding name_size_at name_at form_at words_at block_at item_at
item_read = refl

-- a degree, and then a noise tag, out of its range
block_faults : (block_at 2 (set_of 2 1 1 1 1 1 1 1 0 0) Bit (2 ∷ 0 ∷ []) 0 ≡ Err (Field 0)) × (block_at 2 (set_of 2 1 1 1 1 1 1 1 0 0) Int (3 ∷ 6 ∷ []) 0 ≡ Err (Field 1)) × (block_at 2 (set_of 2 1 1 1 1 1 1 1 0 0) Int (3 ∷ 5 ∷ []) 0 ≡ Err (Short 18 2))
unfolding words_at block_at
block_faults = (refl, refl, refl)

-- ---- the file of no items
abbrev no_items : Cipher
no_items = record { params = rx_test; items = [] }

no_items_size : length (cipher_bytes no_items) ≡ 48
no_items_size = refl

no_items_read : cipher_from (cipher_bytes no_items) ≡ Ok no_items
unfolding cipher_from params_at fields_at refusal_of key_words rest_of step_of boot_of base_of switch_of round_of left_of
no_items_read = refl

too_many_items : cipher_from (take 44 (cipher_bytes no_items) ++ 65 ∷ 0 ∷ 0 ∷ 0 ∷ []) ≡ Err (Field 44)
unfolding cipher_from params_at fields_at refusal_of key_words rest_of step_of boot_of base_of switch_of round_of left_of
too_many_items = refl

not_accepted : cipher_from (codes "RXE1" ++ 4 ∷ replicate 39 0) ≡ Err (NotAccepted (Limit 1 4))
unfolding cipher_from params_at fields_at refusal_of
not_accepted = refl

-- ---- server files: the words of the bootstrapping rows stand first
abbrev few_words : ServerWords
few_words = record { params = set_of 2 1 1 1 1 1 1 1 0 0; boot = 1 ∷ 2 ∷ 3 ∷ 4 ∷ []; switch = 5 ∷ 6 ∷ [] }

words_shared : key_of (set_of 2 1 1 1 1 1 1 1 0 0) (1 ∷ 2 ∷ 3 ∷ 4 ∷ 5 ∷ 6 ∷ []) ≡ few_words
words_shared = refl

server_size : length (server_bytes few_words) ≡ 92
server_size = refl

-- ---- the net that gives its one number back, of 27 bytes
abbrev back : Net
back = record {
  space = 2;
  inputs = record { name = codes "a"; kind = Int; bits = 2; degree = 3; noise = 1 } ∷ [];
  jobs = [];
  outputs = record { name = codes "a"; kind = Int; bits = 2; cells = 0 ∷ [] } ∷ [];
}

abbrev back_file : List ℕ
back_file =
    0x52 ∷ 0x58 ∷ 0x4e ∷ 0x31 ∷ 2 ∷ 1 ∷ 0 ∷ 1 ∷ 0x61 ∷ 0 ∷ 2 ∷ 3 ∷ 1 ∷ 0 ∷ 0 ∷ 0 ∷ 0 ∷ 1 ∷ 0 ∷ 1 ∷ 0x61 ∷ 0 ∷ 2 ∷ 0 ∷ 0 ∷ 0 ∷ 0 ∷ []

back_spelled : net_bytes back ≡ back_file
back_spelled = refl

back_read : net_from back_file ≡ Ok back
unfolding net_from spelled_from space_at lists_at list_at count_at input_at term_at job_at output_at name_size_at name_at form_at fault_of limit_fault job_fault new_fault cell_count input_cells given laid degrees_after noises_after degree greatest_between greatest_of
back_read = refl

-- a cell that is none is a fault of the net, after bytes that are too many
no_cell : net_from (take 23 back_file ++ 1 ∷ 0 ∷ 0 ∷ 0 ∷ []) ≡ Err (NotLegal (Output 0))
unfolding net_from spelled_from space_at lists_at list_at count_at input_at term_at job_at output_at name_size_at name_at form_at fault_of limit_fault job_fault new_fault cell_count input_cells given laid degrees_after noises_after degree greatest_between greatest_of
no_cell = refl

too_long : net_from (take 23 back_file ++ 1 ∷ 0 ∷ 0 ∷ 0 ∷ 0 ∷ []) ≡ Err (Long 1)
unfolding net_from spelled_from space_at lists_at list_at count_at input_at term_at job_at output_at name_size_at name_at form_at
too_long = refl

-- ---- a job of one term with the weight -1 and the constant -2, out of range
abbrev less : Job
less = record { terms = record { cell = 0; weight = negsuc 0 } ∷ []; constant = negsuc 1; table = range_with_len 0 16; degree = 3 }

abbrev less_net : Net
less_net = record { space = 2; inputs = record { name = codes "a"; kind = Int; bits = 2; degree = 3; noise = 1 } ∷ []; jobs = less ∷ []; outputs = [] }

less_spelled : net_bytes less_net ≡ take 13 back_file ++ 1 ∷ 0 ∷ 0 ∷ 0 ∷ 1 ∷ 0 ∷ 0 ∷ 0 ∷ 0 ∷ 255 ∷ 254 ∷ 255 ∷ range_with_len 0 16 ++ 3 ∷ 0 ∷ 0 ∷ []
less_spelled = refl

less_read : spelled_from (net_bytes less_net) ≡ Ok less_net
unfolding spelled_from space_at lists_at list_at count_at input_at term_at job_at output_at name_size_at name_at form_at
less_read = refl

less_refused : net_from (net_bytes less_net) ≡ Err (NotLegal (Range 0 (negsuc 4) (negsuc 1)))
unfolding net_from spelled_from space_at lists_at list_at count_at input_at term_at job_at output_at name_size_at name_at form_at fault_of limit_fault job_fault new_fault cell_count input_cells given laid degrees_after noises_after degree greatest_between greatest_of
less_refused = refl

-- ---- a ciphertext without items keeps no numbers
no_items_kept : AreItemsKept rx_test [] [] []
no_items_kept = tt
