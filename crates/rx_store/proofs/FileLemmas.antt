-- Files after one of them is put, and the entries of an ordered map of texts as files.
use Rattle.std.proofs.Common.{◌≡◌, ℕ, List, [], ◌∷◌, true, false, cond, refl, sym, ap, ◌∙◌, map, Some, String, Vec}
use Rattle.std.specs.Option.{option_map}
use Rattle.std.specs.Map.{lookup}
use Rattle.std.specs.BTreeMap.{insert_entry, is_at}
use Rattle.std.specs.String.{string_bytes, string_cmp}
use Rattle.std.specs.Ordering.{nat_cmp, eq_by_cmp, match_ordering}
use Rattle.std.specs.declared.cmp.Ordering.TheVariants.{Less, Equal, Greater}
use Rattle.std.specs.declared.alloc.Global.{Global}
use Rattle.std.specs.Cmp.{eq_by_cmp_equiv}
use Rattle.std.specs.Cmp.Lexicographic.{slice_cmp, nat_list_cmp_total}
use Rattle.std.specs.FinMap.{find, put, get-from_entries, get-insert, same_map, slice_cmp-IsAntisymmetric, nat_cmp-IsAntisymmetric}
use Rattle.std.specs.FinMap.Entries.{find-put, by_order}
use Rattle.rx_store.specs.Files.{Files, file_at, with_file}
use Rattle.rx_store.specs.MapFiles.{as_file, files_in}

-- a look-up among the files is one among the entries
found : (name : List ℕ) (entries : List (String Global × Vec ℕ Global)) →
    find (slice_cmp nat_cmp) name (map as_file entries)
    ≡ option_map (λ bytes. bytes.items) (lookup (is_at (λ key. slice_cmp nat_cmp name (string_bytes key))) entries)
found name [] = refl
found name (e ∷ es) =
    elim (eq_by_cmp (slice_cmp nat_cmp) name (string_bytes e.0))
    as (λ b. cond b (Some e.1.items) (find (slice_cmp nat_cmp) name (map as_file es))
    ≡ option_map (λ bytes. bytes.items) (cond b (Some e.1) (lookup (is_at (λ key. slice_cmp nat_cmp name (string_bytes key))) es)))
    [ true ↦ refl | false ↦ found name es ]

pub file_at-entries : (name : List ℕ) (entries : List (String Global × Vec ℕ Global)) →
    file_at (files_in entries) name
    ≡ option_map (λ bytes. bytes.items) (lookup (is_at (λ key. slice_cmp nat_cmp name (string_bytes key))) entries)
file_at-entries name entries = get-from_entries nat_list_cmp_total (map as_file entries) name ∙ found name entries

-- an entry put among the others is a file put among the others
put_as_file : (key : String Global) (bytes : Vec ℕ Global) (entries : List (String Global × Vec ℕ Global)) →
    map as_file (insert_entry string_cmp entries key bytes)
    ≡ put (slice_cmp nat_cmp) (string_bytes key) bytes.items (map as_file entries)
put_as_file key bytes [] = refl
put_as_file key bytes (e ∷ es) =
    elim (slice_cmp nat_cmp (string_bytes key) (string_bytes e.0))
    as (λ r. map as_file (match_ordering r ((key, bytes) ∷ e ∷ es) ((e.0, bytes) ∷ es) (e ∷ insert_entry string_cmp es key bytes))
    ≡ by_order r ((string_bytes key, bytes.items) ∷ as_file e ∷ map as_file es) ((string_bytes e.0, bytes.items) ∷ map as_file es)
    (as_file e ∷ put (slice_cmp nat_cmp) (string_bytes key) bytes.items (map as_file es)))
    [ Less ↦ refl | Equal ↦ refl | Greater ↦ ap (λ t. as_file e ∷ t) (put_as_file key bytes es) ]

pub files_in-insert_entry : (entries : List (String Global × Vec ℕ Global)) (key : String Global) (bytes : Vec ℕ Global) →
    files_in (insert_entry string_cmp entries key bytes) ≡ with_file (string_bytes key) bytes.items (files_in entries)
files_in-insert_entry entries key bytes =
    same_map nat_list_cmp_total (slice_cmp-IsAntisymmetric nat_cmp-IsAntisymmetric) _ _ (λ name.
    get-from_entries nat_list_cmp_total (map as_file (insert_entry string_cmp entries key bytes)) name
    ∙ ap (find (slice_cmp nat_cmp) name) (put_as_file key bytes entries)
    ∙ find-put (slice_cmp nat_cmp) nat_list_cmp_total name (string_bytes key) bytes.items (map as_file entries)
    ∙ sym (get-insert nat_list_cmp_total (files_in entries) (string_bytes key) bytes.items name
    ∙ ap (cond (eq_by_cmp (slice_cmp nat_cmp) name (string_bytes key)) (Some bytes.items))
    (get-from_entries nat_list_cmp_total (map as_file entries) name)))

-- the file that was put is there
pub file_at-with_file : (name bytes : List ℕ) (files : Files) → file_at (with_file name bytes files) name ≡ Some bytes
file_at-with_file name bytes files =
    get-insert nat_list_cmp_total files name bytes name
    ∙ ap (λ same. cond same (Some bytes) (file_at files name)) ((eq_by_cmp_equiv nat_list_cmp_total).refl name)
