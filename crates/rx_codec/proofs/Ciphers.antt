-- The ciphertext file: what is read is spelled so, and what is spelled so is read.
use Rattle.std.proofs.Common.{◌≡◌, ℕ, ◌+◌, ◌^◌, ◌≤◌, Bool, true, false, leb, List, [], ◌∷◌, ◌++◌, length, take, Result, Ok, Err, refl, sym, ap, subst, ◌∙◌, arith}
use Rattle.std.specs.Prelude.{IfOk, IsTrue, codes}
use Rattle.std.specs.List.{flat_map, AllByRecursion}
use Rattle.std.specs.Str.{bytes_eq}
use Rattle.std.specs.Int.{w32, to_le_bytes}
use Rattle.std.proofs.lemmas.Bool.{leb-true, le-leb, or_parts}
use Rattle.std.proofs.lemmas.Bool.Decides.{same_from_decides, Decides-like}
use Rattle.std.proofs.lemmas.Slice.Eq.{bytes_eq-Decides}
use Rattle.std.proofs.lemmas.List.{drop_all, take_all}
use Rattle.std.proofs.lemmas.List.Folds.{list_any-append}
use Rattle.rx_text.specs.Names.{is_name}
use Rattle.rx_params.specs.declared.params.Params.{Params}
use Rattle.rx_params.specs.Derived.{large_dim}
use Rattle.rx_net.specs.Legal.{InTurn}
use Rattle.rx_codec.specs.declared.cipher.Item.{Item}
use Rattle.rx_codec.specs.declared.cipher.Cipher.{Cipher}
use Rattle.rx_codec.specs.declared.fault.CodecFault.{CodecFault}
use Rattle.rx_codec.specs.Reading.{◌>>=◌, Gives, number_at, in_range, magic_at, ends_at}
use Rattle.rx_codec.specs.ParamsFields.{params_bytes, params_at}
use Rattle.rx_codec.specs.CipherFile.{has_item, item_bytes, cipher_head, cipher_bytes, IsItem, IsSizedItem, ItemsOnce, IsWritableItem, IsWritable, IsCipher, CipherFile, item_at, items_at, cipher_from}
use Rattle.rx_codec.proofs.Fields.{IsBytes, Stands, Stands-then, Stands-first, Stands-second, Stands-whole, whole-Stands, bind_ok, wide32, number_takes, number_again, in_range_takes, magic_takes, magic_again, ends_takes, ends_again}
use Rattle.rx_codec.proofs.Params.{params_takes, params_again}
use Rattle.rx_codec.proofs.Manys.{many_takes, many_again, each_of_turn}
use Rattle.rx_codec.proofs.ItemFields.{ItemFits, item_tells}
use Rattle.rx_codec.proofs.Named.{AreUpto}

-- ---- names that stand once

pub eq_symm : (a b : List ℕ) → bytes_eq a b ≡ bytes_eq b a
eq_symm a b = same_from_decides (bytes_eq a b) (bytes_eq b a) (bytes_eq-Decides a b) (Decides-like (bytes_eq b a) sym sym (bytes_eq-Decides b a))

-- no item of the list has a name of an earlier one
abbrev pub AreNew : List Item → List Item → Type 0
AreNew before items = AllByRecursion (λ i. has_item i.name before ≡ false) items

new_one : (before : List Item) (f : Item) (name : List ℕ) → has_item name (before ++ f ∷ []) ≡ false → (has_item name before ≡ false) × (bytes_eq f.name name ≡ false)
new_one before f name e =
    let parts = or_parts (has_item name before) (has_item name (f ∷ [])) (sym (list_any-append (λ (i : Item). bytes_eq i.name name) before (f ∷ [])) ∙ e) in
    (parts.0, (or_parts (bytes_eq f.name name) false parts.1).0)

new_all : (before : List Item) (f : Item) (items : List Item) → AreNew (before ++ f ∷ []) items → (has_item f.name items ≡ false) × AreNew before items
new_all before f [] h = (refl, tt)
new_all before f (i ∷ items) h =
    let first = new_one before f i.name h.0 in
    let rest = new_all before f items h.1 in
    let differs : bytes_eq i.name f.name ≡ false = eq_symm i.name f.name ∙ first.1 in
    (rw (differs, rest.0) refl, (first.0, rest.1))

still_new : (before : List Item) (f : Item) (items : List Item) → has_item f.name items ≡ false → AreNew before items → AreNew (before ++ f ∷ []) items
still_new before f [] e h = tt
still_new before f (i ∷ items) e h =
    let parts = or_parts (bytes_eq i.name f.name) (has_item f.name items) e in
    let differs : bytes_eq f.name i.name ≡ false = eq_symm f.name i.name ∙ parts.0 in
    let none : has_item i.name before ≡ false = h.0 in
    (list_any-append (λ (j : Item). bytes_eq j.name i.name) before (f ∷ []) ∙ rw (none, differs) refl, still_new before f items parts.1 h.1)

pub none_before : (items : List Item) → AreNew [] items
none_before [] = tt
none_before (i ∷ items) = (refl, none_before items)

-- ---- lists of items

pub items_once : (size : ℕ) (p : Params) (before items : List Item) → InTurn (ItemFits size p) before items → AreNew before items × ItemsOnce items
items_once size p before [] h = (tt, tt)
items_once size p before (i ∷ items) h =
    let rest = items_once size p (before ++ i ∷ []) items h.1 in
    let new = new_all before i items rest.0 in
    ((h.0.once, new.1), (new.0, rest.1))

pub items_fit : (size : ℕ) (p : Params) (before items : List Item) → AllByRecursion (IsSizedItem size p) items → AreNew before items → ItemsOnce items → InTurn (ItemFits size p) before items
items_fit size p before [] each new once = tt
items_fit size p before (i ∷ items) each new once =
    (record { is = each.0; once = new.0 }, items_fit size p (before ++ i ∷ []) items each.1 (still_new before i items once.0 new.1) once.1)

-- ---- the whole file

abbrev cipher_of : Params → List Item → Cipher
cipher_of params items = record { params = params; items = items }

-- the rest of a file, after its parameters, and after the number of items
abbrev after_count : Params → List ℕ → ℕ × ℕ → Result Cipher CodecFault
after_count p file count = items_at (large_dim p + 1) p count.0 [] file count.1 >>= λ items. ends_at file items.1 (cipher_of p items.0)

abbrev after_params : List ℕ → Params × ℕ → Result Cipher CodecFault
after_params file params = number_at w32 file params.1 >>= λ count. in_range (leb count.0 64) params.1 count >>= after_count params.0 file

-- what is read is a ciphertext file
pub cipher_spelled : (file : List ℕ) (c : Cipher) → IsBytes file → cipher_from file ≡ Ok c → CipherFile file c
unfolding cipher_from
cipher_spelled file c fits e =
    let magic = bind_ok (magic_at (codes "RXE1") file) (λ after. params_at file after >>= after_params file) c e in
    let params = bind_ok (params_at file magic.0) (after_params file) c magic.2 in
    let p = params.0.0 in
    let number = bind_ok (number_at w32 file params.0.1) (λ count. in_range (leb count.0 64) params.0.1 count >>= after_count p file) c params.2 in
    let count = bind_ok (in_range (leb number.0.0 64) params.0.1 number.0) (after_count p file) c number.2 in
    let test = in_range_takes (leb number.0.0 64) params.0.1 number.0 count.0 count.1 in
    let rest : after_count p file number.0 ≡ Ok c = ap (after_count p file) test.1 ∙ count.2 in
    let items = bind_ok (items_at (large_dim p + 1) p number.0.0 [] file number.0.1) (λ items. ends_at file items.1 (cipher_of p items.0)) c rest in
    let end = ends_takes file items.0.1 (cipher_of p items.0.0) c items.2 in
    let t0 = magic_takes (codes "RXE1") file magic.0 magic.1 in
    let t1 = params_takes file magic.0 params.0 fits t0.within params.1 in
    let t2 = number_takes w32 (2 ^ 32) wide32 file params.0.1 number.0 fits number.1 in
    let t3 = many_takes (item_at (large_dim p + 1) p) item_bytes (ItemFits (large_dim p + 1) p) (item_tells (large_dim p + 1) p t1.accepted) number.0.0 [] file number.0.1 items.0 fits t2.0.within items.1 in
    let items-are : t3.more ≡ items.0.0 = sym t3.value in
    let size : length t3.more ≡ number.0.0 = t3.count-is in
    let e01 = Stands-then file 0 (codes "RXE1") magic.0 (params_bytes p) params.0.1 t0 t1.there in
    let e02 = Stands-then file 0 (codes "RXE1" ++ params_bytes p) params.0.1 (to_le_bytes w32 number.0.0) number.0.1 e01 t2.0 in
    let e03 = Stands-then file 0 (codes "RXE1" ++ params_bytes p ++ to_le_bytes w32 number.0.0) number.0.1 (flat_map item_bytes t3.more) items.0.1 e02 t3.there in
    let whole : file ≡ cipher_bytes (cipher_of p t3.more) =
    whole-Stands file _ items.0.1 e03 end.0
    ∙ ap (λ (n : ℕ). codes "RXE1" ++ params_bytes p ++ to_le_bytes w32 n ++ flat_map item_bytes t3.more) (sym size) in
    subst (CipherFile file) (ap (cipher_of p) items-are ∙ end.1) (record {
      fits = record {
        accepted = t1.accepted;
        count = omega (arith, size, leb-true _ _ test.0);
        items = each_of_turn (ItemFits (large_dim p + 1) p) (IsItem p) (λ before i h. h.is) [] t3.more t3.fits;
        once = (items_once (large_dim p + 1) p [] t3.more t3.fits).1;
      };
      spelled = whole;
    })

pub cipher_found : (file : List ℕ) (result : Result Cipher CodecFault) → IsBytes file → Gives (λ c. c) result (cipher_from file) → IfOk result (λ c. CipherFile file c)
cipher_found file (Ok c) fits exact = cipher_spelled file c fits exact
cipher_found file (Err fault) fits exact = tt

-- a ciphertext file is read
pub cipher_again : (file : List ℕ) (c : Cipher) → CipherFile file c → cipher_from file ≡ Ok c
unfolding cipher_from
cipher_again file c h =
    let magic = codes "RXE1" in
    let params = params_bytes c.params in
    let count = to_le_bytes w32 (length c.items) in
    let items = flat_map item_bytes c.items in
    let whole : Stands file 0 (magic ++ params ++ count ++ items) (length file) = subst (λ (text : List ℕ). Stands file 0 text (length file)) h.spelled (Stands-whole file) in
    let p3 = Stands-first file 0 (magic ++ params ++ count) items (length file) whole in
    let s3 = Stands-second file 0 (magic ++ params ++ count) items (length file) whole in
    let p2 = Stands-first file 0 (magic ++ params) count (0 + length (magic ++ params ++ count)) p3 in
    let s2 = Stands-second file 0 (magic ++ params) count (0 + length (magic ++ params ++ count)) p3 in
    let p1 = Stands-first file 0 magic params (0 + length (magic ++ params)) p2 in
    let s1 = Stands-second file 0 magic params (0 + length (magic ++ params)) p2 in
    let few : leb (length c.items) 64 ≡ true = le-leb _ _ h.fits.count in
    ap (λ (r : Result ℕ CodecFault). r >>= λ after. params_at file after >>= after_params file) (magic_again magic file _ refl p1)
    ∙ ap (λ (r : Result (Params × ℕ) CodecFault). r >>= after_params file) (params_again file _ c.params _ h.fits.accepted s1)
    ∙ ap (λ (r : Result (ℕ × ℕ) CodecFault). r >>= λ n. in_range (leb n.0 64) (0 + length (magic ++ params)) n >>= after_count c.params file)
    (number_again w32 (2 ^ 32) wide32 file _ (length c.items) _ s2 (omega (arith, h.fits.count)))
    ∙ ap (λ (b : Bool). in_range b (0 + length (magic ++ params)) (length c.items, 0 + length (magic ++ params ++ count)) >>= after_count c.params file) few
    ∙ ap (λ (r : Result (List Item × ℕ) CodecFault). r >>= λ is. ends_at file is.1 (cipher_of c.params is.0))
    (many_again (item_at (large_dim c.params + 1) c.params) item_bytes (ItemFits (large_dim c.params + 1) c.params) (item_tells (large_dim c.params + 1) c.params h.fits.accepted) c.items [] file _ (length file)
    (items_fit (large_dim c.params + 1) c.params [] c.items h.fits.items (none_before c.items) h.fits.once) s3)
    ∙ ends_again file (length file) (cipher_of c.params c.items) refl

pub cipher_only : (file : List ℕ) (result : Result Cipher CodecFault) (c : Cipher) → Gives (λ d. d) result (cipher_from file) → CipherFile file c → Gives (λ d. d) result (Ok c)
cipher_only file result c exact h = subst (Gives (λ d. d) result) (cipher_again file c h) exact

-- ---- what is written

-- whether the name of an item is a name
abbrev pub IsNamed : Item → Type 0
IsNamed i = IsTrue (is_name i.name)

items_named : (p : Params) (items : List Item) → AllByRecursion (IsWritableItem p) items → AllByRecursion IsNamed items → AllByRecursion (IsItem p) items
items_named p [] each names = tt
items_named p (i ∷ items) each names =
    (record { name = names.0; form = each.0.form; count = each.0.count; blocks = each.0.blocks }, items_named p items each.1 names.1)

-- a cipher that may be written, whose names are names
pub cipher_named : (c : Cipher) → IsWritable c → AllByRecursion IsNamed c.items → IsCipher c
cipher_named c may names = record {
  accepted = may.accepted;
  count = may.count;
  items = items_named c.params c.items may.items names;
  once = may.once;
}

items_writable : (p : Params) (items : List Item) → AllByRecursion (IsItem p) items → AllByRecursion (IsWritableItem p) items
items_writable p [] each = tt
items_writable p (i ∷ items) each =
    (record { form = each.0.form; count = each.0.count; blocks = each.0.blocks }, items_writable p items each.1)

pub writable : (c : Cipher) → IsCipher c → IsWritable c
writable c is = record {
  accepted = is.accepted;
  count = is.count;
  items = items_writable c.params c.items is.items;
  once = is.once;
}

-- the file whose items were all written
pub cipher_written : (c : Cipher) (n : ℕ) (bytes : List ℕ) → IsWritable c → length c.items ≤ n →
    bytes ≡ cipher_head c.params (length c.items) ++ flat_map item_bytes (take n c.items) → AreUpto IsNamed n c.items → CipherFile bytes c
cipher_written c n bytes may past text names = record {
  fits = cipher_named c may (names.with (subst (AllByRecursion IsNamed) (sym (drop_all n c.items past)) tt));
  spelled = text ∙ ap (λ (items : List Item). cipher_head c.params (length c.items) ++ flat_map item_bytes items) (take_all n c.items past);
}
