use Rattle.std.proofs.Common.{◌≡◌, refl, sym, ◌∙◌, ap, [], ◌∷◌}
use Rattle.std.proofs.lemmas.Result.{IfOk-weaker}
use Rattle.rx_language.specs.declared.form.Rule.TheVariants.{TwoNumbers, TwoInts, TwoAlike, NumberAndAmount, Compared}
use Rattle.rx_language.specs.declared.kind.NameKind.TheVariants.{Int, Bit}
use Rattle.rx_language.specs.Words.{form}
use Rattle.rx_language.specs.Kinds.{bits_of, is_number}
use Rattle.rx_compile.proofs.Arguments.{two}
use Rattle.rx_compile.proofs.Rules.{rule_is, gives_by, two_numbers, two_ints, two_alike, amount, compared, number_named, argument_named, room_named, two_named}
use Rattle.rx_compile.proofs.arms.append_two.Goals as goal

pub append_number-requires-clause-word : goal.append_number-requires-clause-word
append_number-requires-clause-word c =
    rule_is c.args.word c.form.result TwoNumbers c.form.ensures c.in-TwoNumbers.is

pub append_number-requires-clause-first : goal.append_number-requires-clause-first
append_number-requires-clause-first c =
    let r = c.args in
    let a = r.a.now in
    let b = r.b.now in
    let e : (form r.word).rule ≡ TwoNumbers = rule_is r.word c.form.result TwoNumbers c.form.ensures c.in-TwoNumbers.is in
    let g = two_numbers c.requires.takes.width a.kind b.kind r.kind (gives_by r.word 0 (a.kind ∷ b.kind ∷ []) r.kind TwoNumbers e c.requires.takes) in
    number_named r.pen.now a.kind r.kind a.cells.now (two c.space-space.result r.pen.now.space c.space-space.ensures.known c.space-space.ensures.value) g.0.0 g.1 c.requires.first

pub append_number-requires-clause-second : goal.append_number-requires-clause-second
append_number-requires-clause-second c =
    let r = c.args in
    let a = r.a.now in
    let b = r.b.now in
    let e : (form r.word).rule ≡ TwoNumbers = rule_is r.word c.form.result TwoNumbers c.form.ensures c.in-TwoNumbers.is in
    let g = two_numbers c.requires.takes.width a.kind b.kind r.kind (gives_by r.word 0 (a.kind ∷ b.kind ∷ []) r.kind TwoNumbers e c.requires.takes) in
    number_named r.pen.now b.kind r.kind b.cells.now (two c.space-space.result r.pen.now.space c.space-space.ensures.known c.space-space.ensures.value) (ap (λ k. is_number k) g.0.1 ∙ g.0.0) (g.0.1 ∙ g.1) c.requires.second

pub append_number-requires-clause-room : goal.append_number-requires-clause-room
append_number-requires-clause-room c =
    let r = c.args in
    let a = r.a.now in
    let b = r.b.now in
    let e : (form r.word).rule ≡ TwoNumbers = rule_is r.word c.form.result TwoNumbers c.form.ensures c.in-TwoNumbers.is in
    let g = two_numbers c.requires.takes.width a.kind b.kind r.kind (gives_by r.word 0 (a.kind ∷ b.kind ∷ []) r.kind TwoNumbers e c.requires.takes) in
    room_named r.pen.now r.word r.kind r.kind a.kind r.kind refl g.1 c.requires.room

pub returns-in-TwoNumbers-clause-realized : goal.returns-in-TwoNumbers-clause-realized
returns-in-TwoNumbers-clause-realized c =
    let r = c.args in
    let a = r.a.now in
    let b = r.b.now in
    let e : (form r.word).rule ≡ TwoNumbers = rule_is r.word c.form.result TwoNumbers c.form.ensures c.in-TwoNumbers.is in
    let g = two_numbers c.requires.takes.width a.kind b.kind r.kind (gives_by r.word 0 (a.kind ∷ b.kind ∷ []) r.kind TwoNumbers e c.requires.takes) in
    IfOk-weaker c.append_number.result _ _ (λ u h. two_named r.word r.pen.now c.append_number.new.pen r.kind r.kind r.kind a.kind r.kind b.kind c.append_number.new.out.items a.cells.now b.cells.now refl (sym g.1) (sym (g.0.1 ∙ g.1)) h) c.append_number.ensures.realized

pub append_division-requires-clause-word : goal.append_division-requires-clause-word
append_division-requires-clause-word c =
    rule_is c.args.word c.form.result TwoInts c.form.ensures c.in-TwoInts.is

pub append_division-requires-clause-first : goal.append_division-requires-clause-first
append_division-requires-clause-first c =
    let r = c.args in
    let a = r.a.now in
    let b = r.b.now in
    let e : (form r.word).rule ≡ TwoInts = rule_is r.word c.form.result TwoInts c.form.ensures c.in-TwoInts.is in
    let g = two_ints c.requires.takes.width a.kind b.kind r.kind (gives_by r.word 0 (a.kind ∷ b.kind ∷ []) r.kind TwoInts e c.requires.takes) in
    number_named r.pen.now a.kind a.kind a.cells.now (two c.space-space.result r.pen.now.space c.space-space.ensures.known c.space-space.ensures.value) g.0.0 refl c.requires.first

pub append_division-requires-clause-second : goal.append_division-requires-clause-second
append_division-requires-clause-second c =
    let r = c.args in
    let a = r.a.now in
    let b = r.b.now in
    let e : (form r.word).rule ≡ TwoInts = rule_is r.word c.form.result TwoInts c.form.ensures c.in-TwoInts.is in
    let g = two_ints c.requires.takes.width a.kind b.kind r.kind (gives_by r.word 0 (a.kind ∷ b.kind ∷ []) r.kind TwoInts e c.requires.takes) in
    number_named r.pen.now b.kind a.kind b.cells.now (two c.space-space.result r.pen.now.space c.space-space.ensures.known c.space-space.ensures.value) (ap (λ k. is_number k) g.0.1 ∙ g.0.0) g.0.1 c.requires.second

pub append_division-requires-clause-room : goal.append_division-requires-clause-room
append_division-requires-clause-room c =
    let r = c.args in
    let a = r.a.now in
    let b = r.b.now in
    let e : (form r.word).rule ≡ TwoInts = rule_is r.word c.form.result TwoInts c.form.ensures c.in-TwoInts.is in
    let g = two_ints c.requires.takes.width a.kind b.kind r.kind (gives_by r.word 0 (a.kind ∷ b.kind ∷ []) r.kind TwoInts e c.requires.takes) in
    room_named r.pen.now r.word r.kind a.kind a.kind a.kind (sym g.1) refl c.requires.room

pub returns-in-TwoInts-clause-realized : goal.returns-in-TwoInts-clause-realized
returns-in-TwoInts-clause-realized c =
    let r = c.args in
    let a = r.a.now in
    let b = r.b.now in
    let e : (form r.word).rule ≡ TwoInts = rule_is r.word c.form.result TwoInts c.form.ensures c.in-TwoInts.is in
    let g = two_ints c.requires.takes.width a.kind b.kind r.kind (gives_by r.word 0 (a.kind ∷ b.kind ∷ []) r.kind TwoInts e c.requires.takes) in
    IfOk-weaker c.append_division.result _ _ (λ u h. two_named r.word r.pen.now c.append_division.new.pen a.kind r.kind a.kind a.kind a.kind b.kind c.append_division.new.out.items a.cells.now b.cells.now g.1 refl (sym g.0.1) h) c.append_division.ensures.realized

pub append_bits-requires-clause-word : goal.append_bits-requires-clause-word
append_bits-requires-clause-word c =
    rule_is c.args.word c.form.result TwoAlike c.form.ensures c.in-TwoAlike.is

pub append_bits-requires-clause-first : goal.append_bits-requires-clause-first
append_bits-requires-clause-first c =
    let r = c.args in
    let a = r.a.now in
    let b = r.b.now in
    let e : (form r.word).rule ≡ TwoAlike = rule_is r.word c.form.result TwoAlike c.form.ensures c.in-TwoAlike.is in
    let g = two_alike c.requires.takes.width a.kind b.kind r.kind (gives_by r.word 0 (a.kind ∷ b.kind ∷ []) r.kind TwoAlike e c.requires.takes) in
    argument_named r.pen.now a.kind r.kind a.cells.now g.1 c.requires.first

pub append_bits-requires-clause-second : goal.append_bits-requires-clause-second
append_bits-requires-clause-second c =
    let r = c.args in
    let a = r.a.now in
    let b = r.b.now in
    let e : (form r.word).rule ≡ TwoAlike = rule_is r.word c.form.result TwoAlike c.form.ensures c.in-TwoAlike.is in
    let g = two_alike c.requires.takes.width a.kind b.kind r.kind (gives_by r.word 0 (a.kind ∷ b.kind ∷ []) r.kind TwoAlike e c.requires.takes) in
    argument_named r.pen.now b.kind r.kind b.cells.now (g.0 ∙ g.1) c.requires.second

pub append_bits-requires-clause-room : goal.append_bits-requires-clause-room
append_bits-requires-clause-room c =
    let r = c.args in
    let a = r.a.now in
    let b = r.b.now in
    let e : (form r.word).rule ≡ TwoAlike = rule_is r.word c.form.result TwoAlike c.form.ensures c.in-TwoAlike.is in
    let g = two_alike c.requires.takes.width a.kind b.kind r.kind (gives_by r.word 0 (a.kind ∷ b.kind ∷ []) r.kind TwoAlike e c.requires.takes) in
    room_named r.pen.now r.word r.kind r.kind a.kind r.kind refl g.1 c.requires.room

pub returns-in-TwoAlike-clause-realized : goal.returns-in-TwoAlike-clause-realized
returns-in-TwoAlike-clause-realized c =
    let r = c.args in
    let a = r.a.now in
    let b = r.b.now in
    let e : (form r.word).rule ≡ TwoAlike = rule_is r.word c.form.result TwoAlike c.form.ensures c.in-TwoAlike.is in
    let g = two_alike c.requires.takes.width a.kind b.kind r.kind (gives_by r.word 0 (a.kind ∷ b.kind ∷ []) r.kind TwoAlike e c.requires.takes) in
    IfOk-weaker c.append_bits.result _ _ (λ u h. two_named r.word r.pen.now c.append_bits.new.pen r.kind r.kind r.kind a.kind r.kind b.kind c.append_bits.new.out.items a.cells.now b.cells.now refl (sym g.1) (sym (g.0 ∙ g.1)) h) c.append_bits.ensures.realized

pub append_shifted-requires-clause-word : goal.append_shifted-requires-clause-word
append_shifted-requires-clause-word c =
    rule_is c.args.word c.form.result NumberAndAmount c.form.ensures c.in-NumberAndAmount.is

pub append_shifted-requires-clause-first : goal.append_shifted-requires-clause-first
append_shifted-requires-clause-first c =
    let r = c.args in
    let a = r.a.now in
    let b = r.b.now in
    let e : (form r.word).rule ≡ NumberAndAmount = rule_is r.word c.form.result NumberAndAmount c.form.ensures c.in-NumberAndAmount.is in
    let g = amount c.requires.takes.width a.kind b.kind r.kind (gives_by r.word 0 (a.kind ∷ b.kind ∷ []) r.kind NumberAndAmount e c.requires.takes) in
    number_named r.pen.now a.kind r.kind a.cells.now (two c.space-space.result r.pen.now.space c.space-space.ensures.known c.space-space.ensures.value) g.0.0 g.1 c.requires.first

pub append_shifted-requires-clause-second : goal.append_shifted-requires-clause-second
append_shifted-requires-clause-second c =
    let r = c.args in
    let a = r.a.now in
    let b = r.b.now in
    let e : (form r.word).rule ≡ NumberAndAmount = rule_is r.word c.form.result NumberAndAmount c.form.ensures c.in-NumberAndAmount.is in
    let g = amount c.requires.takes.width a.kind b.kind r.kind (gives_by r.word 0 (a.kind ∷ b.kind ∷ []) r.kind NumberAndAmount e c.requires.takes) in
    number_named r.pen.now b.kind (Int (bits_of r.kind)) b.cells.now (two c.space-space.result r.pen.now.space c.space-space.ensures.known c.space-space.ensures.value) (ap (λ k. is_number k) g.0.1) (g.0.1 ∙ (ap (λ k. Int (bits_of k)) g.1)) c.requires.second

pub append_shifted-requires-clause-room : goal.append_shifted-requires-clause-room
append_shifted-requires-clause-room c =
    let r = c.args in
    let a = r.a.now in
    let b = r.b.now in
    let e : (form r.word).rule ≡ NumberAndAmount = rule_is r.word c.form.result NumberAndAmount c.form.ensures c.in-NumberAndAmount.is in
    let g = amount c.requires.takes.width a.kind b.kind r.kind (gives_by r.word 0 (a.kind ∷ b.kind ∷ []) r.kind NumberAndAmount e c.requires.takes) in
    room_named r.pen.now r.word r.kind r.kind a.kind r.kind refl g.1 c.requires.room

pub returns-in-NumberAndAmount-clause-realized : goal.returns-in-NumberAndAmount-clause-realized
returns-in-NumberAndAmount-clause-realized c =
    let r = c.args in
    let a = r.a.now in
    let b = r.b.now in
    let e : (form r.word).rule ≡ NumberAndAmount = rule_is r.word c.form.result NumberAndAmount c.form.ensures c.in-NumberAndAmount.is in
    let g = amount c.requires.takes.width a.kind b.kind r.kind (gives_by r.word 0 (a.kind ∷ b.kind ∷ []) r.kind NumberAndAmount e c.requires.takes) in
    IfOk-weaker c.append_shifted.result _ _ (λ u h. two_named r.word r.pen.now c.append_shifted.new.pen r.kind r.kind r.kind a.kind (Int (bits_of r.kind)) b.kind c.append_shifted.new.out.items a.cells.now b.cells.now refl (sym g.1) (sym (g.0.1 ∙ (ap (λ k. Int (bits_of k)) g.1))) h) c.append_shifted.ensures.realized

pub append_order-requires-clause-word : goal.append_order-requires-clause-word
append_order-requires-clause-word c =
    rule_is c.args.word c.form.result Compared c.form.ensures c.in-Compared.is

pub append_order-requires-clause-first : goal.append_order-requires-clause-first
append_order-requires-clause-first c =
    let r = c.args in
    let a = r.a.now in
    let b = r.b.now in
    let e : (form r.word).rule ≡ Compared = rule_is r.word c.form.result Compared c.form.ensures c.in-Compared.is in
    let g = compared c.requires.takes.width a.kind b.kind r.kind (gives_by r.word 0 (a.kind ∷ b.kind ∷ []) r.kind Compared e c.requires.takes) in
    number_named r.pen.now a.kind a.kind a.cells.now (two c.space-space.result r.pen.now.space c.space-space.ensures.known c.space-space.ensures.value) g.0.0 refl c.requires.first

pub append_order-requires-clause-second : goal.append_order-requires-clause-second
append_order-requires-clause-second c =
    let r = c.args in
    let a = r.a.now in
    let b = r.b.now in
    let e : (form r.word).rule ≡ Compared = rule_is r.word c.form.result Compared c.form.ensures c.in-Compared.is in
    let g = compared c.requires.takes.width a.kind b.kind r.kind (gives_by r.word 0 (a.kind ∷ b.kind ∷ []) r.kind Compared e c.requires.takes) in
    number_named r.pen.now b.kind a.kind b.cells.now (two c.space-space.result r.pen.now.space c.space-space.ensures.known c.space-space.ensures.value) (ap (λ k. is_number k) g.0.1 ∙ g.0.0) g.0.1 c.requires.second

pub append_order-requires-clause-room : goal.append_order-requires-clause-room
append_order-requires-clause-room c =
    let r = c.args in
    let a = r.a.now in
    let b = r.b.now in
    let e : (form r.word).rule ≡ Compared = rule_is r.word c.form.result Compared c.form.ensures c.in-Compared.is in
    let g = compared c.requires.takes.width a.kind b.kind r.kind (gives_by r.word 0 (a.kind ∷ b.kind ∷ []) r.kind Compared e c.requires.takes) in
    room_named r.pen.now r.word r.kind Bit a.kind a.kind (sym g.1) refl c.requires.room

pub returns-in-Compared-clause-realized : goal.returns-in-Compared-clause-realized
returns-in-Compared-clause-realized c =
    let r = c.args in
    let a = r.a.now in
    let b = r.b.now in
    let e : (form r.word).rule ≡ Compared = rule_is r.word c.form.result Compared c.form.ensures c.in-Compared.is in
    let g = compared c.requires.takes.width a.kind b.kind r.kind (gives_by r.word 0 (a.kind ∷ b.kind ∷ []) r.kind Compared e c.requires.takes) in
    IfOk-weaker c.append_order.result _ _ (λ u h. two_named r.word r.pen.now c.append_order.new.pen Bit r.kind a.kind a.kind a.kind b.kind c.append_order.new.out.items a.cells.now b.cells.now g.1 refl (sym g.0.1) h) c.append_order.ensures.realized
