use Rattle.std.proofs.Common.{◌≡◌, ℕ, ◌+◌, get_or, set, ap, sym, subst, ◌∙◌, arith}
use Rattle.std.specs.Prelude.{replicate}
use Rattle.rx_laws.specs.Words.{of_words, AreWords}
use Rattle.rx_lwe.specs.SwitchKeys.{SwitchRows}
use Rattle.rx_lwe.proofs.Switched.{less, body_alone, digit_rows, switched-start, switched-step, switched-done}
use Rattle.rx_lwe.proofs.switch.switch_into.Goals as goal

pub loop-u-init : goal.loop-u-init
loop-u-init c =
    let key : SwitchRows = c.args.key.now in
    let zeros : c.fill.new.self ≡ replicate (key.small + 1) 0 =
    c.fill.ensures.after (λ y e. e) ∙ ap (λ (n : ℕ). replicate n 0) c.requires.out_size in
    let P : SwitchRows → Type 0 = λ s.
    AreWords (key.small + 1) (less 0 (body_alone key.small (of_words c.args.input.now key.big)) (digit_rows key c.args.input.now))
    (set c.fill.new.self s.small (get_or c.args.input.now s.big 0)) in
    subst P (sym c.key.view_is) (switched-start key c.args.input.now c.fill.new.self zeros (c.type_inv.input key.big).fits)

pub loop-u-preserved : goal.loop-u-preserved
loop-u-preserved c =
    switched-step c.args.key.now c.loop-u.u c.args.input.now c.loop-u.out c.subtract_word.new.out (c.type_inv.input c.loop-u.u).fits
    c.loop-u.invariant c.subtract_word.ensures

pub returns : goal.returns
returns c =
    let key : SwitchRows = c.args.key.now in
    let P : ℕ → Type 0 = λ u.
    AreWords (key.small + 1) (less u (body_alone key.small (of_words c.args.input.now key.big)) (digit_rows key c.args.input.now)) c.loop-u.out in
    let all : c.loop-u.u ≡ key.big = omega (arith, ap (λ (s : SwitchRows). s.big) c.key.view_is) in
    switched-done key c.args.input.now c.loop-u.out (subst P all c.loop-u.invariant)
