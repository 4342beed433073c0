use Rattle.std.proofs.Common.{◌≡◌, ◌==◌, ◌-◌, ◌+◌, length, take, drop, sym, arith}
use Rattle.std.proofs.lemmas.List.{take_all, length-drop}
use Rattle.rx_text.proofs.Splits.{cut_at, not_cut}
use Rattle.rx_text.proofs.lines.cut.Goals as goal

pub returns-in-Some : goal.returns-in-Some
returns-in-Some c =
    let found = cut_at (λ b. b == c.args.at) c.args.text.now c.in-Some.place (sym c.in-Some.ensures) in
    let place = c.in-Some.place in
    let rest = drop (place + 1) c.args.text.now in
    let whole : take (length c.args.text.now - (place + 1)) rest ≡ rest = take_all (length c.args.text.now - (place + 1)) rest (omega (arith, length-drop (place + 1) c.args.text.now)) in
    rw whole found.1

pub returns-in-None : goal.returns-in-None
returns-in-None c = not_cut (λ b. b == c.args.at) c.args.text.now (sym c.in-None.ensures)
