-- A net that was folded over its one file.
use Rattle.std.proofs.Common.{◌≡◌, ℕ, List, [], ◌∷◌, length, get_or, None, Ok, sym, ◌∙◌, ap, subst, arith}
use Rattle.rx_net.specs.declared.net.Net.{Net}
use Rattle.rx_net.specs.Cells.{net_depth}
use Rattle.rx_fold.specs.Folded.{folded}
use Rattle.rx_codec.specs.NetFile.{NetFile, net_from}
use Rattle.rx_tool.specs.Compile.{size_line}
use Rattle.rx_tool.specs.Fold.{fold_refused, fold_refusal, FoldDoes}

pub fold_done : (net out : List ℕ) (files : List (List ℕ)) (first file bytes : List ℕ) (old new : Net) (writes : List (List ℕ × List ℕ)) (lines : List ℕ) →
    length files ≡ 1 → first ≡ get_or files 0 first → file ≡ first →
    net_from file ≡ Ok old → NetFile file old → new ≡ folded old → NetFile bytes new →
    writes ≡ (out, bytes) ∷ [] → lines ≡ size_line (length new.jobs) (net_depth new) →
    (fold_refusal net files ≡ None) × FoldDoes out files writes lines
fold_done net out [] first file bytes old new writes lines one is same exact found e spelled wrote printed = absurd (omega (arith, one))
fold_done net out (a ∷ []) first file bytes old new writes lines one is same exact found made spelled wrote printed =
    let e : file ≡ a = same ∙ is in (
      ap (λ f. fold_refused net (net_from f)) (sym e) ∙ ap (fold_refused net) exact,
      (
        old,
        bytes,
        subst (λ f. NetFile f old) e found,
        subst (NetFile bytes) made spelled,
        wrote,
        printed ∙ ap (λ (n : Net). size_line (length n.jobs) (net_depth n)) made,
      ),
    )
fold_done net out (a ∷ b ∷ files) first file bytes old new writes lines one is same exact found e spelled wrote printed = absurd (omega (arith, one))
