-- The words of the cells of a net whose inputs stand in one list.
use Rattle.std.proofs.Common.{◌≡◌, ℕ, zero, suc, ◌+◌, ◌*◌, ◌<◌, List, [], ◌∷◌, ◌++◌, length, get_or, take, drop, sym, refl, ap, ◌∙◌, arith, append_assoc, append-nil, suc-mul}
use Rattle.std.proofs.lemmas.List.{take_more, drop-drop}
use Rattle.rx_net.specs.declared.term.Term.{Term}
use Rattle.rx_net.specs.declared.net.Job.{Job}
use Rattle.rx_net.specs.declared.net.Net.{Net}
use Rattle.rx_net.specs.Cells.{input_cells, operand_words, cells_of}
use Rattle.rx_net.specs.Legal.{Legal}
use Rattle.rx_net.proofs.WordsOf.{input_cell_is, job_cell_is}
use Rattle.rx_uses.specs.Cells.{IsJobAt, rows}

suc-mul-flip : (i w : ℕ) → suc i * w ≡ w + i * w
suc-mul-flip i w = let e = suc-mul i w in let x : ℕ = i * w in omega arith

pub length-rows : (w n : ℕ) (xs : List ℕ) → length (rows w n xs) ≡ n
length-rows w zero xs = refl
length-rows w (suc n) xs = let h = length-rows w n (drop w xs) in omega arith

pub rows_at : (w n i : ℕ) (xs : List ℕ) → i < n → get_or (rows w n xs) i [] ≡ take w (drop (i * w) xs)
rows_at w zero i xs l = absurd (omega arith)
rows_at w (suc n) zero xs l = let e : 0 ≡ 0 * w = omega arith in ap (λ m. take w (drop m xs)) e
rows_at w (suc n) (suc i) xs l = let e : w + i * w ≡ suc i * w = sym (suc-mul-flip i w) in
    rows_at w n i (drop w xs) (omega arith) ∙ (ap (take w) (drop-drop (i * w) w xs) ∙ ap (λ m. take w (drop m xs)) e)

module _ (words_of : List ℕ → Job → List ℕ → List ℕ) (basis : List ℕ) (net : Net) (w : ℕ) (inputs : List ℕ) where
  -- the cells, where each has w words
  abbrev pub cells : List (List ℕ)
  cells = cells_of words_of basis net (rows w (input_cells net.space net.inputs) inputs)

  -- a job's cell has the words that the definition gives for the operands among the cells
  pub cell_is : (j : ℕ) (x : Job) → Legal net → j < length net.jobs → IsJobAt net.jobs j x →
      get_or cells (input_cells net.space net.inputs + j) [] ≡ words_of basis x (operand_words cells x.terms)
  cell_is j x legal l is =
      job_cell_is words_of basis net (rows w (input_cells net.space net.inputs) inputs) j x legal (length-rows w (input_cells net.space net.inputs) inputs) l is.1

  pub input_cell : (c : ℕ) → c < input_cells net.space net.inputs → get_or cells c [] ≡ take w (drop (c * w) inputs)
  input_cell c l = let n = length-rows w (input_cells net.space net.inputs) inputs in
      input_cell_is words_of basis net (rows w (input_cells net.space net.inputs) inputs) c (omega arith)
      ∙ rows_at w (input_cells net.space net.inputs) c inputs l

operand_words-append : (words : List (List ℕ)) (ts us : List Term) → operand_words words (ts ++ us) ≡ operand_words words ts ++ operand_words words us
operand_words-append words [] us = refl
operand_words-append words (t ∷ ts) us = let w : List ℕ = get_or words t.cell [] in
    ap (λ xs. w ++ xs) (operand_words-append words ts us) ∙ sym (append_assoc w (operand_words words ts) (operand_words words us))

-- the words of one operand more
pub operand_words_more : (words : List (List ℕ)) (ts : List Term) (k : ℕ) (d : Term) → k < length ts →
    operand_words words (take k ts) ++ get_or words (get_or ts k d).cell [] ≡ operand_words words (take (k + 1) ts)
operand_words_more words ts k d l = let t : Term = get_or ts k d in
    sym (ap (operand_words words) (take_more ts k d l)
    ∙ (operand_words-append words (take k ts) (t ∷ []) ∙ ap (λ xs. operand_words words (take k ts) ++ xs) (append-nil (get_or words t.cell []))))
