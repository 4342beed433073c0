-- What the laws of a board mean, in words of single views.
use Rattle.std.specs.Prelude.{◌≡◌, ℕ, ◌<◌, ◌≤◌, ◌⊎◌, List, length, Contains, Some}
use mathlib.Core.Option.{some}
use lib.ListN.{get_elem?}
use Rattle.rx_board.specs.declared.view.Plan.{Plan}
use Rattle.rx_board.specs.declared.view.View.{View}
use Rattle.rx_board.specs.Rule.{times, holding, spent, job_count, cell, uses_in, owner_in, owed, passed, HasWords, Laws}

module _ (p : Plan) (st : ℕ → ℕ) (wd : ℕ → ℕ → ℕ) (ct : ℕ → ℕ) (views : List View) where
  abbrev pub At : ℕ → View → Type 0
  At i v = get_elem? views i ≡ some v

  -- states st, words wd and counts ct of jobs, beside these views, of which view i is v by `At i v`
  pub record Meaning : Type 0 where
    -- a state is free, taken or present
    pub states : (j : ℕ) → j < job_count p → st j ≤ 2
    -- a view has the board's plan, or is that of a seat that was joined to another
    pub plans : (i : ℕ) (v : View) → At i v → (v.plan ≡ Some p) ⊎ (v ≡ spent)
    -- the words of a present job are those of its cell
    pub present : (j : ℕ) → j < job_count p → st j ≡ 2 → (length (cell p j) ≡ p.width) × HasWords p st wd ct j p.width
    -- a known job is present
    pub known : (i : ℕ) (v : View) (j : ℕ) → At i v → Contains v.known j → st j ≡ 2
    -- a held job is taken, and its words that are stored are those of its cell
    pub held : (i : ℕ) (v : View) (j q e : ℕ) → At i v → v.held ≡ Some (holding j q e) →
        (st j ≡ 1) × (q ≤ p.width) × HasWords p st wd ct j q × (e ≤ length (uses_in p j))
    -- no second view holds it
    pub held_alone : (i k : ℕ) (v w : View) (j q e r f : ℕ) → At i v → At k w → v.held ≡ Some (holding j q e) →
        w.held ≡ Some (holding j r f) → i ≡ k
    -- each taken job is held
    pub taken_held : (j : ℕ) → j < job_count p → st j ≡ 1 →
        (i : ℕ) × (v : View) × (q : ℕ) × (e : ℕ) × At i v × (v.held ≡ Some (holding j q e))
    -- a job that was run is present and known, and stands once in that list
    pub ran : (i : ℕ) (v : View) (j : ℕ) → At i v → Contains v.ran j →
        (st j ≡ 2) × Contains v.known j × (times j v.ran ≡ 1)
    -- and in no other view's
    pub ran_alone : (i k : ℕ) (v w : View) (j : ℕ) → At i v → At k w → Contains v.ran j → Contains w.ran j → i ≡ k
    -- each present job was run
    pub present_ran : (j : ℕ) → j < job_count p → st j ≡ 2 → (i : ℕ) × (v : View) × At i v × Contains v.ran j
    -- use k of the cell of j is credited only where j is present, or where a view holds j with all words and has passed the use
    pub credited : (j : ℕ) → j < job_count p → (k : ℕ) → k < passed p st views j →
        (st j ≡ 2) ⊎ ((i : ℕ) × (v : View) × (e : ℕ) × At i v × (v.held ≡ Some (holding j p.width e)) × (k < e))
    -- each use of a present job is credited
    pub present_credited : (j : ℕ) → j < job_count p → st j ≡ 2 → passed p st views j ≡ length (uses_in p j)
    -- each use that such a view has passed is credited
    pub passed_credited : (j : ℕ) → j < job_count p → (k i : ℕ) (v : View) (q e : ℕ) → At i v → v.held ≡ Some (holding j q e) →
        k < e → k < passed p st views j
    -- the count of a job is the number of its uses of job cells that are not credited
    pub counts : (j : ℕ) → j < job_count p → ct j ≡ owed (uses_in p) (owner_in p) (passed p st views) j (job_count p)
    -- a ready job has the count 0
    pub ready : (i : ℕ) (v : View) (j : ℕ) → At i v → Contains v.ready j → ct j ≡ 0

abbrev pub LawsMean : Type 0
LawsMean = (p : Plan) (st : ℕ → ℕ) (wd : ℕ → ℕ → ℕ) (ct : ℕ → ℕ) (views : List View) →
    Laws p st wd ct views → Meaning p st wd ct views
