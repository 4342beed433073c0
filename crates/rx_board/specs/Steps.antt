-- What each step on a word tells: what becomes of the own view, and what the word that was read tells.
-- What a step asks of the own view, where the rule does not force it, is a part of what it tells.
use Rattle.std.specs.Prelude.{◌≡◌, ℕ, ◌+◌, ◌<◌, ◌≤◌, ◌==◌, cond, ◌⊎◌, [], ◌∷◌, ◌++◌, length, slice_index, Contains, Some, None}
use Rattle.atomic_table.specs.Table.{Me, Step as Change}
use Rattle.rx_board.specs.declared.view.Plan.{Plan}
use Rattle.rx_board.specs.declared.view.View.{View}
use Rattle.rx_board.specs.Rule.{holding, holds_job, job_count, cell, state_place, count_place, word_place, IsOperandAt, uses_in, owner_in}

-- what becomes of a view that finds the job j in the state r
abbrev pub found_at : View → ℕ → ℕ → View
found_at v j r = record v {
  known = cond (r == 2) (v.known ++ j ∷ []) v.known;
  met = v.met ++ record { job = j; state = r } ∷ [];
}

-- that claims it, where it is free
abbrev pub claimed_at : View → ℕ → ℕ → View
claimed_at v j r = record (found_at v j r) { held = cond (r == 0) (Some (holding j 0 0)) v.held }

-- that finds the count r
abbrev pub counted_at : View → ℕ → ℕ → View
counted_at v j r = record v { ready = cond (r == 0) (v.ready ++ j ∷ []) v.ready }

-- that publishes it
abbrev pub published_at : View → ℕ → View
published_at v j = record v { known = v.known ++ j ∷ []; held = None; ran = v.ran ++ j ∷ [] }

-- the view of a seat that is split off
abbrev pub given : View → View
given v = record v { held = None; ran = []; met = [] }

-- the view of a seat to which another was joined
abbrev pub both_of : View → View → View
both_of v w = record v { known = v.known ++ w.known; ready = v.ready ++ w.ready; ran = v.ran ++ w.ran }

-- what a seat has: its view, and the slots that it holds, which are none
abbrev Stand : Type 0
Stand = Me (Unit {0}) View

-- each operand job is known
pub record IsReady (p : Plan) (v : View) (j : ℕ) : Type 0 where
  pub all : (k o : ℕ) → IsOperandAt p j k o → Contains v.known o

-- the job c is known, or an operand job of a ready job
abbrev pub MayRead : Plan → View → ℕ → Type 0
MayRead p v c = Contains v.known c ⊎ ((j : ℕ) × (k : ℕ) × Contains v.ready j × IsOperandAt p j k c)

-- load state
abbrev pub looked : Change (Unit {0}) → Stand → ℕ → Stand → Type 0
looked st m r m' = (p : Plan) (j : ℕ) → m.0.plan ≡ Some p → j < job_count p → st.word ≡ state_place p.width j
    → (m' ≡ (found_at m.0 j r, m.1)) × (r ≤ 2) × (holds_job j m.0.held ≡ 0) × (Contains m.0.known j → r ≡ 2)

-- load count
abbrev pub counted_load : Change (Unit {0}) → Stand → ℕ → Stand → Type 0
counted_load st m r m' = (p : Plan) (j : ℕ) → m.0.plan ≡ Some p → j < job_count p → st.word ≡ count_place p.width j
    → (m' ≡ (counted_at m.0 j r, m.1)) × (IsReady p m.0 j → r ≡ 0)

-- load word
abbrev pub read_word : Change (Unit {0}) → Stand → ℕ → Stand → Type 0
read_word st m r m' = (p : Plan) (j q : ℕ) → m.0.plan ≡ Some p → j < job_count p → q < p.width
    → st.word ≡ word_place p.width j q
    → (m' ≡ m) × MayRead p m.0 j × (r ≡ slice_index (cell p j) q) × (length (cell p j) ≡ p.width)

-- claim
abbrev pub claimed : Change (Unit {0}) → Stand → ℕ → Stand → Type 0
claimed st m r m' = (p : Plan) (j : ℕ) → m.0.plan ≡ Some p → j < job_count p → st.word ≡ state_place p.width j
    → (m' ≡ (claimed_at m.0 j r, m.1)) × (r ≤ 2) × (m.0.held ≡ None) × Contains m.0.ready j
    × (Contains m.0.known j → r ≡ 2) × (Contains m.0.ran j → r ≡ 2)

-- store word
abbrev pub stored : Change (Unit {0}) → Stand → ℕ → Stand → Type 0
stored st m r m' = (p : Plan) (j q : ℕ) → m.0.plan ≡ Some p → m.0.held ≡ Some (holding j q 0)
    → st.word ≡ word_place p.width j q
    → m' ≡ (record m.0 { held = Some (holding j (q + 1) 0) }, m.1)

-- credit of the next use of the held job's cell
abbrev pub credited : Change (Unit {0}) → Stand → ℕ → Stand → Type 0
credited st m r m' = (p : Plan) (j e : ℕ) → m.0.plan ≡ Some p → m.0.held ≡ Some (holding j p.width e)
    → e < length (uses_in p j)
    → st.word ≡ count_place p.width (owner_in p (slice_index (uses_in p j) e))
    → m' ≡ (record m.0 { held = Some (holding j p.width (e + 1)) }, m.1)

-- publish
abbrev pub published : Change (Unit {0}) → Stand → ℕ → Stand → Type 0
published st m r m' = (p : Plan) (j : ℕ) → m.0.plan ≡ Some p
    → m.0.held ≡ Some (holding j p.width (length (uses_in p j))) → st.word ≡ state_place p.width j
    → m' ≡ (published_at m.0 j, m.1)

-- give back
abbrev pub given_back : Change (Unit {0}) → Stand → ℕ → Stand → Type 0
given_back st m r m' = (p : Plan) (j : ℕ) → m.0.plan ≡ Some p → m.0.held ≡ Some (holding j 0 0)
    → st.word ≡ state_place p.width j
    → m' ≡ (record m.0 { held = None }, m.1)
