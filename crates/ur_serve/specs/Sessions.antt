-- Sessions on connections, over any items and any answers to them.
use Rattle.std.specs.Prelude.{◌≡◌, ℕ, suc, ◌-◌, ◌<◌, min, Bool, true, false, ◌==◌, List, [], ◌∷◌, ◌++◌, length}
use Rattle.ur_io.specs.declared.session.Mark.{Mark}
use Rattle.ur_io.specs.declared.session.Mark.TheVariants as mark
use Rattle.ur_io.specs.declared.session.Why.{Why}
use Rattle.ur_io.specs.declared.session.Why.TheVariants.{Closed, Full, Wire}
use Rattle.ur_io.specs.declared.session.SessionEnd.{SessionEnd}

-- the most requests that a run answers
abbrev pub most_requests : ℕ
most_requests = 16777216

-- the most requests that are answered on one connection
abbrev pub most_of_one : ℕ
most_of_one = 1000

-- an answer's bytes, whether it closes the connection, and the state afterwards
pub record Answer (S : Type 0) : Type 0 where
  pub bytes : List ℕ
  pub closes : Bool
  pub after : S

-- The bytes begin with these items, one behind the other, and this is left. `Starts` says with which item bytes begin, and
-- what is left behind it.
module _ {I : Type 0} (Starts : List ℕ → I → List ℕ → Type 0) where
  pub data Front : List ℕ → List I → List ℕ → Type 0 where
    none : (bytes : List ℕ) → Front bytes [] bytes
    next : (bytes rest left : List ℕ) (item : I) (items : List I) → Starts bytes item rest → Front rest items left → Front bytes (item ∷ items) left

-- `Replies` says what answers an item at a state, told whether it is the last that is answered, and `Reaches` which items reach
-- a handler. A fault leaves what is `kept` of a state. The bytes that answer a keeper's fault and want of memory are fixed.
module _ {S I T : Type 0} (Replies : S → I → Bool → Answer S → Type 0) (Reaches : I → Type 0) (kept : S → T) (keeper_fault no_memory : List ℕ) where
  -- What marks stand for, at most so many of them: from a state, the items that they answer, the answers joined, whether
  -- the last of them closed, and the state afterwards. Behind a mark there is another only where its answer did not close.
  pub data Served (most : ℕ) (state : S) : List I → List Mark → List ℕ → Bool → S → Type 0 where
    none : Served most state [] [] [] false state
    -- an answer, the last where it has the last of the marks
    done : (items : List I) (marks : List Mark) (said : List ℕ) (now : S) (item : I) (answer : Answer S)
        → Served most state items marks said false now → length marks < most
        → Replies now item (suc (length marks) == most) answer
        → Served most state (items ++ item ∷ []) (marks ++ mark.Done ∷ []) (said ++ answer.bytes) answer.closes answer.after
    -- a keeper's fault in a request that reaches its handler
    keeper : (items : List I) (marks : List Mark) (said : List ℕ) (now after : S) (item : I)
        → Served most state items marks said false now → length marks < most → Reaches item → kept after ≡ kept now
        → Served most state (items ++ item ∷ []) (marks ++ mark.Keeper ∷ []) (said ++ keeper_fault) true after
    -- want of memory at the next item, whole or not yet whole, or at the input's end
    memory : (items : List I) (marks : List Mark) (said : List ℕ) (now after : S)
        → Served most state items marks said false now → length marks < most → kept after ≡ kept now
        → Served most state items (marks ++ mark.Memory ∷ []) (said ++ no_memory) true after

-- `Ends` says how a connection ends where such bytes are left.
module _ (Ends : List ℕ → Why → Type 0) where
  -- Why a session ends that the wire did not cut off: it has all its marks, or the last answer closed, or else what is left
  -- of its input ends so.
  abbrev pub EndsAs : (full closed : Bool) → List ℕ → Why → Type 0
  EndsAs true closed left why = why ≡ Full
  EndsAs false true left why = why ≡ Closed
  EndsAs false false left why = Ends left why

  -- all answers were given and the session ended so, or the wire failed and a front of them was given
  abbrev pub Gives : (full closed : Bool) → (left answers given : List ℕ) → Why → Type 0
  Gives full closed left answers given Wire = (rest : List ℕ) × (answers ≡ given ++ rest)
  Gives full closed left answers given why = (given ≡ answers) × EndsAs full closed left why

module _ {S I T : Type 0} (Starts : List ℕ → I → List ℕ → Type 0) (Ends : List ℕ → Why → Type 0) (Replies : S → I → Bool → Answer S → Type 0)
    (Reaches : I → Type 0) (kept : S → T) (keeper_fault no_memory : List ℕ) where
  -- A connection's session, from one state to another, with at most so many marks. The items that are answered are a front of
  -- what its bytes begin with; they are all of it where the session ended with its input.
  pub record Session (most : ℕ) (state : S) (bytes : List ℕ) (s : SessionEnd) (given : List ℕ) (after : S) : Type 0 where
    pub items : List I
    pub left : List ℕ
    pub front : Front Starts bytes items left
    pub answers : List ℕ
    pub closed : Bool
    pub served : Served Replies Reaches kept keeper_fault no_memory most state items s.marks answers closed after
    pub given_all : Gives Ends (length s.marks == most) closed left answers given s.why

  -- sessions on the first connections, in order, while so many requests may be answered
  abbrev pub RunsFrom : ℕ → S → List (List ℕ) → List SessionEnd → List (List ℕ) → S → Type 0
  RunsFrom requests state connections [] given after = (given ≡ []) × (after ≡ state)
  RunsFrom (suc requests) state (bytes ∷ connections) (s ∷ sessions) (first ∷ given) after =
      (middle : S) × Session (min most_of_one (suc requests)) state bytes s first middle
      × RunsFrom (suc requests - length s.marks) middle connections sessions given after
  RunsFrom requests state connections sessions given after = ⊥

  -- a whole run
  abbrev pub Runs : S → List (List ℕ) → List SessionEnd → List (List ℕ) → S → Type 0
  Runs = RunsFrom most_requests
