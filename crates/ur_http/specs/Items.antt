-- The items that a connection's bytes are cut into.
use Rattle.std.specs.Prelude.{◌≡◌, ◌≢◌, ◌⊎◌, ℕ, ◌<◌, ◌≤◌, ◌==◌, List, [], ◌∷◌, ◌++◌, length, take, drop, Option, Some, None, if◌then◌else◌}
use Rattle.std.specs.List.{list_any}
use Rattle.httparse.specs.Grammar.{RequestHead, print_request, ReadsRequest, HasNoRequest, NeverHasRequest}
use Rattle.ur_http.specs.declared.request.HttpRequest.{HttpRequest}
use Rattle.ur_http.specs.declared.request.Item.{Item}
use Rattle.ur_http.specs.declared.request.Item.TheVariants as item
use Rattle.ur_http.specs.Requests.{greatest_head, fault_of, body_length, request_of}

-- the bytes up to the last line end
abbrev pub whole_lines : List ℕ → List ℕ
whole_lines [] = []
whole_lines (b ∷ bytes) = if list_any (λ c. c == 10) (b ∷ bytes) then b ∷ whole_lines bytes else []

-- the bytes in which a head is sought
unfoldable pub window : List ℕ → List ℕ
window bytes = whole_lines (take greatest_head bytes)

-- the bytes begin with this head, and go on so
unfoldable pub BeginsWith : List ℕ → RequestHead → List ℕ → Type 0
BeginsWith bytes h rest =
    ((more : List ℕ) × ReadsRequest (window bytes) h more) × (rest ≡ drop (length (print_request h)) bytes)

-- the bytes may still become a head
unfoldable pub MayBegin : List ℕ → Type 0
MayBegin bytes = HasNoRequest (window bytes) × ¬ (NeverHasRequest (window bytes))

-- what the bytes of a connection begin with: a request, less than a whole one, or what is refused
pub data Step : Type 0 where
  request : HttpRequest → (rest : List ℕ) → Step
  more : Step
  fault : (status : ℕ) → Step

pub data Begins (bytes : List ℕ) : Step → Type 0 where
  whole : (h : RequestHead) (rest : List ℕ) → BeginsWith bytes h rest → fault_of h ≡ None → body_length h ≤ length rest
      → Begins bytes (request (request_of h (take (body_length h) rest)) (drop (body_length h) rest))
  refused : (h : RequestHead) (rest : List ℕ) (status : ℕ) → BeginsWith bytes h rest → fault_of h ≡ Some status → Begins bytes (fault status)
  no_body : (h : RequestHead) (rest : List ℕ) → BeginsWith bytes h rest → fault_of h ≡ None → length rest < body_length h → Begins bytes more
  malformed : NeverHasRequest (window bytes) → Begins bytes (fault 400)
  too_long : MayBegin bytes → greatest_head ≤ length bytes → Begins bytes (fault 431)
  no_head : MayBegin bytes → length bytes < greatest_head → Begins bytes more

-- how the items of a connection end
pub data Ending : Type 0 where
  at_end : Ending
  truncated : Ending
  bad : (status : ℕ) → Ending

-- the whole requests of the bytes, in order, and how they end
pub data Items : List ℕ → List HttpRequest → Ending → Type 0 where
  none : Items [] [] at_end
  cut : (bytes : List ℕ) → bytes ≢ [] → Begins bytes more → Items bytes [] truncated
  wrong : (bytes : List ℕ) (status : ℕ) → Begins bytes (fault status) → Items bytes [] (bad status)
  next : (bytes rest : List ℕ) (r : HttpRequest) (rs : List HttpRequest) (e : Ending)
      → Begins bytes (request r rest) → Items rest rs e → Items bytes (r ∷ rs) e

-- a connection's bytes have one list of items
abbrev pub OneList : List ℕ → Type 0
OneList bytes = (rs ss : List HttpRequest) (e f : Ending) → Items bytes rs e → Items bytes ss f → (rs ≡ ss) × (e ≡ f)

-- what the bytes begin with stays, whatever follows
abbrev pub StaysDecided : List ℕ → Type 0
StaysDecided bytes = (after : List ℕ) →
    ((status : ℕ) → Begins bytes (fault status) → Begins (bytes ++ after) (fault status))
    × ((r : HttpRequest) (rest : List ℕ) → Begins bytes (request r rest) → Begins (bytes ++ after) (request r (rest ++ after)))

-- ---- in pieces

-- one greatest request
abbrev pub greatest_request : ℕ
greatest_request = 1064960

-- the bytes that came and stand in no request given out, and the status with which the bytes were refused
pub record SplitterState : Type 0 where
  pub left : List ℕ
  pub refused : Option ℕ

abbrev pub empty : SplitterState
empty = record { left = []; refused = None }

-- `next` answered this item
abbrev pub Gives : SplitterState → Item → SplitterState → Type 0
Gives s (item.Request r) t =
    (s.refused ≡ None) × ((rest : List ℕ) × Begins s.left (request r rest) × (t ≡ record { left = rest; refused = None }))
Gives s item.NeedMore t = (s.refused ≡ None) × Begins s.left more × (t ≡ s)
Gives s (item.Bad status) t =
    (t.refused ≡ Some status) × (t.left ≡ s.left) × ((s.refused ≡ Some status) ⊎ ((s.refused ≡ None) × Begins s.left (fault status)))
