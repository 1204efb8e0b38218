-- What the forms in memory hold, all of which they tell.
use Rattle.std.specs.Prelude.{◌≡◌, ◌<◌, ◌≤◌, ℕ, ◌+◌, ◌-◌, Bool, true, false, List, [], ◌∷◌, ◌++◌, length, map, take, drop, get_or, Some, None, Contains, if◌then◌else◌, nat_lt, bytes_eq}
use Rattle.std.specs.List.{flat_map}
use Rattle.ur_base.specs.FaultPlans.{PlanState, after_ok}
use Rattle.ur_base.specs.Rooms.{RoomOf}
use Rattle.ur_io.specs.Files.{Files}
use Rattle.ur_io.specs.Traffic.{Traffic, onto_last}

-- ---- a shelf

pub record ShelfState : Type 0 where
  pub files : List (List ℕ × List ℕ)
  pub plan : PlanState

-- the first file of the name
abbrev pub file_of : List (List ℕ × List ℕ) → Files
file_of [] name = None
file_of (file ∷ files) name = if bytes_eq file.0 name then Some file.1 else file_of files name

-- ---- bytes given

-- the bytes given, and how many more are taken
pub record SpaceState : Type 0 where
  pub given : List ℕ
  pub room : ℕ

-- no byte of the piece is taken, which is not empty
abbrev pub IsFull : ℕ → List ℕ → Type 0
IsFull room piece = (room ≡ 0) × (0 < length piece)

-- ---- a sink

pub record SinkState : Type 0 where
  pub given : List ℕ
  -- how many bytes it still takes
  pub room : ℕ
  pub plan : PlanState

-- n bytes of the piece's front were taken
abbrev pub after_print : SinkState → ℕ → List ℕ → SinkState
after_print s n piece = record { given = s.given ++ take n piece; room = s.room - n; plan = after_ok s.plan }

-- ---- a wire

pub record WireState : Type 0 where
  -- each connection's input, cut in pieces; how many were made current; how many bytes of the last were taken
  pub connections : List (List (List ℕ))
  pub opened : ℕ
  pub taken : ℕ
  pub is_current : Bool
  -- what was given on each connection that was made current, and how many bytes are still taken in all
  pub given : List (List ℕ)
  pub room : ℕ
  pub plan : PlanState

-- a connection's input
abbrev pub joined : List (List ℕ) → List ℕ
joined pieces = flat_map (λ piece. piece) pieces

-- the pieces of the connection that was made current last, none where none was
abbrev pub pieces_at : List (List (List ℕ)) → ℕ → List (List ℕ)
pieces_at connections opened = get_or (take opened connections) (opened - 1) []

-- the input of the connection that was made current last
abbrev pub last_input : WireState → List ℕ
last_input w = joined (pieces_at w.connections w.opened)

abbrev pub traffic_of : WireState → Traffic
traffic_of w = record {
  coming = map joined (drop w.opened w.connections);
  taken = take w.taken (last_input w);
  left = drop w.taken (last_input w);
  given = w.given;
}

-- how many bytes of the input stand before the byte of this piece at this place
abbrev pub place_of : List (List ℕ) → ℕ → ℕ → ℕ
place_of pieces piece at = length (joined (take piece pieces)) + at

-- what is left of the piece that has the byte at this place of the input, nothing at the input's end
abbrev pub piece_from : ℕ → List (List ℕ) → List ℕ
piece_from place [] = []
piece_from place (piece ∷ pieces) = if nat_lt place (length piece) then drop place piece else piece_from (place - length piece) pieces

-- what the next read gives at most
abbrev pub next_piece : WireState → List ℕ
next_piece w = piece_from w.taken (pieces_at w.connections w.opened)

-- a connection is still to come
abbrev pub comes : WireState → Bool
comes w = nat_lt w.opened (length w.connections)

-- the next connection is current
abbrev pub after_open : WireState → WireState
after_open w = record w { opened = w.opened + 1; taken = 0; is_current = true; given = w.given ++ [] ∷ []; plan = after_ok w.plan }

-- the next connection is current, or none is where none comes
abbrev pub after_next : WireState → WireState
after_next w = if comes w then after_open w else record w { is_current = false; plan = after_ok w.plan }

-- n bytes of the input were taken
abbrev pub after_take : WireState → ℕ → WireState
after_take w n = record w { taken = w.taken + n; plan = after_ok w.plan }

-- n bytes of the piece's front were given
abbrev pub after_give : WireState → ℕ → List ℕ → WireState
after_give w n piece = record w { given = onto_last w.given (take n piece); room = w.room - n; plan = after_ok w.plan }

-- ---- how fields are seen

-- bytes cut at these places, each the number of bytes before a part
abbrev pub cut_at : List ℕ → List ℕ → List (List ℕ)
cut_at [] bytes = []
cut_at (start ∷ []) bytes = drop start bytes ∷ []
cut_at (start ∷ next ∷ starts) bytes = take (next - start) (drop start bytes) ∷ cut_at (next ∷ starts) bytes

-- the places rise, none beyond the end
abbrev pub Rises : List ℕ → ℕ → Type 0
Rises [] end = Unit {0}
Rises (start ∷ []) end = start ≤ end
Rises (start ∷ next ∷ starts) end = (start ≤ next) × Rises (next ∷ starts) end

-- what is true of a wire's fields: its connections, the place in the input, where the parts that were given start, and the bytes given
pub record IsWire (connections : List (List (List ℕ))) (opened piece at : ℕ) (starts : RoomOf ℕ) (given : List ℕ) : Type 0 where
  pub opened_within : opened ≤ length connections
  pub at_within : at ≤ length (get_or (pieces_at connections opened) piece [])
  pub started : length starts.items ≡ opened
  pub room_to_start : length connections ≤ opened + starts.spare
  pub rises : Rises starts.items (length given)
