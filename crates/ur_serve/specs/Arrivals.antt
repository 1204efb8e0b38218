-- What comes on a connection.
use Rattle.std.specs.Prelude.{◌≡◌, ◌≤◌, ℕ, List, [], ◌++◌, length, Option, None, IsTrue, ⊤}
use Rattle.ur_base.specs.Told.{Tells}
use Rattle.ur_io.specs.Traffic.{Traffic}
use Rattle.ur_io.specs.declared.session.Why.{Why}
use Rattle.ur_io.specs.declared.session.Why.TheVariants.{End, Truncated, Wire}
use Rattle.ur_http.specs.Items.{Begins, fault, request as whole}
use Rattle.ur_serve.specs.declared.arrivals.Arrival.{Arrival}
use Rattle.ur_serve.specs.declared.arrivals.Arrival.TheVariants.{Request, Bad, Memory, Ended}
use Rattle.ur_http.specs.Answers.{is_sent, phrases}
use Rattle.ur_http.specs.Texts.{IsText}
use Rattle.ur_serve.specs.Items.{Ends}

-- nothing was given, and no connection was taken
abbrev pub HasGiven : Traffic → Traffic → Type 0
HasGiven t u = (u.given ≡ t.given) × (u.coming ≡ t.coming)

-- at most so many bytes were taken from the front of the input
abbrev pub HasTaken : ℕ → Traffic → Traffic → Type 0
HasTaken most t u = (front : List ℕ) × (t.left ≡ front ++ u.left) × (length front ≤ most)

-- The input ended so, with these bytes not yet asked for, or the wire failed.
abbrev pub InputEnds : List ℕ → List ℕ → Why → Type 0
InputEnds rest left End = Ends rest End × (left ≡ [])
InputEnds rest left Truncated = Ends rest Truncated × (left ≡ [])
InputEnds rest left Wire = ⊤
InputEnds rest left why = ⊥

-- Of the bytes that were not yet given out in an item this came; then these are not yet given out, the last of them on the wire.
abbrev pub Comes : (old new left : List ℕ) → Arrival → Type 0
Comes old new left (Request q) = Begins old (whole q new)
Comes old new left (Bad status) = Begins old (fault status)
Comes old new left Memory = ⊤
Comes old new left (Ended why) = InputEnds old left why

-- the same, of a wire that tells its traffic and of the bytes that the splitter holds
abbrev pub ComesOn : (held held' : List ℕ) → Arrival → Traffic → Option Traffic → Type 0
ComesOn held held' arrival t new = Tells new (λ u. HasGiven t u × Comes (held ++ t.left) (held' ++ u.left) u.left arrival)

-- some bytes went from the wire to the splitter; none only at the input's end
pub record IsFed (t : Traffic) (n : ℕ) (held held' : List ℕ) (u : Traffic) : Type 0 where
  pub same : HasGiven t u
  pub joined : held' ++ u.left ≡ held ++ t.left
  pub ended : n ≡ 0 → u.left ≡ []

-- what is known of an arrival, whether or not the wire tells
abbrev pub IsAnswerable : Arrival → Option ℕ → Type 0
IsAnswerable (Request q) refused = refused ≡ None
IsAnswerable (Bad status) refused = IsTrue (is_sent phrases status)
IsAnswerable other refused = ⊤

-- a request that came is text
abbrev pub IsTextArrival : Arrival → Type 0
IsTextArrival (Request q) = IsText q
IsTextArrival other = ⊤
