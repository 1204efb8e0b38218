-- What is said to an arrival, and what its writing does to the session.
use Rattle.std.specs.Prelude.{◌≡◌, ℕ, Bool, true, false, List, Option, Some, None, ⊤}
use Rattle.ur_base.specs.Told.{Tells}
use Rattle.ur_io.specs.Fronts.{IsFront}
use Rattle.ur_io.specs.Traffic.{Traffic, after_write}
use Rattle.ur_io.specs.declared.session.Mark.{Mark}
use Rattle.ur_io.specs.declared.session.Mark.TheVariants as mark
use Rattle.ur_io.specs.declared.session.Why.{Why}
use Rattle.ur_io.specs.declared.session.Why.TheVariants.{Closed, Full, Wire}
use Rattle.ur_http.specs.declared.request.HttpRequest.{HttpRequest}
use Rattle.ur_http.specs.Answers.{fixed}
use Rattle.ur_serve.specs.declared.arrivals.Arrival.{Arrival}
use Rattle.ur_serve.specs.declared.arrivals.Arrival.TheVariants as arrival
use Rattle.ur_serve.specs.declared.saying.Said.{Said}
use Rattle.ur_serve.specs.declared.saying.Said.TheVariants as said
use Rattle.ur_serve.specs.Items.{Item, request, bad}
use Rattle.ur_serve.specs.Sessions.{Answer}
use Rattle.ur_serve.specs.Programs.{Replies, ReachesHandler}

abbrev pub mark_of : Said → Mark
mark_of (said.Answer bytes closes) = mark.Done
mark_of said.Keeper = mark.Keeper
mark_of said.Memory = mark.Memory

abbrev pub closes_of : Said → Bool
closes_of (said.Answer bytes closes) = closes
closes_of other = true

abbrev pub bytes_of : Said → List ℕ
bytes_of (said.Answer bytes closes) = bytes
bytes_of said.Keeper = fixed 502
bytes_of said.Memory = fixed 503

-- what is said to a request alone may keep the connection
abbrev pub MayKeep : Arrival → Bool → Type 0
MayKeep (arrival.Request q) closes = ⊤
MayKeep came closes = closes ≡ true

-- P of the item that came, where one did
abbrev pub OfItem : Arrival → (Item → Type 0) → Type 0
OfItem (arrival.Request q) P = P (request q)
OfItem (arrival.Bad status) P = P (bad status)
OfItem other P = ⊥

-- what is said to an arrival at a state: the answer, or that the keeper failed, or that memory is wanting
abbrev pub Says : {S T : Type 0} → (S → HttpRequest → Bool → Answer S → Type 0) → (HttpRequest → Type 0) → (S → T) → S → Arrival → Bool → Said → Option S → Type 0
Says Answers Reaches kept state came last (said.Answer bytes closes) after = OfItem came (λ item.
    (a : Answer _) × Replies Answers Reaches kept state item last a × (a.bytes ≡ bytes) × (a.closes ≡ closes) × (after ≡ Some a.after))
Says Answers Reaches kept state came last said.Keeper after = OfItem came (ReachesHandler Answers Reaches kept) × Tells after (λ now. kept now ≡ kept state)
Says Answers Reaches kept state came last said.Memory after = Tells after (λ now. kept now ≡ kept state)

-- the bytes were given, or the wire failed, the session is over, and a front of them was given
abbrev pub Writes : Traffic → List ℕ → Option Why → Option Traffic → Type 0
Writes t bytes (Some Wire) new = (front : List ℕ) × IsFront front bytes × (new ≡ Some (after_write t front))
Writes t bytes over new = new ≡ Some (after_write t bytes)

-- whether a session is over after an answer that was given, and why
abbrev pub over_after : (full closed : Bool) → Option Why
over_after true closed = Some Full
over_after false true = Some Closed
over_after false false = None

-- it is over so, or by the wire
abbrev pub IsOver : (full closed : Bool) → Option Why → Type 0
IsOver full closed (Some Wire) = ⊤
IsOver full closed over = over ≡ over_after full closed
