-- The law of the items that bytes begin with.
use Rattle.std.specs.Prelude.{◌≡◌, ℕ, List, [], ◌∷◌, length}
use Rattle.ur_io.specs.declared.session.Why.{Why}
use Rattle.ur_io.specs.declared.session.Why.TheVariants.{End, Truncated}
use Rattle.ur_http.specs.declared.request.HttpRequest.{HttpRequest}
use Rattle.ur_http.specs.Items.{Items, Ending, at_end, truncated, bad as ends_bad}
use Rattle.ur_serve.specs.Items.{Item, request, bad, Starts, Ends}
use Rattle.ur_serve.specs.Sessions.{Front}

-- the items of whole requests and of how they end: bytes that are refused are an item too
abbrev pub items_of : List HttpRequest → Ending → List Item
items_of (q ∷ qs) e = request q ∷ items_of qs e
items_of [] (ends_bad status) = bad status ∷ []
items_of [] at_end = []
items_of [] truncated = []

-- how a connection ends whose last item is no refusal
abbrev pub end_of : Ending → Why
end_of at_end = End
end_of e = Truncated

-- Two fronts of as many items have the same items and leave the same. Where the bytes have a list of all items and the input ends
-- behind a front, the front's items are all of them, and its end is theirs.
pub record OneFront (bytes : List ℕ) : Type 0 where
  pub same : (xs ys : List Item) (left rest : List ℕ) → Front Starts bytes xs left → Front Starts bytes ys rest → length xs ≡ length ys
      → (xs ≡ ys) × (left ≡ rest)
  pub all : (xs : List Item) (left : List ℕ) (why : Why) (qs : List HttpRequest) (e : Ending) → Front Starts bytes xs left → Ends left why
      → Items bytes qs e → (xs ≡ items_of qs e) × (why ≡ end_of e)
