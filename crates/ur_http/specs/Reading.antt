-- Words on what is read of a head, and on what is known of bytes whose first request is not yet whole.
use Rattle.std.specs.Prelude.{◌≡◌, ℕ, ◌+◌, ◌<◌, ◌≤◌, List, [], ◌∷◌, length, take, drop, None}
use Rattle.httparse.specs.Grammar.{RequestHead, print_request}
use Rattle.ur_http.specs.declared.fields.Field.{Field}
use Rattle.ur_http.specs.declared.fields.Only.{Only}
use Rattle.ur_http.specs.declared.fields.Only.TheVariants.{Missing, One, Several}
use Rattle.ur_http.specs.declared.request.HttpRequest.{HttpRequest}
use Rattle.ur_http.specs.declared.starts.Begun.{Begun}
use Rattle.ur_http.specs.declared.starts.Begun.TheVariants.{Request, Waits, Seeks, Fault}
use Rattle.ur_http.specs.Requests.{fault_of, body_length}
use Rattle.ur_http.specs.Items.{BeginsWith, Begins, request, more, fault}

abbrev pub field_pair : Field → List ℕ × List ℕ
field_pair f = (f.name.now, f.value.now)

-- these are the values
abbrev pub IsOnly : Only → List (List ℕ) → Type 0
IsOnly Missing values = values ≡ []
IsOnly (One value) values = values ≡ value.now ∷ []
IsOnly Several values = (a : List ℕ) × (b : List ℕ) × (more : List (List ℕ)) × (values ≡ a ∷ b ∷ more)

-- ---- bytes whose first request is not yet whole

-- the head and the body end at this length
abbrev pub IsWaiting : List ℕ → ℕ → Type 0
IsWaiting bytes n = (h : RequestHead) × (rest : List ℕ) × BeginsWith bytes h rest × (fault_of h ≡ None) × (n ≡ length (print_request h) + body_length h)

-- what the bytes begin with
abbrev pub IsBegun : List ℕ → Begun → Type 0
IsBegun bytes (Request r n) = Begins bytes (request r (drop n bytes)) × (n ≤ length bytes)
IsBegun bytes (Waits n) = Begins bytes more × IsWaiting bytes n
IsBegun bytes Seeks = Begins bytes more
IsBegun bytes (Fault status) = Begins bytes (fault status)

-- the request of a head of this length with its body, or the length that is waited for
abbrev pub IsBody : List ℕ → ℕ → ℕ → (List ℕ → HttpRequest) → Begun → Type 0
IsBody bytes len body made (Request r n) = (len + body ≤ length bytes) × (n ≡ len + body) × (r ≡ made (take body (drop len bytes)))
IsBody bytes len body made (Waits n) = (length bytes < len + body) × (n ≡ len + body)
IsBody bytes len body made Seeks = ⊥
IsBody bytes len body made (Fault status) = ⊥
