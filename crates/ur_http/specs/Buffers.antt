-- What a splitter keeps of its bytes.
use Rattle.std.specs.Prelude.{◌≡◌, ℕ, ◌*◌, ◌<◌, ◌≤◌, List, ◌∷◌, ◌++◌, length, take, drop, All}
use Rattle.std.specs.List.{flat_map}
use Rattle.httparse.specs.Grammar.{LineEnd, print_end, print_blank, print_version, Field, IsField, print_field, RequestHead, IsRequestHead}
use Rattle.ur_http.specs.declared.sought.Known.{Known}
use Rattle.ur_http.specs.declared.sought.Known.TheVariants.{Nothing, EmptyLines, Fields, Waits}
use Rattle.ur_http.specs.Requests.{greatest_head}
use Rattle.ur_http.specs.Items.{window, greatest_request}
use Rattle.ur_http.specs.Reading.{IsWaiting}

-- empty lines alone
abbrev pub AreEmptyLines : List ℕ → Type 0
AreEmptyLines lines = (ends : List LineEnd) × (lines ≡ print_blank ends)

-- lines of fields alone
abbrev pub AreFields : List ℕ → Type 0
AreFields lines = (fields : List Field) × All IsField fields × (lines ≡ flat_map print_field fields)

-- a head without the empty line at its end
abbrev pub front_of : RequestHead → List ℕ
front_of h = print_blank h.blank
    ++ (h.method ++ 32 ∷ (h.target ++ 32 ∷ (print_version h.minor ++ (print_end h.line_end ++ flat_map print_field h.fields))))

-- the lines are a head without the empty line at its end
abbrev pub IsFront : List ℕ → Type 0
IsFront lines = (h : RequestHead) × IsRequestHead h × (lines ≡ front_of h)

-- what is known of bytes
abbrev pub IsKnown : List ℕ → Known → Type 0
IsKnown bytes Nothing = Unit {0}
IsKnown bytes (EmptyLines n) = (n ≤ length bytes) × AreEmptyLines (window (take n bytes))
IsKnown bytes (Fields n) = (n ≤ length bytes) × IsFront (window (take n bytes))
IsKnown bytes (Waits n) = IsWaiting bytes n

-- the bytes that are left begin at `from`, there are no more than a greatest request has, and there is room for them and
-- for the fields of a greatest head
pub record IsBuffer (bytes : List ℕ) (capacity from fields : ℕ) (known : Known) : Type 0 where
  pub begins : from ≤ length bytes
  pub within : length bytes ≤ greatest_request
  pub room : greatest_request ≤ capacity
  pub fields_room : greatest_head < 3 * fields
  pub is_known : IsKnown (drop from bytes) known
