-- The bytes of answers.
use Rattle.std.specs.Prelude.{ℕ, Bool, true, false, ◌==◌, List, [], ◌∷◌, ◌++◌, length, if◌then◌else◌, codes, decimal}
use Rattle.std.specs.List.{flat_map}

abbrev pub crlf : List ℕ
crlf = 13 ∷ 10 ∷ []

-- the statuses that are sent, with their phrases
abbrev pub phrases : List (ℕ × List ℕ)
phrases = (200, codes "OK") ∷ (400, codes "Bad Request") ∷ (404, codes "Not Found") ∷ (405, codes "Method Not Allowed")
    ∷ (413, codes "Content Too Large") ∷ (431, codes "Request Header Fields Too Large") ∷ (500, codes "Internal Server Error")
    ∷ (501, codes "Not Implemented") ∷ (502, codes "Bad Gateway") ∷ (503, codes "Service Unavailable") ∷ []

abbrev pub phrase_in : List (ℕ × List ℕ) → ℕ → List ℕ
phrase_in [] status = []
phrase_in (entry ∷ entries) status = if entry.0 == status then entry.1 else phrase_in entries status

abbrev pub is_sent : List (ℕ × List ℕ) → ℕ → Bool
is_sent [] status = false
is_sent (entry ∷ entries) status = if entry.0 == status then true else is_sent entries status

abbrev pub status_text : ℕ → List ℕ
status_text status = decimal status ++ codes " " ++ phrase_in phrases status

-- the body of an answer that has none of its own
abbrev pub status_page : ℕ → List ℕ
status_page status = codes "<!DOCTYPE html>" ++ 10 ∷ codes "<html><head><title>" ++ status_text status
    ++ codes "</title></head><body>" ++ status_text status ++ codes "</body></html>"

unfoldable pub set_cookie : List ℕ × List ℕ → List ℕ
set_cookie (name, segment) = codes "Set-Cookie: " ++ name ++ codes "=" ++ segment ++ codes "; Path=/" ++ crlf

-- a line of the head, where it is wanted
abbrev pub line_if : Bool → List ℕ → List ℕ
line_if wanted line = if wanted then line ++ crlf else []

-- the lines that every head has
unfoldable pub first_lines : ℕ → ℕ → List ℕ
first_lines status len =
    codes "HTTP/1.1 " ++ status_text status ++ crlf
    ++ codes "Content-Type: text/html; charset=utf-8" ++ crlf
    ++ codes "Content-Length: " ++ decimal len ++ crlf

-- an answer's bytes; an answer to HEAD has the length of the body and leaves the body out
unfoldable pub respond : ℕ → List ℕ → List (List ℕ × List ℕ) → List ℕ → Bool → Bool → List ℕ
respond status allow cookies body head_only close =
    first_lines status (length body)
    ++ line_if (status == 405) (codes "Allow: " ++ allow)
    ++ flat_map set_cookie cookies
    ++ line_if close (codes "Connection: close")
    ++ crlf ++ (if head_only then [] else body)

-- an answer of this status with its own page
unfoldable pub status_answer : ℕ → List ℕ → Bool → Bool → List ℕ
status_answer status allow head_only close = respond status allow [] (status_page status) head_only close

-- the answer to a keeper's fault, 502, and to want of memory, 503
unfoldable pub fixed : ℕ → List ℕ
fixed status = status_answer status [] false true
