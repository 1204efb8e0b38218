-- The requests that `load` generates.
use Rattle.std.specs.Prelude.{ℕ, zero, suc, ◌+◌, ◌*◌, ◌/◌, ◌%◌, ◌<◌, if◌then◌else◌, nat_lt, List, [], ◌∷◌, ◌++◌, length, codes, decimal}

-- the generator's state before the next request
abbrev pub next_state : ℕ → ℕ
next_state x = (x * 16807) % 2147483647

-- GET of a user's list
abbrev pub list_request : ℕ → List ℕ
list_request u = codes "GET /Main/list/u" ++ decimal u ++ codes " HTTP/1.1\r\nHost: localhost\r\n\r\n"

abbrev pub post_request : List ℕ → List ℕ → List ℕ
post_request path body = codes "POST /Main/" ++ path ++ codes " HTTP/1.1\r\nHost: localhost\r\nContent-Length: " ++ decimal (length body) ++ codes "\r\n\r\n" ++ body

-- POST of a note of a user
abbrev pub add_request : ℕ → ℕ → List ℕ
add_request u v = post_request (codes "add/u" ++ decimal u) (codes "Body=b" ++ decimal v)

-- POST that drops a note
abbrev pub drop_request : ℕ → List ℕ
drop_request n = post_request (codes "drop/" ++ decimal n) []

-- the request of a state
abbrev pub request : ℕ → List ℕ
request x = if nat_lt (x % 8) 5 then list_request (x / 8 % 4)
    else if nat_lt (x % 8) 7 then add_request (x / 8 % 4) (x / 32 % 100)
    else drop_request (x / 32 % 50 + 1)

-- so many requests from a state on
abbrev pub requests : ℕ → ℕ → List (List ℕ)
requests zero x = []
requests (suc n) x = request (next_state x) ∷ requests n (next_state x)
