-- The limits on what a typed source declares.
use Rattle.std.specs.Prelude.{◌≡◌, ℕ, Bool, false, ◌||◌, nat_lt, List, [], ◌∷◌, length, codes, Option}
use Rattle.std.specs.List.{list_any, find}
use Rattle.ur_sql.specs.Nodes.{query_nodes, change_nodes}
use Rattle.ur_tree.specs.declared.typed.Typed.{Typed}
use Rattle.ur_check_limits.specs.declared.limit.Limit.{Limit}
use Rattle.ur_check_limits.specs.declared.limit.Limit.TheVariants as limit

-- the words that name it, and the most there may be
abbrev pub name_of : Limit → List ℕ
name_of limit.Tables = codes "tables"
name_of limit.Columns = codes "columns per table"
name_of limit.Sequences = codes "sequences"
name_of limit.Routes = codes "routes"
name_of limit.Sites = codes "sites"
name_of limit.Updates = codes "updates"
name_of limit.Items = codes "items of FROM"
name_of limit.Antiquotes = codes "antiquotes per statement"
name_of limit.Parameters = codes "parameters per function"
name_of limit.Nodes = codes "sql nodes"

abbrev pub text_of : Limit → List ℕ
text_of limit.Tables = codes "256"
text_of limit.Columns = codes "64"
text_of limit.Sequences = codes "256"
text_of limit.Routes = codes "1024"
text_of limit.Sites = codes "256"
text_of limit.Updates = codes "256"
text_of limit.Items = codes "3"
text_of limit.Antiquotes = codes "16"
text_of limit.Parameters = codes "16"
text_of limit.Nodes = codes "16384"

-- The source has more than the limit.
abbrev pub is_exceeded : Typed → Limit → Bool
is_exceeded app limit.Tables = nat_lt 256 (length app.schema.tables)
is_exceeded app limit.Columns = list_any (λ t. nat_lt 64 (length t.columns)) app.schema.tables
is_exceeded app limit.Sequences = nat_lt 256 (length app.schema.sequences)
is_exceeded app limit.Routes = nat_lt 1024 (length app.handlers.routes)
is_exceeded app limit.Sites = nat_lt 256 (length app.queries)
is_exceeded app limit.Updates = nat_lt 256 (length app.changes)
is_exceeded app limit.Items = list_any (λ q. nat_lt 3 (length q.from)) app.queries
is_exceeded app limit.Antiquotes = list_any (λ q. nat_lt 16 (length q.params)) app.queries || list_any (λ u. nat_lt 16 (length u.params)) app.changes
is_exceeded app limit.Parameters = list_any (λ f. nat_lt 16 (length f.params)) app.functions
is_exceeded app limit.Nodes = list_any (λ q. nat_lt 16384 (query_nodes q)) app.queries || list_any (λ u. nat_lt 16384 (change_nodes u)) app.changes

-- the limits in the order in which they are looked at
abbrev pub in_order : List Limit
in_order = limit.Tables ∷ limit.Columns ∷ limit.Sequences ∷ limit.Routes ∷ limit.Sites ∷ limit.Updates ∷ limit.Items ∷ limit.Antiquotes ∷ limit.Parameters ∷ limit.Nodes ∷ []

-- the first limit that is exceeded
abbrev pub first_exceeded : Typed → Option Limit
first_exceeded app = find (is_exceeded app) in_order

-- no limit is exceeded
abbrev pub IsWithinLimits : Typed → Type 0
IsWithinLimits app = (l : Limit) → is_exceeded app l ≡ false
