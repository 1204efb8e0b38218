-- The first limit that is exceeded, and none where the source is within all.
use Rattle.std.proofs.Common.{arith, ◌≡◌, refl, Bool, true, false, Option, Some, None, List, [], ◌∷◌}
use Rattle.std.specs.List.{find}
use Rattle.ur_tree.specs.declared.typed.Typed.{Typed}
use Rattle.ur_check_limits.specs.declared.limit.Limit.{Limit}
use Rattle.ur_check_limits.specs.declared.limit.Limit.TheVariants as limit
use Rattle.ur_check_limits.specs.Limits.{is_exceeded, first_exceeded, IsWithinLimits}

-- ---- one after the other

found : {A : Type 0} (p : A → Bool) (x : A) (xs : List A) → p x ≡ true → Some x ≡ find p (x ∷ xs)
found p x xs h = grind (arith, h)

passed : {A : Type 0} (p : A → Bool) (x : A) (xs : List A) (r : Option A) → p x ≡ false → r ≡ find p xs → r ≡ find p (x ∷ xs)
passed p x xs r h i = grind (arith, h, i)

abbrev test : Typed → Limit → Bool
test app l = is_exceeded app l

abbrev behind_nodes : List Limit
behind_nodes = []

abbrev behind_parameters : List Limit
behind_parameters = limit.Nodes ∷ behind_nodes

abbrev behind_antiquotes : List Limit
behind_antiquotes = limit.Parameters ∷ behind_parameters

abbrev behind_items : List Limit
behind_items = limit.Antiquotes ∷ behind_antiquotes

abbrev behind_updates : List Limit
behind_updates = limit.Items ∷ behind_items

abbrev behind_sites : List Limit
behind_sites = limit.Updates ∷ behind_updates

abbrev behind_routes : List Limit
behind_routes = limit.Sites ∷ behind_sites

abbrev behind_sequences : List Limit
behind_sequences = limit.Routes ∷ behind_routes

abbrev behind_columns : List Limit
behind_columns = limit.Sequences ∷ behind_sequences

abbrev behind_tables : List Limit
behind_tables = limit.Columns ∷ behind_columns

pub first_tables : (app : Typed) → is_exceeded app limit.Tables ≡ true → Some limit.Tables ≡ first_exceeded app
first_tables app h0 = found (test app) limit.Tables behind_tables h0

pub first_columns : (app : Typed) → is_exceeded app limit.Tables ≡ false → is_exceeded app limit.Columns ≡ true → Some limit.Columns ≡ first_exceeded app
first_columns app h0 h1 = passed (test app) limit.Tables behind_tables _ h0 (found (test app) limit.Columns behind_columns h1)

pub first_sequences : (app : Typed) → is_exceeded app limit.Tables ≡ false → is_exceeded app limit.Columns ≡ false → is_exceeded app limit.Sequences ≡ true → Some limit.Sequences ≡ first_exceeded app
first_sequences app h0 h1 h2 = passed (test app) limit.Tables behind_tables _ h0 (passed (test app) limit.Columns behind_columns _ h1 (found (test app) limit.Sequences behind_sequences h2))

pub first_routes : (app : Typed) → is_exceeded app limit.Tables ≡ false → is_exceeded app limit.Columns ≡ false → is_exceeded app limit.Sequences ≡ false → is_exceeded app limit.Routes ≡ true → Some limit.Routes ≡ first_exceeded app
first_routes app h0 h1 h2 h3 = passed (test app) limit.Tables behind_tables _ h0 (passed (test app) limit.Columns behind_columns _ h1 (passed (test app) limit.Sequences behind_sequences _ h2 (found (test app) limit.Routes behind_routes h3)))

pub first_sites : (app : Typed) → is_exceeded app limit.Tables ≡ false → is_exceeded app limit.Columns ≡ false → is_exceeded app limit.Sequences ≡ false → is_exceeded app limit.Routes ≡ false → is_exceeded app limit.Sites ≡ true → Some limit.Sites ≡ first_exceeded app
first_sites app h0 h1 h2 h3 h4 = passed (test app) limit.Tables behind_tables _ h0 (passed (test app) limit.Columns behind_columns _ h1 (passed (test app) limit.Sequences behind_sequences _ h2 (passed (test app) limit.Routes behind_routes _ h3 (found (test app) limit.Sites behind_sites h4))))

pub first_updates : (app : Typed) → is_exceeded app limit.Tables ≡ false → is_exceeded app limit.Columns ≡ false → is_exceeded app limit.Sequences ≡ false → is_exceeded app limit.Routes ≡ false → is_exceeded app limit.Sites ≡ false → is_exceeded app limit.Updates ≡ true → Some limit.Updates ≡ first_exceeded app
first_updates app h0 h1 h2 h3 h4 h5 = passed (test app) limit.Tables behind_tables _ h0 (passed (test app) limit.Columns behind_columns _ h1 (passed (test app) limit.Sequences behind_sequences _ h2 (passed (test app) limit.Routes behind_routes _ h3 (passed (test app) limit.Sites behind_sites _ h4 (found (test app) limit.Updates behind_updates h5)))))

pub first_items : (app : Typed) → is_exceeded app limit.Tables ≡ false → is_exceeded app limit.Columns ≡ false → is_exceeded app limit.Sequences ≡ false → is_exceeded app limit.Routes ≡ false → is_exceeded app limit.Sites ≡ false → is_exceeded app limit.Updates ≡ false → is_exceeded app limit.Items ≡ true → Some limit.Items ≡ first_exceeded app
first_items app h0 h1 h2 h3 h4 h5 h6 = passed (test app) limit.Tables behind_tables _ h0 (passed (test app) limit.Columns behind_columns _ h1 (passed (test app) limit.Sequences behind_sequences _ h2 (passed (test app) limit.Routes behind_routes _ h3 (passed (test app) limit.Sites behind_sites _ h4 (passed (test app) limit.Updates behind_updates _ h5 (found (test app) limit.Items behind_items h6))))))

pub first_antiquotes : (app : Typed) → is_exceeded app limit.Tables ≡ false → is_exceeded app limit.Columns ≡ false → is_exceeded app limit.Sequences ≡ false → is_exceeded app limit.Routes ≡ false → is_exceeded app limit.Sites ≡ false → is_exceeded app limit.Updates ≡ false → is_exceeded app limit.Items ≡ false → is_exceeded app limit.Antiquotes ≡ true → Some limit.Antiquotes ≡ first_exceeded app
first_antiquotes app h0 h1 h2 h3 h4 h5 h6 h7 = passed (test app) limit.Tables behind_tables _ h0 (passed (test app) limit.Columns behind_columns _ h1 (passed (test app) limit.Sequences behind_sequences _ h2 (passed (test app) limit.Routes behind_routes _ h3 (passed (test app) limit.Sites behind_sites _ h4 (passed (test app) limit.Updates behind_updates _ h5 (passed (test app) limit.Items behind_items _ h6 (found (test app) limit.Antiquotes behind_antiquotes h7)))))))

pub first_parameters : (app : Typed) → is_exceeded app limit.Tables ≡ false → is_exceeded app limit.Columns ≡ false → is_exceeded app limit.Sequences ≡ false → is_exceeded app limit.Routes ≡ false → is_exceeded app limit.Sites ≡ false → is_exceeded app limit.Updates ≡ false → is_exceeded app limit.Items ≡ false → is_exceeded app limit.Antiquotes ≡ false → is_exceeded app limit.Parameters ≡ true → Some limit.Parameters ≡ first_exceeded app
first_parameters app h0 h1 h2 h3 h4 h5 h6 h7 h8 = passed (test app) limit.Tables behind_tables _ h0 (passed (test app) limit.Columns behind_columns _ h1 (passed (test app) limit.Sequences behind_sequences _ h2 (passed (test app) limit.Routes behind_routes _ h3 (passed (test app) limit.Sites behind_sites _ h4 (passed (test app) limit.Updates behind_updates _ h5 (passed (test app) limit.Items behind_items _ h6 (passed (test app) limit.Antiquotes behind_antiquotes _ h7 (found (test app) limit.Parameters behind_parameters h8))))))))

pub first_nodes : (app : Typed) → is_exceeded app limit.Tables ≡ false → is_exceeded app limit.Columns ≡ false → is_exceeded app limit.Sequences ≡ false → is_exceeded app limit.Routes ≡ false → is_exceeded app limit.Sites ≡ false → is_exceeded app limit.Updates ≡ false → is_exceeded app limit.Items ≡ false → is_exceeded app limit.Antiquotes ≡ false → is_exceeded app limit.Parameters ≡ false → is_exceeded app limit.Nodes ≡ true → Some limit.Nodes ≡ first_exceeded app
first_nodes app h0 h1 h2 h3 h4 h5 h6 h7 h8 h9 = passed (test app) limit.Tables behind_tables _ h0 (passed (test app) limit.Columns behind_columns _ h1 (passed (test app) limit.Sequences behind_sequences _ h2 (passed (test app) limit.Routes behind_routes _ h3 (passed (test app) limit.Sites behind_sites _ h4 (passed (test app) limit.Updates behind_updates _ h5 (passed (test app) limit.Items behind_items _ h6 (passed (test app) limit.Antiquotes behind_antiquotes _ h7 (passed (test app) limit.Parameters behind_parameters _ h8 (found (test app) limit.Nodes behind_nodes h9)))))))))

pub first_none : (app : Typed) → is_exceeded app limit.Tables ≡ false → is_exceeded app limit.Columns ≡ false → is_exceeded app limit.Sequences ≡ false → is_exceeded app limit.Routes ≡ false → is_exceeded app limit.Sites ≡ false → is_exceeded app limit.Updates ≡ false → is_exceeded app limit.Items ≡ false → is_exceeded app limit.Antiquotes ≡ false → is_exceeded app limit.Parameters ≡ false → is_exceeded app limit.Nodes ≡ false → None ≡ first_exceeded app
first_none app h0 h1 h2 h3 h4 h5 h6 h7 h8 h9 = passed (test app) limit.Tables behind_tables None h0 (passed (test app) limit.Columns behind_columns None h1 (passed (test app) limit.Sequences behind_sequences None h2 (passed (test app) limit.Routes behind_routes None h3 (passed (test app) limit.Sites behind_sites None h4 (passed (test app) limit.Updates behind_updates None h5 (passed (test app) limit.Items behind_items None h6 (passed (test app) limit.Antiquotes behind_antiquotes None h7 (passed (test app) limit.Parameters behind_parameters None h8 (passed (test app) limit.Nodes behind_nodes None h9 refl)))))))))

-- ---- none

pub all_within : (app : Typed) → is_exceeded app limit.Tables ≡ false → is_exceeded app limit.Columns ≡ false → is_exceeded app limit.Sequences ≡ false → is_exceeded app limit.Routes ≡ false → is_exceeded app limit.Sites ≡ false → is_exceeded app limit.Updates ≡ false → is_exceeded app limit.Items ≡ false → is_exceeded app limit.Antiquotes ≡ false → is_exceeded app limit.Parameters ≡ false → is_exceeded app limit.Nodes ≡ false → IsWithinLimits app
all_within app h0 h1 h2 h3 h4 h5 h6 h7 h8 h9 limit.Tables = h0
all_within app h0 h1 h2 h3 h4 h5 h6 h7 h8 h9 limit.Columns = h1
all_within app h0 h1 h2 h3 h4 h5 h6 h7 h8 h9 limit.Sequences = h2
all_within app h0 h1 h2 h3 h4 h5 h6 h7 h8 h9 limit.Routes = h3
all_within app h0 h1 h2 h3 h4 h5 h6 h7 h8 h9 limit.Sites = h4
all_within app h0 h1 h2 h3 h4 h5 h6 h7 h8 h9 limit.Updates = h5
all_within app h0 h1 h2 h3 h4 h5 h6 h7 h8 h9 limit.Items = h6
all_within app h0 h1 h2 h3 h4 h5 h6 h7 h8 h9 limit.Antiquotes = h7
all_within app h0 h1 h2 h3 h4 h5 h6 h7 h8 h9 limit.Parameters = h8
all_within app h0 h1 h2 h3 h4 h5 h6 h7 h8 h9 limit.Nodes = h9

pub ruleset in_turn = (first_tables, first_columns, first_sequences, first_routes, first_sites, first_updates, first_items, first_antiquotes, first_parameters, first_nodes, first_none, all_within)
