-- Closed examples: what the patterns of some statements are, by a plain closure that is only run here.
use Rattle.std.specs.Prelude.{◌≡◌, ℕ, zero, suc, pos, Bool, true, false, not, ◌&&◌, ◌||◌, ◌==◌, if◌then◌else◌, List, [], ◌∷◌, map, filter, filter_map, flat_map, fold, Option, Some, None, refl}
use Rattle.std.specs.List.{list_any}
use Rattle.ur_values.specs.declared.value.Value.TheVariants as v
use Rattle.ur_values.specs.declared.schema.ColumnKind.TheVariants as kind
use Rattle.ur_values.specs.Order.{value_eq, value_cmp}
use Rattle.ur_sql.specs.declared.scalar.Scalar.{Scalar, more_of-Scalar as one, end_of-Scalar as end}
use Rattle.ur_sql.specs.declared.scalar.Scalar.TheVariants as s
use Rattle.ur_sql.specs.declared.scalar.Comparison.{Comparison}
use Rattle.ur_sql.specs.declared.scalar.Comparison.TheVariants as op
use Rattle.ur_sql.specs.declared.term.SqlTerm.{SqlTerm, more_of-SqlTerm as more, end_of-SqlTerm as none}
use Rattle.ur_sql.specs.declared.term.SqlTerm.TheVariants as t
use Rattle.ur_sql.specs.declared.query.Query.{Query}
use Rattle.ur_sql.specs.declared.query.Item.{Item}
use Rattle.ur_sql.specs.declared.query.Field.TheVariants as field
use Rattle.ur_sql.specs.declared.change.Change.{Change}
use Rattle.ur_sql.specs.declared.change.Action.TheVariants as action
use Rattle.ur_sql.specs.declared.pattern.Pattern.{Pattern}
use Rattle.ur_sql.specs.declared.pattern.KeyAt.TheVariants as key
use Rattle.ur_sql.specs.declared.pattern.Guard.TheVariants as guard
use Rattle.ur_sql.specs.Answer.{first_ones}
use Rattle.ur_conditions.specs.Terms.{term_of, subterms, application}
use Rattle.ur_conditions.specs.Used.{reads}
use Rattle.ur_conditions.specs.Disjuncts.{disjuncts_of}
use Rattle.ur_conditions.specs.declared.pair.Pair.{Pair}
use Rattle.ur_conditions.specs.Pairs.{pairs_of, terms_of}
use Rattle.ur_conditions.specs.Patterns.{is_some, pattern_by, pattern_eq}

-- ---- a plain closure

term_eq : SqlTerm → SqlTerm → Bool
term_eq (t.Item i c) (t.Item j d) = (i == j) && (c == d)
term_eq (t.Row c) (t.Row d) = c == d
term_eq (t.Old c) (t.Old d) = c == d
term_eq (t.Key m) (t.Key n) = m == n
term_eq (t.Arg m) (t.Arg n) = m == n
term_eq (t.Constant x) (t.Constant y) = value_eq x y
term_eq (t.Add' _ (more a none) _ (more b none)) (t.Add' _ (more c none) _ (more d none)) = term_eq a c && term_eq b d
term_eq (t.Sub' _ (more a none) _ (more b none)) (t.Sub' _ (more c none) _ (more d none)) = term_eq a c && term_eq b d
term_eq (t.Mul' _ (more a none) _ (more b none)) (t.Mul' _ (more c none) _ (more d none)) = term_eq a c && term_eq b d
term_eq (t.Neg' _ (more a none)) (t.Neg' _ (more c none)) = term_eq a c
term_eq (t.Present' _ (more a none)) (t.Present' _ (more c none)) = term_eq a c
term_eq _ _ = false

abbrev Classes : Type 0
Classes = List (List SqlTerm)

abbrev holds_term : SqlTerm → List SqlTerm → Bool
holds_term a = list_any (term_eq a)

abbrev together : Classes → SqlTerm → SqlTerm → Bool
together cs a b = term_eq a b || list_any (λ c. holds_term a c && holds_term b c) cs

abbrev joined : Classes → SqlTerm → SqlTerm → Classes
joined cs a b =
    if together cs a b then cs else
    (flat_map (λ c. c) (filter (λ c. holds_term a c || holds_term b c) cs)) ∷ filter (λ c. not (holds_term a c || holds_term b c)) cs

abbrev all_together : Classes → List SqlTerm → List SqlTerm → Bool
all_together cs [] [] = true
all_together cs (a ∷ as') (b ∷ bs) = together cs a b && all_together cs as' bs
all_together cs _ _ = false

abbrev joined_each : List SqlTerm → List SqlTerm → Classes → Classes
joined_each (a ∷ as') (b ∷ bs) cs = joined_each as' bs (joined cs a b)
joined_each _ _ cs = cs

abbrev alike : Classes → Option (ℕ × List SqlTerm) → Option (ℕ × List SqlTerm) → Bool
alike cs (Some x) (Some y) = (x.0 == y.0) && all_together cs x.1 y.1
alike cs _ _ = false

abbrev by_congruence : List SqlTerm → Classes → Classes
by_congruence terms cs =
    fold (λ ds a. fold (λ es b. if alike es (application a) (application b) then joined es a b else es) ds terms) cs terms

-- what stands inside of two terms, if they are SOMEs
abbrev insides : Option (ℕ × List SqlTerm) → Option (ℕ × List SqlTerm) → Classes → Classes
insides (Some x) (Some y) cs = joined_each x.1 y.1 cs
insides _ _ cs = cs

-- what stands inside equal SOMEs is equal
abbrev by_injection : List SqlTerm → Classes → Classes
by_injection terms cs =
    let somes = filter is_some terms in
    fold (λ ds a. fold (λ es b. if together es a b then insides (application a) (application b) es else es) ds somes) cs somes

abbrev rounds : ℕ → List SqlTerm → Classes → Classes
rounds zero terms cs = cs
rounds (suc n) terms cs = rounds n terms (by_injection terms (by_congruence terms cs))

abbrev classes : Pair → Classes
classes p =
    let terms = first_ones term_eq (terms_of p) in
    let apps = filter (λ a. alike (map (λ b. b ∷ []) terms) (application a) (application a)) terms in
    rounds 2 apps (fold (λ cs e. joined cs e.0 e.1) (map (λ a. a ∷ []) terms) p.equations)

abbrev patterns : ℕ → Query → Change → List Pattern
patterns site q u = first_ones pattern_eq (filter_map (λ p. let cs = classes p in pattern_by (together cs) site p) (pairs_of q u))

-- ---- statements

abbrev compare : Comparison → Scalar → Scalar → Scalar
compare c a b = s.Compare' c tt (one a end) tt (one b end)

abbrev equal : Scalar → Scalar → Scalar
equal = compare op.Equal

abbrev and : Scalar → Scalar → Scalar
and a b = s.And' tt (one a end) tt (one b end)

abbrev plus : Scalar → Scalar → Scalar
plus a b = s.Add' tt (one a end) tt (one b end)

abbrev number : ℕ → Scalar
number n = s.Constant (v.Int (pos n))

abbrev two : Item
two = record { table = 0; columns = kind.Int ∷ kind.Int ∷ [] }

abbrev three : Item
three = record { table = 0; columns = kind.Str ∷ kind.Int ∷ kind.Str ∷ [] }

abbrev select : List Item → Scalar → Query
select from where' = record {
  params = kind.Int ∷ [];
  fields = [];
  from = from;
  on = [];
  filter = Some where';
  group = [];
  order = [];
  limit = None;
  offset = None;
}

-- K: SELECT t.B FROM t WHERE t.A = t.B AND t.A + 1 = {[k]}
abbrev k : Query
k = select (two ∷ []) (and (equal (s.Column 0 0) (s.Column 0 1)) (equal (plus (s.Column 0 0) (number 1)) (s.Param 0)))

-- INSERT INTO t (A, B) VALUES ({[a]}, {[a]})
abbrev put : Change
put = record { params = kind.Int ∷ kind.Int ∷ []; table = 0; columns = kind.Int ∷ kind.Int ∷ []; action = action.Insert ((0, s.Param 0) ∷ (1, s.Param 1) ∷ []) }

-- DELETE FROM t WHERE B + 1 = {[x]}
abbrev cut : Change
cut = record { params = kind.Int ∷ []; table = 0; columns = kind.Int ∷ kind.Int ∷ []; action = action.Delete (Some (equal (plus (s.Column 0 1) (number 1)) (s.Param 0))) }

abbrev any : ℕ → Pattern
any site = record { site = site; keys = key.Any ∷ []; guards = [] }

abbrev arg : ℕ → Pattern
arg n = record { site = 0; keys = key.Arg n ∷ []; guards = [] }

k_put : patterns 0 k put ≡ record { site = 0; keys = key.Any ∷ []; guards = guard.Args 0 1 ∷ [] } ∷ []
unfolding value_cmp reads disjuncts_of term_of subterms term_eq Rattle.ur_sql.specs.declared.term.SqlTerm.TheBlock.hidden-the_row-SqlTerm-0 denote.Hole.Carrier.hidden
k_put = refl

k_cut : patterns 0 k cut ≡ arg 0 ∷ []
unfolding value_cmp reads disjuncts_of term_of subterms term_eq Rattle.ur_sql.specs.declared.term.SqlTerm.TheBlock.hidden-the_row-SqlTerm-0 denote.Hole.Carrier.hidden
k_cut = refl

-- N, whose columns are Body, Id, Owner: SELECT note.Id, note.Body FROM note WHERE note.Owner = {[who]}
abbrev list_of : Query
list_of = select (three ∷ []) (equal (s.Column 0 2) (s.Param 0))

-- UPDATE note SET Owner = {[to]} WHERE Owner = {[from]}
abbrev rename : Change
rename = record { params = kind.Str ∷ kind.Str ∷ []; table = 0; columns = kind.Str ∷ kind.Int ∷ kind.Str ∷ []; action = action.Update ((2, s.Param 0) ∷ []) (Some (equal (s.Column 0 2) (s.Param 1))) }

n_rename : patterns 0 list_of rename ≡ arg 1 ∷ arg 0 ∷ []
unfolding value_cmp reads disjuncts_of term_of subterms term_eq Rattle.ur_sql.specs.declared.term.SqlTerm.TheBlock.hidden-the_row-SqlTerm-0 denote.Hole.Carrier.hidden
n_rename = refl

-- INSERT INTO note (Id, Owner, Body) VALUES ({[n]}, {[who]}, {[r.Body]})
abbrev add : Change
add = record { params = kind.Int ∷ kind.Str ∷ kind.Str ∷ []; table = 0; columns = kind.Str ∷ kind.Int ∷ kind.Str ∷ []; action = action.Insert ((1, s.Param 0) ∷ (2, s.Param 1) ∷ (0, s.Param 2) ∷ []) }

-- DELETE FROM note WHERE Id = {[id]}
abbrev drop : Change
drop = record { params = kind.Int ∷ []; table = 0; columns = kind.Str ∷ kind.Int ∷ kind.Str ∷ []; action = action.Delete (Some (equal (s.Column 0 1) (s.Param 0))) }

-- UPDATE note SET Owner = {[r.To]} WHERE Id = {[id]}
abbrev move : Change
move = record { params = kind.Str ∷ kind.Int ∷ []; table = 0; columns = kind.Str ∷ kind.Int ∷ kind.Str ∷ []; action = action.Update ((2, s.Param 0) ∷ []) (Some (equal (s.Column 0 1) (s.Param 1))) }

n_add : patterns 0 list_of add ≡ arg 1 ∷ []
unfolding value_cmp reads disjuncts_of term_of subterms term_eq Rattle.ur_sql.specs.declared.term.SqlTerm.TheBlock.hidden-the_row-SqlTerm-0 denote.Hole.Carrier.hidden
n_add = refl

n_drop : patterns 0 list_of drop ≡ any 0 ∷ []
unfolding value_cmp reads disjuncts_of term_of subterms term_eq Rattle.ur_sql.specs.declared.term.SqlTerm.TheBlock.hidden-the_row-SqlTerm-0 denote.Hole.Carrier.hidden
n_drop = refl

n_move : patterns 0 list_of move ≡ any 0 ∷ arg 0 ∷ []
unfolding value_cmp reads disjuncts_of term_of subterms term_eq Rattle.ur_sql.specs.declared.term.SqlTerm.TheBlock.hidden-the_row-SqlTerm-0 denote.Hole.Carrier.hidden
n_move = refl

-- t : {A : int, Kind : string}, WHERE t.Kind = 'open', and an INSERT with Kind 'done'
abbrev open_ones : Query
open_ones = record (select (record { table = 0; columns = kind.Int ∷ kind.Str ∷ [] } ∷ []) (equal (s.Column 0 1) (s.Constant (v.Str (111 ∷ []))))) { params = [] }

abbrev done : Change
done = record { params = kind.Int ∷ []; table = 0; columns = kind.Int ∷ kind.Str ∷ []; action = action.Insert ((0, s.Param 0) ∷ (1, s.Constant (v.Str (100 ∷ []))) ∷ []) }

open_done : patterns 0 open_ones done ≡ []
unfolding value_cmp reads disjuncts_of term_of subterms term_eq Rattle.ur_sql.specs.declared.term.SqlTerm.TheBlock.hidden-the_row-SqlTerm-0 denote.Hole.Carrier.hidden
open_done = refl

-- SELECT T.A FROM t, t AS U WHERE T.A = {[k]} AND U.B = T.B
abbrev joins_itself : Query
joins_itself = select (two ∷ two ∷ []) (and (equal (s.Column 0 0) (s.Param 0)) (equal (s.Column 1 1) (s.Column 0 1)))

self_join : patterns 0 joins_itself put ≡ arg 0 ∷ any 0 ∷ []
unfolding value_cmp reads disjuncts_of term_of subterms term_eq Rattle.ur_sql.specs.declared.term.SqlTerm.TheBlock.hidden-the_row-SqlTerm-0 denote.Hole.Carrier.hidden
self_join = refl

-- u : {A : int, B : int, C : string}, SELECT u.A FROM u WHERE u.A = {[k]}, and UPDATE u SET C = {[x]} WHERE B = {[y]}
abbrev wide : Item
wide = record { table = 0; columns = kind.Int ∷ kind.Int ∷ kind.Str ∷ [] }

abbrev first_column : Query
first_column = record (select (wide ∷ []) (equal (s.Column 0 0) (s.Param 0))) { fields = field.Single (record { 0 = 1 }) (s.Column 0 0) ∷ [] }

abbrev set_third : Change
set_third = record { params = kind.Str ∷ kind.Int ∷ []; table = 0; columns = kind.Int ∷ kind.Int ∷ kind.Str ∷ []; action = action.Update ((2, s.Param 0) ∷ []) (Some (equal (s.Column 0 1) (s.Param 1))) }

third_unused : patterns 0 first_column set_third ≡ []
unfolding value_cmp reads disjuncts_of term_of subterms term_eq Rattle.ur_sql.specs.declared.term.SqlTerm.TheBlock.hidden-the_row-SqlTerm-0 denote.Hole.Carrier.hidden
third_unused = refl

-- with ORDER BY u.C
third_orders : patterns 0 (record first_column { order = record { by = s.Column 0 2; descending = false } ∷ [] }) set_third ≡ any 0 ∷ []
unfolding value_cmp reads disjuncts_of term_of subterms term_eq Rattle.ur_sql.specs.declared.term.SqlTerm.TheBlock.hidden-the_row-SqlTerm-0 denote.Hole.Carrier.hidden
third_orders = refl

-- t : {A : int, C : option int}, WHERE t.C = SOME({[k]})
abbrev optional : Item
optional = record { table = 0; columns = kind.Int ∷ kind.OptInt ∷ [] }

abbrev some : Scalar → Scalar
some a = s.Present' tt (one a end)

abbrev some_of : Query
some_of = select (optional ∷ []) (equal (s.Column 0 1) (some (s.Param 0)))

-- INSERT INTO t (A, C) VALUES ({[a]}, SOME({[x]})): what stands inside is the key
abbrev put_some : Change
put_some =
    record {
      params = kind.Int ∷ kind.Int ∷ [];
      table = 0;
      columns = kind.Int ∷ kind.OptInt ∷ [];
      action = action.Insert
          ((0, s.Param 0) ∷ (1, some (s.Param 1)) ∷ []);
    }

some_put : patterns 0 some_of put_some ≡ arg 1 ∷ []
unfolding value_cmp reads disjuncts_of term_of subterms term_eq Rattle.ur_sql.specs.declared.term.SqlTerm.TheBlock.hidden-the_row-SqlTerm-0 denote.Hole.Carrier.hidden
some_put = refl

-- DELETE FROM t WHERE C IS NULL: a NULL is no SOME
abbrev clear : Change
clear = record { params = []; table = 0; columns = kind.Int ∷ kind.OptInt ∷ []; action = action.Delete (Some (equal (s.Column 0 1) (s.Null kind.OptInt))) }

some_clear : patterns 0 some_of clear ≡ []
unfolding value_cmp reads disjuncts_of term_of subterms term_eq Rattle.ur_sql.specs.declared.term.SqlTerm.TheBlock.hidden-the_row-SqlTerm-0 denote.Hole.Carrier.hidden
some_clear = refl

-- WHERE t.C = {[o]} and an INSERT of NULL, which fixes the key
abbrev option_of : Query
option_of = record (select (optional ∷ []) (equal (s.Column 0 1) (s.Param 0))) { params = kind.OptInt ∷ [] }

abbrev put_null : Change
put_null =
    record {
      params = kind.Int ∷ [];
      table = 0;
      columns = kind.Int ∷ kind.OptInt ∷ [];
      action = action.Insert
          ((0, s.Param 0) ∷ (1, s.Null kind.OptInt) ∷ []);
    }

null_put : patterns 0 option_of put_null ≡ record { site = 0; keys = key.Is v.Absent ∷ []; guards = [] } ∷ []
unfolding value_cmp reads disjuncts_of term_of subterms term_eq Rattle.ur_sql.specs.declared.term.SqlTerm.TheBlock.hidden-the_row-SqlTerm-0 denote.Hole.Carrier.hidden
null_put = refl
