-- The terms that stand in an expression, one for each of its parts that is a term.
use Rattle.std.proofs.Common.{ℕ, ◌+◌, ◌≤◌, inl, inr, ⊎_elim, List, [], ◌∷◌, ◌++◌, flat_map, length, Option, Some, None, option_to_list, arith, length-append, subst, sym}
use Rattle.ur_values.specs.declared.value.Value.TheVariants as v
use Rattle.ur_sql.specs.declared.scalar.Scalar.{Scalar, more_of-Scalar as one, end_of-Scalar as end}
use Rattle.ur_sql.specs.declared.scalar.Scalar.TheVariants as s
use Rattle.ur_sql.specs.declared.term.SqlTerm.{SqlTerm}
use Rattle.ur_sql.specs.declared.term.SqlTerm.TheVariants as t
use Rattle.ur_sql.specs.declared.change.Action.{Action}
use Rattle.ur_sql.specs.declared.change.Action.TheVariants as action
use Rattle.ur_sql.specs.Nodes.{scalar_nodes}
use Rattle.ur_sql.proofs.Members.{In, in_append_left, in_append_right, in_append_back}
use Rattle.ur_conditions.specs.declared.side.Side.{Side}
use Rattle.ur_conditions.specs.declared.side.Side.TheVariants.{AtItems, AtRow, AtOld}
use Rattle.ur_conditions.specs.Terms.{column_term, param_term, term_both, term_map, term_of, subterms}

unfoldable pub terms_in : Side → Scalar → List SqlTerm
terms_in side (s.Constant x) = t.Constant x ∷ []
terms_in side (s.Column i c) = column_term side i c ∷ []
terms_in side (s.Param n) = param_term side n ∷ []
terms_in side (s.Or' _ (one a end) _ (one b end)) = terms_in side a ++ terms_in side b
terms_in side (s.And' _ (one a end) _ (one b end)) = terms_in side a ++ terms_in side b
terms_in side (s.Not' _ (one a end)) = terms_in side a
terms_in side (s.Compare' c _ (one a end) _ (one b end)) = terms_in side a ++ terms_in side b
terms_in side (s.Add' _ (one a end) _ (one b end)) = option_to_list (term_both t.Add (term_of side a) (term_of side b)) ++ (terms_in side a ++ terms_in side b)
terms_in side (s.Sub' _ (one a end) _ (one b end)) = option_to_list (term_both t.Sub (term_of side a) (term_of side b)) ++ (terms_in side a ++ terms_in side b)
terms_in side (s.Mul' _ (one a end) _ (one b end)) = option_to_list (term_both t.Mul (term_of side a) (term_of side b)) ++ (terms_in side a ++ terms_in side b)
terms_in side (s.Neg' _ (one a end)) = option_to_list (term_map t.Neg (term_of side a)) ++ terms_in side a
terms_in side (s.Null k) = t.Constant v.Absent ∷ []
terms_in side (s.Present' _ (one a end)) = option_to_list (term_map t.Present (term_of side a)) ++ terms_in side a

-- the terms of a set column's expression, and the column
abbrev pub set_terms : Side → ℕ × Scalar → List SqlTerm
set_terms side set = t.Row (set.0) ∷ terms_in side (set.1)

abbrev pub action_terms : Action → List SqlTerm
action_terms (action.Insert sets) = flat_map (set_terms AtRow) sets
action_terms (action.Update sets condition) = flat_map (set_terms AtOld) sets ++ flat_map (terms_in AtOld) (option_to_list condition)
action_terms (action.Delete condition) = flat_map (terms_in AtRow) (option_to_list condition)

-- all of one list are in the other
abbrev pub Among : List SqlTerm → List SqlTerm → Type 0
Among ms ns = (a : SqlTerm) → In a ms → In a ns

abbrev pub IfAmong : Option SqlTerm → List SqlTerm → Type 0
IfAmong None ns = Unit {0}
IfAmong (Some a) ns = Among (subterms a) ns

-- ---- a term's parts are among those of its expression

cons_among : (a : SqlTerm) (ms ns : List SqlTerm) → Among ms ns → Among (a ∷ ms) (a ∷ ns)
cons_among a ms ns x z (inl e) = inl e
cons_among a ms ns x z (inr i) = inr (x z i)

sides_among : (a b : SqlTerm) (ms ns : List SqlTerm) → Among (subterms a) ms → Among (subterms b) ns → Among (subterms a ++ subterms b) (ms ++ ns)
sides_among a b ms ns x y z i = ⊎_elim (λ l. in_append_left ms ns z (x z l)) (λ r. in_append_right ms ns z (y z r)) (in_append_back (subterms a) (subterms b) z i)

add_among : (a b : Option SqlTerm) (ms ns : List SqlTerm) → IfAmong a ms → IfAmong b ns → IfAmong (term_both t.Add a b) (option_to_list (term_both t.Add a b) ++ (ms ++ ns))
unfolding subterms Rattle.ur_sql.specs.declared.term.SqlTerm.TheBlock.hidden-the_row-SqlTerm-0 denote.Hole.Carrier.hidden
add_among None b ms ns x y = tt
add_among (Some a) None ms ns x y = tt
add_among (Some a) (Some b) ms ns x y = cons_among (t.Add a b) (subterms a ++ subterms b) (ms ++ ns) (sides_among a b ms ns x y)

sub_among : (a b : Option SqlTerm) (ms ns : List SqlTerm) → IfAmong a ms → IfAmong b ns → IfAmong (term_both t.Sub a b) (option_to_list (term_both t.Sub a b) ++ (ms ++ ns))
unfolding subterms Rattle.ur_sql.specs.declared.term.SqlTerm.TheBlock.hidden-the_row-SqlTerm-0 denote.Hole.Carrier.hidden
sub_among None b ms ns x y = tt
sub_among (Some a) None ms ns x y = tt
sub_among (Some a) (Some b) ms ns x y = cons_among (t.Sub a b) (subterms a ++ subterms b) (ms ++ ns) (sides_among a b ms ns x y)

mul_among : (a b : Option SqlTerm) (ms ns : List SqlTerm) → IfAmong a ms → IfAmong b ns → IfAmong (term_both t.Mul a b) (option_to_list (term_both t.Mul a b) ++ (ms ++ ns))
unfolding subterms Rattle.ur_sql.specs.declared.term.SqlTerm.TheBlock.hidden-the_row-SqlTerm-0 denote.Hole.Carrier.hidden
mul_among None b ms ns x y = tt
mul_among (Some a) None ms ns x y = tt
mul_among (Some a) (Some b) ms ns x y = cons_among (t.Mul a b) (subterms a ++ subterms b) (ms ++ ns) (sides_among a b ms ns x y)

neg_among : (a : Option SqlTerm) (ms : List SqlTerm) → IfAmong a ms → IfAmong (term_map t.Neg a) (option_to_list (term_map t.Neg a) ++ ms)
unfolding subterms Rattle.ur_sql.specs.declared.term.SqlTerm.TheBlock.hidden-the_row-SqlTerm-0 denote.Hole.Carrier.hidden
neg_among None ms x = tt
neg_among (Some a) ms x = cons_among (t.Neg a) (subterms a) ms x

present_among : (a : Option SqlTerm) (ms : List SqlTerm) → IfAmong a ms → IfAmong (term_map t.Present a) (option_to_list (term_map t.Present a) ++ ms)
unfolding subterms Rattle.ur_sql.specs.declared.term.SqlTerm.TheBlock.hidden-the_row-SqlTerm-0 denote.Hole.Carrier.hidden
present_among None ms x = tt
present_among (Some a) ms x = cons_among (t.Present a) (subterms a) ms x

pub column_among : (side : Side) (i c : ℕ) → Among (subterms (column_term side i c)) (column_term side i c ∷ [])
unfolding subterms
column_among AtItems i c z h = h
column_among AtRow i c z h = h
column_among AtOld i c z h = h

pub param_among : (side : Side) (n : ℕ) → Among (subterms (param_term side n)) (param_term side n ∷ [])
unfolding subterms
param_among AtItems n z h = h
param_among AtRow n z h = h
param_among AtOld n z h = h

pub term_among : (side : Side) (e : Scalar) → IfAmong (term_of side e) (terms_in side e)
unfolding term_of terms_in subterms
term_among side (s.Constant x) = λ z h. h
term_among side (s.Column i c) = column_among side i c
term_among side (s.Param n) = param_among side n
term_among side (s.Or' _ (one a end) _ (one b end)) = tt
term_among side (s.And' _ (one a end) _ (one b end)) = tt
term_among side (s.Not' _ (one a end)) = tt
term_among side (s.Compare' c _ (one a end) _ (one b end)) = tt
term_among side (s.Add' _ (one a end) _ (one b end)) = add_among (term_of side a) (term_of side b) (terms_in side a) (terms_in side b) (term_among side a) (term_among side b)
term_among side (s.Sub' _ (one a end) _ (one b end)) = sub_among (term_of side a) (term_of side b) (terms_in side a) (terms_in side b) (term_among side a) (term_among side b)
term_among side (s.Mul' _ (one a end) _ (one b end)) = mul_among (term_of side a) (term_of side b) (terms_in side a) (terms_in side b) (term_among side a) (term_among side b)
term_among side (s.Neg' _ (one a end)) = neg_among (term_of side a) (terms_in side a) (term_among side a)
term_among side (s.Null k) = λ z h. h
term_among side (s.Present' _ (one a end)) = present_among (term_of side a) (terms_in side a) (term_among side a)

-- ---- and they are no more than its nodes

pub sum_of : (ms ns : List SqlTerm) (n m : ℕ) → length ms ≤ n → length ns ≤ m → length (ms ++ ns) ≤ n + m
sum_of ms ns n m h k = subst (λ l. l ≤ n + m) (sym (length-append ms ns)) (omega arith)

both_few : (ms ns : List SqlTerm) (n m : ℕ) → length ms ≤ n → length ns ≤ m → length (ms ++ ns) ≤ 1 + n + m
both_few ms ns n m h k = let l = sum_of ms ns n m h k in omega arith

one_more : (o : Option SqlTerm) (ms : List SqlTerm) (n : ℕ) → length ms ≤ n → length (option_to_list o ++ ms) ≤ 1 + n
one_more None ms n h = omega arith
one_more (Some a) ms n h = omega arith

both_more : (o : Option SqlTerm) (ms ns : List SqlTerm) (n m : ℕ) → length ms ≤ n → length ns ≤ m → length (option_to_list o ++ (ms ++ ns)) ≤ 1 + n + m
both_more o ms ns n m h k = let l = one_more o (ms ++ ns) (n + m) (sum_of ms ns n m h k) in omega arith

no_less : (n : ℕ) (ms : List SqlTerm) → length ms ≤ n → length ms ≤ 1 + n
no_less n ms h = omega arith

pub terms_few : (side : Side) (e : Scalar) → length (terms_in side e) ≤ scalar_nodes e
unfolding terms_in scalar_nodes
terms_few side (s.Constant x) = omega arith
terms_few side (s.Column i c) = omega arith
terms_few side (s.Param n) = omega arith
terms_few side (s.Or' _ (one a end) _ (one b end)) = both_few (terms_in side a) (terms_in side b) (scalar_nodes a) (scalar_nodes b) (terms_few side a) (terms_few side b)
terms_few side (s.And' _ (one a end) _ (one b end)) = both_few (terms_in side a) (terms_in side b) (scalar_nodes a) (scalar_nodes b) (terms_few side a) (terms_few side b)
terms_few side (s.Not' _ (one a end)) = no_less (scalar_nodes a) (terms_in side a) (terms_few side a)
terms_few side (s.Compare' c _ (one a end) _ (one b end)) = both_few (terms_in side a) (terms_in side b) (scalar_nodes a) (scalar_nodes b) (terms_few side a) (terms_few side b)
terms_few side (s.Add' _ (one a end) _ (one b end)) = both_more (term_both t.Add (term_of side a) (term_of side b)) (terms_in side a) (terms_in side b) (scalar_nodes a) (scalar_nodes b) (terms_few side a) (terms_few side b)
terms_few side (s.Sub' _ (one a end) _ (one b end)) = both_more (term_both t.Sub (term_of side a) (term_of side b)) (terms_in side a) (terms_in side b) (scalar_nodes a) (scalar_nodes b) (terms_few side a) (terms_few side b)
terms_few side (s.Mul' _ (one a end) _ (one b end)) = both_more (term_both t.Mul (term_of side a) (term_of side b)) (terms_in side a) (terms_in side b) (scalar_nodes a) (scalar_nodes b) (terms_few side a) (terms_few side b)
terms_few side (s.Neg' _ (one a end)) = one_more (term_map t.Neg (term_of side a)) (terms_in side a) (scalar_nodes a) (terms_few side a)
terms_few side (s.Null k) = omega arith
terms_few side (s.Present' _ (one a end)) = one_more (term_map t.Present (term_of side a)) (terms_in side a) (scalar_nodes a) (terms_few side a)
