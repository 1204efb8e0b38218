-- Queries and changes.
use Rattle.std.proofs.Common.{inl, inr, arith, ◌≡◌, refl, ap, ap₂, sym, ◌∙◌, subst, ℕ, ◌+◌, zero, suc, ◌<◌, ◌≤◌, nat_le, Bool, true, false, true≢false, ◌&&◌, List, [], ◌∷◌, map, length, drop, get_or, Option, Some, None, Err}
use Rattle.std.proofs.lemmas.Bool.Decides.{nat_tests}
use Rattle.std.specs.Prelude.{codes, is_some, option_map, option_and_then}
use Rattle.ur_base.specs.Shape.{Shape, count}
use Rattle.ur_base.specs.Stopping.{IfRefused}
use Rattle.ur_base.specs.declared.refusal.Refusal.{Refusal}
use Rattle.ur_base.specs.declared.refusal.Span.{Span}
use Rattle.ur_base.specs.declared.refusal.Stop.{Stop}
use Rattle.ur_base.specs.declared.refusal.Stop.TheVariants as stop
use Rattle.ur_syntax.specs.declared.con.Con.{Con}
use Rattle.ur_syntax.specs.declared.sql.DeclName.{DeclName}
use Rattle.ur_syntax.specs.declared.sql.FromItem.{FromItem}
use Rattle.ur_syntax.specs.declared.sql.SqlQuery.{SqlQuery}
use Rattle.ur_syntax.specs.declared.sql.SqlChange.{SqlChange}
use Rattle.ur_syntax.specs.declared.exp.Binder.{Binder}
use Rattle.ur_syntax.specs.declared.exp.LambdaParam.{LambdaParam}
use Rattle.ur_syntax.specs.declared.exp.LambdaParam.TheVariants as lambda_param
use Rattle.ur_syntax.specs.declared.exp.Param.{Param as WrittenParam}
use Rattle.ur_syntax.specs.declared.exp.Param.TheVariants as written_param
use Rattle.ur_syntax.specs.declared.exp.QueryWord.{QueryWord}
use Rattle.ur_syntax.specs.declared.exp.ExpForm.{ExpForm, Row_of-Exp, end_of-Exp as alone, more_of-Exp as its}
use Rattle.ur_syntax.specs.declared.exp.ExpForm.TheVariants as e
use Rattle.ur_values.specs.declared.schema.ColumnKind.{ColumnKind}
use Rattle.ur_values.specs.declared.schema.Schema.{Schema}
use Rattle.ur_sql.specs.declared.query.Query.{Query}
use Rattle.ur_sql.specs.declared.change.Change.{Change}
use Rattle.ur_rows.specs.declared.normal.Normal.{Normal}
use Rattle.ur_rows.specs.declared.normal.Normal.TheVariants as normal
use Rattle.ur_rows.specs.declared.normal.NormalType.{NormalType}
use Rattle.ur_rows.specs.declared.normal.Part.{Part}
use Rattle.ur_rows.specs.Made.{record_of, unit}
use Rattle.ur_rows.specs.Nodes.{nodes, most_nodes}
use Rattle.ur_rows.specs.Normal.{nf}
use Rattle.ur_rows.specs.Put.{as_type}
use Rattle.ur_rows.specs.Types.{transaction_of}
use Rattle.ur_rows.proofs.Shapes.{option-made, list-made, transaction-made, record-made}
use Rattle.ur_tree.specs.declared.exp.Exp.TheVariants as exp
use Rattle.ur_tree.specs.Make as make
use Rattle.ur_tree.specs.Typing.{answer_type}
use Rattle.ur_tree.specs.Text.{type_text}
use Rattle.ur_tree.specs.QueryRow.{query_row}
use Rattle.ur_tree.specs.Places.{Sort, sort_of}
use Rattle.ur_disjoint.proofs.Members.{In, in-contains}
use Rattle.ur_sqltype.specs.Lists.{all_of, and_then}
use Rattle.ur_sqltype.specs.Faults.{six_kinds}
use Rattle.ur_sqltype.specs.Table.{column_type_kind}
use Rattle.ur_sqltype.specs.Antiquotes.{found_kind}
use Rattle.ur_sqltype.specs.Tables.{table_from, table_at, source_of, source_at, sources_of}
use Rattle.ur_sqltype.specs.Query.{once_aliased, items_of, query_over, query_of}
use Rattle.ur_sqltype.specs.Change.{target_of, change_at as change_with_table, change_of}
use Rattle.ur_sqltype.specs.SqltypeFaults.{QueryHasFault, no_table, alias_twice, within, ChangeHasFault, no_target, acts, QueryBreaks, query_antiquote, query_faulty, ChangeBreaks, change_antiquote, change_faulty}
use Rattle.ur_sqltype_statements.specs.Found.{IsTypedQuery}
use Rattle.ur_sqltype_statements.specs.declared.typed.TypedQuery.{TypedQuery}
use Rattle.ur_sqltype_statements.specs.SqlchangeFound.{IsTypedChange}
use Rattle.ur_sqltype_statements.specs.declared.sqlchange_typed.TypedChange.{TypedChange}
use Rattle.ur_rows_normal.specs.Preparing.{Reads}
use Rattle.ur_typed_rules.specs.Scopes.{World, Scope, Mode, within_binder, of_transaction}
use Rattle.ur_typed_rules.specs.Tests.{same_type}
use Rattle.ur_typed_rules.specs.Faults.{Fault, as_refused, misfit, not_so, too_large, types_differ, not_of_type}
use Rattle.ur_typed_rules.specs.Rules.{if_so}
use Rattle.ur_typed_rules.proofs.Options.{some_of}
use Rattle.ur_typed.specs.Rules.{Sites, Out, Antiquotes, gives, answer_of, query_at, change_at, with_query_slot, with_change_slot, with_query, with_change, ask_out, write_out, each_out, rows_out, row_param}
use Rattle.ur_typed.specs.Walking.{typed, antiquotes_walk}
use Rattle.ur_typed.specs.Faults.{BreaksRowFunction, is_row_function, other_row_function, large_row_type, other_row_type}
use Rattle.ur_typed.specs.Causes.{Breaks, IsNoKind, this_kind, later_kind, no_kind, antiquote_kind, row_antiquote_kind, change_antiquote_kind, bad_query, bad_change, bad_rows, bad_row_function, no_xml_rows}
use Rattle.ur_check_scopes.specs.declared.around.Around.{Around}
use Rattle.ur_check_scopes.specs.Views.{Stands, Refuses, StopIs, IsLarge}
use Rattle.ur_check_scopes.proofs.Loops.{left-here, left-end}
use Rattle.ur_check_rules.specs.declared.out.Out.{Out as HeldOut}
use Rattle.ur_check_rules.specs.Views.{out_with, args_with}
use Rattle.ur_check_forms.specs.declared.statements.Antiquotes.{Antiquotes as HeldAntiquotes}
use Rattle.ur_check_forms.specs.Views.{antiquotes_with}
use Rattle.ur_check_forms.specs.Statements.{is_kind, are_kinds, IsOtherKind, other_kind, BreaksQuery, of_other_kind, of_its_own, BreaksChange, of_other_type, of_change, IsAsked, IsRowType, BreaksRowType, large_there, differs_there, only}
use Rattle.ur_check_forms.proofs.Trees.{ask-made, write-made}

-- the types and trees that the code makes
pub ruleset types = (option-made, list-made, transaction-made, record-made, ask-made, write-made)

-- ---- the types of antiquotes

kind-found : (n : Normal) → found_kind n ≡ column_type_kind (as_type n)
kind-found (normal.Type t) = refl
kind-found (normal.Name l) = refl
kind-found (normal.Row r) = refl
kind-found (normal.Fn' k s c) = refl

kinds-found : (ns : List Normal) → all_of found_kind ns ≡ all_of column_type_kind (map as_type ns)
kinds-found [] = refl
kinds-found (n ∷ ns) = ap₂ and_then (kind-found n) (kinds-found ns)

no-kind : {A : Type 0} (o : Option A) → is_some o ≡ false → o ≡ None
no-kind None h = refl
no-kind (Some a) h = cc

no-kind-at : (ns : List Normal) (i : ℕ) (n : Normal) → i < length ns → n ≡ get_or ns i n → column_type_kind (as_type n) ≡ None →
    IsNoKind (map as_type ns) (as_type n)
no-kind-at [] i n h e k = absurd (omega arith)
no-kind-at (m ∷ ns) zero n h e k = subst (λ z. IsNoKind (as_type z ∷ map as_type ns) (as_type n)) e (this_kind k)
no-kind-at (m ∷ ns) (suc i) n h e k = later_kind (no-kind-at ns i n (omega arith) e k)

pub other-told : (names : List (List ℕ)) (ns : List Normal) (i : ℕ) (n : Normal) (s' : Stop) → i < length ns → n ≡ get_or ns i n → is_kind n ≡ false →
    StopIs names (misfit (type_text names (as_type n)) six_kinds) s' →
    IfRefused {A = Unit {0}} (Err s') (Refuses names (IsOtherKind names (map as_type ns)))
other-told names ns i n (stop.Refused r) h e k t = (no_kind names (as_type n), other_kind (no-kind-at ns i n h e (sym (kind-found n) ∙ no-kind (found_kind n) k)), t)
other-told names ns i n stop.Memory h e k t = tt

pub kinds-past : (ns : List Normal) (i : ℕ) (n : Normal) → i < length ns → n ≡ get_or ns i n → is_kind n ≡ true → are_kinds (drop i ns) ≡ are_kinds ns → are_kinds (drop (i + 1) ns) ≡ are_kinds ns
kinds-past ns i n h e ok now = sym (left-here are_kinds ns i n h e ∙ ap (λ z. z && are_kinds (drop (i + 1) ns)) ok) ∙ now

pub kinds-all : (ns : List Normal) (i : ℕ) → length ns ≤ i → are_kinds (drop i ns) ≡ are_kinds ns → are_kinds ns ≡ true
kinds-all ns i h now = sym now ∙ left-end are_kinds ns i h

both-sides : (a b : Bool) → (a && b) ≡ true → (a ≡ true) × (b ≡ true)
both-sides true b h = (refl, h)
both-sides false b h = cc

-- where all are kinds, none is of another type
all-kinds : (ns : List Normal) (n : Normal) → are_kinds ns ≡ true → In n ns → found_kind n ≡ None → ⊥
all-kinds [] n h i k = i
all-kinds (m ∷ ns) n h (inl e) k = true≢false (sym (both-sides (is_kind m) (are_kinds ns) h).0 ∙ ap is_some (ap found_kind e ∙ k))
all-kinds (m ∷ ns) n h (inr i) k = all-kinds ns n (both-sides (is_kind m) (are_kinds ns) h).1 i k

-- ---- the tables, without the sequences

abbrev bare : Schema → Schema
bare t = record { tables = t.tables; sequences = [] }

table-same : (m : List ℕ) (t : Schema) (h : Option (List ℕ)) (x : List ℕ) → table_from m t h x ≡ table_from m (bare t) h x
table-same m t None x = refl
table-same m t (Some n) x = refl

at-same : (m : List ℕ) (t : Schema) (x : DeclName) → table_at m t x ≡ table_at m (bare t) x
at-same m t x = table-same m t x.«module» x.name

all-same : {A B : Type 0} (f g : A → Option B) → ((a : A) → f a ≡ g a) → (xs : List A) → all_of f xs ≡ all_of g xs
all-same f g h [] = refl
all-same f g h (x ∷ xs) = ap₂ and_then (h x) (all-same f g h xs)

sources-same : (m : List ℕ) (t : Schema) (is : List FromItem) → sources_of m t is ≡ sources_of m (bare t) is
sources-same m t is = all-same (source_at m t) (source_at m (bare t)) (λ i. ap (option_map (source_of i)) (at-same m t i.table)) is

items-same : (m : List ℕ) (t : Schema) (is : List FromItem) → items_of m t is ≡ items_of m (bare t) is
items-same m t is = ap (option_and_then once_aliased) (sources-same m t is)

query-same : (m : List ℕ) (t : Schema) (names : List (List ℕ)) (kinds : List ColumnKind) (q : SqlQuery) → query_of m t names kinds q ≡ query_of m (bare t) names kinds q
unfolding query_of
query-same m t names kinds q = ap (option_and_then (query_over names kinds q)) (items-same m t q.«from»)

change-same : (m : List ℕ) (t : Schema) (kinds : List ColumnKind) (u : SqlChange) → change_of m t kinds u ≡ change_of m (bare t) kinds u
unfolding change_of
change-same m t kinds u = ap (option_and_then (change_with_table kinds u)) (at-same m t (target_of u))

query-fault : (m : List ℕ) (t : Schema) (names : List (List ℕ)) (kinds : List ColumnKind) (q : SqlQuery) (r : Refusal) → QueryHasFault m t names kinds q r → QueryHasFault m (bare t) names kinds q r
query-fault m t names kinds q r (no_table h) = no_table (record { item = h.item; stands = h.stands; fault = record { none = sym (at-same m t h.item.table) ∙ h.fault.none; told = h.fault.told } })
query-fault m t names kinds q r (alias_twice h) = alias_twice (record { sources = h.sources; alias = h.alias; items = sym (sources-same m t q.«from») ∙ h.items; twice = h.twice; told = h.told })
query-fault m t names kinds q r (within sources h b) = within sources (sym (items-same m t q.«from») ∙ h) b

change-fault : (m : List ℕ) (t : Schema) (kinds : List ColumnKind) (u : SqlChange) (r : Refusal) → ChangeHasFault m t kinds u r → ChangeHasFault m (bare t) kinds u r
change-fault m t kinds u r (no_target h k) = no_target (sym (at-same m t (target_of u)) ∙ h) k
change-fault m t kinds u r (acts at shape h k) = acts at shape (sym (at-same m t (target_of u)) ∙ h) k

-- ---- the core of a query

pub query-typed : (a : Around) (q : SqlQuery) (x : HeldAntiquotes) (ts : List Normal) (t : TypedQuery) → ts ≡ x.types → IsTypedQuery a.world.now.env.home a.world.now.schema a.world.now.env.fields ts q t →
    (w : World) (s : Scope) (st : Sites) → Stands a w s → (query_at w q (antiquotes_with x st) ≡ Some t.core) × (t.row ≡ query_row w.fields t.core)
query-typed a q x ts t et h w s st stands = (
  ap (λ z. query_at z q (antiquotes_with x st)) stands.world
      ∙ ap (option_and_then (λ kinds. query_of a.world.now.env.home (bare a.world.now.schema) a.world.now.env.fields kinds q)) (sym (kinds-found x.types) ∙ ap (all_of found_kind) (sym et) ∙ h.kinds)
      ∙ sym (query-same a.world.now.env.home a.world.now.schema a.world.now.env.fields t.antiquotes q)
      ∙ h.core,
  h.row ∙ ap (λ z. query_row z.fields t.core) (sym stands.world),
)

other-there : (names all : List (List ℕ)) (ts us : List Normal) (r : Refusal) → names ≡ all → ts ≡ us → Refuses names (IsOtherKind names (map as_type ts)) r → Refuses all (IsOtherKind all (map as_type us)) r
other-there names all ts us r en et h = subst (λ z. Refuses all (IsOtherKind all (map as_type z)) r) et (subst (λ z. Refuses z (IsOtherKind z (map as_type ts)) r) en h)

pub query-other : (a : Around) (q : SqlQuery) (x : HeldAntiquotes) (names : List (List ℕ)) (ts : List Normal) (r : Refusal) → names ≡ a.world.now.datatype_names → ts ≡ x.types → Refuses names (IsOtherKind names (map as_type ts)) r →
    (w : World) (s : Scope) (st : Sites) → Stands a w s → Refuses a.world.now.datatype_names (BreaksQuery a.world.now.datatype_names w q (antiquotes_with x st)) r
query-other a q x names ts r en et h w s st stands =
    let k : Refuses a.world.now.datatype_names (IsOtherKind a.world.now.datatype_names (map as_type x.types)) r = other-there names a.world.now.datatype_names ts x.types r en et h in (k.0, of_other_kind k.1, k.2)

query-faulty : (a : Around) (q : SqlQuery) (x : HeldAntiquotes) (names : List (List ℕ)) (ts : List Normal) (r : Refusal) → ts ≡ x.types → are_kinds ts ≡ true → QueryBreaks names a.world.now.env.home a.world.now.schema a.world.now.env.fields ts q r →
    (w : World) (s : Scope) (st : Sites) → Stands a w s → BreaksQuery a.world.now.datatype_names w q (antiquotes_with x st) (as_refused r)
query-faulty a q x names ts r et all (query_antiquote h) w s st stands = absurd (all-kinds ts h.type all (in-contains h.type ts h.stands) h.fault.none)
query-faulty a q x names ts r et all (query_faulty kinds k h) w s st stands =
    of_its_own (sym (kinds-found x.types) ∙ ap (all_of found_kind) (sym et) ∙ k)
    (subst (λ (z : World). QueryHasFault z.globals.home z.globals.tables z.fields kinds q r) (sym stands.world) (query-fault a.world.now.env.home a.world.now.schema a.world.now.env.fields kinds q r h))

pub query-broken : (a : Around) (q : SqlQuery) (x : HeldAntiquotes) (names : List (List ℕ)) (ts : List Normal) (r : Refusal) → ts ≡ x.types → are_kinds ts ≡ true → QueryBreaks names a.world.now.env.home a.world.now.schema a.world.now.env.fields ts q r →
    (w : World) (s : Scope) (st : Sites) → Stands a w s → Refuses a.world.now.datatype_names (BreaksQuery a.world.now.datatype_names w q (antiquotes_with x st)) r
query-broken a q x names ts r et all h w s st stands = (as_refused r, query-faulty a q x names ts r et all h w s st stands, (refl, refl, refl))

pub asked : (a : Around) (q : SqlQuery) (x : HeldAntiquotes) (at : ℕ) (core : Query) (row : List Part) (before after : Sites) →
    ((w : World) (s : Scope) (st : Sites) → Stands a w s → (query_at w q (antiquotes_with x st) ≡ Some core) × (row ≡ query_row w.fields core)) → after ≡ with_query at core before → (w : World) (s : Scope) → Stands a w s → IsAsked w q (antiquotes_with x before) at row after
asked a q x at core row before after h e w s stands = record { core = core; stands = (h w s before stands).0; row_is = (h w s before stands).1; kept = e }

pub ask-answers : (how : QueryWord) (at : ℕ) (row : List Part) (x : HeldAntiquotes) (o : HeldOut) → o.of ≡ transaction_of (answer_type (answer_of how) row) → o.exp ≡ exp.Ask' (answer_of how) at (args_with x.exps).0 (args_with x.exps).1 →
    (w : World) (before between after : Sites) (q : SqlQuery) (args : Sites → Option Antiquotes) → at ≡ length before.queries → args (with_query_slot before) ≡ Some (antiquotes_with x between) → IsAsked w q (antiquotes_with x between) at row after → ask_out w before how q args ≡ Some (out_with o after)
ask-answers how at row x o e f w before between after q args i g k =
    ap (option_and_then (λ a. option_and_then (λ d. gives (transaction_of (answer_type (answer_of how) (query_row w.fields d))) (exp.Ask' (answer_of how) (length before.queries) a.exps.0 a.exps.1) (with_query (length before.queries) d a.sites)) (query_at w q a))) g
    ∙ ap (option_and_then (λ d. gives (transaction_of (answer_type (answer_of how) (query_row w.fields d))) (exp.Ask' (answer_of how) (length before.queries) (args_with x.exps).0 (args_with x.exps).1) (with_query (length before.queries) d between))) k.stands
    ∙ ap (λ n. gives (transaction_of (answer_type (answer_of how) (query_row w.fields k.core))) (exp.Ask' (answer_of how) n (args_with x.exps).0 (args_with x.exps).1) (with_query n k.core between)) (sym i)
    ∙ ap (λ z. gives (transaction_of (answer_type (answer_of how) z)) (exp.Ask' (answer_of how) at (args_with x.exps).0 (args_with x.exps).1) (with_query at k.core between)) (sym k.row_is)
    ∙ ap (λ z. gives (transaction_of (answer_type (answer_of how) row)) (exp.Ask' (answer_of how) at (args_with x.exps).0 (args_with x.exps).1) z) (sym k.kept)
    ∙ ap₂ (λ t y. gives t y after) (sym e) (sym f)

-- what breaks the rules of the two forms
pub ask-breaks : (names : List (List ℕ)) (w : World) (s : Scope) (st : Sites) (m : Mode) (how : QueryWord) (q : SqlQuery) (n : Shape) (args : Row_of-Exp (count n)) (a : Antiquotes) (f : Fault) → antiquotes_walk w args s (with_query_slot st) ≡ Some a → BreaksQuery names w q a f →
    Breaks names w s st (e.Query' how q n args) m f
ask-breaks names w s st m how q n args a _ at (of_other_kind (other_kind h)) = antiquote_kind at h
ask-breaks names w s st m how q n args a _ at (of_its_own k h) = bad_query at k h

pub each-breaks : (names : List (List ℕ)) (w : World) (s : Scope) (st : Sites) (m : Mode) (q : SqlQuery) (n : Shape) (args : Row_of-Exp (count n)) (p : Span) (g : ExpForm) (a : Antiquotes) (f : Fault) → antiquotes_walk w args s (with_query_slot st) ≡ Some a → BreaksQuery names w q a f →
    Breaks names w s st (e.QueryX' q n args tt (its p g alone)) m f
each-breaks names w s st m q n args p g a _ at (of_other_kind (other_kind h)) = row_antiquote_kind at h
each-breaks names w s st m q n args p g a _ at (of_its_own k h) = bad_rows at k h

-- ---- the core of a change

pub change-typed : (a : Around) (u : SqlChange) (x : HeldAntiquotes) (ts : List Normal) (t : TypedChange) → ts ≡ x.types → IsTypedChange a.world.now.env.home a.world.now.schema ts u t →
    (w : World) (s : Scope) (st : Sites) → Stands a w s → change_at w u (antiquotes_with x st) ≡ Some t.core
change-typed a u x ts t et h w s st stands =
    ap (λ z. change_at z u (antiquotes_with x st)) stands.world
    ∙ ap (option_and_then (λ kinds. change_of a.world.now.env.home (bare a.world.now.schema) kinds u)) (sym (kinds-found x.types) ∙ ap (all_of found_kind) (sym et) ∙ h.kinds)
    ∙ sym (change-same a.world.now.env.home a.world.now.schema t.antiquotes u)
    ∙ h.core

pub change-other : (a : Around) (u : SqlChange) (x : HeldAntiquotes) (names : List (List ℕ)) (ts : List Normal) (r : Refusal) → names ≡ a.world.now.datatype_names → ts ≡ x.types → Refuses names (IsOtherKind names (map as_type ts)) r →
    (w : World) (s : Scope) (st : Sites) → Stands a w s → Refuses a.world.now.datatype_names (BreaksChange a.world.now.datatype_names w u (antiquotes_with x st)) r
change-other a u x names ts r en et h w s st stands =
    let k : Refuses a.world.now.datatype_names (IsOtherKind a.world.now.datatype_names (map as_type x.types)) r = other-there names a.world.now.datatype_names ts x.types r en et h in (k.0, of_other_type k.1, k.2)

change-faulty : (a : Around) (u : SqlChange) (x : HeldAntiquotes) (names : List (List ℕ)) (ts : List Normal) (r : Refusal) → ts ≡ x.types → are_kinds ts ≡ true → ChangeBreaks names a.world.now.env.home a.world.now.schema ts u r →
    (w : World) (s : Scope) (st : Sites) → Stands a w s → BreaksChange a.world.now.datatype_names w u (antiquotes_with x st) (as_refused r)
change-faulty a u x names ts r et all (change_antiquote h) w s st stands = absurd (all-kinds ts h.type all (in-contains h.type ts h.stands) h.fault.none)
change-faulty a u x names ts r et all (change_faulty kinds k h) w s st stands =
    of_change (sym (kinds-found x.types) ∙ ap (all_of found_kind) (sym et) ∙ k)
    (subst (λ (z : World). ChangeHasFault z.globals.home z.globals.tables kinds u r) (sym stands.world) (change-fault a.world.now.env.home a.world.now.schema kinds u r h))

pub change-broken : (a : Around) (u : SqlChange) (x : HeldAntiquotes) (names : List (List ℕ)) (ts : List Normal) (r : Refusal) → ts ≡ x.types → are_kinds ts ≡ true → ChangeBreaks names a.world.now.env.home a.world.now.schema ts u r →
    (w : World) (s : Scope) (st : Sites) → Stands a w s → Refuses a.world.now.datatype_names (BreaksChange a.world.now.datatype_names w u (antiquotes_with x st)) r
change-broken a u x names ts r et all h w s st stands = (as_refused r, change-faulty a u x names ts r et all h w s st stands, (refl, refl, refl))

pub written-made : (at : ℕ) (x : HeldAntiquotes) (o : HeldOut) → o.of ≡ transaction_of unit → o.exp ≡ exp.Write' at (args_with x.exps).0 (args_with x.exps).1 → (st : Sites) → gives (transaction_of unit) (exp.Write' at (args_with x.exps).0 (args_with x.exps).1) st ≡ Some (out_with o st)
written-made at x o e f st = ap₂ (λ t y. gives t y st) (sym e) (sym f)

pub write-answers : (a : Around) (u : SqlChange) (at : ℕ) (x : HeldAntiquotes) (core : Change) (o : HeldOut) (between after : Sites) → ((w : World) (s : Scope) (st : Sites) → Stands a w s → change_at w u (antiquotes_with x st) ≡ Some core) → after ≡ with_change at core between →
    ((st : Sites) → gives (transaction_of unit) (exp.Write' at (args_with x.exps).0 (args_with x.exps).1) st ≡ Some (out_with o st)) →
    (w : World) (s : Scope) (before : Sites) (args : Sites → Option Antiquotes) → Stands a w s → at ≡ length before.changes → args (with_change_slot before) ≡ Some (antiquotes_with x between) → write_out w before u args ≡ Some (out_with o after)
write-answers a u at x core o between after h k g w s before args stands i j =
    ap (option_and_then (λ z. option_and_then (λ d. gives (transaction_of unit) (exp.Write' (length before.changes) z.exps.0 z.exps.1) (with_change (length before.changes) d z.sites)) (change_at w u z))) j
    ∙ ap (option_and_then (λ d. gives (transaction_of unit) (exp.Write' (length before.changes) (args_with x.exps).0 (args_with x.exps).1) (with_change (length before.changes) d between))) (h w s between stands)
    ∙ ap (λ n. gives (transaction_of unit) (exp.Write' n (args_with x.exps).0 (args_with x.exps).1) (with_change n core between)) (sym i)
    ∙ ap (λ z. gives (transaction_of unit) (exp.Write' at (args_with x.exps).0 (args_with x.exps).1) z) (sym k)
    ∙ g after

change-breaks : (names : List (List ℕ)) (w : World) (s : Scope) (st : Sites) (m : Mode) (u : SqlChange) (n : Shape) (args : Row_of-Exp (count n)) (a : Antiquotes) (f : Fault) → antiquotes_walk w args s (with_change_slot st) ≡ Some a → BreaksChange names w u a f →
    Breaks names w s st (e.Dml' u n args) m f
change-breaks names w s st m u n args a _ at (of_other_type (other_kind h)) = change_antiquote_kind at h
change-breaks names w s st m u n args a _ at (of_change k h) = bad_change at k h

pub write-broken : (a : Around) (u : SqlChange) (x : HeldAntiquotes) (between : Sites) (r : Refusal) → ((w : World) (s : Scope) (st : Sites) → Stands a w s → Refuses a.world.now.datatype_names (BreaksChange a.world.now.datatype_names w u (antiquotes_with x st)) r) →
    (w : World) (s : Scope) (before : Sites) (m : Mode) (n : Shape) (args : Row_of-Exp (count n)) → Stands a w s → antiquotes_walk w args s (with_change_slot before) ≡ Some (antiquotes_with x between) →
    Refuses a.world.now.datatype_names (Breaks a.world.now.datatype_names w s before (e.Dml' u n args) m) r
write-broken a u x between r h w s before m n args stands at =
    let k : Refuses a.world.now.datatype_names (BreaksChange a.world.now.datatype_names w u (antiquotes_with x between)) r = h w s between stands in
    (k.0, change-breaks a.world.now.datatype_names w s before m u n args (antiquotes_with x between) k.0 at k.1, k.2)

-- ---- the row function of `queryX`

most-is : (a : Around) (w : World) (s : Scope) → Stands a w s → w.most ≡ most_nodes
most-is a w s st = ap (λ z. z.most) st.world

is-small : (n m : ℕ) → n ≤ m → nat_le n m ≡ true
is-small n m h = grind (arith, nat_tests)

is-large : (n m : ℕ) → m < n → nat_le n m ≡ false
is-large n m h = grind (arith, nat_tests)

pub row-type-fits : (a : Around) (c : Con) (n : Normal) (of u : NormalType) → ((env : _) → Reads a.scope.cons.names env → n ≡ nf env c) → ((env : _) → Reads a.scope.cons.names env → nodes n ≤ most_nodes) → of ≡ as_type n → same_type of u ≡ true →
    (w : World) (s : Scope) → Stands a w s → IsRowType w s c u
row-type-fits a c n of u read small is same w s st =
    let k : n ≡ nf s.names.cons c = read s.names.cons st.cons in record {
      small = ap (λ z. nat_le (nodes z) w.most) (sym k) ∙ ap (nat_le (nodes n)) (most-is a w s st) ∙ is-small (nodes n) most_nodes (small s.names.cons st.cons);
      same = ap (λ z. same_type (as_type z) u) (sym k) ∙ ap (λ z. same_type z u) (sym is) ∙ same;
    }

pub row-type-large : (a : Around) (c : Con) (u : NormalType) (r : Refusal) → IsLarge r → ((env : _) → Reads a.scope.cons.names env → most_nodes < nodes (nf env c)) → (w : World) (s : Scope) → Stands a w s → Refuses a.world.now.datatype_names (BreaksRowType a.world.now.datatype_names w s c u) r
row-type-large a c u r says large w s st = (too_large, large_there (ap (nat_le (nodes (nf s.names.cons c))) (most-is a w s st) ∙ is-large (nodes (nf s.names.cons c)) most_nodes (large s.names.cons st.cons)), says)

pub row-type-differs : (a : Around) (c : Con) (n : Normal) (of u : NormalType) (s' : Stop) → ((env : _) → Reads a.scope.cons.names env → n ≡ nf env c) → of ≡ as_type n → same_type of u ≡ false → StopIs a.world.now.datatype_names (types_differ a.world.now.datatype_names of u) s' →
    IfRefused {A = Unit {0}} (Err s') (λ r. (w : World) (s : Scope) → Stands a w s → Refuses a.world.now.datatype_names (BreaksRowType a.world.now.datatype_names w s c u) r)
row-type-differs a c n of u (stop.Refused r) read is h t = λ w s st.
    let names : List (List ℕ) = a.world.now.datatype_names in
    let k : of ≡ as_type (nf s.names.cons c) = is ∙ ap as_type (read s.names.cons st.cons) in
    (types_differ names of u, subst (λ z. BreaksRowType names w s c u (types_differ names z u)) (sym k) (differs_there (ap (λ z. same_type z u) (sym k) ∙ h)), t)
row-type-differs a c n of u stop.Memory read is h t = tt

pub typed-variable : (w : World) (s : Scope) (r : List Part) (p : WrittenParam) (x : Binder) (c : Con) (u : NormalType) → p ≡ written_param.Value x c → u ≡ record_of r → IsRowType w s c u → row_param w s r (lambda_param.Typed p ∷ []) ≡ Some x
typed-variable w s r p x c u is e h =
    ap (λ z. row_param w s r (lambda_param.Typed z ∷ [])) is
    ∙ ap (λ b. option_and_then (λ t. if_so (same_type t (record_of r)) (Some x)) (if_so b (Some (as_type (nf s.names.cons c))))) h.small
    ∙ ap (λ b. if_so b (Some x)) (ap (same_type (as_type (nf s.names.cons c))) (sym e) ∙ h.same)

variable-breaks : (names : List (List ℕ)) (w : World) (s : Scope) (r : List Part) (x : Binder) (c : Con) (u : NormalType) (f : Fault) → u ≡ record_of r → BreaksRowType names w s c u f → BreaksRowFunction names w s r (lambda_param.Typed (written_param.Value x c) ∷ []) f
variable-breaks names w s r x c u _ e (large_there h) = large_row_type h
variable-breaks names w s r x c u _ e (differs_there h) =
    subst (λ z. BreaksRowFunction names w s r (lambda_param.Typed (written_param.Value x c) ∷ []) (types_differ names (as_type (nf s.names.cons c)) z)) (sym e) (other_row_type (ap (same_type (as_type (nf s.names.cons c))) (sym e) ∙ h))

pub variable-broken : (a : Around) (p : WrittenParam) (x : Binder) (c : Con) (u : NormalType) (r : Refusal) → p ≡ written_param.Value x c → ((w : World) (s : Scope) → Stands a w s → Refuses a.world.now.datatype_names (BreaksRowType a.world.now.datatype_names w s c u) r) →
    (w : World) (s : Scope) (row : List Part) → Stands a w s → u ≡ record_of row → Refuses a.world.now.datatype_names (BreaksRowFunction a.world.now.datatype_names w s row (lambda_param.Typed p ∷ [])) r
variable-broken a p x c u r is h w s row stands e =
    let names : List (List ℕ) = a.world.now.datatype_names in
    let k : Refuses names (BreaksRowType names w s c u) r = h w s stands in
    (k.0, subst (λ z. BreaksRowFunction names w s row (lambda_param.Typed z ∷ []) k.0) (sym is) (variable-breaks names w s row x c u k.0 e k.1), k.2)

abbrev pub no_row_function : Fault
no_row_function = not_so (codes "a row function") (codes "one variable")

-- parameters of another form
pub function-told : (a : Around) (u : NormalType) (ps : List LambdaParam) (s' : Stop) → is_row_function ps ≡ false → ((names : List (List ℕ)) → StopIs names no_row_function s') →
    IfRefused {A = Unit {0}} (Err s') (λ r. (w : World) (s : Scope) (row : List Part) → Stands a w s → u ≡ record_of row → Refuses a.world.now.datatype_names (BreaksRowFunction a.world.now.datatype_names w s row ps) r)
function-told a u ps (stop.Refused r) h t = λ w s row stands e. (no_row_function, other_row_function h, t a.world.now.datatype_names)
function-told a u ps stop.Memory h t = tt

not-only : (ps : List LambdaParam) → only ps ≡ None → is_row_function ps ≡ false
not-only [] h = refl
not-only (p ∷ []) h = cc
not-only (lambda_param.Typed (written_param.Value x c) ∷ q ∷ ps) h = refl
not-only (lambda_param.Typed written_param.Unit ∷ q ∷ ps) h = refl
not-only (lambda_param.Con c ∷ q ∷ ps) h = refl
not-only (lambda_param.Bare x ∷ q ∷ ps) h = refl

pub functions-told : (a : Around) (u : NormalType) (ps : List LambdaParam) (s' : Stop) → None ≡ only ps → ((names : List (List ℕ)) → StopIs names no_row_function s') →
    IfRefused {A = Unit {0}} (Err s') (λ r. (w : World) (s : Scope) (row : List Part) → Stands a w s → u ≡ record_of row → Refuses a.world.now.datatype_names (BreaksRowFunction a.world.now.datatype_names w s row ps) r)
functions-told a u ps s' h t = function-told a u ps s' (not-only ps (sym h)) t

pub only-is : (ps : List LambdaParam) (p : LambdaParam) → Some p ≡ only ps → ps ≡ p ∷ []
only-is [] p h = cc
only-is (q ∷ []) p h = ap (λ z. z ∷ []) (some_of (sym h))
only-is (q ∷ k ∷ ps) p h = cc

-- ---- `queryX`

sorted : {A : Type 0} (o : Option A) → is_some o ≡ true → (a : A) × (o ≡ Some a)
sorted None h = cc
sorted (Some a) h = (a, refl)

pub each-answers : (at : ℕ) (x : HeldAntiquotes) (body o : HeldOut) → is_some (sort_of body.of) ≡ true → o.of ≡ transaction_of body.of → o.exp ≡ make.each at (args_with x.exps).0 (args_with x.exps).1 body.exp →
    (w : World) (before between middle after : Sites) (m : Mode) (q : SqlQuery) (row : List Part) (args : Sites → Option Antiquotes) (walk : List Part → Sites → Mode → Option Out) → at ≡ length before.queries → args (with_query_slot before) ≡ Some (antiquotes_with x between) →
    IsAsked w q (antiquotes_with x between) at row middle → walk row middle (of_transaction m) ≡ Some (out_with body after) → each_out w before m q args walk ≡ Some (out_with o after)
each-answers at x body o sort e f w before between middle after m q row args walk i g k h =
    let a : Antiquotes = antiquotes_with x between in
    let p : (z : Sort) × (sort_of body.of ≡ Some z) = sorted (sort_of body.of) sort in
    ap (option_and_then (λ z. option_and_then (λ d. option_and_then (rows_out before z) (walk (query_row w.fields d) (with_query (length before.queries) d z.sites) (of_transaction m))) (query_at w q z))) g
    ∙ ap (option_and_then (λ d. option_and_then (rows_out before a) (walk (query_row w.fields d) (with_query (length before.queries) d between) (of_transaction m)))) k.stands
    ∙ ap₂ (λ r n. option_and_then (rows_out before a) (walk r (with_query n k.core between) (of_transaction m))) (sym k.row_is) (sym i)
    ∙ ap (λ z. option_and_then (rows_out before a) (walk row z (of_transaction m))) (sym k.kept)
    ∙ ap (option_and_then (rows_out before a)) h
    ∙ ap (option_and_then (λ z. gives (transaction_of body.of) (make.each (length before.queries) (args_with x.exps).0 (args_with x.exps).1 body.exp) after)) p.1
    ∙ ap (λ n. gives (transaction_of body.of) (make.each n (args_with x.exps).0 (args_with x.exps).1 body.exp) after) (sym i)
    ∙ ap₂ (λ t y. gives t y after) (sym e) (sym f)

pub no-xml-told : (a : Around) (at : ℕ) (x : HeldAntiquotes) (body : HeldOut) (s' : Stop) → is_some (sort_of body.of) ≡ false → StopIs a.world.now.datatype_names (not_of_type a.world.now.datatype_names body.of (codes "xml")) s' →
    IfRefused {A = Unit {0}} (Err s') (λ r. (w : World) (s : Scope) (before between middle after : Sites) (m : Mode) (q : SqlQuery) (row : List Part) (n : Shape) (args : Row_of-Exp (count n)) (p t : Span) (params : List LambdaParam) (b : Binder) (y : ExpForm) → at ≡ length before.queries →
    antiquotes_walk w args s (with_query_slot before) ≡ Some (antiquotes_with x between) → IsAsked w q (antiquotes_with x between) at row middle → row_param w s row params ≡ Some b → typed w y (within_binder b (record_of row) s) middle (of_transaction m) ≡ Some (out_with body after) →
    Refuses a.world.now.datatype_names (Breaks a.world.now.datatype_names w s before (e.QueryX' q n args tt (its p (e.Lambda' params tt (its t y alone)) alone)) m) r)
no-xml-told a at x body (stop.Refused r) none told = λ w s before between middle after m q row n args p t params b y i g k v h.
    let names : List (List ℕ) = a.world.now.datatype_names in
    let v' : row_param w s (query_row w.fields k.core) params ≡ Some b = ap (λ z. row_param w s z params) (sym k.row_is) ∙ v in
    let h' : typed w y (within_binder b (record_of (query_row w.fields k.core)) s) (with_query (length before.queries) k.core between) (of_transaction m) ≡ Some (out_with body after) =
    ap₂ (λ z st. typed w y (within_binder b (record_of z) s) st (of_transaction m)) (sym k.row_is) (sym (k.kept ∙ ap (λ z. with_query z k.core between) i)) ∙ h in
    (not_of_type names body.of (codes "xml"), no_xml_rows g k.stands v' h' (no-sort (sort_of body.of) none), told)
  where
    no-sort : {A : Type 0} (o : Option A) → is_some o ≡ false → o ≡ None
    no-sort None z = refl
    no-sort (Some c) z = cc
no-xml-told a at x body stop.Memory none told = tt

-- what breaks the rule of the row function
pub row-breaks : (names : List (List ℕ)) (w : World) (s : Scope) (before between middle : Sites) (m : Mode) (q : SqlQuery) (at : ℕ) (row : List Part) (n : Shape) (args : Row_of-Exp (count n)) (x : HeldAntiquotes) (p t : Span) (params : List LambdaParam) (y : ExpForm) (f : Fault) →
    antiquotes_walk w args s (with_query_slot before) ≡ Some (antiquotes_with x between) → IsAsked w q (antiquotes_with x between) at row middle → BreaksRowFunction names w s row params f →
    Breaks names w s before (e.QueryX' q n args tt (its p (e.Lambda' params tt (its t y alone)) alone)) m f
row-breaks names w s before between middle m q at row n args x p t params y f g k h = bad_row_function g k.stands (subst (λ z. BreaksRowFunction names w s z params f) k.row_is h)
