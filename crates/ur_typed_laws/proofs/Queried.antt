-- What the rules say of the core of a query or a change makes it: the functions give it.
use Rattle.std.proofs.Common.{inl, inr, ◌⊎◌, ◌≡◌, ◌∙◌, refl, sym, ap, ap₂, ℕ, Bool, true, false, true≢false, List, [], ◌∷◌, ◌++◌, map, Option, Some, None, nat_eq, bytes_eq, arith}
use Rattle.std.proofs.lemmas.Bool.Decides.{nat_tests}
use Rattle.std.proofs.lemmas.List.Elements.{recursion_from_All}
use Rattle.std.specs.Prelude.{◌&&◌, ◌||◌, not, if◌then◌else◌, All, Contains, option_map, option_and_then}
use Rattle.std.specs.List.{AllByRecursion, list_any}
use Rattle.ur_base.specs.declared.names.Name.{Name}
use Rattle.ur_syntax.specs.declared.sql.SqlQuery.{SqlQuery}
use Rattle.ur_syntax.specs.declared.sql.SqlChange.{SqlChange}
use Rattle.ur_values.specs.declared.schema.ColumnKind.{ColumnKind}
use Rattle.ur_values.specs.declared.schema.ColumnKind.TheVariants as kind
use Rattle.ur_values.specs.declared.schema.Schema.{Schema}
use Rattle.ur_sql.specs.declared.scalar.Scalar.{Scalar, more_of-Scalar as one, end_of-Scalar as end}
use Rattle.ur_sql.specs.declared.scalar.Scalar.TheVariants as s
use Rattle.ur_sql.specs.declared.query.Query.{Query}
use Rattle.ur_sql.specs.declared.query.ColumnAt.{ColumnAt}
use Rattle.ur_sql.specs.declared.query.Field.{Field}
use Rattle.ur_sql.specs.declared.query.Field.TheVariants as field
use Rattle.ur_sql.specs.declared.query.OrderKey.{OrderKey}
use Rattle.ur_sql.specs.declared.change.Change.{Change}
use Rattle.ur_sql.specs.Answer.{is_aggregate}
use Rattle.ur_sql.specs.Typing.{IsGrouped, FieldReadsOnly, ReadsOnly}
use Rattle.ur_disjoint.proofs.Members.{In, in-contains}
use Rattle.ur_sqltype.specs.declared.scope.Within.{Within}
use Rattle.ur_sqltype.specs.Lists.{all_of, maybe, repeated}
use Rattle.ur_sqltype.proofs.Once.{none_twice}
use Rattle.ur_sqltype.specs.Choice.{if_none, or_else, first_in}
use Rattle.ur_sqltype.specs.Tables.{sources_of, table_at}
use Rattle.ur_sqltype.specs.Query.{of_kind, ons_of, column_in, ordered, limited, chosen_of, named_of, alias_fields, in_order, fields_with, all_fields, once_named, fields_of, field_number, reads, begun, with_on, with_filter, with_fields, with_group, with_order, with_limit, with_offset, to_filter, to_fields, to_group, to_order, to_limit, stated, once_aliased, items_of, same_column, at_outside, outside_in, field_outside, key_outside, is_empty, is_grouped, outside, well_grouped, query_over, query_of}
use Rattle.ur_sqltype.specs.IsQuery.{IsQuery}
use Rattle.ur_sqltype.specs.Change.{action_of, target_of, change_with, change_at, change_of, IsChange}

-- ---- options

pub then_is : {A B : Type 0} (f : A → Option B) (o : Option A) (x : A) (y : Option B) → o ≡ Some x → f x ≡ y → option_and_then f o ≡ y
then_is f o x y h g = ap (option_and_then f) h ∙ g

pub map_is : {A B : Type 0} (f : A → B) (o : Option A) (x : A) → o ≡ Some x → option_map f o ≡ Some (f x)
map_is f o x h = ap (option_map f) h

none_so : {A B : Type 0} (t : Option A) (x : B) → t ≡ None → if_none t x ≡ Some x
none_so t x h = ap (λ z. if_none z x) h

or_none : {A : Type 0} (x y : Option A) → x ≡ None → y ≡ None → or_else x y ≡ None
or_none None y h g = g
or_none (Some a) y h g = absurd (cc)

-- ---- columns outside of GROUP BY

number_self : (n : ℕ) → nat_eq n n ≡ true
number_self n = grind (arith, nat_tests)

column_self : (at : ColumnAt) → same_column at at ≡ true
column_self at = ap₂ (λ x y. x && y) (number_self at.item) (number_self at.column)

or_second : (a b : Bool) → b ≡ true → (a || b) ≡ true
or_second true b h = refl
or_second false b h = h

holds : (at : ColumnAt) (group : List ColumnAt) → In at group → list_any (same_column at) group ≡ true
holds at [] i = absurd i
holds at (x ∷ group) (inl h) = ap (λ z. same_column at z || list_any (same_column at) group) h ∙ ap (λ z. z || list_any (same_column at) group) (column_self at)
holds at (x ∷ group) (inr i) = or_second (same_column at x) (list_any (same_column at) group) (holds at group i)

at_none : (group : List ColumnAt) (at : ColumnAt) → Contains group at → at_outside group at ≡ None
at_none group at c = let some : Option ColumnAt = Some at in ap (λ b. if b then None else some) (holds at group (in-contains at group c))

inside_none : (group : List ColumnAt) (e : Scalar) → ReadsOnly group e → outside_in group e ≡ None
inside_none group (s.Constant x) h = refl
inside_none group (s.Column i c) h = at_none group (record { item = i; column = c }) h
inside_none group (s.Param n) h = refl
inside_none group (s.Or' _ (one a end) _ (one b end)) h = or_none (outside_in group a) (outside_in group b) (inside_none group a h.0) (inside_none group b h.1)
inside_none group (s.And' _ (one a end) _ (one b end)) h = or_none (outside_in group a) (outside_in group b) (inside_none group a h.0) (inside_none group b h.1)
inside_none group (s.Not' _ (one a end)) h = inside_none group a h
inside_none group (s.Compare' c _ (one a end) _ (one b end)) h = or_none (outside_in group a) (outside_in group b) (inside_none group a h.0) (inside_none group b h.1)
inside_none group (s.Add' _ (one a end) _ (one b end)) h = or_none (outside_in group a) (outside_in group b) (inside_none group a h.0) (inside_none group b h.1)
inside_none group (s.Sub' _ (one a end) _ (one b end)) h = or_none (outside_in group a) (outside_in group b) (inside_none group a h.0) (inside_none group b h.1)
inside_none group (s.Mul' _ (one a end) _ (one b end)) h = or_none (outside_in group a) (outside_in group b) (inside_none group a h.0) (inside_none group b h.1)
inside_none group (s.Neg' _ (one a end)) h = inside_none group a h
inside_none group (s.Null k) h = refl
inside_none group (s.Present' _ (one a end)) h = inside_none group a h

none_each : {A : Type 0} (f : A → Option ColumnAt) (P : A → Type 0) → ((x : A) → P x → f x ≡ None) → (xs : List A) → AllByRecursion P xs → first_in f xs ≡ None
none_each f P g [] h = refl
none_each f P g (x ∷ xs) h = or_none (f x) (first_in f xs) (g x h.0) (none_each f P g xs h.1)

none_all : {A : Type 0} (f : A → Option ColumnAt) (P : A → Type 0) → ((x : A) → P x → f x ≡ None) → (xs : List A) → All P xs → first_in f xs ≡ None
none_all f P g xs h = none_each f P g xs (recursion_from_All P xs h)

field_none : (group : List ColumnAt) (f : Field) → FieldReadsOnly group f → field_outside group f ≡ None
field_none group (field.Columns n cs) h = none_all (λ (c : Name × ColumnAt). at_outside group c.1) (λ (c : Name × ColumnAt). Contains group c.1) (λ (c : Name × ColumnAt) k. at_none group c.1 k) cs h
field_none group (field.Single n x) h = inside_none group x h
field_none group (field.Over n x) h = refl

nonempty : {A : Type 0} (xs : List A) → not (is_empty xs) ≡ true → (xs ≡ [] → ⊥)
nonempty [] h e = true≢false (sym h)
nonempty (x ∷ xs) h e = cc

either_true : (a b : Bool) → (a || b) ≡ true → (a ≡ true) ⊎ (b ≡ true)
either_true true b h = inl refl
either_true false b h = inr h

grouped_is : (c : Query) → is_grouped c ≡ true → IsGrouped c
grouped_is c h = elim (either_true (list_any is_aggregate c.fields) (not (is_empty c.group)) h) [ inl a ↦ inl a | inr b ↦ inr (nonempty c.group b) ]

abbrev found_outside : Query → Option ColumnAt
found_outside c = or_else (first_in (field_outside c.group) c.fields) (first_in (key_outside c.group) c.order)

outside_none : (c : Query) → (IsGrouped c → All (FieldReadsOnly c.group) c.fields) → (IsGrouped c → All (λ k. ReadsOnly c.group k.by) c.order) → outside c ≡ None
outside_none c f o = by_test (is_grouped c) refl where
  by_test : (b : Bool) → is_grouped c ≡ b → outside c ≡ None
  by_test true h =
      let g : IsGrouped c = grouped_is c h in
      ap (λ b. if b then found_outside c else None) h ∙ or_none (first_in (field_outside c.group) c.fields) (first_in (key_outside c.group) c.order)
      (none_all (field_outside c.group) (FieldReadsOnly c.group) (field_none c.group) c.fields (f g))
      (none_all (key_outside c.group) (λ (k : OrderKey). ReadsOnly c.group k.by) (λ (k : OrderKey) r. inside_none c.group k.by r) c.order (o g))
  by_test false h = ap (λ b. if b then found_outside c else None) h

-- ---- queries

module _ (m : List ℕ) (tables : Schema) (names : List (List ℕ)) (kinds : List ColumnKind) (q : SqlQuery) (core : Query) (i : IsQuery m tables names kinds q core) where
  abbrev scope : Within
  scope = reads i.sources kinds

  items_back : items_of m tables q.«from» ≡ Some i.sources
  items_back = then_is once_aliased (sources_of m tables q.«from») i.sources (Some i.sources) i.items (none_so (repeated bytes_eq (map (λ s. s.alias) i.sources)) i.sources (none_twice bytes_eq (map (λ s. s.alias) i.sources) i.aliases))

  fields_back : fields_of names scope q.selection ≡ Some core.fields
  fields_back =
      let a : all_fields names scope q.selection ≡ Some core.fields =
      then_is (fields_with names scope q.selection) (chosen_of scope q.selection) i.chosen (Some core.fields) i.columns
      (map_is (λ named. in_order (alias_fields names i.chosen 0 i.sources ++ named)) (named_of names scope q.selection) i.named i.others ∙ ap Some (sym i.fields)) in
      then_is once_named (all_fields names scope q.selection) core.fields (Some core.fields) a (none_so (repeated nat_eq (map field_number core.fields)) core.fields (none_twice nat_eq (map field_number core.fields) i.distinct))

  -- the core, with its first parts alone
  abbrev begun_core : Query
  begun_core = begun scope

  abbrev on_core : Query
  on_core = record begun_core { on = core.on }

  abbrev filter_core : Query
  filter_core = record on_core { filter = core.filter }

  abbrev fields_core : Query
  fields_core = record filter_core { fields = core.fields }

  abbrev group_core : Query
  group_core = record fields_core { group = core.group }

  abbrev order_core : Query
  order_core = record group_core { order = core.order }

  abbrev limit_core : Query
  limit_core = record order_core { limit = core.limit }

  abbrev offset_core : Query
  offset_core = record limit_core { offset = core.offset }

  offset_is : offset_core ≡ core
  offset_is =
      ap₂ (λ (ps : List ColumnKind) fs. let c : Query = record { params = ps; fields = core.fields; «from» = fs; on = core.on; filter = core.filter; group = core.group; order = core.order; limit = core.limit; offset = core.offset } in c)
      (sym i.params) (sym i.tables_read)

  stated_back : stated names scope q ≡ Some core
  stated_back =
      let a : with_on scope q begun_core ≡ Some on_core = map_is (λ x. record begun_core { on = x }) (all_of (of_kind kind.Bool scope) (ons_of q.«from»)) core.on i.on in
      let b : to_filter scope q ≡ Some filter_core = then_is (with_filter scope q) (with_on scope q begun_core) on_core (Some filter_core) a (map_is (λ x. record on_core { filter = x }) (maybe (of_kind kind.Bool scope) q.filter) core.filter i.filter) in
      let c : to_fields names scope q ≡ Some fields_core = then_is (with_fields names scope q) (to_filter scope q) filter_core (Some fields_core) b (map_is (λ x. record filter_core { fields = x }) (fields_of names scope q.selection) core.fields fields_back) in
      let d : to_group names scope q ≡ Some group_core = then_is (with_group scope q) (to_fields names scope q) fields_core (Some group_core) c (map_is (λ x. record fields_core { group = x }) (all_of (column_in scope) q.group) core.group i.group) in
      let e : to_order names scope q ≡ Some order_core = then_is (with_order scope q) (to_group names scope q) group_core (Some order_core) d (map_is (λ x. record group_core { order = x }) (all_of (ordered scope) q.order) core.order i.order) in
      let f : to_limit names scope q ≡ Some limit_core = then_is (with_limit scope q) (to_order names scope q) order_core (Some limit_core) e (map_is (λ x. record order_core { limit = x }) (maybe (limited scope) q.limit) core.limit i.limit) in
      then_is (with_offset scope q) (to_limit names scope q) limit_core (Some core) f (map_is (λ x. record limit_core { offset = x }) (maybe (limited scope) q.offset) core.offset i.offset ∙ ap Some offset_is)

  pub query_back : query_of m tables names kinds q ≡ Some core
  unfolding query_of
  query_back =
      then_is (query_over names kinds q) (items_of m tables q.«from») i.sources (Some core) items_back
      (then_is well_grouped (stated names scope q) core (Some core) stated_back (none_so (outside core) core (outside_none core i.grouped_fields i.grouped_order)))

-- ---- changes

pub change_back : (m : List ℕ) (tables : Schema) (kinds : List ColumnKind) (u : SqlChange) (core : Change) → IsChange m tables kinds u core → change_of m tables kinds u ≡ Some core
unfolding change_of
change_back m tables kinds u core i =
    let is : change_with kinds (core.table, i.shape) core.action ≡ core =
    ap₂ (λ (ps cs : List ColumnKind). let c : Change = record { params = ps; table = core.table; columns = cs; action = core.action } in c) (sym i.params) (sym i.columns) in
    then_is (change_at kinds u) (table_at m tables (target_of u)) (core.table, i.shape) (Some core) i.target
    (map_is (change_with kinds (core.table, i.shape)) (action_of kinds (core.table, i.shape) u) core.action i.acts ∙ ap Some is)
