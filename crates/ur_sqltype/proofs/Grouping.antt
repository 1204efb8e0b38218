-- Where no column stands outside of GROUP BY, what is selected and ordered by reads GROUP BY columns alone.
use Rattle.std.proofs.Common.{◌≡◌, ◌∙◌, refl, sym, ap, ap₂, ℕ, Bool, true, false, true≢false, List, [], ◌∷◌, Option, Some, None, nat_eq, inl, inr}
use Rattle.std.proofs.lemmas.Bool.{eqb-true}
use Rattle.std.specs.Prelude.{◌&&◌, ◌||◌, not, if◌then◌else◌, All, Contains}
use Rattle.std.specs.List.{AllByRecursion, list_any}
use Rattle.std.proofs.lemmas.List.Elements.{All-from_recursion}
use Rattle.std.proofs.lemmas.Map.Views.{Contains-from_any}
use Rattle.ur_base.specs.declared.names.Name.{Name}
use Rattle.ur_sql.specs.declared.scalar.Scalar.{Scalar, more_of-Scalar as one, end_of-Scalar as end}
use Rattle.ur_sql.specs.declared.scalar.Scalar.TheVariants as s
use Rattle.ur_sql.specs.declared.query.Query.{Query}
use Rattle.ur_sql.specs.declared.query.ColumnAt.{ColumnAt}
use Rattle.ur_sql.specs.declared.query.Field.{Field}
use Rattle.ur_sql.specs.declared.query.OrderKey.{OrderKey}
use Rattle.ur_sql.specs.declared.query.Field.TheVariants as field
use Rattle.ur_sql.specs.Answer.{is_aggregate}
use Rattle.ur_sql.specs.Typing.{IsGrouped, FieldReadsOnly, ReadsOnly}
use Rattle.ur_sqltype.specs.Choice.{or_else, first_in}
use Rattle.ur_sqltype.specs.Query.{same_column, at_outside, outside_in, field_outside, key_outside, is_empty, is_grouped, outside}
use Rattle.ur_sqltype.proofs.Taken.{neither}

-- ---- tests

pub both_true : (a b : Bool) → (a && b) ≡ true → (a ≡ true) × (b ≡ true)
both_true true b e = (refl, e)
both_true false b e = absurd (true≢false (sym e))

or_left : (a b : Bool) → a ≡ true → (a || b) ≡ true
or_left true b e = refl
or_left false b e = absurd (true≢false (sym e))

or_right : (a b : Bool) → b ≡ true → (a || b) ≡ true
or_right true b e = refl
or_right false b e = e

pub same_is : (a b : ColumnAt) → same_column a b ≡ true → a ≡ b
same_is a b e =
    let t = both_true (nat_eq b.item a.item) (nat_eq b.column a.column) e in
    ap₂ (λ (i c : ℕ). let at : ColumnAt = record { item = i; column = c } in at) (sym (eqb-true b.item a.item t.0)) (sym (eqb-true b.column a.column t.1))

-- ---- expressions

taken_none : (b : Bool) (at : ColumnAt) → (if b then None else Some at) ≡ None → b ≡ true
taken_none true at e = refl
taken_none false at e = absurd (cc)

pub at_inside : (group : List ColumnAt) (at : ColumnAt) → at_outside group at ≡ None → Contains group at
at_inside group at e = Contains-from_any same_is at group (taken_none (list_any (same_column at) group) at e)

pub reads_only : (group : List ColumnAt) (e : Scalar) → outside_in group e ≡ None → ReadsOnly group e
reads_only group (s.Constant x) h = tt
reads_only group (s.Column i c) h = at_inside group (record { item = i; column = c }) h
reads_only group (s.Param n) h = tt
reads_only group (s.Or' _ (one a end) _ (one b end)) h = let n = neither (outside_in group a) (outside_in group b) h in (reads_only group a n.0, reads_only group b n.1)
reads_only group (s.And' _ (one a end) _ (one b end)) h = let n = neither (outside_in group a) (outside_in group b) h in (reads_only group a n.0, reads_only group b n.1)
reads_only group (s.Not' _ (one a end)) h = reads_only group a h
reads_only group (s.Compare' c _ (one a end) _ (one b end)) h = let n = neither (outside_in group a) (outside_in group b) h in (reads_only group a n.0, reads_only group b n.1)
reads_only group (s.Add' _ (one a end) _ (one b end)) h = let n = neither (outside_in group a) (outside_in group b) h in (reads_only group a n.0, reads_only group b n.1)
reads_only group (s.Sub' _ (one a end) _ (one b end)) h = let n = neither (outside_in group a) (outside_in group b) h in (reads_only group a n.0, reads_only group b n.1)
reads_only group (s.Mul' _ (one a end) _ (one b end)) h = let n = neither (outside_in group a) (outside_in group b) h in (reads_only group a n.0, reads_only group b n.1)
reads_only group (s.Neg' _ (one a end)) h = reads_only group a h
reads_only group (s.Null k) h = tt
reads_only group (s.Present' _ (one a end)) h = reads_only group a h

-- ---- lists

each_one : {A : Type 0} (f : A → Option ColumnAt) (P : A → Type 0) → ((x : A) → f x ≡ None → P x) → (xs : List A) → first_in f xs ≡ None → AllByRecursion P xs
each_one f P g [] e = tt
each_one f P g (x ∷ xs) e = let n = neither (f x) (first_in f xs) e in (g x n.0, each_one f P g xs n.1)

pub all_inside : {A : Type 0} (f : A → Option ColumnAt) (P : A → Type 0) → ((x : A) → f x ≡ None → P x) → (xs : List A) → first_in f xs ≡ None → All P xs
all_inside f P g xs e = All-from_recursion P xs (each_one f P g xs e)

field_reads : (group : List ColumnAt) (f : Field) → field_outside group f ≡ None → FieldReadsOnly group f
field_reads group (field.Columns n cs) h = all_inside (λ (c : Name × ColumnAt). at_outside group c.1) (λ (c : Name × ColumnAt). Contains group c.1) (λ (c : Name × ColumnAt) e. at_inside group c.1 e) cs h
field_reads group (field.Single n x) h = reads_only group x h
field_reads group (field.Over n x) h = tt

-- ---- queries

not_empty : {A : Type 0} (xs : List A) → (xs ≡ [] → ⊥) → not (is_empty xs) ≡ true
not_empty [] f = absurd (f refl)
not_empty (x ∷ xs) f = refl

grouped_so : (c : Query) → IsGrouped c → is_grouped c ≡ true
grouped_so c (inl h) = or_left (list_any is_aggregate c.fields) (not (is_empty c.group)) h
grouped_so c (inr f) = or_right (list_any is_aggregate c.fields) (not (is_empty c.group)) (not_empty c.group f)

both_none : (c : Query) → IsGrouped c → outside c ≡ None → (first_in (field_outside c.group) c.fields ≡ None) × (first_in (key_outside c.group) c.order ≡ None)
both_none c h e =
    let found : Option ColumnAt = or_else (first_in (field_outside c.group) c.fields) (first_in (key_outside c.group) c.order) in
    neither (first_in (field_outside c.group) c.fields) (first_in (key_outside c.group) c.order) (sym (ap (λ b. if b then found else None) (grouped_so c h)) ∙ e)

pub fields_read : (c : Query) → IsGrouped c → outside c ≡ None → All (FieldReadsOnly c.group) c.fields
fields_read c h e = all_inside (field_outside c.group) (FieldReadsOnly c.group) (field_reads c.group) c.fields (both_none c h e).0

pub order_reads : (c : Query) → IsGrouped c → outside c ≡ None → All (λ k. ReadsOnly c.group k.by) c.order
order_reads c h e = all_inside (key_outside c.group) (λ (k : OrderKey). ReadsOnly c.group k.by) (λ (k : OrderKey) n. reads_only c.group k.by n) c.order (both_none c h e).1
