-- Queries and changes from what is known of their parts.
use Rattle.std.proofs.Common.{◌≡◌, List, [], ◌∷◌, Option, sym, subst, nat_eq, ℕ}
use Rattle.std.specs.Prelude.{map, All, IfSome, IsSome}
use Rattle.std.specs.List.{IsDistinct}
use Rattle.ur_values.specs.declared.schema.ColumnKind.{ColumnKind}
use Rattle.ur_sql.specs.declared.scalar.Scalar.{Scalar}
use Rattle.ur_sql.specs.declared.query.Query.{Query}
use Rattle.ur_sql.specs.declared.query.ColumnAt.{ColumnAt}
use Rattle.ur_sql.specs.declared.query.Field.{Field}
use Rattle.ur_sql.specs.declared.query.OrderKey.{OrderKey}
use Rattle.ur_sql.specs.declared.change.Action.{Action}
use Rattle.ur_sql.specs.declared.change.Action.TheVariants as action
use Rattle.ur_sql.specs.Typing.{Kinds, AreConditions, MayBeCondition, FieldFits, HasSomeKind, BoundFits, IsGrouped, FieldReadsOnly, ReadsOnly, IsTyped, SetsFit, ActionFits}
use Rattle.ur_verify.specs.Scope.{scope, columns_of, kind_in}

-- ---- changes

abbrev Sets : Type 0
Sets = List (ℕ × Scalar)

-- an update over its table's columns
abbrev UpdateFits : List ColumnKind → List ColumnKind → List ColumnKind → Sets → Option Scalar → Type 0
UpdateFits params columns item sets condition =
    SetsFit (scope params (item ∷ [])) columns sets × IsDistinct nat_eq (map (λ set. set.0) sets) × MayBeCondition (scope params (item ∷ [])) condition

pub update_parts : (params columns item : List ColumnKind) (a : Action) (sets slice : Sets) (condition : Option Scalar) → a ≡ action.Update sets condition → slice ≡ sets → item ≡ columns
    → ActionFits params columns a → UpdateFits params columns item slice condition
update_parts params columns item a sets slice condition is e f h =
    subst (λ x. UpdateFits params columns x slice condition) (sym f) (subst (λ x. UpdateFits params columns columns x condition) (sym e) (subst (ActionFits params columns) is h))

pub update_made : (params columns item : List ColumnKind) (a : Action) (sets slice : Sets) (condition : Option Scalar) → a ≡ action.Update sets condition → slice ≡ sets → item ≡ columns
    → UpdateFits params columns item slice condition → ActionFits params columns a
update_made params columns item a sets slice condition is e f h =
    subst (ActionFits params columns) (sym is) (subst (λ x. UpdateFits params columns columns x condition) e (subst (λ x. UpdateFits params columns x slice condition) f h))

-- ---- queries

-- what is asked of a query's parts
abbrev pub PartsFit : (q : Query) → Kinds → List Scalar → List Field → List ColumnAt → List OrderKey → Type 0
PartsFit q ks on fields group order =
    AreConditions ks on × MayBeCondition ks q.filter × All (FieldFits ks) fields × All (λ at. IsSome (kind_in ks.items at.item at.column)) group × All (λ k. HasSomeKind ks k.by) order

module _ (q : Query) (ps : List ColumnKind) (its : List (List ColumnKind)) (on : List Scalar) (fields : List Field) (group : List ColumnAt) (order : List OrderKey)
    (p : ps ≡ q.params) (i : its ≡ columns_of q.from) (a : on ≡ q.on) (b : fields ≡ q.fields) (d : group ≡ q.group) (e : order ≡ q.order) where
  pub to_parts : IsTyped q → PartsFit q (scope ps its) on fields group order
  to_parts h =
      subst (λ x. PartsFit q (scope x its) on fields group order) (sym p)
      (subst (λ x. PartsFit q (scope q.params x) on fields group order) (sym i)
      (subst (λ x. PartsFit q (scope q.params (columns_of q.from)) x fields group order) (sym a)
      (subst (λ x. PartsFit q (scope q.params (columns_of q.from)) q.on x group order) (sym b)
      (subst (λ x. PartsFit q (scope q.params (columns_of q.from)) q.on q.fields x order) (sym d)
      (subst (λ x. PartsFit q (scope q.params (columns_of q.from)) q.on q.fields q.group x) (sym e)
      (h.on, h.filter, h.fields, h.group, h.order))))))

  pub from_parts : PartsFit q (scope ps its) on fields group order → IfSome q.limit (BoundFits q.params) → IfSome q.offset (BoundFits q.params)
      → (IsGrouped q → All (FieldReadsOnly q.group) q.fields) → (IsGrouped q → All (λ k. ReadsOnly q.group k.by) q.order) → IsTyped q
  from_parts h l o g r =
      let m = subst (λ x. PartsFit q (scope q.params (columns_of q.from)) q.on q.fields q.group x) e
      (subst (λ x. PartsFit q (scope q.params (columns_of q.from)) q.on q.fields x order) d
      (subst (λ x. PartsFit q (scope q.params (columns_of q.from)) q.on x group order) b
      (subst (λ x. PartsFit q (scope q.params (columns_of q.from)) x fields group order) a
      (subst (λ x. PartsFit q (scope q.params x) on fields group order) i
      (subst (λ x. PartsFit q (scope x its) on fields group order) p h))))) in
      record { on = m.0; filter = m.1; fields = m.2; group = m.3; order = m.4; limit = l; offset = o; grouped_fields = g; grouped_order = r }

pub conditions_of : (q : Query) (ps : List ColumnKind) (its : List (List ColumnKind)) (on : List Scalar) → ps ≡ q.params → its ≡ columns_of q.from → on ≡ q.on → IsTyped q
    → AreConditions (scope ps its) on
conditions_of q ps its on p i a h =
    subst (λ x. AreConditions (scope x its) on) (sym p) (subst (λ x. AreConditions (scope q.params x) on) (sym i) (subst (AreConditions (scope q.params (columns_of q.from))) (sym a) h.on))

pub keys_of : (q : Query) (ps : List ColumnKind) (its : List (List ColumnKind)) (order : List OrderKey) → ps ≡ q.params → its ≡ columns_of q.from → order ≡ q.order → IsTyped q
    → All (λ k. HasSomeKind (scope ps its) k.by) order
keys_of q ps its order p i e h =
    subst (λ x. All (λ k. HasSomeKind (scope x its) k.by) order) (sym p)
    (subst (λ x. All (λ k. HasSomeKind (scope q.params x) k.by) order) (sym i) (subst (All (λ k. HasSomeKind (scope q.params (columns_of q.from)) k.by)) (sym e) h.order))
