-- The steps of the typing of changes.
use Rattle.std.proofs.Common.{◌≡◌, ◌∙◌, sym, ap, ℕ, List, [], ◌∷◌, ◌++◌, length, map, Option, Some, None}
use Rattle.std.specs.Prelude.{if◌then◌else◌, option_map, option_and_then}
use Rattle.std.proofs.lemmas.Bool.{eq-eqb}
use Rattle.ur_syntax.specs.declared.sql.SqlExp.{SqlExp}
use Rattle.ur_syntax.specs.declared.sql.Assignment.{Assignment}
use Rattle.ur_values.specs.declared.schema.ColumnKind.{ColumnKind}
use Rattle.ur_values.specs.declared.schema.TableShape.{TableShape}
use Rattle.ur_sql.specs.declared.scalar.Scalar.{Scalar}
use Rattle.ur_sql.specs.declared.change.Action.{Action}
use Rattle.ur_sql.specs.declared.change.Action.TheVariants as action
use Rattle.ur_sqltype.specs.declared.scope.Within.{Within}
use Rattle.ur_sqltype.specs.Scope.{column_of}
use Rattle.ur_sqltype.specs.Lists.{and_then, all_of, behind}
use Rattle.ur_sqltype.specs.Expression.{valued}
use Rattle.ur_sqltype.specs.Change.{within_insert, set_of, set_at, paired, assigned, sets_of, inserting, complete_of, insert_of, condition_of, updating, update_of}

pub set-found : (w : Within) (columns : List (List ℕ × ColumnKind)) (name : List ℕ) (value : SqlExp) (sets : List (ℕ × Scalar)) (found : ℕ) (k : ColumnKind) (at : ℕ) (x : Scalar) (more : List (ℕ × Scalar)) →
    column_of name columns ≡ Some (found, k) → at ≡ found → valued k w value ≡ Some x → more ≡ sets ++ (at, x) ∷ [] → behind sets
    (all_of (set_at w columns) ((name, value) ∷ [])) ≡ Some more
set-found w columns name value sets found k at x more h e t m =
    ap (λ o. behind sets (and_then (option_and_then (set_of w value) o) (Some []))) h ∙ ap (λ o. behind sets (and_then (option_map (λ (y : Scalar). (found, y)) o) (Some []))) t ∙
    ap (λ n. Some (sets ++ (n, x) ∷ [])) (sym e) ∙ ap Some (sym m)

pub insert-found : (kinds : List ColumnKind) (shape : TableShape) (names : List (List ℕ)) (values : List SqlExp) (sets : List (ℕ × Scalar)) (a : Action) → length names ≡ length values →
    sets_of (within_insert kinds) shape.columns (paired names values) ≡ Some sets → length names ≡ length shape.columns → a ≡ action.Insert sets → insert_of kinds shape names values ≡ Some a
insert-found kinds shape names values sets a e h f g =
    let o : Option Action = complete_of kinds shape names values in
    let made : Option Action = Some (action.Insert sets) in
    ap (λ b. if b then o else None) (eq-eqb (length names) (length values) e) ∙ ap (option_and_then (inserting shape names)) h ∙
    ap (λ b. if b then made else None) (eq-eqb (length names) (length shape.columns) f) ∙ ap Some (sym g)

pub update-found : (w : Within) (shape : TableShape) (assignments : List Assignment) (condition : Option SqlExp) (sets : List (ℕ × Scalar)) (filter : Option Scalar) (a : Action) →
    sets_of w shape.columns (map assigned assignments) ≡ Some sets → condition_of w condition ≡ Some filter → a ≡ action.Update sets filter → update_of w shape assignments condition ≡ Some a
update-found w shape assignments condition sets filter a h k g = ap (option_and_then (updating w condition)) h ∙ ap (option_map (action.Update sets)) k ∙ ap Some (sym g)
