use Rattle.ur_values.specs.declared.schema.TableShape.{TableShape}
use Rattle.std.specs.Prelude.{option_map, option_and_then, ℕ}
use Rattle.std.proofs.Common.{◌≡◌, sym, ◌∙◌, ap, subst, Some}
use Rattle.ur_rows.specs.Normal.{nf}
use Rattle.ur_sqltype.specs.Table.{PrimaryComesFirst}
use Rattle.ur_typed_rules.specs.Rules.{small_type}
use Rattle.ur_check_scopes.specs.Views.{Refuses}
use Rattle.ur_typed.specs.Project.{env_at}
use Rattle.ur_typed.specs.Declaring.{Sofar, datatype_names, full_name, shape_out, with_shape, table_out}
use Rattle.ur_typed.specs.DeclFaults.{BreaksTable}
use Rattle.ur_check_heads.specs.Views.{Sees}
use Rattle.ur_check_heads.proofs.Seeing.{comes, table-at}
use Rattle.ur_check_heads.proofs.Storing.{primary-first, said, placed-all}
use Rattle.ur_check_heads.proofs.stores.table_in.Goals as goal

pub table_at-requires : goal.table_at-requires
table_at-requires c = subst PrimaryComesFirst (sym (c.as_slice.ensures ∙ c.in_ok-keys.ensures)) (primary-first c.args.primary.now c.args.constraints.now)

pub returns-in-Ok-clause-ok : goal.returns-in-Ok-clause-ok
returns-in-Ok-clause-ok c = λ home z s.
    let keys = c.as_slice.ensures ∙ c.in_ok-keys.ensures in
    comes _ home (table_out 65536 c.args.name.now c.args.con.now c.args.primary.now c.args.constraints.now z) (with_shape z c.in-Ok.shape)
    (ap (option_map (with_shape z))
    (subst (λ ks. option_and_then (shape_out (full_name z c.args.name.now) ks) (small_type 65536 (nf (env_at z.place) c.args.con.now)) ≡ Some c.in-Ok.shape) keys (c.in-Ok.ensures.shape home z s)))
    (table-at c.args.project.now home z c.in-Ok.shape _ c.in_ok-push-in-Ok.ensures.ok s)

pub returns-clause-refused : goal.returns-clause-refused
returns-clause-refused c =
    placed-all TableShape c.in-Err.stop c.placed.result _ (λ r. (home : ℕ) (z : Sofar) → Sees c.args.project.now home z → Refuses (datatype_names z) (BreaksTable 65536 z c.args.con.now c.args.primary.now c.args.constraints.now) r) c.placed.ensures
    (λ r q e h home z s. let t = h home z s c.args.primary.now c.args.constraints.now (c.as_slice.ensures ∙ c.in_ok-keys.ensures) in (t.0, t.1, said (datatype_names z) t.0 r q e t.2)) c.in-Err.ensures.refused
