use Rattle.std.specs.Prelude.{codes}
use Rattle.std.proofs.Common.{sym, ◌∙◌, subst}
use Rattle.ur_check_scopes.specs.Views.{StopIs}
use Rattle.ur_rows.specs.Types.{is_value_type}
use Rattle.ur_tree.specs.Text.{type_text}
use Rattle.ur_typed_rules.specs.Faults.{not_so}
use Rattle.ur_typed_rules.specs.Rules.{written_type}
use Rattle.ur_typed_rules.specs.Arguments.{BreaksType}
use Rattle.ur_check_scopes.proofs.Exits.{refused-exit, refuses}
use Rattle.ur_typed.specs.Declaring.{datatype_names, world_behind, top_scope}
use Rattle.ur_typed.specs.DeclFaults.{BreaksArgument, argument_type}
use Rattle.ur_check_heads.proofs.Reading.{named-as, told-all, so-far, typed-is, moves}
use Rattle.ur_check_heads.proofs.datatypes.argument.Goals as goal

pub returns-then-is_value_type-clause-of : goal.returns-then-is_value_type-clause-of
returns-then-is_value_type-clause-of c = λ home z s.
    so-far is_value_type (written_type (world_behind 65536 z) (top_scope z) c.args.con.now) c.in_ok-of.of (c.in_ok-of.ensures.typed (world_behind 65536 z) (top_scope z) (c.top-around.ensures.stands home z s)) (sym c.is_value_type.ensures ∙ c.if-is_value_type.true)

pub returns-in_err-of-clause-refused : goal.returns-in_err-of-clause-refused
returns-in_err-of-clause-refused c =
    refused-exit c.from_residual.result c.in_err-of.field-0.0 c.from_residual.ensures.1
    (λ r h home z s.
    refuses (datatype_names z) (BreaksType (world_behind 65536 z) (top_scope z) c.args.con.now) (BreaksArgument 65536 z c.args.con.now) (λ f b. argument_type b) r
    (named-as c.args.project.now home z c.top-around.result.world.now (BreaksType (world_behind 65536 z) (top_scope z) c.args.con.now) r s c.top-around.ensures.world (h (world_behind 65536 z) (top_scope z) (c.top-around.ensures.stands home z s))))
    c.in_err-of.ensures.refused

pub returns-clause-refused : goal.returns-clause-refused
returns-clause-refused c =
    told-all c.args.project.now c.type_not_so.result (not_so (type_text c.args.project.now.world.datatype_names c.in_ok-of.of) (codes "the type of a value")) (λ z. BreaksArgument 65536 z c.args.con.now)
    (subst (λ ns. StopIs ns (not_so (type_text ns c.in_ok-of.of) (codes "the type of a value")) c.type_not_so.result) c.as_slice-names.ensures c.type_not_so.ensures)
    (λ home z s. moves c.args.project.now home z c.args.con.now c.in_ok-of.of s (typed-is z c.args.con.now c.in_ok-of.of (c.in_ok-of.ensures.typed (world_behind 65536 z) (top_scope z) (c.top-around.ensures.stands home z s))) (sym c.is_value_type.ensures ∙ c.if-is_value_type.false))
