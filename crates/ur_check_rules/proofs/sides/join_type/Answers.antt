use Rattle.std.specs.Prelude.{codes}
use Rattle.std.proofs.Common.{ap, sym, ◌∙◌}
use Rattle.std.specs.Option.{option_copied}
use Rattle.ur_typed_rules.specs.Faults.{not_of_type}
use Rattle.ur_check_scopes.specs.Views.{env_in}
use Rattle.ur_check_scopes.proofs.Exits.{refused-along, refuses, ok-along, told}
use Rattle.ur_check_rules.specs.Sides.{BreaksJoined, BreaksJoin, left_none, right_none}
use Rattle.ur_check_rules.proofs.Sided.{join-made, join-met}
use Rattle.ur_check_rules.proofs.sides.join_type.Goals as goal

pub returns-in-Some-row_of-clause-joined : goal.returns-in-Some-row_of-clause-joined
returns-in-Some-row_of-clause-joined c =
    ok-along c.joined_rows.result
    (λ t h. join-made (env_in c.args.around.now.scope.cons).known c.args.left.now c.args.right.now t c.in-Some.r.now c.in-Some-row_of.s.now
    (sym c.row_of.ensures ∙ ap option_copied c.in-Some.is) (sym c.row_of-in-Some.ensures ∙ ap option_copied c.in-Some-row_of.is) h)
    c.joined_rows.ensures.joined

pub returns-in-Some-row_of-clause-refused : goal.returns-in-Some-row_of-clause-refused
returns-in-Some-row_of-clause-refused c =
    let names = c.args.around.now.world.now.datatype_names in
    let known = (env_in c.args.around.now.scope.cons).known in
    refused-along c.joined_rows.result
    (refuses names (BreaksJoined known c.in-Some.r.now c.in-Some-row_of.s.now) (BreaksJoin names known c.args.left.now c.args.right.now)
    (join-met names known c.args.left.now c.args.right.now c.in-Some.r.now c.in-Some-row_of.s.now (sym c.row_of.ensures ∙ ap option_copied c.in-Some.is) (sym c.row_of-in-Some.ensures ∙ ap option_copied c.in-Some-row_of.is)))
    c.joined_rows.ensures.refused

pub returns-in-None-row_of-clause-refused : goal.returns-in-None-row_of-clause-refused
returns-in-None-row_of-clause-refused c =
    let names = c.args.around.now.world.now.datatype_names in
    told names (BreaksJoin names (env_in c.args.around.now.scope.cons).known c.args.left.now c.args.right.now) c.no_record.result (not_of_type names c.args.right.now (codes "a record"))
    (right_none {r = c.in-Some.r.now} (sym c.row_of.ensures ∙ ap option_copied c.in-Some.is) (sym c.row_of-in-Some.ensures ∙ ap option_copied c.in-None-row_of.is)) c.no_record.ensures

pub returns-in-None-clause-refused : goal.returns-in-None-clause-refused
returns-in-None-clause-refused c =
    let names = c.args.around.now.world.now.datatype_names in
    told names (BreaksJoin names (env_in c.args.around.now.scope.cons).known c.args.left.now c.args.right.now) c.no_record-in-None.result (not_of_type names c.args.left.now (codes "a record"))
    (left_none (sym c.row_of.ensures ∙ ap option_copied c.in-None.is)) c.no_record-in-None.ensures
