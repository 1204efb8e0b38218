use Rattle.std.proofs.Common.{refl}
use Rattle.ur_check_scopes.proofs.Exits.{refused-exit}
use Rattle.ur_check.proofs.Declaring.{head-fault, group-headed, group-declared, group-fault}
use Rattle.ur_check.proofs.modules.declare_group.Goals as goal

pub group_bodies-requires : goal.group_bodies-requires
group_bodies-requires c =
    group-headed c.args.project.now c.declare.new.project c.len-first.result c.args.decl.now.form c.args.functions.now c.args.functions.now c.requires.functions refl c.len-first.ensures c.in_ok-declare.ensures.ok c.requires.sees

pub returns-clause-ok : goal.returns-clause-ok
returns-clause-ok c =
    group-declared c.args.project.now c.declare.new.project c.len-first.result c.args.decl.now.form c.args.functions.now c.args.functions.now c.args.bodies.now c.group_bodies.new.bodies c.requires.functions refl c.len-first.ensures c.in_ok-declare.ensures.ok
    c.in_ok-group_bodies.ensures.ok

pub returns-in_err-declare-clause-refused : goal.returns-in_err-declare-clause-refused
returns-in_err-declare-clause-refused c =
    refused-exit c.from_residual.result c.in_err-declare.field-0.0 c.from_residual.ensures.1 (λ r h. head-fault c.args.project.now c.args.bodies.now c.args.decl.now.form r h) c.in_err-declare.ensures.refused

pub returns-in_err-group_bodies-clause-refused : goal.returns-in_err-group_bodies-clause-refused
returns-in_err-group_bodies-clause-refused c =
    refused-exit c.from_residual-in_err-group_bodies.result c.in_err-group_bodies.field-0.0 c.from_residual-in_err-group_bodies.ensures.1
    (λ r h. group-fault c.args.project.now c.declare.new.project c.len-first.result c.args.decl.now.form c.args.functions.now c.args.functions.now c.args.bodies.now r c.requires.functions refl c.len-first.ensures c.in_ok-declare.ensures.ok h)
    c.in_err-group_bodies.ensures.refused
