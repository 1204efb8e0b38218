use Rattle.std.proofs.Common.{◌≡◌, subst, Some}
use Rattle.ur_typed_rules.specs.Scopes.{World, Scope}
use Rattle.ur_typed.specs.Rules as rules
use Rattle.ur_typed.specs.Rules.{Sites}
use Rattle.ur_typed.specs.Causes.{BreaksSettled}
use Rattle.ur_check_scopes.specs.Views.{Stands, Refuses, mode_of}
use Rattle.ur_check_scopes.proofs.Exits.{ok-along, refused-along}
use Rattle.ur_check_rules.specs.Views.{out_with}
use Rattle.ur_check_walk.proofs.Leading.{whole-accepted, whole-refused}
use Rattle.ur_check_walk.proofs.closed.accepted.Goals as goal

pub returns-clause-accepted : goal.returns-clause-accepted
returns-clause-accepted c =
    ok-along c.settled.result (λ o h st after x g. whole-accepted c.args.around.now st after x (mode_of c.args.whole.now.wanted) c.args.out o g
    (subst (λ z. (w : World) (s : Scope) (sv : Sites) → Stands c.args.around.now w s → rules.settled w.most (mode_of z) (out_with c.args.out sv) ≡ Some (out_with o sv)) c.as_ref.ensures.value h)) c.settled.ensures.settled

pub returns-clause-refused : goal.returns-clause-refused
returns-clause-refused c =
    refused-along c.settled.result (λ r h st after x g. whole-refused c.args.around.now st after x (mode_of c.args.whole.now.wanted) c.args.out r g
    (subst (λ z. (w : World) (s : Scope) (sv : Sites) → Stands c.args.around.now w s → Refuses c.args.around.now.world.now.datatype_names (BreaksSettled c.args.around.now.world.now.datatype_names w (mode_of z) (out_with c.args.out sv)) r) c.as_ref.ensures.value h)) c.settled.ensures.refused
