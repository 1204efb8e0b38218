use Rattle.std.proofs.Common.{sym, ◌∙◌}
use Rattle.ur_machine_operations.proofs.Fields.{cookie_again, cookie_new, is_within, set_as}
use Rattle.ur_machine_operations.proofs.cookies.set_cookie.Goals as goal

pub set-requires : goal.set-requires
set-requires c = is_within _ c.args.sent.now c.in-Some.place (sym c.in-Some.ensures)

pub returns-in-Some : goal.returns-in-Some
returns-in-Some c = c.set.ensures ∙ cookie_again c.args.cookie c.args.value c.args.sent.now c.in-Some.place (sym c.in-Some.ensures)

pub returns-in-None : goal.returns-in-None
returns-in-None c = set_as c.push.result c.push.new.self _ _ (cookie_new c.args.cookie c.args.value c.args.sent.now (sym c.in-None.ensures)) c.push.ensures.ok
