use Rattle.std.proofs.Common.{subst}
use Rattle.ur_serve.specs.declared.ends.Routed.TheVariants as routing
use Rattle.ur_serve.specs.Replies.{routed}
use Rattle.ur_serve.specs.Served.{IsRoutedAs}
use Rattle.ur_serve.proofs.Requests.{are_bare, as_away}
use Rattle.ur_serve.proofs.Replying.{answered_away}
use Rattle.ur_serve.proofs.answering.answer_routed.Goals as goal

pub route_request-requires-clause-bare : goal.route_request-requires-clause-bare
route_request-requires-clause-bare g c = are_bare c.args.code.now c.requires.fits

pub returns-in-Ok-status_answer-clause-answered : goal.returns-in-Ok-status_answer-clause-answered
returns-in-Ok-status_answer-clause-answered g c =
    answered_away c.args.code.now c.args.patterns.now c.args.steps c.args.request.now c.args.close c.args.cache.now _ _ _ _ c.in-Away.status c.in-Away.allowed.now c.in-Ok-status_answer.bytes c.is_head-head_only.result c.closes-closes.result c.args.pages.now.list
    (as_away (routed c.args.code.now.handlers c.args.request.now) (routing.Away c.in-Away.status c.in-Away.allowed)
    (subst (IsRoutedAs (routed c.args.code.now.handlers c.args.request.now)) c.in-Away.is c.in-Ok.ensures.routed))
    c.is_head-head_only.ensures c.closes-closes.ensures c.in-Ok-status_answer.ensures c.requires.tables c.requires.kept c.requires.at_rest c.requires.saved c.requires.masks c.requires.pages
