use Rattle.ur_http.proofs.Targets.{by_http, by_https, by_neither, path_along}
use Rattle.ur_http.proofs.target.absolute.Goals as goal

pub returns-in-Some : goal.returns-in-Some
returns-in-Some c = path_along _ _ _ (by_http c.args.target.now _ c.in-Some.ensures.cases.0 c.in-Some.ensures.cases.1) c.after_authority.ensures

pub returns-in-Some-strip_prefix : goal.returns-in-Some-strip_prefix
returns-in-Some-strip_prefix c =
    path_along _ _ _ (by_https c.args.target.now _ c.in_default.ensures.cases c.in-Some-strip_prefix.ensures.cases.0 c.in-Some-strip_prefix.ensures.cases.1)
    c.after_authority-in-Some-strip_prefix.ensures

pub returns-in-None : goal.returns-in-None
returns-in-None c = by_neither c.args.target.now c.in_default.ensures.cases c.in-None.ensures.cases
