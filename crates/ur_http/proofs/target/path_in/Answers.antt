use Rattle.std.proofs.Common.{◌∙◌, sym}
use Rattle.ur_http.proofs.Targets.{with_slash, without_slash, path_along}
use Rattle.ur_http.proofs.target.path_in.Goals as goal

pub returns-then-begins_with_slash : goal.returns-then-begins_with_slash
returns-then-begins_with_slash c = with_slash _ (sym c.begins_with_slash.ensures ∙ c.if-begins_with_slash.true)

pub returns : goal.returns
returns c = path_along _ _ _ (without_slash _ (sym c.begins_with_slash.ensures ∙ c.if-begins_with_slash.false)) c.absolute.ensures
