use Rattle.std.proofs.Common.{◌∙◌, ap, reverse}
use Rattle.httparse.specs.Grammar.{trim_ows, skip_ows}
use Rattle.ur_http.proofs.bytes.trim.Goals as goal

pub returns : goal.returns
unfolding trim_ows
returns c = c.trim_end.ensures ∙ ap (λ bytes. reverse (skip_ows (reverse bytes))) c.trim_start.ensures
