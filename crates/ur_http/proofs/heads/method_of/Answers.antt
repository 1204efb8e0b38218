use Rattle.std.proofs.Common.{sym}
use Rattle.ur_http.proofs.Methods.{no_token}
use Rattle.ur_http.proofs.heads.method_of.Goals as goal

pub returns-in-Invalid : goal.returns-in-Invalid
returns-in-Invalid c = sym (no_token c.args.bytes.now (c.in-Err.ensures.invalid.0 (cc)))
