use Rattle.std.proofs.Common.{subst, sym}
use Rattle.std.specs.Prelude.{IfOk}
use Rattle.ur_lex.specs.Scanning.{IsFirst}
use Rattle.ur_lex.proofs.front.begin.Goals as goal

pub returns-in-Code : goal.returns-in-Code
returns-in-Code c = subst (λ z. IfOk c.code_front.result (IsFirst z c.args.bytes.now)) (sym c.in-Code.is) c.code_front.ensures
