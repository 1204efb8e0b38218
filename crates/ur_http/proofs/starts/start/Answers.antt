-- What the parser answers on the window says what the bytes begin with.
use Rattle.std.proofs.Common.{ap, subst, Err}
use Rattle.httparse.specs.Grammar.{HasNoRequest, MayBecomeRequest, NeverHasRequest}
use Rattle.ur_http.specs.Items.{Begins}
use Rattle.ur_http.proofs.Begun.{fields_fit, never_at}
use Rattle.ur_http.proofs.Once.{may_begin}
use Rattle.ur_http.proofs.starts.start.Goals as goal

pub without_head-requires : goal.without_head-requires
without_head-requires c =
    let said = rw c.in-Ok-Partial.field-0-is at c.in-Ok-Partial.ensures in
    may_begin c.args.bytes.now (subst HasNoRequest c.window-window.ensures.is said.partial)
    (subst MayBecomeRequest c.window-window.ensures.is said.unfinished)

pub returns-in-Err : goal.returns-in-Err
returns-in-Err c =
    Begins.malformed (subst NeverHasRequest c.window-window.ensures.is
    (never_at c.in-Err.field-0 c.in-Err.ensures.invalid
    (λ e. fields_fit c.window-window.result.now _ c.window-window.ensures.bounded c.requires (c.in-Err.ensures.too_many (ap Err e)))))
