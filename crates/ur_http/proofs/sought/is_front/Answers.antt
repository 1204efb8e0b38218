-- With an empty line after them the lines are read as a head.
use Rattle.std.proofs.Common.{◌≡◌, ◌∙◌, true, subst, length, arith}
use Rattle.std.proofs.lemmas.Bool.Decides.{nat_tests}
use Rattle.httparse.specs.Grammar.{ReadsRequest}
use Rattle.ur_http.proofs.Fronts.{front_from, none_left}
use Rattle.ur_http.proofs.sought.is_front.Goals as goal

pub returns-in-Ok-Complete : goal.returns-in-Ok-Complete
returns-in-Ok-Complete c = λ whole.
    let ended : c.ends_line.result ≡ true = grind arith in
    let (front, ends) = c.ends_line.ensures ended in
    let said = rw c.in-Ok-Complete.field-0-is at c.in-Ok-Complete.ensures in
    let (h, at) = said.complete in
    let closed = c.as_slice.ensures.value ∙ c.in_ok-closed.ensures in
    let all : c.in-Ok-Complete.head.len ≡ length c.as_slice.result.now = grind (arith, nat_tests, whole) in
    front_from c.args.lines.now c.as_slice.result.now front h closed ends
    (subst (λ rest. ReadsRequest c.as_slice.result.now h rest) (none_left c.as_slice.result.now _ all) at.reads)
