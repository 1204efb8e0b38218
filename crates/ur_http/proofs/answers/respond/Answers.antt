-- The parts of the answer, grouped to the right.
use mathlib.Core.List.{append_assoc}
use Rattle.ur_http.specs.Answers.{respond}
use Rattle.ur_http.proofs.answers.respond.Goals as goal

pub returns : goal.returns
unfolding respond
returns c =
    let whole = rw (c.in_ok-extend_from_slice.ensures.ok, c.in_ok-add_cookies.ensures.ok, c.in_ok-add_allow.ensures.ok, c.in_ok-bytes.ensures) at c.in_ok-extend_from_slice-2.ensures.ok in
    simp append_assoc (simp (append_assoc, c.closing.ensures, c.shown.ensures) at whole)
