-- The pieces of the line, grouped to the right.
use mathlib.Core.List.{append_assoc}
use Rattle.ur_http.specs.Answers.{set_cookie}
use Rattle.ur_http.proofs.answers.add_cookie.Goals as goal

pub returns : goal.returns
unfolding set_cookie
returns c = record {
  ok =
      rw (
        c.in_ok-extend_from_slice-5.ensures.ok,
        c.in_ok-extend_from_slice-4.ensures.ok,
        c.in_ok-extend_from_slice-3.ensures.ok,
        c.in_ok-extend_from_slice-2.ensures.ok,
        c.in_ok-extend_from_slice.ensures.ok,
      )
      (simp append_assoc);
}
