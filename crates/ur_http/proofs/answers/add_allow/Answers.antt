-- The pieces of the line, grouped to the right.
use Rattle.std.proofs.Common.{◌≡◌, ◌==◌, true, ap}
use mathlib.Core.List.{append_assoc}
use Rattle.ur_http.proofs.answers.add_allow.Goals as goal

pub returns : goal.returns
returns c = record {
  ok =
      let is : (c.args.status == 405) ≡ true = ap (λ s. s == 405) c.if-status-ne405.false in
      let whole = rw (c.in_ok-extend_from_slice-2.ensures.ok, c.in_ok-extend_from_slice.ensures.ok) at c.in_ok-extend_from_slice-3.ensures.ok in
      rw is (simp append_assoc (simp (append_assoc, c.as_bytes.ensures.value) at whole));
}
