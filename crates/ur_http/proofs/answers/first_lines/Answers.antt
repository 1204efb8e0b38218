-- The pieces of the head, grouped to the right.
use Rattle.std.proofs.Common.{ap, ◌∙◌}
use mathlib.Core.List.{append_assoc}
use Rattle.ur_http.specs.Answers.{first_lines}
use Rattle.ur_http.proofs.answers.first_lines.Goals as goal

pub returns : goal.returns
unfolding first_lines
returns c =
    let whole = c.from_vec.ensures ∙ ap (λ v. v.items) c.into_bytes.ensures.value ∙ c.in_ok-text.ensures.ok in
    simp append_assoc (simp c.phrase-phrase.ensures at whole)
