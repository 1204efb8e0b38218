-- The number is spelled by computing it.
use Rattle.std.proofs.Common.{refl}
use Rattle.std.specs.Fmt.{digits}
use Rattle.ur_http.specs.Answers.{fixed, status_answer, respond, first_lines}
use Rattle.ur_http.proofs.answers.service_unavailable.Goals as goal

pub returns : goal.returns
unfolding digits fixed status_answer respond first_lines
returns c = refl
