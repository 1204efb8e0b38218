use Rattle.std.proofs.Common.{arith}
use Rattle.ur_parse_rules.specs.Places.{Moves}
use Rattle.ur_parse_rules.proofs.Steps.{passed}
use Rattle.ur_parse.proofs.Declaring.{sequence_name, sequence_read}
use Rattle.ur_parse.proofs.decls.read_sequence.Goals as goal

pub returns-in_err-name-clause-refused : goal.returns-in_err-name-clause-refused
returns-in_err-name-clause-refused c = passed _ _ c.from_residual.ensures.1 c.in_err-name.ensures.refused (λ r h n. sequence_name c.requires h)

pub returns-clause-found : goal.returns-clause-found
returns-clause-found c = λ n. let e = c.declared.ensures.tree in let f = c.declared.ensures.end in let s = c.span-covered.ensures in
    let m : Moves c.args.tokens.now c.args.at c.in_ok-name.end = (let z = c.in_ok-name.ensures.found.next in let l = c.in_ok-name.ensures.found.at.below in record { on = omega (arith, z); within = omega (arith, z, l) }) in
    rw (e, f, s) (sequence_read c.requires m c.in_ok-name.ensures.found)
