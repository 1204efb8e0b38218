use Rattle.std.proofs.Common.{◌∙◌}
use Rattle.std.proofs.lemmas.List.{length-take-le}
use Rattle.ur_lex.proofs.Quotes.{number_front, no_number}
use Rattle.ur_lex.proofs.Found.{front_of}
use Rattle.ur_lex.proofs.front.number.Goals as goal

pub returns-in_ok-plain-in-Some : goal.returns-in_ok-plain-in-Some
returns-in_ok-plain-in-Some c =
    let bytes = c.args.bytes.now in
    let n = c.run-len.result in
    let e = c.run-len.ensures in
    let p = c.in_ok-plain-in-Some.ensures in
    front_of p.kind p.content (p.len ∙ length-take-le n bytes e.within) (number_front c.in-Some.value bytes n e.within c.requires e.end e.all c.in-Some.ensures.0 c.in-Some.ensures.1)

pub returns-in-None : goal.returns-in-None
returns-in-None c = no_number c.args.bytes.now c.run-len.result c.run-len.ensures.within c.requires c.run-len.ensures.end c.run-len.ensures.all c.in-None.ensures
