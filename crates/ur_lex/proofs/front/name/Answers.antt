use Rattle.std.proofs.Common.{◌∙◌}
use Rattle.std.proofs.lemmas.List.{length-take-le}
use Rattle.ur_lex.proofs.Quotes.{name_front}
use Rattle.ur_lex.proofs.Found.{if_ok3, front_of}
use Rattle.ur_lex.proofs.front.name.Goals as goal

pub returns : goal.returns
returns c =
    let bytes = c.args.bytes.now in
    let n = c.run-len.result in
    let e = c.run-len.ensures in
    let k = c.name_kind in
    if_ok3 c.plain.result _ _ _ _ (λ f a t l. front_of a t (l ∙ length-take-le n bytes e.within) (name_front k.result bytes n e.within c.requires e.end k.ensures.spelled k.ensures.allowed)) c.plain.ensures.kind c.plain.ensures.content c.plain.ensures.len
