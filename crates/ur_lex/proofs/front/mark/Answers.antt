use Rattle.std.proofs.Common.{◌∙◌, length, sym, ap}
use Rattle.std.specs.Prelude.{slice_index}
use Rattle.ur_lex.specs.Lexing.{may_follow}
use Rattle.ur_lex.proofs.Fronts.{no_mark}
use Rattle.ur_lex.proofs.Found.{front_of, mark_found, mark_missed}
use Rattle.ur_lex.proofs.front.mark.Goals as goal

pub returns-in_default : goal.returns-in_default
returns-in_default c = no_mark c.args.mode c.args.bytes.now c.requires.only c.in_default.ensures

pub returns-then-not-may_follow : goal.returns-then-not-may_follow
returns-then-not-may_follow c =
    let m = c.args.mode in
    let s = c.in-Some.symbol in
    let bytes = c.args.bytes.now in
    mark_missed m bytes s c.requires.only c.in-Some.ensures
    (ap (λ z. may_follow m s (slice_index bytes (length z))) (sym c.symbol_text-text.ensures) ∙ ap (may_follow m s) (sym c.byte_at.ensures) ∙ sym c.may_follow.ensures ∙ c.if-not-may_follow.true)

pub returns : goal.returns
returns c =
    let m = c.args.mode in
    let s = c.in-Some.symbol in
    let bytes = c.args.bytes.now in
    let p = c.in_ok-plain.ensures in
    let text = c.symbol_text-text.ensures in
    front_of p.kind (p.content ∙ text) (p.len ∙ ap length text) (mark_found m bytes s c.requires.only c.in-Some.ensures
    (ap (λ z. may_follow m s (slice_index bytes (length z))) (sym text) ∙ ap (may_follow m s) (sym c.byte_at.ensures) ∙ sym c.may_follow.ensures ∙ c.if-not-may_follow.false) c.requires.no_comment)
