use Rattle.std.proofs.Common.{arith}
use Rattle.ur_parse_rules.proofs.Steps.{passed}
use Rattle.ur_parse_rules.proofs.Places.{name_moves, mark_moves, moves_on}
use Rattle.ur_parse_embed.proofs.Columned.{qualifier_refused, bare_read, field_dot, field_name, field_read}
use Rattle.ur_parse_embed.proofs.columns.field_column.Goals as goal

pub returns-in_err-second-clause-refused : goal.returns-in_err-second-clause-refused
returns-in_err-second-clause-refused c = passed _ _ c.from_residual.ensures.1 c.in_err-second.ensures.refused (λ r h n. qualifier_refused c.requires c.args.bare c.if-bare.true (h n))

pub returns-in_ok-second-clause-found : goal.returns-in_ok-second-clause-found
returns-in_ok-second-clause-found c = λ n. let e = c.named.ensures in let s = c.span-covered.ensures in let m = name_moves c.requires in let a = m.on in let b = c.in_ok-second.ensures.on in
    rw (e, s) (bare_read c.requires c.args.bare c.in_ok-second.end c.if-bare.true (record { on = omega (arith, a, b); within = c.in_ok-second.ensures.within m.within }) (c.in_ok-second.ensures.found n))

pub returns-in_err-begin-clause-refused : goal.returns-in_err-begin-clause-refused
returns-in_err-begin-clause-refused c = passed _ _ c.from_residual-in_err-begin.ensures.1 c.in_err-begin.ensures.refused (λ r h n. field_dot c.requires c.args.bare c.if-bare.false h)

pub returns-in_err-second-2-clause-refused : goal.returns-in_err-second-2-clause-refused
returns-in_err-second-2-clause-refused c = passed _ _ c.from_residual-in_err-second-2.ensures.1 c.in_err-second-2.ensures.refused (λ r h n. field_name c.requires c.in_ok-begin.ensures.found c.args.bare c.if-bare.false h)

pub returns-in_ok-second-2-clause-found : goal.returns-in_ok-second-2-clause-found
returns-in_ok-second-2-clause-found c = λ n. let e = c.named-else-bare.ensures in let s = c.span-covered-else-bare.ensures in rw (e, s) (field_read c.requires c.in_ok-begin.ensures.found c.args.bare c.if-bare.false
    (moves_on (name_moves c.requires) (moves_on (mark_moves c.in_ok-begin.ensures.found) (name_moves c.in_ok-second-2.ensures.found))) c.in_ok-second-2.ensures.found)
