use Rattle.std.proofs.Common.{arith}
use Rattle.ur_parse_rules.proofs.Steps.{passed}
use Rattle.ur_parse_embed.proofs.Naming.{item_name, item_alias, item_read}
use Rattle.ur_parse_embed.proofs.tables.item.Goals as goal

pub returns-in_err-table-clause-refused : goal.returns-in_err-table-clause-refused
returns-in_err-table-clause-refused c = passed _ _ c.from_residual.ensures.1 c.in_err-table.ensures.refused (λ r h n. item_name c.args.tokens.now c.args.at (h n))

pub returns-in_err-alias-clause-refused : goal.returns-in_err-alias-clause-refused
returns-in_err-alias-clause-refused c = passed _ _ c.from_residual-in_err-alias.ensures.1 c.in_err-alias.ensures.refused (λ r h n. item_alias c.args.tokens.now c.args.at c.in_ok-table.behind (c.in_ok-table.ensures.found n) (h n))

pub returns-clause-found : goal.returns-clause-found
returns-clause-found c = λ n. let s = c.span-covered.ensures in let m = c.in_ok-table.ensures.moves in let o = m.on in let b = c.in_ok-alias.ensures.on in
    rw s (item_read c.args.tokens.now c.args.at c.in_ok-table.behind (c.in_ok-table.ensures.found n) c.in_ok-alias.end (c.in_ok-alias.ensures.found n) (record { on = omega (arith, o, b); within = c.in_ok-alias.ensures.within m.within }))
