use Rattle.ur_parse_rules.proofs.Steps.{passed}
use Rattle.ur_parse_embed.proofs.Valued.{value_moves, value_dotted, value_read}
use Rattle.ur_parse_embed.proofs.atoms.valued.Goals as goal

pub returns-in_err-undotted-clause-refused : goal.returns-in_err-undotted-clause-refused
returns-in_err-undotted-clause-refused c = passed _ _ c.from_residual.ensures.1 c.in_err-undotted.ensures.refused (λ r h n. value_dotted c.args.bare c.requires h.0 h.1)

pub span-covered-requires : goal.span-covered-requires
span-covered-requires c = value_moves c.requires

pub returns-clause-found : goal.returns-clause-found
returns-clause-found c = let e = c.leaf.ensures.tree in let f = c.leaf.ensures.end in let s = c.span-covered.ensures in
    record { moves = rw f (value_moves c.requires); read = λ n. rw (e, f, s) (value_read n c.args.bare c.args.tokens.now c.args.at c.args.end c.args.form c.in_ok-undotted.ensures.found c.requires) }
