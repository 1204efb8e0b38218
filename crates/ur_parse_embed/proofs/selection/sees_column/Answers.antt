use Rattle.std.proofs.Common.{refl, sym, ◌∙◌, [], ◌∷◌}
use Rattle.ur_lex.specs.declared.token.TokenKind.TheVariants as token
use Rattle.ur_parse_rules.specs.Classes.{all_of}
use Rattle.ur_parse_embed.specs.ParseSelectColumns.{is_dotted}
use Rattle.ur_parse_embed.proofs.Piecing.{follows_at, no_table}
use Rattle.ur_parse_embed.proofs.selection.sees_column.Goals as goal

pub returns-then-sees : goal.returns-then-sees
returns-then-sees c = c.sees_dotted.ensures ∙ sym (follows_at (all_of token.Lower ∷ all_of token.Upper ∷ []) is_dotted (c.sees.ensures.yes c.if-sees.true) (λ w. refl))

pub returns-then-sees-2 : goal.returns-then-sees-2
returns-then-sees-2 c = c.sees_dotted-then-sees-2.ensures ∙ sym (follows_at (all_of token.Lower ∷ all_of token.Upper ∷ []) is_dotted (c.sees-else-sees.ensures.yes c.if-sees-2.true) (λ w. refl))

pub returns-else-sees-2 : goal.returns-else-sees-2
returns-else-sees-2 c = no_table is_dotted (c.sees.ensures.no c.if-sees.false) (c.sees-else-sees.ensures.no c.if-sees-2.false)
