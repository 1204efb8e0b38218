use Rattle.std.proofs.Common.{refl, sym, ap, ◌∙◌, [], ◌∷◌}
use Rattle.std.specs.Prelude.{not}
use Rattle.ur_lex.specs.declared.token.Symbol.TheVariants as symbol
use Rattle.ur_lex.specs.declared.token.TokenKind.TheVariants as token
use Rattle.ur_parse_rules.specs.Classes.{all_of}
use Rattle.ur_parse_rules.specs.Ends.{symbols}
use Rattle.ur_parse_embed.specs.ParseSelectColumns.{follows, is_end}
use Rattle.ur_parse_embed.proofs.Piecing.{follows_at, no_follow}
use Rattle.ur_parse_embed.proofs.selection.sees_dotted.Goals as goal

pub returns-then-sees-2 : goal.returns-then-sees-2
returns-then-sees-2 c = ap not c.item_goes_on.ensures ∙ sym (follows_at (symbols (symbol.Dot ∷ [])) (follows (all_of token.Upper ∷ []) is_end) (c.sees.ensures.yes c.if-sees.true) (λ w. refl) ∙ follows_at (all_of token.Upper ∷ []) is_end (c.sees-then-sees.ensures.yes c.if-sees-2.true) (λ w. refl))

pub returns-else-sees-2 : goal.returns-else-sees-2
returns-else-sees-2 c = no_follow is_end refl (c.sees-then-sees.ensures.no c.if-sees-2.false) ∙ sym (follows_at (symbols (symbol.Dot ∷ [])) (follows (all_of token.Upper ∷ []) is_end) (c.sees.ensures.yes c.if-sees.true) (λ w. refl))

pub returns-else-sees : goal.returns-else-sees
returns-else-sees c = no_follow (follows (all_of token.Upper ∷ []) is_end) refl (c.sees.ensures.no c.if-sees.false)
