use Rattle.std.proofs.Common.{sym, [], ◌∷◌, refl}
use Rattle.ur_lex.specs.declared.token.Symbol.TheVariants as symbol
use Rattle.ur_lex.specs.declared.token.TokenKind.TheVariants as token
use Rattle.ur_parse_rules.proofs.Choices.{starts_at, stops_first}
use Rattle.ur_parse_rules.specs.Classes.{member, symbol_class, all_of}
use Rattle.ur_parse_rules.specs.Ends.{binder_starts}
use Rattle.ur_parse_rules.proofs.Places.{missing, stops_cons}
use Rattle.ur_parse_con.proofs.binder.sees_binder.Goals as goal

pub returns-then-sees : goal.returns-then-sees
returns-then-sees c = sym (starts_at (member binder_starts) (c.sees.ensures.yes c.if-sees.true) (λ w. refl))

pub returns-then-sees-2 : goal.returns-then-sees-2
returns-then-sees-2 c = sym (starts_at (member binder_starts) (c.sees-else-sees.ensures.yes c.if-sees-2.true) (λ w. refl))

pub returns-else-sees-2 : goal.returns-else-sees-2
returns-else-sees-2 c = sym (stops_first (member binder_starts) _ (stops_cons (symbol_class symbol.Underscore) (all_of token.Lower ∷ []) _ (missing refl (c.sees.ensures.no c.if-sees.false)) (missing refl (c.sees-else-sees.ensures.no c.if-sees-2.false))))
