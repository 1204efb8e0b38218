-- `setCookie name value`
use Rattle.std.specs.Prelude.{◌+◌, ℕ, false, List, drop, refl}
use Rattle.std.proofs.Common.{arith}
use Rattle.ur_base.specs.declared.refusal.Refusal.{Refusal}
use Rattle.ur_lex.specs.declared.token.Lexeme.{Lexeme}
use Rattle.ur_syntax.specs.declared.sql.DeclName.{DeclName}
use Rattle.ur_syntax.specs.declared.exp.Exp.{Exp}
use Rattle.ur_syntax.specs.declared.exp.ExpForm.TheVariants as form
use Rattle.ur_parse_rules.specs.Rules.{Read, Refused}
use Rattle.ur_parse_rules.specs.Places.{Moves, span_of}
use Rattle.ur_parse_rules.proofs.Tokens.{covers}
use Rattle.ur_parse_rules.proofs.Steps.{nothing, a_word, an_one, word_read, one_read, one_refused, reads_by, refused_by}
use Rattle.ur_parse_rules.proofs.Choices.{chosen_word_at}
use Rattle.ur_parse_rules.specs.Quoted.{expressions}
use Rattle.ur_parse_rules.specs.Expressions.{at}
use Rattle.ur_parse_rules.specs.ExpParts as e
use Rattle.ur_parse_rules.specs.SqlParts.{name}
use Rattle.ur_parse_rules.specs.Parts.{of_exp, of_sql}
use Rattle.ur_parse_rules.specs.Language.{language}
use Rattle.ur_parse_rules.proofs.Choice.{choice}
use Rattle.ur_parse_rules.proofs.AllDecided.{decided}
use Rattle.ur_parse_exp_parts.specs.declared.word.FormWord.TheVariants as words
use Rattle.ur_parse_exp_parts.specs.Words.{Stands}

module _ (n : ℕ) {tokens : List Lexeme} {here : ℕ} (a : Stands tokens here words.SetCookie) where
  pub set_name : {r : Refusal} → Refused language n (of_sql expressions name) (drop (here + 1) tokens) r → Refused language n (of_exp e.head) (drop here tokens) r
  set_name h = refused_by decided 8 n (omega arith) (chosen_word_at (choice (of_exp e.head)) a (λ s us. refl)) (word_read a (one_refused h))

  module _ (mid : ℕ) {d : DeclName} (g : Read language n (of_sql expressions name) (drop (here + 1) tokens) (drop mid tokens) d) where
    pub set_value : {r : Refusal} → Refused language n (of_exp (e.post false)) (drop mid tokens) r → Refused language n (of_exp e.head) (drop here tokens) r
    set_value h = refused_by decided 8 n (omega arith) (chosen_word_at (choice (of_exp e.head)) a (λ s us. refl)) (word_read a (one_read decided g (one_refused h)))

    pub set_read : (end : ℕ) {v : Exp} → Moves tokens here end → Read language n (of_exp (e.post false)) (drop mid tokens) (drop end tokens) v →
        Read language n (of_exp e.head) (drop here tokens) (drop end tokens) (at (span_of tokens here end) (form.SetCookie d v))
    set_read end {v = v} m h = let f = a_word {n = n} a (an_one g (an_one h nothing)) in
        reads_by 8 n (omega arith) (record { v = (d, (v, tt)); span = span_of tokens here end; fills = f; is_span = covers tokens here end m f.taken f.split; allowed = refl; builds = refl }) h.stops
