-- Names of fields are read in a loop, and what `--` removes.
use Rattle.std.specs.Prelude.{◌≡◌, ◌<◌, ℕ, List, [], ◌∷◌, ◌++◌, drop, refl}
use Rattle.std.proofs.Common.{sym, ◌∙◌, ap, arith, append_assoc}
use Rattle.std.proofs.lemmas.List.{append-nil}
use Rattle.ur_base.specs.declared.refusal.Span.{Span}
use Rattle.ur_base.specs.declared.refusal.Refusal.{Refusal}
use Rattle.ur_lex.specs.declared.token.Symbol.TheVariants as symbol
use Rattle.ur_lex.specs.declared.token.TokenKind.TheVariants as token
use Rattle.ur_lex.specs.declared.token.Lexeme.{Lexeme}
use Rattle.ur_syntax.specs.declared.con.FieldName.{FieldName}
use Rattle.ur_syntax.specs.declared.exp.Exp.{Exp}
use Rattle.ur_syntax.specs.declared.exp.ExpForm.TheVariants as form
use Rattle.ur_parse_rules.specs.Rules.{Read, Refused, no_span}
use Rattle.ur_parse_rules.specs.Places.{Moves, IsAt, Other, OfKind, span_of}
use Rattle.ur_parse_rules.proofs.Tokens.{covers}
use Rattle.ur_parse_rules.proofs.Steps.{Leads, nothing, a_mark, an_one, mark_read, one_read, one_refused, reads_by, refused_by, leads_here}
use Rattle.ur_parse_rules.proofs.Choices.{chosen_mark_at}
use Rattle.ur_parse_rules.specs.Forms.{up_to}
use Rattle.ur_parse_rules.specs.Expressions.{at, projected}
use Rattle.ur_parse_rules.specs.ConParts.{field_name}
use Rattle.ur_parse_rules.specs.ExpParts.{dot, dots}
use Rattle.ur_parse_rules.specs.Parts.{of_con, of_exp, Dot}
use Rattle.ur_parse_rules.specs.Language.{language}
use Rattle.ur_parse_rules.proofs.Choice.{choice}
use Rattle.ur_parse_rules.proofs.AllDecided.{decided}
use Rattle.ur_parse_rules.proofs.Places.{ends_empty, missing, span_join}
use Rattle.ur_parse_exp_parts.specs.Behind.{DotsRead}

-- ---- what is put together

projected-push : (b : Span) (a : Exp) (ds : List Dot) (d : Dot) → projected b a (ds ++ d ∷ []) ≡ at (up_to b d.span) (form.Project (projected b a ds) d.name)
projected-push b a [] d = refl
projected-push b a (x ∷ ds) d = projected-push b (at (up_to b x.span) (form.Project a x.name)) ds d

up_to-begin : (b b' s : Span) → b.file ≡ b'.file → b.from ≡ b'.from → up_to b s ≡ up_to b' s
up_to-begin b b' s e f = ap (λ z. let s : Span = record { file = z; from = b.from; to = s.to } in s) e ∙ ap (λ z. let s : Span = record { file = b'.file; from = z; to = s.to } in s) f

-- only the begin of the span counts
projected-begin : (b b' : Span) (a : Exp) (ds : List Dot) → b.file ≡ b'.file → b.from ≡ b'.from → projected b a ds ≡ projected b' a ds
projected-begin b b' a [] e f = refl
projected-begin b b' a (x ∷ ds) e f = projected-begin b b' (at (up_to b x.span) (form.Project a x.name)) ds e f ∙ ap (λ z. projected b' (at z (form.Project a x.name)) ds) (up_to-begin b b' x.span e f)

-- ---- names of fields

-- names are read from one place up to another
pub record Dotted (tokens : List Lexeme) (from first next : ℕ) (base f : Exp) : Type 0 where
  pub ds : List Dot
  pub is : f ≡ projected (span_of tokens from first) base ds
  pub leads : (n : ℕ) → Leads language n (of_exp dots) (of_exp dots) (drop first tokens) (drop next tokens) (λ ys. ds ++ ys)

pub dots_first : {tokens : List Lexeme} {from first : ℕ} {base : Exp} → Dotted tokens from first first base base
dots_first = record { ds = []; is = refl; leads = λ n. leads_here }

dot_read : (n : ℕ) (tokens : List Lexeme) (i next j : ℕ) (y : FieldName) → Moves tokens i j → IsAt tokens i next (OfKind (token.Symbol symbol.Dot)) → Read language n (of_con field_name) (drop next tokens) (drop j tokens) y →
    Read language n (of_exp dot) (drop i tokens) (drop j tokens) (record { span = span_of tokens i j; name = y })
dot_read n tokens i next j y m a r = let f = a_mark {n = n} a (an_one r nothing) in
    reads_by 0 n (omega arith) (record { v = (y, tt); span = span_of tokens i j; fills = f; is_span = covers tokens i j m f.taken f.split; allowed = refl; builds = refl }) (ends_empty _)

dot_leads : (n : ℕ) (tokens : List Lexeme) (i next j : ℕ) (d : Dot) → IsAt tokens i next (OfKind (token.Symbol symbol.Dot)) → Read language n (of_exp dot) (drop i tokens) (drop j tokens) d →
    Leads language n (of_exp dots) (of_exp dots) (drop i tokens) (drop j tokens) (λ ys. d ∷ ys)
dot_leads n tokens i next j d a r = record {
  found = λ rest ys h. reads_by 1 n (omega arith) (record { v = (d, (ys, tt)); span = no_span; is_span = refl; allowed = refl; builds = refl; fills = an_one r (an_one h nothing) }) h.stops;
  refused = λ ref h. refused_by decided 1 n (omega arith) (chosen_mark_at (choice (of_exp dots)) a (λ w s us. refl)) (one_read decided r (one_refused h));
}

module _ {tokens : List Lexeme} {from first next : ℕ} {base f : Exp} where
  pub dots_more : {point next' : ℕ} {y : FieldName} → Moves tokens from first → from < next' → Dotted tokens from first next base f → Moves tokens next next' → IsAt tokens next point (OfKind (token.Symbol symbol.Dot)) →
      ((n : ℕ) → Read language n (of_con field_name) (drop point tokens) (drop next' tokens) y) → Dotted tokens from first next' base (at (span_of tokens from next') (form.Project f y))
  dots_more {point = point} {next' = next'} {y = y} m lt k m' a r = let d : Dot = record { span = span_of tokens next next'; name = y } in record {
    ds = k.ds ++ d ∷ [];
    is = ap (λ z. at z (form.Project f y)) (span_join tokens from first next next' m m' lt) ∙ ap (λ z. at (up_to (span_of tokens from first) (span_of tokens next next')) (form.Project z y)) k.is
        ∙ sym (projected-push (span_of tokens from first) base k.ds d);
    leads = λ n. let l = dot_leads n tokens next point next' d a (dot_read n tokens next point next' y m' a (r n)) in record {
      found = λ rest ys h. rw (append_assoc k.ds (d ∷ []) ys) ((k.leads n).found rest (d ∷ ys) (l.found rest ys h));
      refused = λ ref h. (k.leads n).refused ref (l.refused ref h);
    };
  }

  -- what is wrong with a name is wrong with all
  pub dots_refused : {n point : ℕ} {r : Refusal} → Dotted tokens from first next base f → IsAt tokens next point (OfKind (token.Symbol symbol.Dot)) → Refused language n (of_con field_name) (drop point tokens) r →
      Refused language n (of_exp dots) (drop first tokens) r
  dots_refused {n = n} k a h = (k.leads n).refused _ (refused_by decided 1 n (omega arith) (chosen_mark_at (choice (of_exp dots)) a (λ w s us. refl))
      (one_refused (refused_by decided 0 n (omega arith) (chosen_mark_at (choice (of_exp dot)) a (λ w s us. refl)) (mark_read a (one_refused h)))))

  pub dots_done : Moves tokens from first → Moves tokens from next → Dotted tokens from first next base f → Other tokens next (OfKind (token.Symbol symbol.Dot)) → DotsRead tokens from first next base f
  dots_done m m' k o = let j : span_of tokens from next ≡ up_to (span_of tokens from first) (span_of tokens from next) = span_join tokens from first from next m m' m'.on in record {
    names = k.ds;
    read = λ n. rw append-nil at ((k.leads n).found (drop next tokens) [] (reads_by 0 n (omega arith) (record { v = tt; span = no_span; is_span = refl; allowed = refl; builds = refl; fills = nothing }) (missing refl o)));
    is = k.is ∙ projected-begin (span_of tokens from first) (span_of tokens from next) base k.ds (ap (λ (z : Span). z.file) (sym j)) (ap (λ (z : Span). z.from) (sym j));
  }
