-- Kinds are read in a loop.
use Rattle.std.specs.Prelude.{◌≡◌, ℕ, Bool, true, false, if◌then◌else◌, List, [], ◌∷◌, ◌++◌, drop, Some, None, refl}
use Rattle.std.proofs.Common.{sym, ◌∙◌, ap, arith}
use Rattle.ur_base.specs.declared.refusal.Refusal.{Refusal}
use Rattle.ur_lex.specs.declared.token.Symbol.TheVariants as symbol
use Rattle.ur_lex.specs.declared.token.TokenKind.TheVariants as token
use Rattle.ur_lex.specs.declared.token.Lexeme.{Lexeme}
use Rattle.ur_syntax.specs.declared.kind.Kind.{Kind}
use Rattle.ur_syntax.specs.declared.kind.Kind.TheVariants as kinds
use Rattle.ur_parse_rules.specs.Rules.{Stops, no_span, Read, Refused}
use Rattle.ur_parse_rules.specs.Places.{IsAt, Other, OfKind, only}
use Rattle.ur_parse_rules.proofs.Steps.{Leads, nothing, a_mark, an_one, mark_read, one_read, one_refused, reads_by, refused_by}
use Rattle.ur_parse_rules.proofs.Choices.{chosen_mark_at, other_stops}
use Rattle.ur_parse_rules.specs.ConParts.{kind, kind_atom, kind_tail}
use Rattle.ur_parse_rules.specs.Parts.{of_con}
use Rattle.ur_parse_rules.specs.Language.{language}
use Rattle.ur_parse_rules.proofs.Choice.{choice}
use Rattle.ur_parse_rules.proofs.AllDecided.{decided}
use Rattle.ur_parse_rules.specs.Classes.{member, in_class, symbol_class}
use Rattle.ur_parse_rules.proofs.Tests.{is_not, or_true, and_left, false_true}
use Rattle.ur_parse_con.specs.Chains.{arrows}

-- where no arrow stands, no kind goes on
stops_arrow : (ts : List Lexeme) → Stops (only (token.Symbol symbol.Arrow)) ts → Stops (member (symbol_class symbol.Arrow ∷ [])) ts
stops_arrow [] s = tt
stops_arrow (t ∷ ts) s = is_not (member (symbol_class symbol.Arrow ∷ []) t.kind t.content) (λ m. sym s ∙ or_true (in_class (symbol_class symbol.Arrow) t.kind t.content) false m (λ h. and_left _ _ h) (λ h. false_true h))

no_arrow : {tokens : List Lexeme} {i : ℕ} → Other tokens i (OfKind (token.Symbol symbol.Arrow)) → Stops (member (symbol_class symbol.Arrow ∷ [])) (drop i tokens)
no_arrow o = stops_arrow _ (other_stops refl o)

pub arrows-push : (js : List Kind) (j k : Kind) → arrows (js ++ j ∷ []) k ≡ arrows js (kinds.Arrow j k)
arrows-push [] j k = refl
arrows-push (i ∷ js) j k = ap (λ z. kinds.Arrow i z) (arrows-push js j k)

only_one : (b : Bool) → let z : ℕ = if b then 0 else 0 in z ≡ 0
only_one true = refl
only_one false = refl

-- a nonterminal of one rule
single : (ts : List Lexeme) → choice (of_con kind) ts ≡ 0
single [] = refl
single (t ∷ ts) = only_one _

pub first_refused : {n : ℕ} (tokens : List Lexeme) (at : ℕ) {ref : Refusal} → Refused language n (of_con kind_atom) (drop at tokens) ref → Refused language n (of_con kind) (drop at tokens) ref
first_refused {n = n} tokens at h = refused_by decided 0 n (omega arith) (single (drop at tokens)) (one_refused h)

-- kinds before an arrow each, from one place up to another, and the kind behind them
pub record Chain (n : ℕ) (tokens : List Lexeme) (at begin end : ℕ) (left : List Kind) (k : Kind) : Type 0 where
  pub last : Read language n (of_con kind_atom) (drop begin tokens) (drop end tokens) k
  pub leads : Leads language n (of_con kind) (of_con kind) (drop at tokens) (drop begin tokens) (λ j. arrows left j)

module _ {n : ℕ} {tokens : List Lexeme} {end : ℕ} {k : Kind} where
  pub chain_start : {at : ℕ} → Read language n (of_con kind_atom) (drop at tokens) (drop end tokens) k → Chain n tokens at at end [] k
  chain_start r = record { last = r; leads = record { found = λ rest y a. a; refused = λ ref h. h } }

  step : (begin : ℕ) {next : ℕ} → IsAt tokens end next (OfKind (token.Symbol symbol.Arrow)) → Read language n (of_con kind_atom) (drop begin tokens) (drop end tokens) k →
      Leads language n (of_con kind) (of_con kind) (drop begin tokens) (drop next tokens) (λ j. kinds.Arrow k j)
  step begin {next = next} a r = record {
    found = λ rest y b. let tail : Read language n (of_con kind_tail) (drop end tokens) rest (Some y) = reads_by 1 n (omega arith)
        (record { v = (y, tt); span = no_span; is_span = refl; allowed = refl; builds = refl; fills = a_mark a (an_one b nothing) }) b.stops in
        reads_by 0 n (omega arith) (record { v = (k, (Some y, tt)); span = no_span; is_span = refl; allowed = refl; builds = refl; fills = an_one r (an_one tail nothing) }) b.stops;
    refused = λ ref h. refused_by decided 0 n (omega arith) (single (drop begin tokens)) (one_read decided r (one_refused
        (refused_by decided 1 n (omega arith) (chosen_mark_at (choice (of_con kind_tail)) a (λ w s us. refl)) (mark_read a (one_refused h)))));
  }

module _ {n : ℕ} {tokens : List Lexeme} {at begin end : ℕ} {left : List Kind} {k : Kind} where
  -- one kind more before an arrow
  pub chain_more : {next end' : ℕ} {j : Kind} → Chain n tokens at begin end left k → IsAt tokens end next (OfKind (token.Symbol symbol.Arrow)) → Read language n (of_con kind_atom) (drop next tokens) (drop end' tokens) j →
      Chain n tokens at next end' (left ++ k ∷ []) j
  chain_more {next = next} {j = j} c a r = let s = step begin a c.last in record {
    last = r;
    leads = record {
      found = λ rest y b. let z = c.leads.found rest (kinds.Arrow k y) (s.found rest y b) in rw (arrows-push left k y) z;
      refused = λ ref h. c.leads.refused ref (s.refused ref h);
    };
  }

  pub chain_done : Chain n tokens at begin end left k → Other tokens end (OfKind (token.Symbol symbol.Arrow)) → Read language n (of_con kind) (drop at tokens) (drop end tokens) (arrows left k)
  chain_done c o = let s = no_arrow o in
      let tail : Read language n (of_con kind_tail) (drop end tokens) (drop end tokens) None = reads_by 0 n (omega arith) (record { v = tt; span = no_span; is_span = refl; allowed = refl; builds = refl; fills = nothing }) s in
      c.leads.found (drop end tokens) k (reads_by 0 n (omega arith) (record { v = (k, (None, tt)); span = no_span; is_span = refl; allowed = refl; builds = refl; fills = an_one c.last (an_one tail nothing) }) s)

  pub chain_refused : (next : ℕ) {ref : Refusal} → Chain n tokens at begin end left k → IsAt tokens end next (OfKind (token.Symbol symbol.Arrow)) → Refused language n (of_con kind_atom) (drop next tokens) ref → Refused language n (of_con kind) (drop at tokens) ref
  chain_refused next c a h = c.leads.refused _ ((step begin a c.last).refused _ (first_refused tokens next h))
