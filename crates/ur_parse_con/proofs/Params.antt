-- Parameters that are constructors.
use Rattle.std.specs.Prelude.{◌≡◌, ◌+◌, ◌⊎◌, ℕ, Bool, true, false, ◌&&◌, List, [], ◌∷◌, drop, refl}
use Rattle.std.proofs.Common.{sym, ◌∙◌, ap, subst, inl, inr, arith}
use Rattle.std.proofs.lemmas.List.{drop-drop}
use Rattle.ur_base.specs.declared.refusal.Refusal.{Refusal}
use Rattle.ur_lex.specs.declared.token.Symbol.TheVariants as symbol
use Rattle.ur_lex.specs.declared.token.TokenKind.{TokenKind}
use Rattle.ur_lex.specs.declared.token.TokenKind.TheVariants as token
use Rattle.ur_lex.specs.declared.token.Lexeme.{Lexeme}
use Rattle.ur_lex.specs.Spelling.{Text}
use Rattle.ur_syntax.specs.declared.kind.Kind.{Kind}
use Rattle.ur_syntax.specs.declared.con.Con.{Con}
use Rattle.ur_syntax.specs.declared.con.ConParam.{ConParam}
use Rattle.ur_syntax.specs.declared.con.ConParam.TheVariants as params
use Rattle.ur_parse_rules.specs.Rules.{Stops, Read, Refused, no_span, syntax}
use Rattle.ur_parse_rules.specs.Places.{IsAt, IsName, Other, OfKind, Passing, Unexpected, any, starts}
use Rattle.ur_parse_rules.proofs.Steps.{nothing, a_mark, a_name, an_one, mark_read, name_read, one_read, one_refused, no_mark, not_mark, reads_by, refused_by, none_of}
use Rattle.ur_parse_rules.proofs.Choices.{if_false, stops_first}
use Rattle.ur_parse_rules.specs.Classes.{member, all_of}
use Rattle.ur_parse_rules.specs.ConParts.{con, con_param, kind}
use Rattle.ur_parse_rules.specs.declared.parse_rules_place.ConPlace.TheVariants as places
use Rattle.ur_parse_rules.specs.Parts.{of_con}
use Rattle.ur_parse_rules.specs.Language.{language}
use Rattle.ur_parse_rules.proofs.Choice.{choice, param_choice, colons, a_name as name_first}
use Rattle.ur_parse_rules.proofs.Leads.{hits}
use Rattle.ur_parse_rules.proofs.AllDecided.{decided}
use Rattle.ur_parse_rules.proofs.Tests.{false_true}
use Rattle.ur_parse_rules.proofs.Places.{ends_empty, missing}

-- ---- which of the two is chosen

abbrev Kinded : Lexeme → Lexeme → Lexeme → List Lexeme → Type 0
Kinded t u w rest = param_choice (t ∷ u ∷ w ∷ rest) ≡ 0

kinded_at : (t u w : Lexeme) (rest : List Lexeme) → u.kind ≡ token.Lower → w.kind ≡ token.Symbol symbol.DoubleColon → Kinded t u w rest
kinded_at t u w rest e f = subst (λ k. Kinded t (record { kind = k; content = u.content; span = u.span }) w rest) (sym e)
    (subst (λ k. Kinded t (record { kind = token.Lower; content = u.content; span = u.span }) (record { kind = k; content = w.content; span = w.span }) rest) (sym f) refl)

pub kinded_chosen : {tokens : List Lexeme} {at inner : ℕ} → IsAt tokens at inner (OfKind (token.Symbol symbol.LBracket)) → IsAt tokens inner (inner + 1) (OfKind token.Lower) → IsAt tokens (inner + 1) (inner + 1 + 1) (OfKind (token.Symbol symbol.DoubleColon)) →
    choice (of_con con_param) (drop at tokens) ≡ 0
kinded_chosen {tokens = tokens} {at = at} {inner = inner} a b d =
    let e : drop at tokens ≡ a.t ∷ b.t ∷ d.t ∷ drop (inner + 1 + 1) tokens = a.at.split ∙ ap (λ z. a.t ∷ z) (ap (λ i. drop i tokens) (sym a.next) ∙ b.at.split ∙ ap (λ z. b.t ∷ z) d.at.split) in
    subst (λ ts. param_choice ts ≡ 0) (sym e) (kinded_at a.t b.t d.t (drop (inner + 1 + 1) tokens) b.is d.is)

and_off : (a b : Bool) → b ≡ false → a && b ≡ false
and_off true b e = e
and_off false b e = refl

off_and : (a b : Bool) → a ≡ false → a && b ≡ false
off_and true b e = false_true (sym e)
off_and false b e = refl

first_off : (ts : List Lexeme) → Stops (member (all_of token.Lower ∷ [])) ts → hits colons true name_first ts ≡ false
first_off [] s = refl
first_off (u ∷ us) s = off_and (member (all_of token.Lower ∷ []) u.kind u.content) (hits colons true [] us) s

drop_none : (ts : List Lexeme) → drop 0 ts ≡ ts
drop_none [] = refl
drop_none (t ∷ ts) = refl

second_off : (ts us : List Lexeme) → drop 1 ts ≡ us → Stops (member (all_of (token.Symbol symbol.DoubleColon) ∷ [])) us → hits colons true name_first ts ≡ false
second_off [] us e s = refl
second_off (t ∷ ts) us e s = and_off (member (all_of token.Lower ∷ []) t.kind t.content) (hits colons true [] ts)
    (stops_first (member colons) ts (subst (λ z. Stops (member (all_of (token.Symbol symbol.DoubleColon) ∷ [])) z) (sym (sym (drop_none ts) ∙ e)) s))

no_hit : (tokens : List Lexeme) (inner : ℕ) → Other tokens inner (OfKind token.Lower) ⊎ Other tokens (inner + 1) (OfKind (token.Symbol symbol.DoubleColon)) → hits colons true name_first (drop inner tokens) ≡ false
no_hit tokens inner (inl o) = first_off (drop inner tokens) (missing refl o)
no_hit tokens inner (inr o) = second_off (drop inner tokens) (drop (inner + 1) tokens) (drop-drop 1 inner tokens) (missing refl o)

pub plain_chosen : {tokens : List Lexeme} {at inner : ℕ} → IsAt tokens at inner (OfKind (token.Symbol symbol.LBracket)) → Other tokens inner (OfKind token.Lower) ⊎ Other tokens (inner + 1) (OfKind (token.Symbol symbol.DoubleColon)) →
    choice (of_con con_param) (drop at tokens) ≡ 1
plain_chosen {tokens = tokens} {at = at} {inner = inner} a o =
    let e : drop at tokens ≡ a.t ∷ drop inner tokens = a.at.split ∙ ap (λ z. a.t ∷ z) (ap (λ i. drop i tokens) (sym a.next)) in
    subst (λ ts. param_choice ts ≡ 1) (sym e) (if_false 0 (no_hit tokens inner o))

-- ---- what is read

pub param_missing : {n : ℕ} {tokens : List Lexeme} {at : ℕ} {r : Refusal} → Unexpected tokens at (OfKind (token.Symbol symbol.LBracket)) r → Refused language n (of_con con_param) (drop at tokens) r
param_missing u = syntax u.says (none_of (not_mark u.other, (not_mark u.other, tt)))

-- `[x :: kind]`
module _ {n : ℕ} {tokens : List Lexeme} {at inner : ℕ} (a : IsAt tokens at inner (OfKind (token.Symbol symbol.LBracket))) (ch : choice (of_con con_param) (drop at tokens) ≡ 0) where
  module _ {mid begin : ℕ} {x : Text} (b : IsName tokens inner mid token.Lower any x) (d : IsAt tokens mid begin (OfKind (token.Symbol symbol.DoubleColon))) where
    pub kinded_refused : {r : Refusal} → Refused language n (of_con kind) (drop begin tokens) r → Refused language n (of_con con_param) (drop at tokens) r
    kinded_refused h = refused_by decided 0 n (omega arith) ch (mark_read a (name_read b (mark_read d (one_refused h))))

    pub kinded_open : (end : ℕ) {k : Kind} {r : Refusal} → Read language n (of_con kind) (drop begin tokens) (drop end tokens) k → Unexpected tokens end (OfKind (token.Symbol symbol.RBracket)) r → Refused language n (of_con con_param) (drop at tokens) r
    kinded_open end f u = refused_by decided 0 n (omega arith) ch (mark_read a (name_read b (mark_read d (one_read decided f (no_mark u)))))

    pub kinded_read : (end : ℕ) {close : ℕ} {k : Kind} → Read language n (of_con kind) (drop begin tokens) (drop end tokens) k → IsAt tokens end close (OfKind (token.Symbol symbol.RBracket)) →
        Read language n (of_con con_param) (drop at tokens) (drop close tokens) (params.Kinded x k)
    kinded_read end {k = k} f g = reads_by 0 n (omega arith) (record { v = (x, (k, tt)); span = no_span; is_span = refl; allowed = refl; builds = refl; fills = a_mark a (a_name b (a_mark d (an_one f (a_mark g nothing)))) }) (ends_empty _)

-- `[con ~ con]`
module _ {n : ℕ} {tokens : List Lexeme} {at inner : ℕ} (a : IsAt tokens at inner (OfKind (token.Symbol symbol.LBracket))) (ch : choice (of_con con_param) (drop at tokens) ≡ 1) where
  pub left_refused : {r : Refusal} → Refused language n (of_con (con places.Beside)) (drop inner tokens) r → Refused language n (of_con con_param) (drop at tokens) r
  left_refused h = refused_by decided 1 n (omega arith) ch (mark_read a (one_refused h))

  module _ (mid : ℕ) {x : Con} (f : Read language n (of_con (con places.Beside)) (drop inner tokens) (drop mid tokens) x) where
    pub tilde_missing : {r : Refusal} → Unexpected tokens mid (OfKind (token.Symbol symbol.Tilde)) r → Refused language n (of_con con_param) (drop at tokens) r
    tilde_missing u = refused_by decided 1 n (omega arith) ch (mark_read a (one_read decided f (no_mark u)))

    module _ {begin : ℕ} (d : IsAt tokens mid begin (OfKind (token.Symbol symbol.Tilde))) where
      pub right_refused : {r : Refusal} → Refused language n (of_con (con places.Beside)) (drop begin tokens) r → Refused language n (of_con con_param) (drop at tokens) r
      right_refused h = refused_by decided 1 n (omega arith) ch (mark_read a (one_read decided f (mark_read d (one_refused h))))

      module _ (end : ℕ) {y : Con} (g : Read language n (of_con (con places.Beside)) (drop begin tokens) (drop end tokens) y) where
        pub disjoint_open : {r : Refusal} → Unexpected tokens end (OfKind (token.Symbol symbol.RBracket)) r → Refused language n (of_con con_param) (drop at tokens) r
        disjoint_open u = refused_by decided 1 n (omega arith) ch (mark_read a (one_read decided f (mark_read d (one_read decided g (no_mark u)))))

        pub disjoint_read : {close : ℕ} → IsAt tokens end close (OfKind (token.Symbol symbol.RBracket)) → Read language n (of_con con_param) (drop at tokens) (drop close tokens) (params.Disjoint x y)
        disjoint_read c = reads_by 1 n (omega arith) (record { v = (x, (y, tt)); span = no_span; is_span = refl; allowed = refl; builds = refl; fills = a_mark a (an_one f (a_mark d (an_one g (a_mark c nothing)))) }) (ends_empty _)
