-- The items of a signature, and whole signatures.
use Rattle.std.specs.Prelude.{◌≡◌, ◌⊎◌, ◌+◌, ◌<◌, ◌≤◌, ℕ, Bool, true, false, if◌then◌else◌, List, [], ◌∷◌, ◌++◌, length, drop, refl}
use Rattle.std.proofs.Common.{sym, ◌∙◌, ap, subst, inl, inr, arith, append_assoc}
use Rattle.std.proofs.lemmas.List.{append-nil, drop_all, length-drop}
use Rattle.ur_base.specs.declared.refusal.Refusal.{Refusal}
use Rattle.ur_base.specs.Stopping.{Says}
use Rattle.ur_lex.specs.declared.token.Keyword.TheVariants as keyword
use Rattle.ur_lex.specs.declared.token.Symbol.TheVariants as symbol
use Rattle.ur_lex.specs.declared.token.TokenKind.TheVariants as token
use Rattle.ur_lex.specs.declared.token.Lexeme.{Lexeme}
use Rattle.ur_lex.specs.Spelling.{Text}
use Rattle.ur_syntax.specs.declared.con.Con.{Con}
use Rattle.ur_syntax.specs.declared.decl.ValDecl.{ValDecl}
use Rattle.ur_syntax.specs.declared.decl.Signature.{Signature}
use Rattle.ur_parse_rules.specs.Rules.{Spells, Stops, Read, Refused, no_span, syntax, nested, part}
use Rattle.ur_parse_rules.specs.Places.{Moves, IsAt, IsName, Other, OfKind, Passing, Unexpected, any, span_of, starts}
use Rattle.ur_parse_rules.proofs.Once.{read_once}
use Rattle.ur_parse_rules.proofs.Tokens.{covers}
use Rattle.ur_parse_rules.proofs.Steps.{Leads, nothing, a_mark, a_name, an_one, mark_read, name_read, one_read, one_refused, no_mark, no_name, reads_by, refused_by}
use Rattle.ur_parse_rules.proofs.Choices.{chosen_mark_at, if_false, first_stops}
use Rattle.ur_parse_rules.specs.Classes.{Class, Classes, member, in_class, keyword_class}
use Rattle.ur_parse_rules.specs.ConParts.{con}
use Rattle.ur_parse_rules.specs.DeclParts.{signature, val_decls, val_decl}
use Rattle.ur_parse_rules.specs.declared.parse_rules_place.ConPlace.TheVariants as places
use Rattle.ur_parse_rules.specs.Ends.{con_more}
use Rattle.ur_parse_rules.specs.Parts.{of_con, of_decl}
use Rattle.ur_parse_rules.specs.Language.{language, IsSignature}
use Rattle.ur_parse_rules.proofs.Choice.{choice}
use Rattle.ur_parse_rules.proofs.AllDecided.{decided}
use Rattle.ur_parse_rules.proofs.Tests.{false_true, or_second}
use Rattle.ur_parse_rules.proofs.Places.{missing, stops_cons, may_not_end}
use Rattle.ur_parse.specs.Wholes.{RefusesWhole}

only_one : (b : Bool) → let z : ℕ = if b then 0 else 0 in z ≡ 0
only_one true = refl
only_one false = refl

single_val : (ts : List Lexeme) → choice (of_decl val_decl) ts ≡ 0
single_val [] = refl
single_val (t ∷ ts) = only_one _

single_signature : (ts : List Lexeme) → choice (of_decl signature) ts ≡ 0
single_signature [] = refl
single_signature (t ∷ ts) = only_one _

-- ---- `val x : con`

module _ {n : ℕ} {tokens : List Lexeme} {at : ℕ} {r : Refusal} where
  pub val_missing : Unexpected tokens at (OfKind (token.Keyword keyword.Val)) r → Refused language n (of_decl val_decl) (drop at tokens) r
  val_missing u = refused_by decided 0 n (omega arith) (single_val (drop at tokens)) (no_mark u)

  pub val_name : {next : ℕ} → IsAt tokens at next (OfKind (token.Keyword keyword.Val)) → Unexpected tokens next (Passing token.Lower any) r → Refused language n (of_decl val_decl) (drop at tokens) r
  val_name a u = refused_by decided 0 n (omega arith) (single_val (drop at tokens)) (mark_read a (no_name u))

  pub val_colon : {next colon : ℕ} {x : Text} → IsAt tokens at next (OfKind (token.Keyword keyword.Val)) → IsName tokens next colon token.Lower any x → Unexpected tokens colon (OfKind (token.Symbol symbol.Colon)) r →
      Refused language n (of_decl val_decl) (drop at tokens) r
  val_colon a b u = refused_by decided 0 n (omega arith) (single_val (drop at tokens)) (mark_read a (name_read b (no_mark u)))

  pub val_con : {next colon begin : ℕ} {x : Text} → IsAt tokens at next (OfKind (token.Keyword keyword.Val)) → IsName tokens next colon token.Lower any x → IsAt tokens colon begin (OfKind (token.Symbol symbol.Colon)) →
      Refused language n (of_con (con places.Plain)) (drop begin tokens) r → Refused language n (of_decl val_decl) (drop at tokens) r
  val_con a b d h = refused_by decided 0 n (omega arith) (single_val (drop at tokens)) (mark_read a (name_read b (mark_read d (one_refused h))))

pub val_read : {n : ℕ} {tokens : List Lexeme} {at next colon begin end : ℕ} {x : Text} {c : Con} → Moves tokens at end → IsAt tokens at next (OfKind (token.Keyword keyword.Val)) → IsName tokens next colon token.Lower any x →
    IsAt tokens colon begin (OfKind (token.Symbol symbol.Colon)) → Read language n (of_con (con places.Plain)) (drop begin tokens) (drop end tokens) c →
    let d : ValDecl = record { span = span_of tokens at end; name = x; con = c } in Read language n (of_decl val_decl) (drop at tokens) (drop end tokens) d
val_read {n = n} {tokens = tokens} {at = at} {end = end} {x = x} {c = c} m a b d h = let fl = a_mark {n = n} a (a_name b (a_mark d (an_one h nothing))) in
    reads_by 0 n (omega arith) (record { v = (x, (c, tt)); span = span_of tokens at end; fills = fl; is_span = covers tokens at end m fl.taken fl.split; allowed = refl; builds = refl }) h.stops

-- a token goes on that is in one of more classes
goes : (c : Class) (b : Classes) (ts : List Lexeme) → starts (member b) ts ≡ true → Stops (member (c ∷ b)) ts → ⊥
goes c b [] e s = false_true e
goes c b (t ∷ ts) e s = false_true (sym s ∙ or_second (in_class c t.kind t.content) _ e)

-- ---- items one behind another

no_val : (ts : List Lexeme) → Stops (member (keyword_class keyword.Val ∷ [])) ts → choice (of_decl val_decls) ts ≡ 0
no_val [] s = refl
no_val (t ∷ ts) s = if_false 1 s

-- what is read so far: what is read behind it is read from the begin, and what is refused there is refused
pub record ValsRead (n : ℕ) (tokens : List Lexeme) (at : ℕ) (vals : List ValDecl) : Type 0 where
  pub leads : Leads language n (of_decl val_decls) (of_decl val_decls) (drop 0 tokens) (drop at tokens) (λ ys. vals ++ ys)

pub vals_start : (n : ℕ) (tokens : List Lexeme) → ValsRead n tokens 0 []
vals_start n tokens = record { leads = record { found = λ rest y a. a; refused = λ ref h. h } }

module _ {n : ℕ} {tokens : List Lexeme} {at : ℕ} {vals : List ValDecl} where
  pub vals_more : {next : ℕ} (end : ℕ) {d : ValDecl} → ValsRead n tokens at vals → IsAt tokens at next (OfKind (token.Keyword keyword.Val)) → Read language n (of_decl val_decl) (drop at tokens) (drop end tokens) d → ValsRead n tokens end (vals ++ d ∷ [])
  vals_more end {d = d} v a r = record {
    leads = record {
      found = λ rest ys b. rw (append_assoc vals (d ∷ []) ys) (v.leads.found rest (d ∷ ys)
          (reads_by 1 n (omega arith) (record { v = (d, (ys, tt)); span = no_span; is_span = refl; allowed = refl; builds = refl; fills = an_one r (an_one b nothing) }) b.stops));
      refused = λ ref h. v.leads.refused ref (refused_by decided 1 n (omega arith) (chosen_mark_at (choice (of_decl val_decls)) a (λ w s us. refl)) (one_read decided r (one_refused h)));
    };
  }

  vals_refused : {next : ℕ} {r : Refusal} → ValsRead n tokens at vals → IsAt tokens at next (OfKind (token.Keyword keyword.Val)) → Refused language n (of_decl val_decl) (drop at tokens) r → Refused language n (of_decl val_decls) (drop 0 tokens) r
  vals_refused v a h = v.leads.refused _ (refused_by decided 1 n (omega arith) (chosen_mark_at (choice (of_decl val_decls)) a (λ w s us. refl)) (one_refused h))

  vals_done : ValsRead n tokens at vals → Stops (member (keyword_class keyword.Val ∷ con_more false)) (drop at tokens) → Read language n (of_decl val_decls) (drop 0 tokens) (drop at tokens) vals
  vals_done v s = rw append-nil at (v.leads.found (drop at tokens) [] (reads_by 0 n (omega arith) (record { v = tt; span = no_span; is_span = refl; allowed = refl; builds = refl; fills = nothing }) s))

-- ---- whole signatures

drop_none : (ts : List Lexeme) → drop 0 ts ≡ ts
drop_none [] = refl
drop_none (t ∷ ts) = refl

signature_read : {n : ℕ} {tokens rest : List Lexeme} {vals : List ValDecl} → Read language n (of_decl val_decls) tokens rest vals → let s : Signature = record { vals = vals } in Read language n (of_decl signature) tokens rest s
signature_read {n = n} {vals = vals} r = reads_by 0 n (omega arith) (record { v = (vals, tt); span = no_span; is_span = refl; allowed = refl; builds = refl; fills = an_one r nothing }) r.stops

whole_read : {n : ℕ} {tokens : List Lexeme} {x : Signature} → Spells language n (part (of_decl signature) x ∷ []) tokens → Read language n (of_decl signature) tokens [] x
whole_read {tokens = tokens} d = record { taken = tokens; split = sym (append-nil tokens); spells = d; stops = tt }

whole_refused : {n : ℕ} {tokens : List Lexeme} {r : Refusal} → Refused language n (of_decl val_decls) (drop 0 tokens) r → RefusesWhole n (of_decl signature) tokens r
whole_refused {n = n} {tokens = tokens} {r = r} h = by (subst (λ ts. Refused language n (of_decl signature) ts r) (drop_none tokens) (refused_by decided 0 n (omega arith) (single_signature (drop 0 tokens)) (one_refused h))) where
  by : Refused language n (of_decl signature) tokens r → RefusesWhole n (of_decl signature) tokens r
  by (syntax says m) = RefusesWhole.syntax says (λ k x d. m.none k x [] (whole_read d))
  by (nested says m) = RefusesWhole.nested m.taken m.rest says (λ x d. m.none x [] (whole_read d)) m.split m.deep

-- what is read up to the end spells all
all_spelled : {n : ℕ} {tokens rest : List Lexeme} {x : Signature} → rest ≡ [] → Read language n (of_decl signature) (drop 0 tokens) rest x → Spells language n (part (of_decl signature) x ∷ []) tokens
all_spelled {n = n} {tokens = tokens} {x = x} e r = subst (λ ts. Spells language n (part (of_decl signature) x ∷ []) ts) (sym (sym (drop_none tokens) ∙ r.split ∙ ap (λ z. r.taken ++ z) e ∙ append-nil r.taken)) r.spells

-- nor is anything read that ends before
ends_apart : {n m : ℕ} (tokens : List Lexeme) (at : ℕ) {x y : Signature} → at < length tokens → Read language n (of_decl signature) (drop 0 tokens) (drop at tokens) y → Spells language m (part (of_decl signature) x ∷ []) tokens → ⊥
ends_apart {m = m} tokens at {x = x} h r d = let w : Read language m (of_decl signature) (drop 0 tokens) [] x = subst (λ ts. Read language m (of_decl signature) ts [] x) (sym (drop_none tokens)) (whole_read d) in
    let e = ap length (read_once language choice decided r w).1 in let l = length-drop at tokens in omega (arith, e, l)

module _ {n : ℕ} {tokens : List Lexeme} {at : ℕ} {vals : List ValDecl} where
  pub signature_refused : {next : ℕ} {r : Refusal} → ValsRead n tokens at vals → IsAt tokens at next (OfKind (token.Keyword keyword.Val)) → Refused language n (of_decl val_decl) (drop at tokens) r → RefusesWhole n (of_decl signature) tokens r
  signature_refused v a h = whole_refused (vals_refused v a h)

  -- all tokens are read
  pub signature_done : ValsRead n tokens at vals → length tokens ≤ at → let s : Signature = record { vals = vals } in IsSignature n tokens s
  signature_done v h = all_spelled (drop_all at tokens h) (signature_read (vals_done v (subst (λ ts. Stops (member (keyword_class keyword.Val ∷ con_more false)) ts) (sym (drop_all at tokens h)) tt)))

  -- something stands behind the items
  pub signature_open : {r : Refusal} → ValsRead n tokens at vals → Other tokens at (OfKind (token.Keyword keyword.Val)) → at < length tokens → Says r 5 [] [] → RefusesWhole n (of_decl signature) tokens r
  signature_open {r = r} v o h says = by (starts (member (con_more false)) (drop at tokens)) refl where
    by : (b : Bool) → starts (member (con_more false)) (drop at tokens) ≡ b → RefusesWhole n (of_decl signature) tokens r
    by true e = whole_refused (v.leads.refused r (refused_by decided 0 n (omega arith) (no_val (drop at tokens) (missing refl o)) (may_not_end says (λ p. goes (keyword_class keyword.Val) (con_more false) (drop at tokens) e p.stops))))
    by false e = RefusesWhole.syntax says (λ m x d. ends_apart tokens at h (signature_read (vals_done v (stops_cons (keyword_class keyword.Val) (con_more false) (drop at tokens) (missing refl o) (first_stops (member (con_more false)) (drop at tokens) e)))) d)
