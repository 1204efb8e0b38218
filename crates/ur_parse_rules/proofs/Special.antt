-- Nonterminals whose rules more than one token tells apart.
use Rattle.std.specs.Prelude.{◌≡◌, ℕ, true, false, List, [], ◌∷◌, ◌++◌, refl}
use Rattle.std.proofs.Common.{sym, ◌∙◌, subst, inl, inr, append_assoc}
use Rattle.ur_lex.specs.declared.token.Symbol.TheVariants as symbol
use Rattle.ur_lex.specs.declared.token.TokenKind.TheVariants as token
use Rattle.ur_lex.specs.declared.token.Lexeme.{Lexeme}
use Rattle.ur_parse_rules.specs.Rules.{Sym, part, Spells, Stops, AnyOf, Builds}
use Rattle.ur_parse_rules.specs.Places.{starts}
use Rattle.ur_parse_rules.proofs.Inversions.{produced-out, part-out, nothing-out, token-out, no_plain, no_named, no_spelled}
use Rattle.ur_parse_rules.proofs.Once.{Decided}
use Rattle.ur_parse_rules.proofs.Choices.{if_true, if_false, stops_first}
use Rattle.ur_parse_rules.specs.Classes.{Classes, member, all_of}
use Rattle.ur_parse_rules.specs.Quoted.{Quoting}
use Rattle.ur_parse_rules.specs.ConParts as c
use Rattle.ur_parse_rules.specs.SqlParts as s
use Rattle.ur_parse_rules.specs.XmlParts as x
use Rattle.ur_parse_rules.specs.Parts.{Part, of_con, of_sql, of_xml, of_quote, Tree}
use Rattle.ur_parse_rules.specs.Ends.{symbols}
use Rattle.ur_parse_rules.specs.Language.{language, rules}
use Rattle.ur_parse_rules.specs.SqlExpressions.{column_rules}
use Rattle.ur_parse_rules.proofs.Tests.{false_true, nor_both, inside, apart, within}
use Rattle.ur_parse_rules.proofs.Checks.{all_after, part_begun}
use Rattle.ur_parse_rules.proofs.Starts.{first, empty}
use Rattle.ur_parse_rules.proofs.Firsts.{fit}
use Rattle.ur_parse_rules.proofs.Most.{last, most}
use Rattle.ur_parse_rules.proofs.Leads.{hits}
use Rattle.ur_parse_rules.proofs.Choice.{choice, part_choice, bracket, goes_on, a_column, aggregates}
use Rattle.ur_parse_rules.proofs.Watches.{no_colons, no_column}
use Rattle.ur_parse_rules.proofs.RawCode.{no_bracket_first}

-- ---- `[x :: kind]` and `[con ~ con]`

pub con_param_decided : Decided language choice (of_con c.con_param)
con_param_decided = record {
  chosen = (
    (λ n v taken rest d y. let o = token-out language (no_plain language) d in let o' = token-out language (no_named language) o.4 in let o'' = token-out language (no_plain language) o'.4 in
        let e = o.2 in let e' = o'.2 in let e'' = o''.2 in let k = o'.3.0 in let k' = o''.3 in rw (e, e', e'', k, k') refl),
    (
      (λ n v taken rest d y. let o = token-out language (no_plain language) d in let p = part-out language o.4 in let t = token-out language (no_plain language) p.5 in
          let e = o.2 in let e' = p.2 in let e'' = t.2 in let a : (p.0 ++ (t.0 ∷ t.1)) ++ rest ≡ p.0 ++ ((t.0 ∷ t.1) ++ rest) = append_assoc p.0 (t.0 ∷ t.1) rest in let k = t.3 in
          rw (e, e', e'', a) (if_false 0 (no_colons (of_con (c.con _)) refl n v.0 p.0 ((t.0 ∷ t.1) ++ rest) p.3 (rw k refl)))),
      tt,
    ),
  );
  after = all_after language first empty fit last (of_con c.con_param) (λ a k w h. h) most (rules (of_con c.con_param)) refl;
}

-- ---- an item of SELECT

pub first_of : (set : Classes) (p : Part) → apart set (first p) ≡ true → empty p ≡ false → (n : ℕ) (x : Tree p) (taken us : List Lexeme) → Spells language n (part p x ∷ []) taken → starts (member set) (taken ++ us) ≡ false
first_of set p a e n x taken us d = elim (part_begun language first empty fit p n x taken d) [
  | inl y ↦ false_true (sym e ∙ y.1)
  | inr y ↦ (let i = y.2 in rw i (nor_both set (first p) y.0.kind y.0.content a y.3))
]

begins : (set : Classes) (p : Part) → within (first p) set ≡ true → empty p ≡ false → (n : ℕ) (x : Tree p) (taken us : List Lexeme) → Spells language n (part p x ∷ []) taken → starts (member set) (taken ++ us) ≡ true
begins set p a e n x taken us d = elim (part_begun language first empty fit p n x taken d) [
  | inl y ↦ false_true (sym e ∙ y.1)
  | inr y ↦ (let i = y.2 in rw i (inside (first p) set y.0.kind y.0.content a y.3))
]

column_cases : (q : Quoting) (x : Tree (of_sql q (s.column false))) (us : List Lexeme) → Stops (member goes_on) us → (below : ℕ) (ss : List (Sym Tree)) (i : List Lexeme) → AnyOf (Builds language (of_sql q (s.column false)) x ss i) (column_rules q false) →
    Spells language below ss i → hits goes_on false a_column (i ++ us) ≡ true
column_cases q x us h below ss i (inl (v, span, is, al, b, f)) d = let o = token-out language (no_named language) (subst (λ z. Spells language below z i) f d) in let o' = token-out language (no_plain language) o.4 in
    let o'' = token-out language (no_named language) o'.4 in let z = nothing-out language o''.4 in let e = o.2 in let e' = o'.2 in let e'' = o''.2 in let k = o.3.0 in let k' = o'.3 in let k'' = o''.3.0 in
    let g = stops_first (member goes_on) us h in rw (e, e', e'', z, k, k', k'', g) refl
column_cases q x us h below ss i (inr (inl (v, span, is, al, b, f))) d = let o = token-out language (no_named language) (subst (λ z. Spells language below z i) f d) in let o' = token-out language (no_plain language) o.4 in
    let o'' = token-out language (no_named language) o'.4 in let z = nothing-out language o''.4 in let e = o.2 in let e' = o'.2 in let e'' = o''.2 in let k = o.3.0 in let k' = o'.3 in let k'' = o''.3.0 in
    let g = stops_first (member goes_on) us h in rw (e, e', e'', z, k, k', k'', g) refl
column_cases q x us h below ss i (inr (inr c)) d = absurd c

column_hit : (q : Quoting) (n : ℕ) (x : Tree (of_sql q (s.column false))) (taken us : List Lexeme) → Spells language n (part (of_sql q (s.column false)) x ∷ []) taken → Stops (member goes_on) us → hits goes_on false a_column (taken ++ us) ≡ true
column_hit q n x taken us d h = let o = produced-out language d in let e = o.3 in rw e (column_cases q x us h o.0 o.1 o.2 o.4 o.6)

pub selected_decided : (q : Quoting) → Decided language choice (of_sql q s.selected)
selected_decided q = record {
  chosen = (
    (λ n v taken rest d y. if_false 2 (first_of aggregates (of_sql q (s.column false)) refl refl n v.0 taken rest d) ∙ if_true 1 (column_hit q n v.0 taken rest d y.stops)),
    (
      (λ n v taken rest d y. let p = part-out language d in let t = token-out language (no_spelled language) p.5 in let e = p.2 in let e' = t.2 in
          let a : (p.0 ++ (t.0 ∷ t.1)) ++ rest ≡ p.0 ++ ((t.0 ∷ t.1) ++ rest) = append_assoc p.0 (t.0 ∷ t.1) rest in let k = t.3.0 in let w = t.3.1 in
          rw (e, e', a) (if_false 2 (first_of aggregates (of_sql q (s.sexp false)) refl refl n v.0 p.0 ((t.0 ∷ t.1) ++ rest) p.3) ∙ if_false 0 (no_column q n v.0 p.0 ((t.0 ∷ t.1) ++ rest) p.3 (rw (k, w) refl)))),
      ((λ n v taken rest d y. let p = part-out language d in let e = p.2 in let a = append_assoc p.0 p.1 rest in rw (e, a) (if_true _ (begins aggregates (of_sql q s.aggregate) refl refl n v.0 p.0 (p.1 ++ rest) p.3))), tt),
    ),
  );
  after = all_after language first empty fit last (of_sql q s.selected) (λ a k w h. h) most (rules (of_sql q s.selected)) refl;
}

-- ---- a part of XML

anti_cases : (q : Quoting) (x : Tree (of_sql q s.anti)) (us : List Lexeme) (below : ℕ) (ss : List (Sym Tree)) (i : List Lexeme) → AnyOf (Builds language (of_sql q s.anti) x ss i) (rules (of_sql q s.anti)) → Spells language below ss i → part_choice (i ++ us) ≡ 2
anti_cases q x us below ss i (inl (v, span, is, al, b, f)) d = let o = token-out language (no_plain language) (subst (λ z. Spells language below z i) f d) in let o' = token-out language (no_plain language) o.4 in let p = part-out language o'.4 in
    let i0 = o.2 in let i1 = o'.2 in let i2 = p.2 in let k = o.3 in let k' = o'.3 in let a = append_assoc p.0 p.1 us in
    let g : starts (member bracket) (p.0 ++ (p.1 ++ us)) ≡ false = first_of bracket (of_quote q) refl refl below v.0 p.0 (p.1 ++ us) p.3 in rw (i0, i1, i2, k, k', a, g) refl
anti_cases q x us below ss i (inr c) d = absurd c

pub part_decided : (q : Quoting) → Decided language choice (of_xml q x.one_part)
part_decided q = record {
  chosen = (
    (λ n v taken rest d y. let o = token-out language (no_named language) d in let e = o.2 in let k = o.3.0 in rw (e, k) refl),
    (
      (λ n v taken rest d y. let o = token-out language (no_plain language) d in let p = part-out language o.4 in let e = o.2 in let e' = p.2 in let k = o.3 in let a = append_assoc p.0 p.1 rest in
          rw (e, e', k, a) (if_false 2 (no_bracket_first q n v.0 p.0 (p.1 ++ rest) p.3))),
      (
        (λ n v taken rest d y. let o = produced-out language d in let e = o.3 in rw e (anti_cases q v.0 rest o.0 o.1 o.2 o.4 o.6)),
        (
          (λ n v taken rest d y. elim (part_begun language first empty fit (of_xml q x.element) n v.0 taken d) [
            | inl z ↦ false_true z.1
            | inr z ↦ (let e = z.2 in rw e (if_false 0 (nor_both (all_of token.XmlText ∷ []) (symbols (symbol.Lt ∷ [])) z.0.kind z.0.content refl z.3) ∙ if_true _ z.3))
          ]),
          tt,
        ),
      ),
    ),
  );
  after = all_after language first empty fit last (of_xml q x.one_part) (λ a k w h. h) most (rules (of_xml q x.one_part)) refl;
}
