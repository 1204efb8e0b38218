-- Where SQL or XML with expressions is spelled, so is its skeleton; and where a skeleton is, so is what it is filled to.
use Rattle.std.specs.Prelude.{◌≡◌, ℕ, zero, suc, ◌+◌, ◌-◌, ◌<◌, ◌≤◌, List, [], ◌∷◌, refl}
use Rattle.std.proofs.Common.{arith, sym, inl, inr, subst, ◌∙◌}
use Rattle.ur_lex.specs.declared.token.Lexeme.{Lexeme}
use Rattle.ur_parse_rules.specs.Rules.{Slot, mark, word, name, number, among, one, Values, Rule, Sym, part, filled as fill, AnyOf, Builds, Spells, token}
use Rattle.ur_parse_rules.proofs.Inversions.{height, height-subst, token-out, no_plain, no_spelled, no_named, no_counted, no_token_of, part-out, produced-out, wider, append, by}
use Rattle.ur_parse_rules.specs.Quoted.{expressions, raw}
use Rattle.ur_parse_rules.specs.SqlParts as s
use Rattle.ur_parse_rules.specs.XmlParts as x
use Rattle.ur_parse_rules.specs.Parts.{Tree, of_sql, of_xml}
use Rattle.ur_parse_rules.specs.Statements.{sql_rules, sql_cost}
use Rattle.ur_parse_rules.specs.Markup.{xml_rules, xml_cost}
use Rattle.ur_parse_rules.specs.Language.{language}
use Rattle.ur_parse_embed_code.proofs.Twins.{Twin, sql, xml, code, at, above, sql_above, xml_above, slots_at, TwinTrees, TwinValues, twin, AllTwin}
use Rattle.ur_parse_embed_code.proofs.SqlTwins.{sql_twins}
use Rattle.ur_parse_embed_code.proofs.XmlTwins.{xml_twins}
use Rattle.ur_parse_embed_code.proofs.Walks.{is_raw}

pub sql_above_is : (p : s.SqlPart) (n : ℕ) → sql_above p n ≡ sql_cost p + n
sql_above_is (s.sexp bare) n = refl
sql_above_is _ n = omega arith

pub xml_above_is : (p : x.XmlPart) (n : ℕ) → xml_above p n ≡ xml_cost p + n
xml_above_is x.element n = refl
xml_above_is _ n = omega arith

-- ---- to the skeleton

abbrev Stripped : (n : ℕ) (i : Twin) → Tree (at expressions i) → List Lexeme → Type 0
Stripped n i y ts = (a : Tree (at raw i)) × TwinTrees n i a y × Spells language n (part (at raw i) a ∷ []) ts

abbrev StripBelow : ℕ → Type 0
StripBelow k = (i : Twin) (m n : ℕ) → m ≤ n → (y : Tree (at expressions i)) (ts : List Lexeme) (d : Spells language m (part (at expressions i) y ∷ []) ts) → height language d < k → Stripped n i y ts

slots_strip : (k : ℕ) → StripBelow k → (m n : ℕ) → m ≤ n → (slots : List (Slot Twin)) (w : Values Tree (slots_at expressions slots)) (ts : List Lexeme) (d : Spells language m (fill Tree (slots_at expressions slots) w) ts) →
    height language d < k → (v : Values Tree (slots_at raw slots)) × TwinValues n slots v w × Spells language n (fill Tree (slots_at raw slots) v) ts
slots_strip k ih m n c [] w ts d h = (tt, tt, wider language d c)
slots_strip k ih m n c (mark kind ∷ slots) w ts d h = let o = token-out language (no_plain language) d in let l = o.5 in
    let r = slots_strip k ih m n c slots w o.1 o.4 (omega (arith, h, l)) in (r.0, r.1, subst (λ z. Spells language n (fill Tree (slots_at raw (mark kind ∷ slots)) r.0) z) (sym o.2) (token o.3 r.2))
slots_strip k ih m n c (word kind u ∷ slots) w ts d h = let o = token-out language (no_spelled language) d in let l = o.5 in
    let r = slots_strip k ih m n c slots w o.1 o.4 (omega (arith, h, l)) in (r.0, r.1, subst (λ z. Spells language n (fill Tree (slots_at raw (word kind u ∷ slots)) r.0) z) (sym o.2) (token o.3 r.2))
slots_strip k ih m n c (name kind ok ∷ slots) w ts d h = let o = token-out language (no_named language) d in let l = o.5 in
    let r = slots_strip k ih m n c slots w.1 o.1 o.4 (omega (arith, h, l)) in
    ((w.0, r.0), (refl, r.1), subst (λ z. Spells language n (fill Tree (slots_at raw (name kind ok ∷ slots)) (w.0, r.0)) z) (sym o.2) (token o.3 r.2))
slots_strip k ih m n c (number ∷ slots) w ts d h = let o = token-out language (no_counted language) d in let l = o.5 in
    let r = slots_strip k ih m n c slots w.1 o.1 o.4 (omega (arith, h, l)) in
    ((w.0, r.0), (refl, r.1), subst (λ z. Spells language n (fill Tree (slots_at raw (number ∷ slots)) (w.0, r.0)) z) (sym o.2) (token o.3 r.2))
slots_strip k ih m n c (among ks ∷ slots) w ts d h = let o = token-out language (no_token_of language) d in let l = o.5 in
    let r = slots_strip k ih m n c slots w.1 o.1 o.4 (omega (arith, h, l)) in
    ((w.0, r.0), (refl, r.1), subst (λ z. Spells language n (fill Tree (slots_at raw (among ks ∷ slots)) (w.0, r.0)) z) (sym o.2) (token o.3 r.2))
slots_strip k ih m n c (one i ∷ slots) w ts d h = let o = part-out language d in let l = o.4 in let l' = o.6 in
    let a = ih i m n c w.0 o.0 o.3 (omega (arith, h, l)) in
    let r = slots_strip k ih m n c slots w.1 o.1 o.5 (omega (arith, h, l')) in
    ((a.0, r.0), (a.1, r.1), subst (λ z. Spells language n (fill Tree (slots_at raw (one i ∷ slots)) (a.0, r.0)) z) (sym o.2) (append language a.2 r.2))

rules_strip : (k : ℕ) → StripBelow k → (i : Twin) (rs : List (Rule Tree (Tree (at raw i)))) (us : List (Rule Tree (Tree (at expressions i)))) → AllTwin i rs us → (m n : ℕ) → m ≤ n →
    (y : Tree (at expressions i)) (q : List (Sym Tree)) (ts : List Lexeme) → AnyOf (Builds language (at expressions i) y q ts) us → (d : Spells language m q ts) → height language d < k →
    (a : Tree (at raw i)) × (p : List (Sym Tree)) × AnyOf (Builds language (at raw i) a p ts) rs × TwinTrees (above i n) i a y × Spells language n p ts
rules_strip k ih i [] [] t m n c y q ts b d h = absurd b
rules_strip k ih i [] (u ∷ us) t m n c y q ts b d h = elim t [ ]
rules_strip k ih i (r ∷ rs) [] t m n c y q ts b d h = elim t [ ]
rules_strip k ih i (r ∷ rs) (u ∷ us) t m n c y q ts (inr b) d h =
    let o = rules_strip k ih i rs us t.1 m n c y q ts b d h in (o.0, o.1, inr o.2, o.3, o.4)
rules_strip k ih i (r ∷ rs) (u ∷ us) (twin slots {asks = asks} {allows = allows} {permits = permits} {build = build} {make = make} e g al bu kn, rest) m n c y q ts (inl b) d h =
    one_rule (subst (λ z. Builds language (at expressions i) y q ts z) g b)
  where
    one_rule : Builds language (at expressions i) y q ts (record { slots = slots_at expressions slots; spanned = asks; allows = permits; build = make }) →
        (a : Tree (at raw i)) × (p : List (Sym Tree)) × AnyOf (Builds language (at raw i) a p ts) (r ∷ rs) × TwinTrees (above i n) i a y × Spells language n p ts
    one_rule (w, span, is, permitted, by_, f) =
        let s = height-subst language f d in
        let o = slots_strip k ih m n c slots w ts (subst (λ z. Spells language m z ts) f d) (omega (arith, h, s)) in
        let whole : Builds language (at raw i) (build span o.0) (fill Tree (slots_at raw slots) o.0) ts (record { slots = slots_at raw slots; spanned = asks; allows = allows; build = build }) =
        (o.0, span, is, al n o.0 w o.1 ∙ permitted, refl, refl) in (
          build span o.0,
          fill Tree (slots_at raw slots) o.0,
          inl (subst (λ z. Builds language (at raw i) (build span o.0) (fill Tree (slots_at raw slots) o.0) ts z) (sym e) whole),
          subst (λ z. TwinTrees (above i n) i (build span o.0) z) (sym by_) (bu n span o.0 w o.1),
          o.2,
        )

strip_below : (k : ℕ) → StripBelow k
strip_below zero i m n c y ts d h = absurd (omega (arith, h))
strip_below (suc k) (sql p) m n c y ts d h =
    let o = produced-out language d in let l = o.7 in let f = o.5 in
    let j : ℕ = n - sql_cost p in
    let e : sql_above p j ≡ n = sql_above_is p j ∙ (let z : sql_cost p + (n - sql_cost p) ≡ n = omega (arith, c, f) in z) in
    let r = rules_strip k (strip_below k) (sql p) (sql_rules raw p) (sql_rules expressions p) (sql_twins p) o.0 j (let z : o.0 ≤ n - sql_cost p = omega (arith, c, f) in z) y o.1 o.2 o.4 o.6 (omega (arith, h, l)) in
    let whole = by language {n = n} {below = j} r.2 (let z : sql_cost p + (n - sql_cost p) ≤ n = omega (arith, c, f) in z) r.4 in
    (r.0, subst (λ z. TwinTrees z (sql p) r.0 y) e r.3, subst (λ z. Spells language n (part (of_sql raw p) r.0 ∷ []) z) (sym o.3) whole)
strip_below (suc k) (xml p) m n c y ts d h =
    let o = produced-out language d in let l = o.7 in let f = o.5 in
    let j : ℕ = n - xml_cost p in
    let e : xml_above p j ≡ n = xml_above_is p j ∙ (let z : xml_cost p + (n - xml_cost p) ≡ n = omega (arith, c, f) in z) in
    let r = rules_strip k (strip_below k) (xml p) (xml_rules raw p) (xml_rules expressions p) (xml_twins p) o.0 j (let z : o.0 ≤ n - xml_cost p = omega (arith, c, f) in z) y o.1 o.2 o.4 o.6 (omega (arith, h, l)) in
    let whole = by language {n = n} {below = j} r.2 (let z : xml_cost p + (n - xml_cost p) ≤ n = omega (arith, c, f) in z) r.4 in
    (r.0, subst (λ z. TwinTrees z (xml p) r.0 y) e r.3, subst (λ z. Spells language n (part (of_xml raw p) r.0 ∷ []) z) (sym o.3) whole)
strip_below (suc k) code m n c y ts d h =
    (record { tokens = ts; nesting = 0 }, record { within = m; fits = omega (arith, c); spells = d }, is_raw n m y ts d)

-- the skeleton of a tree
pub strip : (i : Twin) (n : ℕ) (y : Tree (at expressions i)) (ts : List Lexeme) → Spells language n (part (at expressions i) y ∷ []) ts → Stripped n i y ts
strip i n y ts d = strip_below (height language d + 1) i n n (omega arith) y ts d (omega arith)
