-- Where a skeleton is spelled and each of its raw code is known, it is filled in, or more are open than there may be.
use Rattle.std.specs.Prelude.{◌≡◌, ◌⊎◌, ℕ, zero, suc, Bool, true, ◌+◌, ◌-◌, ◌<◌, ◌≤◌, List, [], ◌∷◌, ◌++◌, refl}
use Rattle.std.proofs.Common.{arith, append_assoc, sym, inl, inr, ap, subst, ◌∙◌}
use Rattle.ur_lex.specs.declared.token.Lexeme.{Lexeme}
use Rattle.ur_parse_rules.specs.Rules.{Slot, mark, word, name, number, among, one, Values, Rule, Sym, part, filled as fill, AnyOf, Builds, Spells, end, token, here, past, within}
use Rattle.ur_parse_rules.proofs.Inversions.{height, height-subst, nothing-out, token-out, no_plain, no_spelled, no_named, no_counted, no_token_of, part-out, produced-out, wider, append, by, open_longer}
use Rattle.ur_parse_rules.specs.Quoted.{expressions, raw, Raw}
use Rattle.ur_parse_rules.specs.Parts.{Part, Tree, of_quote}
use Rattle.ur_parse_rules.specs.Statements.{sql_rules, sql_cost}
use Rattle.ur_parse_rules.specs.Markup.{xml_rules, xml_cost}
use Rattle.ur_parse_rules.specs.Language.{language, rules}
use Rattle.ur_parse_rules.proofs.RawCode.{raw_is}
use Rattle.ur_parse_embed_code.specs.Filled.{OpensBeyond, Known, filled, deep}
use Rattle.ur_parse_embed_code.proofs.Twins.{Twin, sql, xml, code, at, above, sql_above, xml_above, slots_at, TwinTrees, TreeKnown, TwinValues, KnownValues, twin, AllTwin}
use Rattle.ur_parse_embed_code.proofs.SqlTwins.{sql_twins}
use Rattle.ur_parse_embed_code.proofs.XmlTwins.{xml_twins}
use Rattle.ur_parse_embed_code.proofs.Stripped.{sql_above_is, xml_above_is}

pub within_or_over : (a n : ℕ) → (a ≤ n) ⊎ (n < a)
within_or_over zero n = inl (omega arith)
within_or_over (suc a) zero = inr (omega arith)
within_or_over (suc a) (suc n) = elim (within_or_over a n) [ inl h ↦ inl (omega (arith, h)) | inr h ↦ inr (omega (arith, h)) ]

-- ---- what is open goes on

open_token : (n : ℕ) (s : Slot Part) (slots : List (Slot Part)) (v : Values Tree (s ∷ [])) (m : ℕ) (inner ts whole : List Lexeme) → whole ≡ inner ++ ts → Spells language m (fill Tree (s ∷ []) v) inner → OpensBeyond n slots ts → OpensBeyond n (s ∷ slots) whole
open_token n s slots v m inner ts whole e d o =
    record { taken = inner ++ o.taken; rest = o.rest; split = e ∙ ap (λ z. inner ++ z) o.split ∙ sym (append_assoc inner o.taken o.rest); count = o.count; opens = past v d o.opens; over = o.over }

open_first : (n : ℕ) (p : Part) (slots : List (Slot Part)) (inner ts whole : List Lexeme) → whole ≡ inner ++ ts → OpensBeyond n (one p ∷ []) inner → OpensBeyond n (one p ∷ slots) whole
open_first n p slots inner ts whole e o =
    record { taken = o.taken; rest = o.rest ++ ts; split = e ∙ ap (λ z. z ++ ts) o.split ∙ append_assoc o.taken o.rest ts; count = o.count; opens = open_longer language o.opens; over = o.over }

module _ (may : Bool) where
  -- filled in, or open too deep where that may be
  abbrev Completed : (n : ℕ) (i : Twin) → Tree (at raw i) → List Lexeme → Type 0
  Completed n i a ts = ((y : Tree (at expressions i)) × TwinTrees n i a y × Spells language n (part (at expressions i) y ∷ []) ts) ⊎ ((may ≡ true) × OpensBeyond n (one (at expressions i) ∷ []) ts)

  abbrev CompleteBelow : ℕ → Type 0
  CompleteBelow k = (i : Twin) (m n : ℕ) → (n < m → may ≡ true) → (a : Tree (at raw i)) (ts : List Lexeme) (d : Spells language m (part (at raw i) a ∷ []) ts) → height language d < k → TreeKnown may n i a → Completed n i a ts

  abbrev CompletedSlots : (n : ℕ) (slots : List (Slot Twin)) → Values Tree (slots_at raw slots) → List Lexeme → Type 0
  CompletedSlots n slots v ts = ((w : Values Tree (slots_at expressions slots)) × TwinValues n slots v w × Spells language n (fill Tree (slots_at expressions slots) w) ts) ⊎ ((may ≡ true) × OpensBeyond n (slots_at expressions slots) ts)

  slots_complete : (k : ℕ) → CompleteBelow k → (m n : ℕ) → (n < m → may ≡ true) → (slots : List (Slot Twin)) (v : Values Tree (slots_at raw slots)) (ts : List Lexeme) (d : Spells language m (fill Tree (slots_at raw slots) v) ts) →
      height language d < k → KnownValues may n slots v → CompletedSlots n slots v ts
  slots_complete k ih m n c [] v ts d h g = inl (tt, tt, (let z : ts ≡ [] = nothing-out language d in subst (λ y. Spells language n [] y) (sym z) end))
  slots_complete k ih m n c (mark kind ∷ slots) v ts d h g = let o = token-out language (no_plain language) d in let l = o.5 in
      elim (slots_complete k ih m n c slots v o.1 o.4 (omega (arith, h, l)) g) [
        | inl r ↦ inl (r.0, r.1, subst (λ z. Spells language n (fill Tree (slots_at expressions (mark kind ∷ slots)) r.0) z) (sym o.2) (token o.3 r.2))
        | inr r ↦ inr (r.0, open_token n (mark kind) (slots_at expressions slots) tt n (o.0 ∷ []) o.1 ts o.2 (token o.3 end) r.1)
      ]
  slots_complete k ih m n c (word kind u ∷ slots) v ts d h g = let o = token-out language (no_spelled language) d in let l = o.5 in
      elim (slots_complete k ih m n c slots v o.1 o.4 (omega (arith, h, l)) g) [
        | inl r ↦ inl (r.0, r.1, subst (λ z. Spells language n (fill Tree (slots_at expressions (word kind u ∷ slots)) r.0) z) (sym o.2) (token o.3 r.2))
        | inr r ↦ inr (r.0, open_token n (word kind u) (slots_at expressions slots) tt n (o.0 ∷ []) o.1 ts o.2 (token o.3 end) r.1)
      ]
  slots_complete k ih m n c (name kind ok ∷ slots) v ts d h g = let o = token-out language (no_named language) d in let l = o.5 in
      elim (slots_complete k ih m n c slots v.1 o.1 o.4 (omega (arith, h, l)) g) [
        | inl r ↦ inl ((v.0, r.0), (refl, r.1), subst (λ z. Spells language n (fill Tree (slots_at expressions (name kind ok ∷ slots)) (v.0, r.0)) z) (sym o.2) (token o.3 r.2))
        | inr r ↦ inr (r.0, open_token n (name kind ok) (slots_at expressions slots) (v.0, tt) n (o.0 ∷ []) o.1 ts o.2 (token o.3 end) r.1)
      ]
  slots_complete k ih m n c (number ∷ slots) v ts d h g = let o = token-out language (no_counted language) d in let l = o.5 in
      elim (slots_complete k ih m n c slots v.1 o.1 o.4 (omega (arith, h, l)) g) [
        | inl r ↦ inl ((v.0, r.0), (refl, r.1), subst (λ z. Spells language n (fill Tree (slots_at expressions (number ∷ slots)) (v.0, r.0)) z) (sym o.2) (token o.3 r.2))
        | inr r ↦ inr (r.0, open_token n number (slots_at expressions slots) (v.0, tt) n (o.0 ∷ []) o.1 ts o.2 (token o.3 end) r.1)
      ]
  slots_complete k ih m n c (among ks ∷ slots) v ts d h g = let o = token-out language (no_token_of language) d in let l = o.5 in
      elim (slots_complete k ih m n c slots v.1 o.1 o.4 (omega (arith, h, l)) g) [
        | inl r ↦ inl ((v.0, r.0), (refl, r.1), subst (λ z. Spells language n (fill Tree (slots_at expressions (among ks ∷ slots)) (v.0, r.0)) z) (sym o.2) (token o.3 r.2))
        | inr r ↦ inr (r.0, open_token n (among ks) (slots_at expressions slots) (v.0, tt) n (o.0 ∷ []) o.1 ts o.2 (token o.3 end) r.1)
      ]
  slots_complete k ih m n c (one i ∷ slots) v ts d h g = let o = part-out language d in let l = o.4 in let l' = o.6 in
      elim (ih i m n c v.0 o.0 o.3 (omega (arith, h, l)) g.0) [
        | inr r ↦ inr (r.0, open_first n (at expressions i) (slots_at expressions slots) o.0 o.1 ts o.2 r.1)
        | inl a ↦ elim (slots_complete k ih m n c slots v.1 o.1 o.5 (omega (arith, h, l')) g.1) [
          | inl r ↦ inl ((a.0, r.0), (a.1, r.1), subst (λ z. Spells language n (fill Tree (slots_at expressions (one i ∷ slots)) (a.0, r.0)) z) (sym o.2) (append language a.2 r.2))
          | inr r ↦ inr (r.0, open_token n (one (at expressions i)) (slots_at expressions slots) (a.0, tt) n o.0 o.1 ts o.2 a.2 r.1)
        ]
      ]

  -- by a rule filled in, or open in it
  abbrev CompletedRule : (i : Twin) (n : ℕ) → List (Rule Tree (Tree (at expressions i))) → Tree (at raw i) → List Lexeme → Type 0
  CompletedRule i n us a ts =
      ((y : Tree (at expressions i)) × (q : List (Sym Tree)) × AnyOf (Builds language (at expressions i) y q ts) us × TwinTrees (above i n) i a y × Spells language n q ts)
      ⊎ ((may ≡ true) × (slots : List (Slot Part)) × AnyOf (λ (r : Rule Tree (Tree (at expressions i))). r.slots ≡ slots) us × OpensBeyond n slots ts)

  rules_complete : (k : ℕ) → CompleteBelow k → (i : Twin) (rs : List (Rule Tree (Tree (at raw i)))) (us : List (Rule Tree (Tree (at expressions i)))) → AllTwin i rs us → (m n : ℕ) → (n < m → may ≡ true) →
      (a : Tree (at raw i)) (q : List (Sym Tree)) (ts : List Lexeme) → AnyOf (Builds language (at raw i) a q ts) rs → (d : Spells language m q ts) → height language d < k → TreeKnown may (above i n) i a → CompletedRule i n us a ts
  rules_complete k ih i [] us t m n c a q ts b d h g = absurd b
  rules_complete k ih i (r ∷ rs) [] t m n c a q ts b d h g = elim t [ ]
  rules_complete k ih i (r ∷ rs) (u ∷ us) t m n c a q ts (inr b) d h g =
      elim (rules_complete k ih i rs us t.1 m n c a q ts b d h g) [
        | inl o ↦ inl (o.0, o.1, inr o.2, o.3, o.4)
        | inr o ↦ inr (o.0, o.1, inr o.2, o.3)
      ]
  rules_complete k ih i (r ∷ rs) (u ∷ us) (twin slots {asks = asks} {allows = allows} {permits = permits} {build = build} {make = make} e f al bu kn, rest) m n c a q ts (inl b) d h g =
      one_rule (subst (λ z. Builds language (at raw i) a q ts z) e b)
    where
      one_rule : Builds language (at raw i) a q ts (record { slots = slots_at raw slots; spanned = asks; allows = allows; build = build }) → CompletedRule i n (u ∷ us) a ts
      one_rule (v, span, is, allowed, by_, p) =
          let s = height-subst language p d in
          let known : KnownValues may n slots v = kn may n span v (subst (λ z. TreeKnown may (above i n) i z) by_ g) in
          elim (slots_complete k ih m n c slots v ts (subst (λ z. Spells language m z ts) p d) (omega (arith, h, s)) known) [
            | inl o ↦ (let whole : Builds language (at expressions i) (make span o.0) (fill Tree (slots_at expressions slots) o.0) ts (record { slots = slots_at expressions slots; spanned = asks; allows = permits; build = make }) =
                (o.0, span, is, sym (al n v o.0 o.1) ∙ allowed, refl, refl) in
                inl (
                  make span o.0,
                  fill Tree (slots_at expressions slots) o.0,
                  inl (subst (λ z. Builds language (at expressions i) (make span o.0) (fill Tree (slots_at expressions slots) o.0) ts z) (sym f) whole),
                  subst (λ z. TwinTrees (above i n) i z (make span o.0)) (sym by_) (bu n span v o.0 o.1),
                  o.2,
                ))
            | inr o ↦ inr (o.0, slots_at expressions slots, inl (ap (λ (z : Rule Tree (Tree (at expressions i))). z.slots) f), o.1)
          ]

  -- the part around a rule
  around : (i : Twin) (n j : ℕ) (cost : ℕ) → cost ≡ language.cost (at expressions i) → cost + j ≡ n → above i j ≡ n → (a : Tree (at raw i)) (ts : List Lexeme) → CompletedRule i j (rules (at expressions i)) a ts → Completed n i a ts
  around i n j cost e f g a ts (inl o) =
      inl (o.0, subst (λ z. TwinTrees z i a o.0) g o.3, by language {n = n} {below = j} o.2 (omega (arith, e, f)) o.4)
  around i n j cost e f g a ts (inr o) = let v = o.3.over in
      inr (o.0, record { taken = o.3.taken; rest = o.3.rest; split = o.3.split; count = language.cost (at expressions i) + o.3.count; opens = within o.2 o.3.opens; over = omega (arith, v, e, f) })

  -- the part itself is one too many
  too_many : (i : Twin) (n m below cost : ℕ) → (n < m → may ≡ true) → cost ≡ language.cost (at expressions i) → cost + below ≤ m → n < cost → (a : Tree (at raw i)) (ts : List Lexeme) → Completed n i a ts
  too_many i n m below cost c e f g a ts = inr (c (omega (arith, f, g)), record { taken = []; rest = ts; split = refl; count = language.cost (at expressions i); opens = here; over = omega (arith, e, g) })

  raw_unnested : (m : ℕ) (a : Raw) (ts : List Lexeme) (q : List (Sym Tree)) → AnyOf (Builds language (of_quote raw) a q ts) (rules (of_quote raw)) → a.nesting ≡ 0
  raw_unnested m a ts q (inl (v, span, is, al, b, f)) = ap (λ (z : Raw). z.nesting) b
  raw_unnested m a ts q (inr c) = absurd c

  code_complete : (n : ℕ) (a : Raw) (ts : List Lexeme) → a.tokens ≡ ts → a.nesting ≡ 0 → Known may n a → Completed n code a ts
  code_complete n a ts e z (filled x f) = let l = f.fits in inl (x, f, subst (λ y. Spells language n (part (of_quote expressions) x ∷ []) y) e (wider language f.spells (omega (arith, l))))
  code_complete n a ts e z (deep m y l o) = let v = o.over in
      inr (y, record { taken = o.taken; rest = o.rest; split = sym e ∙ o.split; count = o.count; opens = o.opens; over = omega (arith, v, l, z) })

  complete_below : (k : ℕ) → CompleteBelow k
  complete_below zero i m n c a ts d h g = absurd (omega (arith, h))
  complete_below (suc k) (sql p) m n c a ts d h g =
      let o = produced-out language d in let l = o.7 in let f = o.5 in
      elim (within_or_over (sql_cost p) n) [
        | inr y ↦ too_many (sql p) n m o.0 (sql_cost p) c refl f y a ts
        | inl y ↦ (
            let j : ℕ = n - sql_cost p in
            let w : sql_cost p + j ≡ n = (let z : sql_cost p + (n - sql_cost p) ≡ n = omega (arith, y) in z) in
            let e : sql_above p j ≡ n = sql_above_is p j ∙ w in
            let r = rules_complete k (complete_below k) (sql p) (sql_rules raw p) (sql_rules expressions p) (sql_twins p) o.0 j (λ q. c (omega (arith, q, f, w))) a o.1 o.2 o.4 o.6 (omega (arith, h, l)) (subst (λ z. TreeKnown may z (sql p) a) (sym e) g) in
            subst (Completed n (sql p) a) (sym o.3) (around (sql p) n j (sql_cost p) refl w e a o.2 r))
      ]
  complete_below (suc k) (xml p) m n c a ts d h g =
      let o = produced-out language d in let l = o.7 in let f = o.5 in
      elim (within_or_over (xml_cost p) n) [
        | inr y ↦ too_many (xml p) n m o.0 (xml_cost p) c refl f y a ts
        | inl y ↦ (
            let j : ℕ = n - xml_cost p in
            let w : xml_cost p + j ≡ n = (let z : xml_cost p + (n - xml_cost p) ≡ n = omega (arith, y) in z) in
            let e : xml_above p j ≡ n = xml_above_is p j ∙ w in
            let r = rules_complete k (complete_below k) (xml p) (xml_rules raw p) (xml_rules expressions p) (xml_twins p) o.0 j (λ q. c (omega (arith, q, f, w))) a o.1 o.2 o.4 o.6 (omega (arith, h, l)) (subst (λ z. TreeKnown may z (xml p) a) (sym e) g) in
            subst (Completed n (xml p) a) (sym o.3) (around (xml p) n j (xml_cost p) refl w e a o.2 r))
      ]
  complete_below (suc k) code m n c a ts d h g =
      let o = produced-out language d in
      code_complete n a ts (raw_is m a ts d).0 (raw_unnested m a o.2 o.1 o.4) g

  pub complete : (i : Twin) (m n : ℕ) → (n < m → may ≡ true) → (a : Tree (at raw i)) (ts : List Lexeme) → Spells language m (part (at raw i) a ∷ []) ts → TreeKnown may n i a → Completed n i a ts
  complete i m n c a ts d g = complete_below (height language d + 1) i m n c a ts d (omega arith) g
