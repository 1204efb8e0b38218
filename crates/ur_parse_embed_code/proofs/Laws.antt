-- The laws of skeletons.
use Rattle.std.specs.Prelude.{◌≡◌, ◌⊎◌, ℕ, zero, suc, Bool, true, false, ◌<◌, List, [], ◌∷◌, length, slice_index_or, refl}
use Rattle.std.specs.List.{AllZip, AllByRecursion}
use Rattle.std.proofs.Common.{arith, sym, inl, inr, ap, subst, ◌∙◌}
use Rattle.ur_lex.specs.declared.token.Lexeme.{Lexeme}
use Rattle.ur_syntax.specs.declared.exp.Exp.{Exp}
use Rattle.ur_parse_rules.specs.Rules.{one}
use Rattle.ur_parse_rules.specs.Quoted.{expressions, raw, Raw, Quoted}
use Rattle.ur_parse_rules.specs.SqlParts as s
use Rattle.ur_parse_rules.specs.XmlParts as x
use Rattle.ur_parse_rules.specs.Parts.{Part, of_quote, of_sql, of_xml}
use Rattle.ur_parse_rules.proofs.AllDecided.{one_of}
use Rattle.ur_parse_rules.proofs.Tests.{false_true}
use Rattle.ur_parse_embed_code.specs.Filled.{Filled, Fills, OpensBeyond, Known, filled, AllKnown}
use Rattle.ur_parse_embed_code.specs.Laws.{Spelled, HasSkeleton, IsFilled, IsFilledOrOpen, NeedsCode, literal, query, change}
use Rattle.ur_parse_embed_code.proofs.Twins.{sql, xml}
use Rattle.ur_parse_embed_code.proofs.Stripped.{strip}
use Rattle.ur_parse_embed_code.proofs.Completed.{complete}

-- raw code is filled once
once : (m n : ℕ) (cs : List Raw) (as_ bs : List Exp) → AllZip (Filled m) cs as_ → AllZip (Filled n) cs bs → as_ ≡ bs
once m n [] [] [] h k = refl
once m n [] [] (b ∷ bs) h k = elim k [ ]
once m n [] (a ∷ as_) bs h k = elim h [ ]
once m n (c ∷ cs) [] bs h k = elim h [ ]
once m n (c ∷ cs) (a ∷ as_) [] h k = elim k [ ]
once m n (c ∷ cs) (a ∷ as_) (b ∷ bs) h k =
    ap (λ z. z ∷ as_) (one_of (of_quote expressions) h.0.within k.0.within a b c.tokens h.0.spells k.0.spells) ∙ ap (λ z. b ∷ z) (once m n cs as_ bs h.1 k.1)

fills_once : {A : Type 0} (m n : ℕ) (a : Quoted Raw A) (b c : Quoted Exp A) → Fills m a b → Fills n a c → b ≡ c
fills_once m n a b c h k =
    ap (λ z. record { exps = z; attributes = b.attributes; at = b.at }) (once m n a.exps b.exps c.exps h.exps k.exps)
    ∙ ap (λ z. record { exps = c.exps; attributes = z; at = b.at }) (once m n a.attributes b.attributes c.attributes h.attributes k.attributes)
    ∙ ap (λ z. record { exps = c.exps; attributes = c.attributes; at = z }) (sym h.same ∙ k.same)

all_filled : (n : ℕ) (cs : List Raw) (as_ : List Exp) → AllZip (Filled n) cs as_ → AllByRecursion (Known false n) cs
all_filled n [] [] h = tt
all_filled n [] (a ∷ as_) h = elim h [ ]
all_filled n (c ∷ cs) [] h = elim h [ ]
all_filled n (c ∷ cs) (a ∷ as_) h = (filled a h.0, all_filled n cs as_ h.1)

-- the code that fills raw code of a list
filling : (n : ℕ) (cs : List Raw) (as_ : List Exp) → AllZip (Filled n) cs as_ → (c : Raw) (k : ℕ) → k < length cs → slice_index_or cs k c ≡ c → (a : Exp) × Filled n c a
filling n [] [] h c k l e = absurd (omega (arith, l))
filling n [] (a ∷ as_) h c k l e = elim h [ ]
filling n (d ∷ cs) [] h c k l e = elim h [ ]
filling n (d ∷ cs) (a ∷ as_) h c zero l e = (a, subst (λ z. Filled n z a) e h.0)
filling n (d ∷ cs) (a ∷ as_) h c (suc k) l e = filling n cs as_ h.1 c k (omega (arith, l)) e

module _ {A : Type 0} (p : Part) (skeleton : Spelled (Quoted Raw A)) (spelled : Spelled (Quoted Exp A)) where
  abbrev pub Completes : Type 0
  Completes = (may : Bool) (m n : ℕ) → (n < m → may ≡ true) → (a : Quoted Raw A) (ts : List Lexeme) → skeleton m a ts → AllKnown may n a →
      ((b : Quoted Exp A) × Fills n a b × spelled n b ts) ⊎ ((may ≡ true) × OpensBeyond n (one p ∷ []) ts)

  pub is_filled : Completes → IsFilled skeleton spelled
  is_filled c m n a b ts d l h =
      elim (c false m n (λ z. absurd (omega (arith, l, z))) a ts d (all_filled n a.exps b.exps h.exps, all_filled n a.attributes b.attributes h.attributes)) [
        | inl o ↦ subst (λ z. spelled n z ts) (fills_once n n a o.0 b o.1 h) o.2
        | inr o ↦ false_true o.0
      ]

  pub is_filled_or_open : Completes → IsFilledOrOpen p skeleton spelled
  is_filled_or_open c m n a ts d k = elim (c true m n (λ z. refl) a ts d k) [ inl o ↦ inl o | inr o ↦ inr o.1 ]

  pub needs_code : HasSkeleton skeleton spelled → ((m n : ℕ) (a b : Quoted Raw A) (ts : List Lexeme) → skeleton m a ts → skeleton n b ts → a ≡ b) → NeedsCode skeleton spelled
  needs_code has same m n a b ts c d i none e =
      let o = has n b ts e in let z : o.0 ≡ a = same n m o.0 a ts o.1 d in
      let h : Fills n a b = subst (λ y. Fills n y b) z o.2 in
      elim i [
        | inl k ↦ (let f = filling n a.exps b.exps h.exps c k.0 k.1 k.2 in none f.1.within f.0 f.1.spells)
        | inr k ↦ (let f = filling n a.attributes b.attributes h.attributes c k.0 k.1 k.2 in none f.1.within f.0 f.1.spells)
      ]

-- ---- literals, queries and changes

pub literal_read : HasSkeleton (literal raw) (literal expressions)
literal_read n b ts d = let o = strip (xml x.literal) n b ts d in (o.0, o.2, o.1)

pub literal_complete : Completes (of_xml expressions x.literal) (literal raw) (literal expressions)
literal_complete may m n c a ts d k = complete may (xml x.literal) m n c a ts d k

pub query_read : HasSkeleton (query raw) (query expressions)
query_read n b ts d = let o = strip (sql s.query) n b ts d in (o.0, o.2, o.1)

pub query_complete : Completes (of_sql expressions s.query) (query raw) (query expressions)
query_complete may m n c a ts d k = complete may (sql s.query) m n c a ts d k

pub change_read : HasSkeleton (change raw) (change expressions)
change_read n b ts d = let o = strip (sql s.change) n b ts d in (o.0, o.2, o.1)

pub change_complete : Completes (of_sql expressions s.change) (change raw) (change expressions)
change_complete may m n c a ts d k = complete may (sql s.change) m n c a ts d k
