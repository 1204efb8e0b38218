-- Code is read as expressions, range by range.
use Rattle.std.specs.Prelude.{◌≡◌, ◌+◌, ◌≤◌, ℕ, Bool, true, false, if◌then◌else◌, List, [], ◌∷◌, ◌++◌, drop, length, slice_range, refl}
use Rattle.std.specs.List.{AllZip, AllByRecursion}
use Rattle.std.proofs.Common.{sym, ◌∙◌, ap, subst, inl, inr, arith, append_assoc, length-drop}
use Rattle.std.proofs.lemmas.List.{append-nil}
use Rattle.ur_base.specs.declared.refusal.Refusal.{Refusal}
use Rattle.ur_base.specs.declared.refusal.Stop.{Stop}
use Rattle.ur_base.specs.declared.refusal.Stop.TheVariants as stop
use Rattle.ur_base.specs.Stopping.{Says}
use Rattle.ur_lex.specs.declared.token.Lexeme.{Lexeme}
use Rattle.ur_syntax.specs.declared.exp.Exp.{Exp}
use Rattle.ur_parse_rules.specs.Rules.{AnyOf, Read, Refused, Missing, TooDeep, Spells, part, one, no_span, syntax, nested}
use Rattle.ur_parse_rules.specs.Places.{Moves, OfRefusal}
use Rattle.ur_parse_rules.proofs.Once.{read_once}
use Rattle.ur_parse_rules.proofs.Steps.{nothing, an_one, one_read, one_refused, reads_by, refused_by}
use Rattle.ur_parse_rules.specs.Quoted.{expressions, raw, Raw}
use Rattle.ur_parse_rules.specs.ExpParts.{exp}
use Rattle.ur_parse_rules.specs.Parts.{of_exp, of_quote, Ended}
use Rattle.ur_parse_rules.specs.Language.{language}
use Rattle.ur_parse_rules.proofs.Choice.{choice}
use Rattle.ur_parse_rules.proofs.AllDecided.{decided}
use Rattle.ur_parse_rules.proofs.RawCode.{raw_is}
use Rattle.ur_parse_rules.proofs.Places.{may_not_end}
use Rattle.ur_parse_embed_code.specs.declared.quotes.Range.{Range}
use Rattle.ur_parse_embed_code.specs.Quotes.{raw_of}
use Rattle.ur_parse_embed_code.specs.Filled.{OpensBeyond}
use Rattle.ur_parse_embed_code.proofs.Fronts.{stays_within}
use Rattle.ur_parse_embed_code.proofs.Walks.{is_raw}
use Rattle.ur_parse_exp.specs.declared.code.Codes.{Codes}
use Rattle.ur_parse_exp.specs.Codes.{IsRaw, Sits, code_of, nest, IsExp, IsNone, IsDeep, IsKnown, fits, deep, AllExps, CodesRead, CodeRead, holds, nests, NoneRead, Told}

only_one : (b : Bool) → let z : ℕ = if b then 0 else 0 in z ≡ 0
only_one true = refl
only_one false = refl

single : (ts : List Lexeme) → choice (of_quote expressions) ts ≡ 0
single [] = refl
single (t ∷ ts) = only_one _

-- ---- one range

place_same : (tokens : List Lexeme) (j k : ℕ) → j ≤ length tokens → k ≤ length tokens → drop j tokens ≡ drop k tokens → k ≡ j
place_same tokens j k a b e = let x = length-drop j tokens in let y = length-drop k tokens in let z : length (drop j tokens) ≡ length (drop k tokens) = ap length e in omega (arith, a, b, x, y, z)

module _ {tokens : List Lexeme} {i j : ℕ} (w : IsRaw tokens i j) where
  whole : drop i tokens ≡ slice_range tokens i j ++ drop j tokens
  whole = let r = w.read 0 in r.split ∙ ap (λ z. z ++ drop j tokens) (sym (raw_is 0 (raw_of tokens i j) r.taken r.spells).0)

  -- an expression there ends where the code does
  ends_there : {n : ℕ} {rest : List Lexeme} {e : Exp} → Read language n (of_quote expressions) (drop i tokens) rest e → drop j tokens ≡ rest
  ends_there {n = n} {rest = rest} {e = e} h =
      let r : Read language 0 (of_quote raw) (drop i tokens) rest (record { tokens = h.taken; nesting = 0 }) = record { taken = h.taken; split = h.split; spells = is_raw 0 n e h.taken h.spells; stops = h.stops } in
      (read_once language choice decided (w.read 0) r).1

  pub quote_read : {n : ℕ} {x : Ended} → Read language n (of_exp exp) (drop i tokens) (drop j tokens) x → Read language n (of_quote expressions) (drop i tokens) (drop j tokens) x.exp
  quote_read {n = n} {x = x} h = let r = w.read 0 in reads_by 0 n (omega arith) (record { v = (x, tt); span = no_span; is_span = refl; allowed = refl; builds = refl; fills = an_one h nothing }) r.stops

  pub quote_refused : {n : ℕ} {r : Refusal} → Refused language n (of_exp exp) (drop i tokens) r → Refused language n (of_quote expressions) (drop i tokens) r
  quote_refused {n = n} h = refused_by decided 0 n (omega arith) (single (drop i tokens)) (one_refused h)

  -- one that ends elsewhere is not all of the code
  pub quote_goes_on : {n : ℕ} (k : ℕ) {x : Ended} {r : Refusal} → Moves tokens i k → (k ≡ j → ⊥) → Says r 5 [] [] → Read language n (of_exp exp) (drop i tokens) (drop k tokens) x → Refused language n (of_quote expressions) (drop i tokens) r
  quote_goes_on {n = n} k {x = x} m ne says h = refused_by decided 0 n (omega arith) (single (drop i tokens)) (one_read decided h (may_not_end says (λ p.
      let q : Read language n (of_quote expressions) (drop i tokens) (drop k tokens) x.exp = reads_by 0 n (omega arith) (record { v = (x, tt); span = no_span; is_span = refl; allowed = refl; builds = refl; fills = an_one h nothing }) p.stops in
      ne (place_same tokens j k w.moves.within m.within (ends_there q)))))

  pub spelled_there : {n : ℕ} {e : Exp} → Read language n (of_quote expressions) (drop i tokens) (drop j tokens) e → IsExp n (slice_range tokens i j) e
  spelled_there {n = n} {e = e} h =
      let r : Read language 0 (of_quote raw) (drop i tokens) (drop j tokens) (record { tokens = h.taken; nesting = 0 }) = record { taken = h.taken; split = h.split; spells = is_raw 0 n e h.taken h.spells; stops = h.stops } in
      let o = read_once language choice decided (w.read 0) r in
      subst (λ z. IsExp n z e) (sym (ap (λ (z : Raw). z.tokens) o.0)) h.spells

  read_there : {n : ℕ} {e : Exp} → IsExp n (slice_range tokens i j) e → Read language n (of_quote expressions) (drop i tokens) (drop j tokens) e
  read_there d = record { taken = slice_range tokens i j; split = whole; spells = d; stops = (w.read 0).stops }

  none_there : Missing language (of_quote expressions) (drop i tokens) → (n : ℕ) (e : Exp) → IsExp n (slice_range tokens i j) e → ⊥
  none_there m n e d = m.none n e (drop j tokens) (read_there d)

  deep_none : {n : ℕ} → TooDeep language n (of_quote expressions) (drop i tokens) → (e : Exp) → IsExp n (slice_range tokens i j) e → ⊥
  deep_none t e d = t.none e (drop j tokens) (read_there d)

  deep_opens : {n : ℕ} → TooDeep language n (of_quote expressions) (drop i tokens) → OpensBeyond n (one (of_quote expressions) ∷ []) (slice_range tokens i j)
  deep_opens {n = n} t = let r = w.read 0 in
      let s : Spells language 0 (part (of_quote raw) (raw_of tokens i j) ∷ []) (slice_range tokens i j) = subst (λ z. Spells language 0 (part (of_quote raw) (raw_of tokens i j) ∷ []) z) (sym (raw_is 0 (raw_of tokens i j) r.taken r.spells).0) r.spells in
      let o = stays_within 0 (n + 1) (raw_of tokens i j) (slice_range tokens i j) t.taken (drop j tokens) t.rest s r.stops t.deep (sym whole ∙ t.split) in
      record { taken = t.taken; rest = o.0; split = o.1; count = n + 1; opens = t.deep; over = omega arith }

module _ {tokens : List Lexeme} {from : ℕ} {r : Range} (s : Sits tokens from r) where
  -- what a refusal says of the code
  pub none_said : {n : ℕ} {q : Refusal} → Refused language n (of_quote expressions) (drop r.begin tokens) q → q.code ≡ 5 → Says q 5 [] [] × IsNone tokens r
  none_said (syntax says m) e = (says, record { none = none_there s.raw m })
  none_said {q = q} (nested says t) e = absurd (let z = says.0 in omega (arith, z, e))

  pub deep_said : {n less : ℕ} {q : Refusal} → n ≡ nest less r → Refused language n (of_quote expressions) (drop r.begin tokens) q → (q.code ≡ 5 → ⊥) → IsDeep tokens less r
  deep_said l (syntax says m) f = absurd (f says.0)
  deep_said l (nested says t) f = let u = rw l at t in record { none = deep_none s.raw u; opens = deep_opens s.raw u }

  pub told_none : (n : ℕ) (e : Stop) (q : Refusal) → OfRefusal e (λ y. Refused language n (of_quote expressions) (drop r.begin tokens) y) → Told e (λ y. (q ≡ y) × (y.code ≡ 5)) → Says q 5 [] [] × IsNone tokens r
  told_none n (stop.Refused y) q h f = let z = f.0 in rw z (none_said h f.1)
  told_none n stop.Memory q h f = absurd f

  pub told_deep : {less : ℕ} (n : ℕ) (e : Stop) → n ≡ nest less r → OfRefusal e (λ y. Refused language n (of_quote expressions) (drop r.begin tokens) y) → Told e (λ y. y.code ≡ 5 → ⊥) → IsDeep tokens less r
  told_deep n (stop.Refused y) l h f = deep_said l h f
  told_deep n stop.Memory l h f = absurd f

-- ---- one range behind others

zip_more : {A B : Type 0} (P : A → B → Type 0) (xs : List A) (ys : List B) (x : A) (y : B) → AllZip P xs ys → P x y → AllZip P (xs ++ x ∷ []) (ys ++ y ∷ [])
zip_more P [] [] x y h p = (p, tt)
zip_more P [] (b ∷ ys) x y h p = elim h [ ]
zip_more P (a ∷ xs) [] x y h p = elim h [ ]
zip_more P (a ∷ xs) (b ∷ ys) x y h p = (h.0, zip_more P xs ys x y h.1 p)

all_more : {A : Type 0} (P : A → Type 0) (xs : List A) (x : A) → AllByRecursion P xs → P x → AllByRecursion P (xs ++ x ∷ [])
all_more P [] x h p = (p, tt)
all_more P (a ∷ xs) x h p = (h.0, all_more P xs x h.1 p)

any_before : {A : Type 0} (P : A → Type 0) (xs ys : List A) → AnyOf P xs → AnyOf P (xs ++ ys)
any_before P [] ys h = absurd h
any_before P (a ∷ xs) ys (inl h) = inl h
any_before P (a ∷ xs) ys (inr h) = inr (any_before P xs ys h)

any_behind : {A : Type 0} (P : A → Type 0) (xs ys : List A) → AnyOf P ys → AnyOf P (xs ++ ys)
any_behind P [] ys h = h
any_behind P (a ∷ xs) ys h = inr (any_behind P xs ys h)

no_codes : (tokens : List Lexeme) (less : ℕ) (c : Codes) → c.deep ≡ false → c.exps.tree ≡ [] → CodesRead tokens less [] c
no_codes tokens less c d e = record { exps = λ z. rw e tt; known = tt; deep = λ z. absurd (let y : true ≡ false = sym z ∙ d in cc) }

one_more : (tokens : List Lexeme) (less : ℕ) (rs : List Range) (r : Range) (b c : Codes) → CodesRead tokens less rs b → CodeRead tokens less r b c → CodesRead tokens less (rs ++ r ∷ []) c
one_more tokens less rs r b c h (holds e d same is) = record {
  exps = λ z. subst (λ y. AllExps tokens less (rs ++ r ∷ []) y) (sym is) (zip_more (λ r e. IsExp (nest less r) (code_of tokens r) e) rs b.exps.tree r e (h.exps (sym same ∙ z)) d);
  known = all_more (IsKnown tokens less) rs r h.known (fits e d);
  deep = λ z. any_before (IsDeep tokens less) rs (r ∷ []) (h.deep (sym same ∙ z));
}
one_more tokens less rs r b c h (nests d is) = record {
  exps = λ z. absurd (let y : true ≡ false = sym is ∙ z in cc);
  known = all_more (IsKnown tokens less) rs r h.known (deep d);
  deep = λ z. any_behind (IsDeep tokens less) rs (r ∷ []) (inl d);
}

-- ---- the loop

-- what is read so far of all ranges, of which some are left
pub record Reading (tokens : List Lexeme) (less : ℕ) (all left : List Range) (c : Codes) : Type 0 where
  pub done : List Range
  pub split : all ≡ done ++ left
  pub read : CodesRead tokens less done c

module _ {tokens : List Lexeme} {less : ℕ} {all : List Range} where
  pub reading_first : (c : Codes) → c.deep ≡ false → c.exps.tree ≡ [] → Reading tokens less all all c
  reading_first c d e = record { done = []; split = refl; read = no_codes tokens less c d e }

  module _ {left rest : List Range} {r : Range} {c : Codes} (k : Reading tokens less all left c) (e : left ≡ r ∷ rest) where
    pub reading_more : {d : Codes} → CodeRead tokens less r c d → Reading tokens less all rest d
    reading_more {d = d} h = record {
      done = k.done ++ r ∷ [];
      split = k.split ∙ ap (λ z. k.done ++ z) e ∙ sym (append_assoc k.done (r ∷ []) rest);
      read = one_more tokens less k.done r c d k.read h;
    }

    pub reading_none : (q : Refusal) → Says q 5 [] [] × IsNone tokens r → NoneRead tokens all q
    reading_none q h = (h.0, subst (AnyOf (IsNone tokens)) (sym (k.split ∙ ap (λ z. k.done ++ z) e)) (any_behind (IsNone tokens) k.done (r ∷ rest) (inl h.1)))

  pub reading_done : {left : List Range} {c : Codes} → Reading tokens less all left c → left ≡ [] → CodesRead tokens less all c
  reading_done {c = c} k e = subst (λ z. CodesRead tokens less z c) (sym (k.split ∙ ap (λ z. k.done ++ z) e ∙ append-nil k.done)) k.read
