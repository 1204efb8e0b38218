-- Code that is put behind other code, and numbered.
use Rattle.std.specs.Prelude.{◌≡◌, ◌+◌, ◌-◌, ℕ, List, [], ◌∷◌, ◌++◌, length, map, refl}
use Rattle.std.proofs.Common.{sym, ◌∙◌, ap, arith, append_assoc, length-append}
use Rattle.std.proofs.lemmas.List.{append-nil, map-append, length-map}
use Rattle.ur_lex.specs.declared.token.Lexeme.{Lexeme}
use Rattle.ur_parse_rules.specs.Quoted.{Quoted, Raw, raw, raised, plain, antiquote, attribute, mapped, both, deeper}
use Rattle.ur_parse_embed_code.specs.declared.quotes.Range.{Range}
use Rattle.ur_parse_embed_code.specs.declared.quotes.Quotes.{Quotes}
use Rattle.ur_parse_embed_code.specs.Quotes.{Held, held, all_held, within, Numbered, raw_of}

-- ---- one more

held_is : (tokens : List Lexeme) (depth i j : ℕ) (r : Range) → r.begin ≡ i → r.end ≡ j → r.depth ≡ depth → held tokens r ≡ within depth (raw_of tokens i j)
held_is tokens depth i j r e f g = let z : depth - 0 ≡ depth = omega arith in rw (e, f, g, z) refl

all_held-push : (tokens : List Lexeme) (depth i j : ℕ) (r : Range) (old : List Range) → r.begin ≡ i → r.end ≡ j → r.depth ≡ depth → all_held tokens (old ++ r ∷ []) ≡ all_held tokens old ++ within depth (raw_of tokens i j) ∷ []
all_held-push tokens depth i j r old e f g = map-append (held tokens) old (r ∷ []) ∙ ap (λ z. all_held tokens old ++ z ∷ []) (held_is tokens depth i j r e f g)

all_held-same : (tokens : List Lexeme) (old new : List Range) → new ≡ old → all_held tokens new ≡ all_held tokens old ++ []
all_held-same tokens old new e = ap (all_held tokens) e ∙ sym (append-nil (all_held tokens old))

module _ (tokens : List Lexeme) (depth i j : ℕ) (r : Range) (old new : Quotes) (number : ℕ) (e : r.begin ≡ i) (f : r.end ≡ j) (g : r.depth ≡ depth) where
  pub numbered_exp : number ≡ length old.exps → new.exps ≡ old.exps ++ r ∷ [] → new.attributes ≡ old.attributes → Numbered tokens depth old new (antiquote (raw_of tokens i j)) number
  numbered_exp n p q = record { exps = ap (all_held tokens) p ∙ all_held-push tokens depth i j r old.exps e f g; attributes = all_held-same tokens old.attributes new.attributes q; value = n }

  pub numbered_attribute : number ≡ length old.attributes → new.attributes ≡ old.attributes ++ r ∷ [] → new.exps ≡ old.exps → Numbered tokens depth old new (attribute (raw_of tokens i j)) number
  numbered_attribute n p q = record { attributes = ap (all_held tokens) p ∙ all_held-push tokens depth i j r old.attributes e f g; exps = all_held-same tokens old.exps new.exps q; value = n }

-- ---- put together

held_count : (tokens : List Lexeme) (depth : ℕ) (xs : List Raw) (before behind : List Range) → all_held tokens behind ≡ all_held tokens before ++ map (within depth) xs → length behind ≡ length before + length xs
held_count tokens depth xs before behind e = let l = length-map behind (held tokens) in let m = length-map before (held tokens) in let k = length-map xs (within depth) in
    let s : length (all_held tokens behind) ≡ length (all_held tokens before) + length (map (within depth) xs) = ap length e ∙ length-append (all_held tokens before) (map (within depth) xs) in omega (arith, l, m, k, s)

held_both : (tokens : List Lexeme) (depth : ℕ) (xs ys : List Raw) (one two three : List Range) → all_held tokens two ≡ all_held tokens one ++ map (within depth) xs → all_held tokens three ≡ all_held tokens two ++ map (within depth) ys →
    all_held tokens three ≡ all_held tokens one ++ map (within depth) (xs ++ ys)
held_both tokens depth xs ys one two three e f = f ∙ ap (λ z. z ++ map (within depth) ys) e ∙ append_assoc (all_held tokens one) (map (within depth) xs) (map (within depth) ys) ∙ ap (λ z. all_held tokens one ++ z) (sym (map-append (within depth) xs ys))

pub numbered_plain : {A : Type 0} (tokens : List Lexeme) (depth : ℕ) (q : Quotes) (a : A) → Numbered tokens depth q q (plain a) a
numbered_plain tokens depth q a = record { exps = all_held-same tokens q.exps q.exps refl; attributes = all_held-same tokens q.attributes q.attributes refl; value = refl }

module _ {A : Type 0} {tokens : List Lexeme} {depth : ℕ} {old new : Quotes} {x : Quoted Raw A} {a : A} where
  pub numbered_mapped : {B : Type 0} (f : A → B) → Numbered tokens depth old new x a → Numbered tokens depth old new (mapped f x) (f a)
  numbered_mapped f n = record { exps = n.exps; attributes = n.attributes; value = ap f n.value }

  pub numbered_both : {B C : Type 0} {last : Quotes} {y : Quoted Raw B} {b : B} (f : A → B → C) → Numbered tokens depth old new x a → Numbered tokens depth new last y b → Numbered tokens depth old last (both f x y) (f a b)
  numbered_both {last = last} {y = y} {b = b} f n m = record {
    exps = held_both tokens depth x.exps y.exps old.exps new.exps last.exps n.exps m.exps;
    attributes = held_both tokens depth x.attributes y.attributes old.attributes new.attributes last.attributes n.attributes m.attributes;
    value = (let c = held_count tokens depth x.exps old.exps new.exps n.exps in let d = held_count tokens depth x.attributes old.attributes new.attributes n.attributes in
        ap (λ z. f z b) n.value ∙ ap (λ z. f (x.at (length old.exps) (length old.attributes)) z) (m.value ∙ ap (λ z. y.at z (length new.attributes)) c ∙ ap (λ z. y.at (length old.exps + length x.exps) z) d));
  }

-- what is read one level further in
within_raised : (depth : ℕ) (c : Raw) → within depth c ≡ within (depth + 1) (raised c)
within_raised depth c = let e : depth - c.nesting ≡ depth + 1 - (c.nesting + 1) = omega arith in rw e refl

all_raised : (depth : ℕ) (cs : List Raw) → map (within depth) cs ≡ map (within (depth + 1)) (map raised cs)
all_raised depth [] = refl
all_raised depth (c ∷ cs) = ap (λ (z : Held). z ∷ map (within depth) cs) (within_raised depth c) ∙ ap (λ z. within (depth + 1) (raised c) ∷ z) (all_raised depth cs)

pub numbered_deeper : {A : Type 0} {tokens : List Lexeme} {old new : Quotes} {x : Quoted Raw A} {a : A} (depth below : ℕ) → below + 1 ≡ depth → Numbered tokens below old new x a → Numbered tokens depth old new (deeper raw x) a
numbered_deeper {tokens = tokens} {old = old} {x = x} depth below e n = rw (← e) (record {
  exps = n.exps ∙ ap (λ z. all_held tokens old.exps ++ z) (all_raised below x.exps);
  attributes = n.attributes ∙ ap (λ z. all_held tokens old.attributes ++ z) (all_raised below x.attributes);
  value = n.value;
})
