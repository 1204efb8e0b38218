-- What holds code is its skeleton with expressions for the code.
use Rattle.std.specs.Prelude.{◌≡◌, ◌⊎◌, ◌||◌, ◌+◌, ◌≤◌, ◌-◌, ℕ, Bool, true, false, List, [], ◌∷◌, ◌++◌, drop, length, map, codes, refl}
use Rattle.std.specs.List.{AllZip, AllByRecursion}
use Rattle.std.proofs.Common.{sym, ◌∙◌, ap, subst, inl, inr, arith}
use Rattle.ur_base.specs.declared.refusal.Refusal.{Refusal}
use Rattle.ur_base.specs.declared.refusal.Stop.{Stop}
use Rattle.ur_base.specs.declared.refusal.Stop.TheVariants as stop
use Rattle.ur_base.specs.Stopping.{Says}
use Rattle.ur_lex.specs.declared.token.Lexeme.{Lexeme}
use Rattle.ur_syntax.specs.declared.exp.Exp.{Exp}
use Rattle.ur_parse_rules.specs.Rules.{AnyOf, Builds, Sym, Read, Refused, NoneReads, Spells, one, syntax, nested}
use Rattle.ur_parse_rules.specs.Places.{OfRefusal}
use Rattle.ur_parse_rules.proofs.Inversions.{part-out, produced-out, wider}
use Rattle.ur_parse_rules.specs.Quoted.{expressions, Raw, Quoted}
use Rattle.ur_parse_rules.specs.Parts.{Part, Tree, of_quote}
use Rattle.ur_parse_rules.specs.Language.{language, rules}
use Rattle.ur_parse_rules.proofs.Tests.{false_true}
use Rattle.ur_parse_embed_code.specs.declared.quotes.Range.{Range}
use Rattle.ur_parse_embed_code.specs.declared.quotes.Quotes.{Quotes}
use Rattle.ur_parse_embed_code.specs.Quotes.{Held, held, all_held, within, Numbered}
use Rattle.ur_parse_embed_code.specs.Filled.{Filled, Fills, OpensBeyond, OpensBehind, Known, filled as known_filled, deep as known_deep, AllKnown}
use Rattle.ur_parse_exp.specs.declared.code.Codes.{Codes}
use Rattle.ur_parse_exp.specs.Codes.{code_of, nest, IsExp, IsNone, IsDeep, IsKnown, fits, deep, AllExps, NoneRead, Told}
use Rattle.ur_parse_exp.specs.Tables.{Coded, AllRead, NoneOfAll}

-- ---- an expression counts

exp_counts : (n : ℕ) (e : Exp) (ts : List Lexeme) (q : List (Sym Tree)) → AnyOf (Builds language (of_quote expressions) e q ts) (rules (of_quote expressions)) → Spells language n q ts → 1 ≤ n
exp_counts n e ts q (inl (v, span, is, al, b, f)) d =
    let o = part-out language (subst (λ z. Spells language n z ts) f d) in let p = produced-out language o.3 in let l = p.5 in omega (arith, l)
exp_counts n e ts q (inr z) d = absurd z

some_nest : (n : ℕ) (e : Exp) (ts : List Lexeme) → IsExp n ts e → 1 ≤ n
some_nest n e ts d = let o = produced-out language d in let l = o.5 in let m = exp_counts o.0 e o.2 o.1 o.4 o.6 in omega (arith, l, m)

-- ---- ranges and the raw code that they hold

module _ (tokens : List Lexeme) (bound less n : ℕ) (l : less ≤ bound) (k : n ≡ bound - less) where
  -- the head of a list of ranges holds the head of a list of code
  tokens_same : (r : Range) (c : Raw) (rs : List Held) (cs : List Held) → held tokens r ∷ rs ≡ within bound c ∷ cs → code_of tokens r ≡ c.tokens
  tokens_same r c rs cs e = let h : held tokens r ≡ within bound c = cc in ap (λ (z : Held). z.tokens) h

  depth_same : (r : Range) (c : Raw) (rs : List Held) (cs : List Held) → held tokens r ∷ rs ≡ within bound c ∷ cs → r.depth ≡ bound - c.nesting
  depth_same r c rs cs e = let h : held tokens r ≡ within bound c = cc in ap (λ (z : Held). z.depth) h

  tail_same : (a b : Held) (rs : List Held) (cs : List Held) → a ∷ rs ≡ b ∷ cs → rs ≡ cs
  tail_same a b rs cs e = cc

  fits_one : (r : Range) (c : Raw) (e : Exp) → code_of tokens r ≡ c.tokens → r.depth ≡ bound - c.nesting → IsExp (nest less r) (code_of tokens r) e → Filled n c e
  fits_one r c e t d h = let p = some_nest (nest less r) e (code_of tokens r) h in record {
    within = nest less r;
    fits = omega (arith, l, k, d, p);
    spells = subst (λ z. IsExp (nest less r) z e) t h;
  }

  deep_one : (r : Range) (c : Raw) → code_of tokens r ≡ c.tokens → r.depth ≡ bound - c.nesting → IsDeep tokens less r → n ≤ c.nesting + nest less r
  deep_one r c t d h = omega (arith, l, k, d)

  known_one : (r : Range) (c : Raw) → code_of tokens r ≡ c.tokens → r.depth ≡ bound - c.nesting → IsKnown tokens less r → Known true n c
  known_one r c t d (fits e h) = known_filled e (fits_one r c e t d h)
  known_one r c t d (deep h) = known_deep (nest less r) refl (deep_one r c t d h) (subst (λ z. OpensBeyond (nest less r) (one (of_quote expressions) ∷ []) z) t h.opens)

  fill_list : (rs : List Range) (cs : List Raw) (es : List Exp) → all_held tokens rs ≡ map (within bound) cs → AllExps tokens less rs es → AllZip (Filled n) cs es
  fill_list [] [] [] e h = tt
  fill_list [] [] (x ∷ es) e h = elim h [ ]
  fill_list [] (c ∷ cs) es e h = absurd (cc)
  fill_list (r ∷ rs) [] es e h = absurd (cc)
  fill_list (r ∷ rs) (c ∷ cs) [] e h = elim h [ ]
  fill_list (r ∷ rs) (c ∷ cs) (x ∷ es) e h =
      (fits_one r c x (tokens_same r c _ _ e) (depth_same r c _ _ e) h.0, fill_list rs cs es (tail_same _ _ _ _ e) h.1)

  known_list : (rs : List Range) (cs : List Raw) → all_held tokens rs ≡ map (within bound) cs → AllByRecursion (IsKnown tokens less) rs → AllByRecursion (Known true n) cs
  known_list [] [] e h = tt
  known_list [] (c ∷ cs) e h = absurd (cc)
  known_list (r ∷ rs) [] e h = absurd (cc)
  known_list (r ∷ rs) (c ∷ cs) e h = (known_one r c (tokens_same r c _ _ e) (depth_same r c _ _ e) h.0, known_list rs cs (tail_same _ _ _ _ e) h.1)

  -- code that is no expression is not filled in
  not_filled : (m : ℕ) (rs : List Range) (cs : List Raw) (es : List Exp) → all_held tokens rs ≡ map (within bound) cs → AnyOf (IsNone tokens) rs → AllZip (Filled m) cs es → ⊥
  not_filled m [] cs es e h f = h
  not_filled m (r ∷ rs) [] es e h f = absurd (cc)
  not_filled m (r ∷ rs) (c ∷ cs) [] e h f = f
  not_filled m (r ∷ rs) (c ∷ cs) (x ∷ es) e (inl h) f = let s = f.0.spells in h.none f.0.within x (subst (λ z. IsExp f.0.within z x) (sym (tokens_same r c _ _ e)) s)
  not_filled m (r ∷ rs) (c ∷ cs) (x ∷ es) e (inr h) f = not_filled m rs cs es (tail_same _ _ _ _ e) h f.1

  -- nor is code that nests too deep, within what may nest
  not_within : (rs : List Range) (cs : List Raw) (es : List Exp) → all_held tokens rs ≡ map (within bound) cs → AnyOf (IsDeep tokens less) rs → AllZip (Filled n) cs es → ⊥
  not_within [] cs es e h f = h
  not_within (r ∷ rs) [] es e h f = absurd (cc)
  not_within (r ∷ rs) (c ∷ cs) [] e h f = f
  not_within (r ∷ rs) (c ∷ cs) (x ∷ es) e (inl h) f =
      let w = f.0.fits in let d = depth_same r c _ _ e in let p = some_nest f.0.within x c.tokens f.0.spells in
      h.none x (subst (λ z. IsExp (nest less r) z x) (sym (tokens_same r c _ _ e)) (wider language f.0.spells (omega (arith, l, k, w, d, p))))
  not_within (r ∷ rs) (c ∷ cs) (x ∷ es) e (inr h) f = not_within rs cs es (tail_same _ _ _ _ e) h f.1

-- ---- what holds code

abbrev pub Reading : Type 0 → Type 1
Reading T = ℕ → List Lexeme → List Lexeme → T → Type 0

-- How a part p with expressions and its skeleton r are read, and what they have to do with each other.
pub record Stripped {A : Type 0} (p r : Part) (Raws : Reading (Quoted Raw A)) (Exps : Reading (Quoted Exp A)) : Type 0 where
  pub tree : (n : ℕ) (ts rest : List Lexeme) (x : Tree p) → Read language n p ts rest x → (b : Quoted Exp A) × Exps n ts rest b
  pub bare : (n : ℕ) (ts rest : List Lexeme) (a : Quoted Raw A) → Raws n ts rest a → (x : Tree r) × Read language n r ts rest x
  -- each has a skeleton, of which one is read
  pub skeleton : (n : ℕ) (ts rest : List Lexeme) (b : Quoted Exp A) → Exps n ts rest b → (a : Quoted Raw A) × Raws n ts rest a × Fills n a b
  pub once : (m n : ℕ) (ts end rest : List Lexeme) (a c : Quoted Raw A) → Raws m ts end a → Raws n ts rest c → a ≡ c
  -- a skeleton with expressions for its code is read, and where all code is known, or more are open
  pub filled : (n : ℕ) (ts rest : List Lexeme) (a : Quoted Raw A) (b : Quoted Exp A) → Raws n ts rest a → Fills n a b → Exps n ts rest b
  pub known : (m n : ℕ) (ts rest : List Lexeme) (a : Quoted Raw A) → Raws m ts rest a → AllKnown true n a → ((b : Quoted Exp A) × Exps n ts rest b) ⊎ OpensBehind (n + 1) (one p ∷ []) ts

-- a skeleton, and the code of its ranges
pub record Skeleton {A : Type 0} (Raws : Reading (Quoted Raw A)) (tokens : List Lexeme) (bound i j : ℕ) (q : Quotes) (tree : A) : Type 0 where
  pub of : Quoted Raw A
  pub read : Raws bound (drop i tokens) (drop j tokens) of
  pub exps : all_held tokens q.exps ≡ map (within bound) of.exps
  pub attributes : all_held tokens q.attributes ≡ map (within bound) of.attributes
  pub value : tree ≡ of.at 0 0

either_true : (a b : Bool) → (a || b) ≡ true → (a ≡ true) ⊎ (b ≡ true)
either_true true b e = inl refl
either_true false b e = inr e

either_false : (a b : Bool) → (a || b) ≡ false → (a ≡ false) × (b ≡ false)
either_false true b e = false_true (sym e)
either_false false b e = (refl, e)

module _ {A : Type 0} {p r : Part} {Raws : Reading (Quoted Raw A)} {Exps : Reading (Quoted Exp A)} (s : Stripped p r Raws Exps) where
  -- none is read
  abbrev pub None : ℕ → List Lexeme → Type 0
  None n ts = (b : Quoted Exp A) (rest : List Lexeme) → Exps n ts rest b → ⊥

  -- where a skeleton is read, it is the one of each that is read
  of_this : (m n : ℕ) (ts end rest : List Lexeme) (a : Quoted Raw A) (b : Quoted Exp A) → Raws m ts end a → Exps n ts rest b → Fills n a b
  of_this m n ts end rest a b h g = let o = s.skeleton n ts rest b g in subst (λ z. Fills n z b) (s.once n m ts rest end o.0 a o.1 h) o.2

  none_whole : (n : ℕ) (ts : List Lexeme) → None n ts → NoneReads language n p ts
  none_whole n ts f x rest h = let o = s.tree n ts rest x h in f o.0 rest o.1

  none_raw : (n : ℕ) (ts : List Lexeme) → NoneReads language n r ts → None n ts
  none_raw n ts f b rest g = let o = s.skeleton n ts rest b g in let w = s.bare n ts rest o.0 o.1 in f w.0 rest w.1

  -- E05 of the skeleton is that of the whole
  raw_refused : (m n : ℕ) (ts : List Lexeme) (y : Refusal) → Refused language m r ts y → y.code ≡ 5 → Refused language n p ts y
  raw_refused m n ts y (syntax says o) e = syntax says (record { none = λ k. none_whole k ts (none_raw k ts (o.none k)) })
  raw_refused m n ts y (nested says t) e = absurd (let z = says.0 in omega (arith, z, e))

  -- what is known where a skeleton is refused otherwise
  raw_deep : (n : ℕ) (ts : List Lexeme) (y : Refusal) → Refused language n r ts y → (y.code ≡ 5 → ⊥) → None n ts
  raw_deep n ts y (syntax says m) f = absurd (f says.0)
  raw_deep n ts y (nested says t) f = none_raw n ts t.none

  pub first_none : (m n : ℕ) (ts : List Lexeme) (e : Stop) (q : Refusal) → OfRefusal e (λ y. Refused language m r ts y) → Told e (λ y. (q ≡ y) × (y.code ≡ 5)) → Refused language n p ts q
  first_none m n ts (stop.Refused y) q h f = let z = f.0 in rw z (raw_refused m n ts y h f.1)
  first_none m n ts stop.Memory q h f = absurd f

  pub first_deep : (n : ℕ) (ts : List Lexeme) (e : Stop) → OfRefusal e (λ y. Refused language n r ts y) → Told e (λ y. y.code ≡ 5 → ⊥) → None n ts
  first_deep n ts (stop.Refused y) h f = raw_deep n ts y h f
  first_deep n ts stop.Memory h f = absurd f

  -- what a reader of the skeleton promises, whose list of code was empty
  pub skeleton_of : (tokens : List Lexeme) (bound i j : ℕ) {old new : Quotes} {tree : A} {a : Quoted Raw A} → old.exps ≡ [] → old.attributes ≡ [] → Raws bound (drop i tokens) (drop j tokens) a → Numbered tokens bound old new a tree → Skeleton Raws tokens bound i j new tree
  skeleton_of tokens bound i j {old = old} {a = a} e f h m = record {
    of = a;
    read = h;
    exps = m.exps ∙ ap (λ z. all_held tokens z ++ map (within bound) a.exps) e;
    attributes = m.attributes ∙ ap (λ z. all_held tokens z ++ map (within bound) a.attributes) f;
    value = m.value ∙ ap (λ z. a.at (length z) (length old.attributes)) e ∙ ap (λ z. a.at 0 (length z)) f;
  }

  module _ {tokens : List Lexeme} {bound i j : ℕ} {q : Quotes} {tree : A} (h : Skeleton Raws tokens bound i j q tree) where
    -- E05 of code is that of the whole
    none_any : (AnyOf (IsNone tokens) q.exps ⊎ AnyOf (IsNone tokens) q.attributes) → (m : ℕ) → None m (drop i tokens)
    none_any (inl d) m b rest g = not_filled tokens bound 0 bound (omega arith) (omega arith) m q.exps h.of.exps b.exps h.exps d (of_this bound m (drop i tokens) (drop j tokens) rest h.of b h.read g).exps
    none_any (inr d) m b rest g = not_filled tokens bound 0 bound (omega arith) (omega arith) m q.attributes h.of.attributes b.attributes h.attributes d (of_this bound m (drop i tokens) (drop j tokens) rest h.of b h.read g).attributes

    pub none_refused : {n : ℕ} {y : Refusal} → NoneOfAll tokens q y → Refused language n p (drop i tokens) y
    none_refused d = syntax d.says (record { none = λ m. none_whole m (drop i tokens) (none_any d.none m) })

    -- where all code is known and none is read within n, more are open
    pub open_beyond : (less n : ℕ) {y : Refusal} → less ≤ bound → n ≡ bound - less → Says y 6 (codes "257") (codes "256") → AllByRecursion (IsKnown tokens less) q.exps → AllByRecursion (IsKnown tokens less) q.attributes →
        None n (drop i tokens) → Refused language n p (drop i tokens) y
    open_beyond less n l k says es as_ none =
        let kn : AllKnown true n h.of = (known_list tokens bound less n l k q.exps h.of.exps h.exps es, known_list tokens bound less n l k q.attributes h.of.attributes h.attributes as_) in
        elim (s.known bound n (drop i tokens) (drop j tokens) h.of h.read kn) [
          | inl y ↦ absurd (none y.0 (drop j tokens) y.1)
          | inr y ↦ nested says (record { none = none_whole n (drop i tokens) none; taken = y.0; rest = y.1; split = y.2; deep = y.3 })
        ]

  -- within the nesting that may be
  module _ {tokens : List Lexeme} {n i j : ℕ} {q : Quotes} {tree : A} (h : Skeleton Raws tokens n i j q tree) {a b : Codes} (c : AllRead tokens 0 q a b) where
    deep_any : (AnyOf (IsDeep tokens 0) q.exps ⊎ AnyOf (IsDeep tokens 0) q.attributes) → None n (drop i tokens)
    deep_any (inl d) x rest g = not_within tokens n 0 n (omega arith) (omega arith) q.exps h.of.exps x.exps h.exps d (of_this n n (drop i tokens) (drop j tokens) rest h.of x h.read g).exps
    deep_any (inr d) x rest g = not_within tokens n 0 n (omega arith) (omega arith) q.attributes h.of.attributes x.attributes h.attributes d (of_this n n (drop i tokens) (drop j tokens) rest h.of x h.read g).attributes

    which_deep : (a.deep ≡ true) ⊎ (b.deep ≡ true) → AnyOf (IsDeep tokens 0) q.exps ⊎ AnyOf (IsDeep tokens 0) q.attributes
    which_deep (inl e) = inl (c.exps_read.deep e)
    which_deep (inr e) = inr (c.attributes_read.deep e)

    pub deep_refused : {y : Refusal} → Says y 6 (codes "257") (codes "256") → (a.deep || b.deep) ≡ true → Refused language n p (drop i tokens) y
    deep_refused says e = open_beyond h 0 n (omega arith) (omega arith) says c.exps_read.known c.attributes_read.known (deep_any (which_deep (either_true a.deep b.deep e)))

    pub all_filled : (a.deep || b.deep) ≡ false → Exps n (drop i tokens) (drop j tokens) (record { exps = a.exps.tree; attributes = b.exps.tree; at = h.of.at })
    all_filled e =
        let o = either_false a.deep b.deep e in
        let x : Quoted Exp A = record { exps = a.exps.tree; attributes = b.exps.tree; at = h.of.at } in
        let f : Fills n h.of x = record {
          exps = fill_list tokens n 0 n (omega arith) (omega arith) q.exps h.of.exps a.exps.tree h.exps (c.exps_read.exps o.0);
          attributes = fill_list tokens n 0 n (omega arith) (omega arith) q.attributes h.of.attributes b.exps.tree h.attributes (c.attributes_read.exps o.1);
          same = refl;
        } in s.filled n (drop i tokens) (drop j tokens) h.of x h.read f

    pub coded : {es : List Exp} → (a.deep || b.deep) ≡ false → es ≡ a.exps.tree → Coded (λ x. Exps n (drop i tokens) (drop j tokens) x) tree es
    coded e f = record { of = record { exps = a.exps.tree; attributes = b.exps.tree; at = h.of.at }; read = all_filled e; is = h.value; code = f }

-- ---- E05 of code

pub none_of_exps : {tokens : List Lexeme} {y : Refusal} (q : Quotes) → NoneRead tokens q.exps y → NoneOfAll tokens q y
none_of_exps q h = record { says = h.0; none = inl h.1 }

pub none_of_attributes : {tokens : List Lexeme} {y : Refusal} (q : Quotes) → NoneRead tokens q.attributes y → NoneOfAll tokens q y
none_of_attributes q h = record { says = h.0; none = inr h.1 }

-- a refusal that is passed on
pub refusal_map : {P Q : Refusal → Type 0} (e : Stop) → OfRefusal e P → ((r : Refusal) → P r → Q r) → OfRefusal e Q
refusal_map (stop.Refused r) h f = f r h
refusal_map stop.Memory h f = tt
