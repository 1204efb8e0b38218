-- How the two trees of a part are put together, and what is known of the code of their parts.
use Rattle.std.specs.Prelude.{◌≡◌, ℕ, ◌+◌, Bool, List, [], ◌∷◌, ◌++◌, map, length, refl}
use Rattle.std.specs.List.{AllZip, AllByRecursion}
use Rattle.std.proofs.Common.{arith, sym, ap, ◌∙◌}
use Rattle.std.proofs.lemmas.Slice.Zip.{AllZip-long}
use Rattle.ur_syntax.specs.declared.exp.Exp.{Exp}
use Rattle.ur_parse_rules.specs.Quoted.{expressions, raw, Raw, Quoted, plain, antiquote, attribute, mapped, both, raised, deeper}
use Rattle.ur_parse_embed_code.specs.Filled.{Filled, Fills, Known, filled, deep, AllKnown}

zip_append : {A B : Type 0} (R : A → B → Type 0) (as_ cs : List A) (bs ds : List B) → AllZip R as_ bs → AllZip R cs ds → AllZip R (as_ ++ cs) (bs ++ ds)
zip_append R [] cs [] ds h k = k
zip_append R [] cs (b ∷ bs) ds h k = elim h [ ]
zip_append R (a ∷ as_) cs [] ds h k = elim h [ ]
zip_append R (a ∷ as_) cs (b ∷ bs) ds h k = (h.0, zip_append R as_ cs bs ds h.1 k)

pub all_first : {A : Type 0} (P : A → Type 0) (as_ bs : List A) → AllByRecursion P (as_ ++ bs) → AllByRecursion P as_
all_first P [] bs h = tt
all_first P (a ∷ as_) bs h = (h.0, all_first P as_ bs h.1)

pub all_second : {A : Type 0} (P : A → Type 0) (as_ bs : List A) → AllByRecursion P (as_ ++ bs) → AllByRecursion P bs
all_second P [] bs h = h
all_second P (a ∷ as_) bs h = all_second P as_ bs h.1

module _ (n : ℕ) where
  pub plain_fills : {A : Type 0} (a : A) → Fills n (plain a) (plain a)
  plain_fills a = record { exps = tt; attributes = tt; same = refl }

  -- trees without code
  pub plain_same : {A : Type 0} {a b : A} → a ≡ b → Fills n (plain a) (plain b)
  plain_same {a = a} e = rw (sym e) (plain_fills a)

  pub antiquote_fills : {a : Raw} {b : Exp} → Filled n a b → Fills n (antiquote a) (antiquote b)
  antiquote_fills f = record { exps = (f, tt); attributes = tt; same = refl }

  pub attribute_fills : {a : Raw} {b : Exp} → Filled n a b → Fills n (attribute a) (attribute b)
  attribute_fills f = record { exps = tt; attributes = (f, tt); same = refl }

  pub mapped_fills : {A B : Type 0} (f : A → B) {a : Quoted Raw A} {b : Quoted Exp A} → Fills n a b → Fills n (mapped f a) (mapped f b)
  mapped_fills f h = record { exps = h.exps; attributes = h.attributes; same = ap (λ g. λ i j. f (g i j)) h.same }

  pub both_fills : {A B C : Type 0} (f : A → B → C) {a : Quoted Raw A} {b : Quoted Exp A} {c : Quoted Raw B} {d : Quoted Exp B} → Fills n a b → Fills n c d → Fills n (both f a c) (both f b d)
  both_fills f {a = a} {b = b} {c = c} {d = d} h k =
      let l : length a.exps ≡ length b.exps = sym (AllZip-long (Filled n) a.exps b.exps h.exps) in
      let m : length a.attributes ≡ length b.attributes = sym (AllZip-long (Filled n) a.attributes b.attributes h.attributes) in
      record {
        exps = zip_append (Filled n) a.exps c.exps b.exps d.exps h.exps k.exps;
        attributes = zip_append (Filled n) a.attributes c.attributes b.attributes d.attributes h.attributes k.attributes;
        same =
            ap (λ g. λ i j. f (g i j) (c.at (i + length a.exps) (j + length a.attributes))) h.same
            ∙ ap (λ g. λ i j. f (b.at i j) (g (i + length a.exps) (j + length a.attributes))) k.same
            ∙ ap (λ x. λ i j. f (b.at i j) (d.at (i + x) (j + length a.attributes))) l
            ∙ ap (λ x. λ i j. f (b.at i j) (d.at (i + length b.exps) (j + x))) m;
      }

  raised_filled : (as_ : List Raw) (bs : List Exp) → AllZip (Filled n) as_ bs → AllZip (Filled (1 + n)) (map raised as_) bs
  raised_filled [] [] h = tt
  raised_filled [] (b ∷ bs) h = elim h [ ]
  raised_filled (a ∷ as_) [] h = elim h [ ]
  raised_filled (a ∷ as_) (b ∷ bs) h = let l = h.0.fits in (record { within = h.0.within; fits = omega (arith, l); spells = h.0.spells }, raised_filled as_ bs h.1)

  pub deeper_fills : {A : Type 0} {a : Quoted Raw A} {b : Quoted Exp A} → Fills n a b → Fills (1 + n) (deeper raw a) (deeper expressions b)
  deeper_fills {a = a} {b = b} h = record { exps = raised_filled a.exps b.exps h.exps; attributes = raised_filled a.attributes b.attributes h.attributes; same = h.same }

  lowered : (may : Bool) (c : Raw) → Known may (1 + n) (raised c) → Known may n c
  lowered may c (filled e f) = let l = f.fits in filled e (record { within = f.within; fits = omega (arith, l); spells = f.spells })
  lowered may c (deep m y l d) = deep m y (omega (arith, l)) d

  all_lowered : (may : Bool) (cs : List Raw) → AllByRecursion (Known may (1 + n)) (map raised cs) → AllByRecursion (Known may n) cs
  all_lowered may [] h = tt
  all_lowered may (c ∷ cs) h = (lowered may c h.0, all_lowered may cs h.1)

  pub deeper_known : (may : Bool) {A : Type 0} (a : Quoted Raw A) → AllKnown may (1 + n) (deeper raw a) → AllKnown may n a
  deeper_known may a h = (all_lowered may a.exps h.0, all_lowered may a.attributes h.1)

  pub first_known : (may : Bool) {A B C : Type 0} (f : A → B → C) (a : Quoted Raw A) (b : Quoted Raw B) → AllKnown may n (both f a b) → AllKnown may n a
  first_known may f a b h = (all_first (Known may n) a.exps b.exps h.0, all_first (Known may n) a.attributes b.attributes h.1)

  pub second_known : (may : Bool) {A B C : Type 0} (f : A → B → C) (a : Quoted Raw A) (b : Quoted Raw B) → AllKnown may n (both f a b) → AllKnown may n b
  second_known may f a b h = (all_second (Known may n) a.exps b.exps h.0, all_second (Known may n) a.attributes b.attributes h.1)
