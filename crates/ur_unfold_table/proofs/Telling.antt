-- What parts say, and the items that they stand for.
use Rattle.std.proofs.Common.{◌≡◌, ◌<◌, ◌≤◌, ℕ, ◌+◌, List, [], ◌∷◌, ◌++◌, map, length, drop, get_or, Option, Some, None, refl, sym, ap, subst, ◌∙◌, append_assoc, append-nil, drop-cons, add-one}
use Rattle.std.proofs.lemmas.List.{drop_all, map-append}
use Rattle.std.specs.List.{AllZip}
use Rattle.ur_tree.specs.declared.exp.Exp.{Exp}
use Rattle.ur_tree.specs.declared.exp.Markup.{Markup}
use Rattle.ur_source.specs.Items.{Scope, Item, exps, markups, optional}
use Rattle.ur_unfold_pieces.specs.declared.piece.Piece.{Piece}
use Rattle.ur_unfold_pieces.specs.declared.opening.Opening.{Opening}
use Rattle.ur_unfold_pieces.specs.Told.{Told, told, exps_told, parts_told, held_told}
use Rattle.ur_unfold_pieces.specs.Standing.{ScopeIs, SaysFor, StandsFor}

-- ---- lists that a loop makes

pub told_last : (old new : List Piece) (q : Piece) → new ≡ old ++ q ∷ [] → map told new ≡ map told old ++ told q ∷ []
told_last old new q e = ap (map told) e ∙ map-append told old (q ∷ [])

here : {A : Type 0} (xs : List A) (i : ℕ) (d : A) → i < length xs → drop i xs ≡ get_or xs i d ∷ drop (i + 1) xs
here xs i d h = rw (add-one) (drop-cons xs i d h)

pub more_told : {A B : Type 0} (f : A → B) (xs : List A) (i : ℕ) (d : A) (made new all : List B) → i < length xs → d ≡ get_or xs i d → made ++ map f (drop i xs) ≡ all → new ≡ made ++ f d ∷ []
    → new ++ map f (drop (i + 1) xs) ≡ all
more_told f xs i d made new all h e so n =
    ap (λ l. l ++ map f (drop (i + 1) xs)) n ∙ append_assoc made (f d ∷ []) (map f (drop (i + 1) xs))
    ∙ ap (λ z. made ++ f z ∷ map f (drop (i + 1) xs)) e ∙ ap (λ l. made ++ map f l) (sym (here xs i d h)) ∙ so

pub first_told : {A B : Type 0} (f : A → B) (made : List B) (xs : List A) → made ++ map f (drop 0 xs) ≡ made ++ map f xs
first_told f made [] = refl
first_told f made (x ∷ xs) = refl

pub all_told : {A B : Type 0} (f : A → B) (xs : List A) (i : ℕ) (made all : List B) → length xs ≤ i → made ++ map f (drop i xs) ≡ all → made ≡ all
all_told f xs i made all h so = sym (append-nil made) ∙ ap (λ l. made ++ map f l) (sym (drop_all i xs h)) ∙ so

-- ---- what is said

module _ (s : Opening) where
  pub told_zip : (parts : List Piece) (ts : List Told) (is : List Item) → map told parts ≡ ts → AllZip (SaysFor s) ts is → AllZip (StandsFor s) parts is
  told_zip parts ts is e h = from parts is (subst (λ l. AllZip (SaysFor s) l is) (sym e) h)
    where
      from : (parts : List Piece) (is : List Item) → AllZip (SaysFor s) (map told parts) is → AllZip (StandsFor s) parts is
      from [] [] h = tt
      from [] (i ∷ is) h = absurd h
      from (q ∷ parts) [] h = absurd h
      from (q ∷ parts) (i ∷ is) h = (h.0, from parts is h.1)

  pub both_say : (ts us : List Told) (is js : List Item) → AllZip (SaysFor s) ts is → AllZip (SaysFor s) us js → AllZip (SaysFor s) (ts ++ us) (is ++ js)
  both_say [] us [] js h g = g
  both_say [] us (i ∷ is) js h g = absurd h
  both_say (t ∷ ts) us [] js h g = absurd h
  both_say (t ∷ ts) us (i ∷ is) js h g = (h.0, both_say ts us is js h.1 g)

  module _ (n : ℕ) (scope : Scope) (at : ScopeIs s n scope) where
    pub exps_say : (es : List Exp) → AllZip (SaysFor s) (exps_told n es) (exps scope es)
    exps_say [] = tt
    exps_say (e ∷ es) = ((scope, at, refl), exps_say es)

    pub parts_say : (ms : List Markup) → AllZip (SaysFor s) (parts_told n ms) (markups scope ms)
    parts_say [] = tt
    parts_say (m ∷ ms) = ((scope, at, refl), parts_say ms)

    pub held_says : (e : Option Exp) → AllZip (SaysFor s) (held_told n e) (optional scope e)
    held_says None = tt
    held_says (Some e) = ((scope, at, refl), tt)
