-- Pieces that are written one after the other.
use Rattle.std.proofs.Common.{◌≡◌, ℕ, List, ◌∷◌, ◌++◌, true, false, codes, ap, sym, ◌∙◌}
use Rattle.std.proofs.lemmas.Bool.{cond-true, cond-false}
use mathlib.Core.List.{append_assoc}
use Rattle.ur_values.specs.declared.value.Tag.{Tag}
use Rattle.ur_tags.specs.Show.{around, is_void, tag_word, tag_attributes, element, before_body, titled}

pub written : (out p q a b : List ℕ) → p ≡ out ++ a → q ≡ p ++ b → q ≡ out ++ (a ++ b)
written out p q a b first second = second ∙ ap (λ o. o ++ b) first ∙ append_assoc out a b

-- an opening tag with attributes, what is in it, and the closing tag
pub around_written : (out o1 o2 o3 o4 o5 name attributes inner : List ℕ) → o1 ≡ out ++ (codes "<" ++ name) → o2 ≡ o1 ++ attributes → o3 ≡ o2 ++ codes ">"
    → o4 ≡ o3 ++ inner → o5 ≡ o4 ++ (codes "</" ++ name ++ codes ">") → o5 ≡ out ++ around name attributes inner
around_written out o1 o2 o3 o4 o5 name attributes inner e1 e2 e3 e4 e5 =
    let two = written out o1 o2 (codes "<" ++ name) attributes e1 e2 in
    let three = written out o2 o3 (codes "<" ++ name ++ attributes) (codes ">") two e3 in
    let four = written out o3 o4 (codes "<" ++ name ++ attributes ++ codes ">") inner three e4 in
    written out o4 o5 (codes "<" ++ name ++ attributes ++ codes ">" ++ inner) (codes "</" ++ name ++ codes ">") four e5

-- an element that holds nothing, and one that holds these bytes
pub void_is : (t : Tag) (inner : List ℕ) → is_void t ≡ true → codes "<" ++ tag_word t ++ codes "/>" ≡ element t inner
void_is t inner e = sym (cond-true (is_void t) (codes "<" ++ tag_word t ++ codes "/>") (around (tag_word t) (tag_attributes t) inner) e)

pub around_is : (t : Tag) (inner : List ℕ) → is_void t ≡ false → around (tag_word t) (tag_attributes t) inner ≡ element t inner
around_is t inner e = sym (cond-false (is_void t) (codes "<" ++ tag_word t ++ codes "/>") (around (tag_word t) (tag_attributes t) inner) e)

regrouped : (a b c d e f g : List ℕ) → ((a ++ (b ++ c ++ d)) ++ e) ++ (f ++ g) ≡ (((a ++ b) ++ c) ++ (d ++ (e ++ f))) ++ g
regrouped a b c d e f g = simp append_assoc

-- the parts of a titled page
pub titled_is : (title body : List ℕ) → (before_body title ++ body) ++ codes "</body></html>" ≡ titled title body
titled_is title body =
    ap (λ r. codes "<!DOCTYPE html>" ++ 10 ∷ (codes "<html><head><title>" ++ r))
    (regrouped title (codes "</title>") (codes "</head>") (codes "<body>") body (codes "</body>") (codes "</html>"))
