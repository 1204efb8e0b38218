-- What is read of a request's cookies is of their kinds.
use Rattle.std.proofs.Common.{◌≡◌, ℕ, Bool, true, false, if◌then◌else◌, List, [], ◌∷◌, Option, Some, None, option_map, option_and_then, IsUtf8, refl, ap, subst, ◌∙◌}
use Rattle.std.specs.Prelude.{find, All}
use Rattle.std.specs.List.{AllZip, AllByRecursion}
use Rattle.std.proofs.lemmas.List.Elements.{recursion_from_All}
use denote.Hole.Carrier
use Rattle.ur_values.specs.declared.value.Value.{Value}
use Rattle.ur_values.specs.declared.value.Value.TheVariants as v
use Rattle.ur_values.specs.declared.value.Node.TheBlock as block
use Rattle.ur_values.specs.Store.{FitsKind}
use Rattle.ur_tags.specs.Segments.{unsegment}
use Rattle.ur_tags.proofs.Owning.{unsegment_fits}
use Rattle.ur_code.specs.declared.code.Cookie.{Cookie}
use Rattle.ur_code.specs.Sound.{FitsCookie}
use Rattle.ur_machine.specs.Cookies.{optional, first_value, carried_value, carried}

present_fits : (x : Value) (c : Cookie) → FitsKind x c.of → FitsCookie (v.Present x) c
unfolding block.hidden-the_row-Value-3 Carrier.hidden
present_fits x c h = h

optional_fits : (o : Option Value) (c : Cookie) → ((x : Value) → o ≡ Some x → FitsKind x c.of) → FitsCookie (optional o) c
optional_fits None c h = tt
optional_fits (Some x) c h = present_fits x c (h x refl)

read_fits : (c : Cookie) (o : Option (List ℕ)) (x : Value) → option_and_then (unsegment c.of) o ≡ Some x → FitsKind x c.of
read_fits c None x e = cc
read_fits c (Some bytes) x e = unsegment_fits c.of bytes x e

-- each of the program's cookies has its kind, or is not there
pub carried_fits : (cookies : List Cookie) (pairs : List (List ℕ × List ℕ)) → AllZip FitsCookie (carried cookies pairs) cookies
carried_fits [] pairs = tt
carried_fits (c ∷ cookies) pairs = (optional_fits (option_and_then (unsegment c.of) (first_value c.name pairs)) c (read_fits c (first_value c.name pairs)), carried_fits cookies pairs)

-- ---- what is carried

pub none_first : (c : Cookie) (pairs : List (List ℕ × List ℕ)) → None ≡ first_value c.name pairs → v.Absent ≡ carried_value pairs c
none_first c pairs e = ap (λ o. optional (option_and_then (unsegment c.of) o)) e

pub none_read : (c : Cookie) (pairs : List (List ℕ × List ℕ)) (text : List ℕ) → Some text ≡ first_value c.name pairs → None ≡ unsegment c.of text → v.Absent ≡ carried_value pairs c
none_read c pairs text e f = ap optional f ∙ ap (λ o. optional (option_and_then (unsegment c.of) o)) e

pub value_read : (c : Cookie) (pairs : List (List ℕ × List ℕ)) (text : List ℕ) (x y : Value) → Some text ≡ first_value c.name pairs → Some x ≡ unsegment c.of text → y ≡ x
    → v.Present y ≡ carried_value pairs c
value_read c pairs text x y e f g = ap v.Present g ∙ ap optional f ∙ ap (λ o. optional (option_and_then (unsegment c.of) o)) e

-- a value that is found is text
found_utf8 : (o : Option (List ℕ × List ℕ)) (text : List ℕ) → Some text ≡ option_map (λ pair. pair.1) o → ((pair : List ℕ × List ℕ) → o ≡ Some pair → IsUtf8 pair.1) → IsUtf8 text
found_utf8 None text e h = cc
found_utf8 (Some pair) text e h = let same : pair.1 ≡ text = cc in subst IsUtf8 same (h pair refl)

found_or : (b : Bool) (p : List ℕ × List ℕ) (o : Option (List ℕ × List ℕ)) (pair : List ℕ × List ℕ) → (if b then Some p else o) ≡ Some pair → IsUtf8 p.1 → (o ≡ Some pair → IsUtf8 pair.1) → IsUtf8 pair.1
found_or true p o pair e h k = let same : p ≡ pair = cc in subst (λ (q : List ℕ × List ℕ). IsUtf8 q.1) same h
found_or false p o pair e h k = k e

find_utf8 : (test : List ℕ × List ℕ → Bool) (pairs : List (List ℕ × List ℕ)) → AllByRecursion (λ pair. IsUtf8 pair.1) pairs → (pair : List ℕ × List ℕ) → find test pairs ≡ Some pair → IsUtf8 pair.1
find_utf8 test [] h pair e = cc
find_utf8 test (p ∷ pairs) h pair e = found_or (test p) p (find test pairs) pair e h.0 (find_utf8 test pairs h.1 pair)

pub first_is_utf8 : (name : List ℕ) (pairs : List (List ℕ × List ℕ)) (text : List ℕ) → All (λ (pair : List ℕ × List ℕ). IsUtf8 pair.1) pairs → Some text ≡ first_value name pairs → IsUtf8 text
first_is_utf8 name pairs text h e = found_utf8 _ text e (find_utf8 _ pairs (recursion_from_All (λ (pair : List ℕ × List ℕ). IsUtf8 pair.1) pairs h))
