-- What a label stands for.
use Rattle.std.proofs.Common.{◌≡◌, ℕ, zero, suc, List, [], ◌∷◌, ◌++◌, map, Bool, true, false, ◌&&◌, Option, None, Some, option_map, refl, sym, ap, ◌∙◌}
use Rattle.std.specs.Prelude.{slice_get, position, bytes_eq, unwrap_or}
use Rattle.ur_base.specs.declared.names.Name.{Name}
use Rattle.std.proofs.lemmas.Option.{slice_get-map}
use Rattle.ur_rows.specs.declared.normal.Var.TheVariants as var
use Rattle.ur_rows.specs.declared.normal.Label.{Label}
use Rattle.ur_rows.specs.declared.normal.Label.TheVariants as label
use Rattle.ur_rows.specs.declared.normal.Normal.{Normal}
use Rattle.ur_rows.specs.declared.normal.Normal.TheVariants as normal
use Rattle.ur_rows.specs.Made.{unit}
use Rattle.ur_rows.specs.IsNormal.{is_normal}
use Rattle.ur_rows.specs.Put.{as_label, instance}
use Rattle.ur_rows_normal.specs.Arguments.{are_normal}
use Rattle.ur_source.specs.Items.{text_of}
use Rattle.ur_source.specs.Reading.{Names, Cons, number_of, number_or_first}
use Rattle.ur_unfold_static.specs.Held.{con_at}
use Rattle.ur_unfold_pieces.specs.Labels.{text_in, text_of_con}
use Rattle.ur_unfold_pieces.specs.Reading.{numbered}

pub label-Literal : (cs : Cons) (a : List ℕ) → text_of (as_label (instance cs (normal.Name (label.Literal a)))) ≡ Some a
label-Literal cs a = refl

pub label-Free : (cs : Cons) (n : ℕ) → text_of (as_label (instance cs (normal.Name (label.Variable (var.Free n))))) ≡ text_in (slice_get cs n)
label-Free [] n = refl
label-Free (c ∷ cs) zero = refl
label-Free (c ∷ cs) (suc n) = label-Free cs n

pub label-Bound : (cs : Cons) (i : ℕ) → text_of (as_label (instance cs (normal.Name (label.Variable (var.Bound i))))) ≡ None
label-Bound cs i = refl

-- ---- the name at a number

pub no_number : (cons : Cons) (js : List ℕ) (n : ℕ) → slice_get js n ≡ None → text_in (slice_get (map (con_at cons) js) n) ≡ Some []
no_number cons js n e = ap text_in (slice_get-map (con_at cons) js n ∙ ap (option_map (con_at cons)) e)

pub con_past : (cons : Cons) (j : ℕ) → slice_get cons j ≡ None → con_at cons j ≡ normal.Type unit
con_past [] j e = refl
con_past (c ∷ cons) zero e = absurd (cc)
con_past (c ∷ cons) (suc j) e = con_past cons j e

pub con_there : (cons : Cons) (j : ℕ) (c : Normal) → slice_get cons j ≡ Some c → con_at cons j ≡ c
con_there [] j c e = absurd (cc)
con_there (d ∷ cons) zero c e = cc
con_there (d ∷ cons) (suc j) c e = con_there cons j c e

pub name_past : (cons : Cons) (js : List ℕ) (n j : ℕ) → slice_get js n ≡ Some j → slice_get cons j ≡ None → text_in (slice_get (map (con_at cons) js) n) ≡ Some []
name_past cons js n j e h = ap text_in (slice_get-map (con_at cons) js n ∙ ap (option_map (con_at cons)) e) ∙ ap text_of_con (con_past cons j h)

pub name_there : (cons : Cons) (js : List ℕ) (n j : ℕ) (c : Normal) → slice_get js n ≡ Some j → slice_get cons j ≡ Some c → text_in (slice_get (map (con_at cons) js) n) ≡ text_of_con c
name_there cons js n j c e h = ap text_in (slice_get-map (con_at cons) js n ∙ ap (option_map (con_at cons)) e) ∙ ap text_of_con (con_there cons j c h)

-- ---- numbers of names

pub number-None : (names : Names) (l : Label) → text_of l ≡ None → number_of names l ≡ None
number-None names (label.Literal a) e = absurd (cc)
number-None names (label.Variable v) e = refl

pub number-Some : (names : Names) (l : Label) (a : List ℕ) → text_of l ≡ Some a → number_of names l ≡ option_map numbered (position (λ n. bytes_eq n a) names)
number-Some names (label.Literal b) a e = ap (λ t. option_map numbered (position (λ n. bytes_eq n t) names)) (same b a e)
  where
    same : (b a : List ℕ) → Some b ≡ Some a → b ≡ a
    same b a e = cc
number-Some names (label.Variable v) a e = absurd (cc)

-- ---- all in order

pub one_more : (args : List Normal) (x : Normal) → are_normal args ≡ true → is_normal x ≡ true → are_normal (args ++ x ∷ []) ≡ true
one_more [] x a h = both (is_normal x) true h refl
  where
    both : (a b : Bool) → a ≡ true → b ≡ true → (a && b) ≡ true
    both a b p q = rw (p, q) refl
one_more (y ∷ args) x a h = both (is_normal y) (are_normal args) (are_normal (args ++ x ∷ [])) a (λ k. one_more args x k h)
  where
    both : (a b c : Bool) → (a && b) ≡ true → (b ≡ true → c ≡ true) → (a && c) ≡ true
    both true true c p f = f refl
    both true false c p f = cc
    both false b c p f = cc

pub or_first : (names : Names) (l : Label) (a : List ℕ) (n : Option Name) → l ≡ label.Literal a → n ≡ option_map numbered (position (λ t. bytes_eq t a) names) → number_or_first names l ≡ unwrap_or n (numbered 0)
or_first names l a n e h = ap (number_or_first names) e ∙ ap (λ (m : Option Name). unwrap_or m (numbered 0)) (sym h)
