-- Lists of which each element gives a few, all of which have values.
use Rattle.std.proofs.Common.{◌≡◌, ◌∙◌, sym, ap, ℕ, ◌+◌, ◌<◌, ◌≤◌, List, [], ◌∷◌, ◌++◌, length, drop, get_or, Option, Some, None, append-nil}
use Rattle.std.specs.List.{flat_map}
use Rattle.std.proofs.Math.ListN.{drop_of_length-le}
use Rattle.ur_sqltype.specs.Lists.{and_then, all_of, behind}
use Rattle.ur_sqltype.proofs.SqltableValues.{split, behind_more}

pub some_is : {A : Type 0} {x y : A} → Some x ≡ Some y → x ≡ y
some_is e = cc

pub none_is : {A C : Type 0} {x : A} → None ≡ Some x → C
none_is e = absurd (cc)

one_value : {B : Type 0} (done more : List B) (m : Option B) (o p q : Option (List B)) → ((b : B) → behind (done ++ b ∷ []) o ≡ Some more → behind (done ++ b ∷ []) p ≡ q)
    → behind done (and_then m o) ≡ Some more → behind done (and_then m p) ≡ q
one_value done more None o p q h e = none_is e
one_value done more (Some b) o p q h e = behind_more done b p ∙ h b (sym (behind_more done b o) ∙ e)

-- what is there of the front stands before what is there of the rest
pub behind-all : {A B : Type 0} (f : A → Option B) (done more : List B) (xs ys : List A) → behind done (all_of f xs) ≡ Some more → behind done (all_of f (xs ++ ys)) ≡ behind more (all_of f ys)
behind-all f done more [] ys e = ap (λ d. behind d (all_of f ys)) (sym (append-nil done) ∙ some_is e)
behind-all f done more (x ∷ xs) ys e = one_value done more (f x) (all_of f xs) (all_of f (xs ++ ys)) (behind more (all_of f ys)) (λ b h. behind-all f (done ++ b ∷ []) more xs ys h) e

-- one element more
pub flat-more : {X A B : Type 0} (f : A → Option B) (g : X → List A) (xs : List X) (i : ℕ) (x : X) (done more : List B) → i < length xs → x ≡ get_or xs i x → behind done (all_of f (g x)) ≡ Some more
    → all_of f (flat_map g xs) ≡ behind done (all_of f (flat_map g (drop i xs))) → all_of f (flat_map g xs) ≡ behind more (all_of f (flat_map g (drop (i + 1) xs)))
flat-more f g xs i x done more below at step so_far =
    so_far ∙ ap (λ z. behind done (all_of f (flat_map g z))) (split xs i x below at) ∙ behind-all f done more (g x) (flat_map g (drop (i + 1) xs)) step

-- no element is left
pub flat-end : {X A B : Type 0} (f : A → Option B) (g : X → List A) (xs : List X) (i : ℕ) (done : List B) → length xs ≤ i
    → all_of f (flat_map g xs) ≡ behind done (all_of f (flat_map g (drop i xs))) → all_of f (flat_map g xs) ≡ Some done
flat-end f g xs i done past so_far = so_far ∙ ap (λ z. behind done (all_of f (flat_map g z))) (drop_of_length-le xs past) ∙ ap Some (append-nil done)
