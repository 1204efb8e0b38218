-- Numbers of constructors that a loop makes.
use Rattle.std.proofs.Common.{◌≡◌, ◌<◌, ◌≤◌, ℕ, ◌+◌, List, [], ◌∷◌, ◌++◌, map, length, drop, get_or, slice_get, Some, option_map, Result, Ok, Err, IsErrAnd, refl, sym, ap, subst, ◌∙◌}
use Rattle.std.proofs.lemmas.Option.{slice_get-map, slice_get_read}
use Rattle.ur_rows.specs.declared.normal.Normal.{Normal}
use Rattle.ur_rows.specs.Nodes.{most_nodes, nodes}
use Rattle.ur_rows.specs.Put.{instance}
use Rattle.ur_rows_reduce.specs.declared.count.Halt.{Halt}
use Rattle.ur_rows_reduce.specs.declared.count.Halt.TheVariants as halt
use Rattle.ur_source.specs.Reading.{Cons}
use Rattle.ur_unfold_static.specs.Held.{Held, Grows}
use Rattle.ur_unfold_static.specs.Scopes.{IsAt, AreAt}
use Rattle.ur_unfold_static.proofs.Laws.{grows_so, grows_then}
use Rattle.ur_unfold_static.proofs.Standing.{are_more, cons_grown}
use Rattle.ur_unfold_pieces.specs.Sizes.{SomeLarge}
use Rattle.ur_unfold_pieces.proofs.Values.{map_more, map_end}

abbrev pub NumberedTo : Held → Held → Cons → List Normal → ℕ → List ℕ → Type 0
NumberedTo init held args all i js = ((ms : Cons) × AreAt held.cons js ms × (ms ++ map (instance args) (drop i all) ≡ map (instance args) all)) × Grows init held

from_none : {A B : Type 0} (f : A → B) (all : List A) → [] ++ map f (drop 0 all) ≡ map f all
from_none f [] = refl
from_none f (x ∷ all) = refl

pub numbered_from : (held : Held) (args : Cons) (all : List Normal) (js : List ℕ) → js ≡ [] → NumberedTo held held args all 0 js
numbered_from held args all js e = (([], subst (λ (l : List ℕ). AreAt held.cons l []) (sym e) tt, from_none (instance args) all), grows_so held)

pub numbered_more : (init mid new : Held) (args : Cons) (all : List Normal) (i : ℕ) (d : Normal) (js ks : List ℕ) (j : ℕ) → i < length all → d ≡ get_or all i d → NumberedTo init mid args all i js → Grows mid new
    → IsAt new.cons j (instance args d) → ks ≡ js ++ j ∷ [] → NumberedTo init new args all (i + 1) ks
numbered_more init mid new args all i d js ks j h e n g at k =
    let y = instance args d in
    let ms = n.0.0 in (
      (
        ms ++ y ∷ [],
        subst (λ (l : List ℕ). AreAt new.cons l (ms ++ y ∷ [])) (sym k) (are_more new.cons js (j ∷ []) ms (y ∷ []) (cons_grown mid new g js ms n.0.1) (at, tt)),
        map_more (instance args) all i d y ms (ms ++ y ∷ []) h (ap (instance args) e) n.0.2 refl,
      ),
      grows_then init mid new n.1 g,
    )

pub numbered_end : (init mid : Held) (args : Cons) (cons all : List Normal) (i : ℕ) (js : List ℕ) → all ≡ cons → length all ≤ i → NumberedTo init mid args all i js → AreAt mid.cons js (map (instance args) cons)
numbered_end init mid args cons all i js s h n = subst (AreAt mid.cons js) (map_end (instance args) cons all i n.0.0 s h n.0.2) n.0.1

pub one_large : (args : Cons) (cons all : List Normal) (i : ℕ) (d : Normal) → all ≡ cons → i < length all → d ≡ get_or all i d → most_nodes < nodes (instance args d) → SomeLarge (map (instance args) cons)
one_large args cons all i d s h e more =
    let at : slice_get all i ≡ Some d = slice_get_read all (length all) i d refl h e in
    record { place = i; con = instance args d; there = slice_get-map (instance args) cons i ∙ ap (option_map (instance args)) (subst (λ (l : List Normal). slice_get l i ≡ Some d) s at); more = more }

pub halt_is : {A : Type 0} (h k : Halt) → ◌≡◌ {A = Result A Halt} (Err h) (Err k) → h ≡ k
halt_is h k e = cc

pub over_exit : {A P : Type 0} (r : Result A Halt) (h : Halt) → IsErrAnd r (λ e. e ≡ h) → (h ≡ halt.TooLarge → P) → r ≡ Err halt.TooLarge → P
over_exit (Ok x) h q go e = absurd q
over_exit (Err y) h q go e = go (cc)
