-- What is held stays sound as the lists grow.
use Rattle.std.proofs.Common.{◌≡◌, ◌≤◌, ℕ, zero, suc, ◌+◌, List, [], ◌∷◌, ◌++◌, length, None, Some, refl, sym, ap, subst, ◌∙◌, arith, append-nil}
use Rattle.std.specs.Prelude.{slice_get}
use Rattle.std.proofs.lemmas.Option.{slice_get_past}
use Rattle.ur_rows.specs.declared.normal.Normal.{Normal}
use Rattle.ur_rows.specs.declared.normal.Normal.TheVariants as normal
use Rattle.ur_rows.specs.Made.{unit}
use Rattle.ur_meaning.specs.Instances.{Different}
use Rattle.ur_unfold_static.specs.declared.node.Node.{Node}
use Rattle.ur_unfold_static.specs.declared.node.Node.TheVariants as node
use Rattle.ur_unfold_static.specs.Held.{Held, Written, static_of_node, with_static, held_from, NodeFits, Rises, Grows}
use Rattle.ur_unfold_static.specs.Lists.{IsAbsent, most_entries}
use Rattle.ur_unfold_static.specs.Scopes.{IsAt}
use Rattle.ur_unfold_static.specs.Closing.{at_first, statics_by, held_by, IsSound}
use Rattle.ur_unfold_static.proofs.Laws.{from_more, from_length, rises_more, node_at, Widens, widens_grows, from_wider}
use Rattle.ur_unfold_static.proofs.Differ.{last_differs, statics_differ, none_new}

from_is : (held : Held) (ns : List Node) → held_from held ns ≡ record { cons = held.cons; lambdas = held.lambdas; statics = (held_from held ns).statics }
from_is held [] = refl
from_is held (n ∷ ns) = from_is (with_static held (static_of_node held n)) ns

by_is : (cons : List Normal) (lambdas : List Written) (ns : List Node) → held_from (at_first cons lambdas) ns ≡ held_by cons lambdas ns
by_is cons lambdas ns = from_is (at_first cons lambdas) ns

-- ---- lists

pub first_stays : {A : Type 0} (xs ys : List A) (x : A) → IsAt xs 0 x → IsAt (xs ++ ys) 0 x
first_stays [] ys x e = absurd (cc)
first_stays (y ∷ xs) ys x e = e

pub statics_length : (cons : List Normal) (lambdas : List Written) (ns : List Node) → length (statics_by cons lambdas ns) ≡ length ns
statics_length cons lambdas ns = omega (arith, from_length (at_first cons lambdas) ns)

past : {A : Type 0} (xs : List A) (j : ℕ) → slice_get xs j ≡ None → length xs ≤ j
past [] j e = omega arith
past (x ∷ xs) zero e = absurd (cc)
past (x ∷ xs) (suc j) e = omega (arith, past xs j e)

-- ---- the beginning

pub sound_first : IsSound (normal.Type unit ∷ []) [] (node.Record [] ∷ [])
sound_first = record {
  different_cons = (tt, tt);
  different_lambdas = tt;
  different_nodes = (tt, tt);
  rises = (tt, tt);
  first_con = refl;
  first_node = refl;
  few_cons = omega arith;
  few_lambdas = omega arith;
  few_nodes = omega arith;
}

-- ---- what a node with a number is

pub held_node : (cons : List Normal) (lambdas : List Written) (ns : List Node) → Rises (at_first cons lambdas) ns → (j : ℕ) (n : Node) → IsAt ns j n
    → NodeFits (held_by cons lambdas ns) n × IsAt (statics_by cons lambdas ns) j (static_of_node (held_by cons lambdas ns) n)
held_node cons lambdas ns r j n e =
    let both = node_at (at_first cons lambdas) ns r j n e in
    let place : 0 + j ≡ j = omega arith in
    subst (λ held. NodeFits held n × (slice_get (statics_by cons lambdas ns) j ≡ Some (static_of_node held n))) (by_is cons lambdas ns)
    (both.1, subst (λ k. slice_get (statics_by cons lambdas ns) k ≡ Some (static_of_node (held_from (at_first cons lambdas) ns) n)) place both.0)

pub no_node : (cons : List Normal) (lambdas : List Written) (ns : List Node) (j : ℕ) → slice_get ns j ≡ None → slice_get (statics_by cons lambdas ns) j ≡ None
no_node cons lambdas ns j e = slice_get_past (statics_by cons lambdas ns) j (omega (arith, past ns j e, statics_length cons lambdas ns))

pub statics_once : (cons : List Normal) (lambdas : List Written) (ns : List Node) → IsSound cons lambdas ns → Different (statics_by cons lambdas ns)
statics_once cons lambdas ns s = statics_differ (at_first cons lambdas) [] ns s.different_cons s.different_lambdas tt tt s.rises s.different_nodes (none_new ns)

-- ---- more constructors and lambdas

module _ (cons more_cons new_cons : List Normal) (lambdas more_lambdas new_lambdas : List Written) (ns : List Node)
    (c : new_cons ≡ cons ++ more_cons) (l : new_lambdas ≡ lambdas ++ more_lambdas) (s : IsSound cons lambdas ns) where
  wider : Widens (held_from (at_first cons lambdas) ns) (held_from (at_first new_cons new_lambdas) ns) × Rises (at_first new_cons new_lambdas) ns
  wider = from_wider ns (at_first cons lambdas) (at_first new_cons new_lambdas) (record { cons = more_cons; lambdas = more_lambdas; more_cons = c; more_lambdas = l; same = refl }) s.rises

  pub wider_grows : Grows (held_by cons lambdas ns) (held_by new_cons new_lambdas ns)
  wider_grows =
      subst (λ held. Grows held (held_by new_cons new_lambdas ns)) (by_is cons lambdas ns)
      (subst (λ held. Grows (held_from (at_first cons lambdas) ns) held) (by_is new_cons new_lambdas ns)
      (widens_grows (held_from (at_first cons lambdas) ns) (held_from (at_first new_cons new_lambdas) ns) wider.0))

  pub wider_sound : Different new_cons → Different new_lambdas → length new_cons ≤ most_entries → length new_lambdas ≤ most_entries → IsSound new_cons new_lambdas ns
  wider_sound dc dl fc fl = record {
    different_cons = dc;
    different_lambdas = dl;
    different_nodes = s.different_nodes;
    rises = wider.1;
    first_con = subst (λ xs. IsAt xs 0 (normal.Type unit)) (sym c) (first_stays cons more_cons (normal.Type unit) s.first_con);
    first_node = s.first_node;
    few_cons = fc;
    few_lambdas = fl;
    few_nodes = s.few_nodes;
  }

-- ---- one node more

module _ (cons : List Normal) (lambdas : List Written) (ns new : List Node) (n : Node) (e : new ≡ ns ++ n ∷ []) (s : IsSound cons lambdas ns) where
  pub more_grows : Grows (held_by cons lambdas ns) (held_by cons lambdas new)
  more_grows = record {
    cons = [];
    lambdas = [];
    statics = static_of_node (held_from (at_first cons lambdas) ns) n ∷ [];
    more_cons = sym (append-nil cons);
    more_lambdas = sym (append-nil lambdas);
    more_statics = ap (statics_by cons lambdas) e ∙ ap (λ held. held.statics) (from_more (at_first cons lambdas) ns n);
  }

  pub more_sound : IsAbsent ns n → NodeFits (held_by cons lambdas ns) n → length new ≤ most_entries → IsSound cons lambdas new
  more_sound a f few = record {
    different_cons = s.different_cons;
    different_lambdas = s.different_lambdas;
    different_nodes = subst Different (sym e) (last_differs ns n s.different_nodes a);
    rises = subst (Rises (at_first cons lambdas)) (sym e) (rises_more (at_first cons lambdas) ns n s.rises (subst (λ held. NodeFits held n) (sym (by_is cons lambdas ns)) f));
    first_con = s.first_con;
    first_node = subst (λ xs. IsAt xs 0 (node.Record [])) (sym e) (first_stays ns (n ∷ []) (node.Record []) s.first_node);
    few_cons = s.few_cons;
    few_lambdas = s.few_lambdas;
    few_nodes = few;
  }
