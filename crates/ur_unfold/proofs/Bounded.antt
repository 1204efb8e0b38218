-- That no limit is exceeded.
use Rattle.std.proofs.Common.{◌≡◌, ◌≤◌, ◌+◌, ℕ, zero, suc, List, [], ◌∷◌, map, Some, refl, sym, ap, subst}
use Rattle.std.specs.Prelude.{slice_get}
use Rattle.ur_terms.specs.declared.term.Function.{Function}
use Rattle.ur_terms.specs.Shape.{nodes, depth}
use Rattle.ur_tree.specs.declared.typed.Typed.{Typed}
use Rattle.ur_tree.specs.declared.closed.Instance.{Instance}
use Rattle.ur_meaning.specs.Unfolds.{Unfolds, AreBodies}
use Rattle.ur_meaning.specs.Instances.{IsNumbered}
use Rattle.ur_meaning.proofs.Small.{all_nodes, not_too_large, not_too_deep, not_too_many}
use Rattle.ur_source.specs.Source.{language}
use Rattle.ur_source.specs.Instances.{IsRoot}
use Rattle.ur_meaning.specs.Making.{list_nodes, AreWithin}
use Rattle.ur_meaning.specs.Working.{Unfolded, most_instances, most_nodes, most_levels}
use Rattle.ur_meaning.proofs.Going.{zip_at}
use Rattle.ur_unfold_pieces.proofs.Lists.{of_map, the_same}
use Rattle.ur_unfold.specs.Limits.{IsLarge, IsSmall}
use Rattle.ur_unfold.specs.Making.{AreTerms}

nodes_are : (fs : List Function) → all_nodes fs ≡ list_nodes (map (λ f. f.body) fs)
nodes_are [] = refl
nodes_are (f ∷ fs) = ap (λ m. nodes f.body + m) (nodes_are fs)

depths_are : (levels : ℕ) (fs : List Function) → AreWithin levels (map (λ f. f.body) fs) → (j : ℕ) (f : Function) → slice_get fs j ≡ Some f → depth f.body ≤ levels
depths_are levels [] w j f e = absurd (cc)
depths_are levels (g ∷ fs) w zero f e = subst (λ (h : Function). depth h.body ≤ levels) (the_same g f e) w.0
depths_are levels (g ∷ fs) w (suc j) f e = depths_are levels fs w.1 j f e

module _ (app : Typed) (instances : List Instance) (fs : List Function) (t : AreTerms app instances (map (λ f. f.body) fs)) where
  bodies : AreBodies (language app) instances fs
  bodies j k e =
      let at = zip_at (Unfolded (language app) instances) instances (map (λ f. f.body) fs) j k t.unfolded e in
      let f = of_map (λ (f : Function). f.body) fs j at.0 at.1 in
      record {
        function = f.0;
        body = at.2.body;
        is_function = f.1;
        is_body = at.2.is_body;
        unfolds = subst (λ a. Unfolds (language app) instances at.2.body a) f.2 at.2.unfolds;
      }

  pub is_small : ((k : Instance) → IsNumbered instances k → ¬ (IsLarge k)) → IsSmall app
  is_small small = record {
    few = not_too_many (language app) (IsRoot app) instances t.are most_instances t.few;
    nodes = not_too_large (language app) (IsRoot app) instances fs t.are bodies most_nodes (subst (λ m. m ≤ most_nodes) (sym (nodes_are fs)) t.nodes);
    arguments = λ h. small h.instance (t.are.all h.instance h.is_instance) h.is_large;
    flat = not_too_deep (language app) (IsRoot app) instances fs t.are bodies most_levels (depths_are most_levels fs t.within);
  }
