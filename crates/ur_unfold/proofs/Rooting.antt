-- Instances by the roots of the source.
use Rattle.std.proofs.Common.{◌≡◌, ℕ, List, Result, Ok, Err, refl, subst}
use Rattle.ur_terms.specs.declared.term.Term.{Term}
use Rattle.ur_tree.specs.declared.typed.Typed.{Typed}
use Rattle.ur_tree.specs.declared.closed.Instance.{Instance}
use Rattle.ur_meaning.specs.Form.{Language}
use Rattle.ur_meaning.specs.Instances as n
use Rattle.ur_meaning.specs.Instances.{Different, IsInstance, IsNumbered, AreInstances, Weighed, HasTooManyNodes, IsTooDeep}
use Rattle.ur_source.specs.Items.{Item}
use Rattle.ur_source.specs.Source.{language}
use Rattle.ur_source.specs.Instances.{IsRoot}
use Rattle.ur_meaning.specs.declared.halt.Halt.{Halt}
use Rattle.ur_meaning.specs.declared.halt.Halt.TheVariants as halt
use Rattle.ur_meaning.specs.Working.{IsOneTooMany, HasOneTooMany, HasLarge, Ends, AllUnfolded, AreUnfolded, most_instances, most_nodes, most_levels}
use Rattle.ur_unfold_pieces.specs.Keys.{IsOf}
use Rattle.ur_unfold_pieces.specs.Standing as pieces
use Rattle.ur_unfold_pieces.specs.declared.opening.Opening.{Opening}
use Rattle.ur_unfold_pieces.specs.Standing.{AreRoots, IsWhole, instances_in}
use Rattle.ur_unfold_pieces.proofs.Lists.{all_so}
use Rattle.ur_unfold_pieces.proofs.PiecesNumbered.{instances_differ}
use Rattle.ur_unfold.specs.Limits.{IsLarge}
use Rattle.ur_unfold.specs.Unfolding.{EndsAs}
use Rattle.ur_unfold.specs.Making.{AreTerms, Ended}

same_language : (app : Typed) → pieces.language app ≡ language app
unfolding pieces.language
same_language app = refl

module _ {I K : Type 0} (p : Language I K) (R S : K → Type 0) (to : (k : K) → R k → S k) where
  instance_to : (k : K) → IsInstance p R k → IsInstance p S k
  instance_to _ (n.root k r) = n.root k (to k r)
  instance_to _ (n.called k l body h b c) = n.called k l body (instance_to k h) b c

  weighed_to : (b : K × ℕ) → Weighed p R b.0 b.1 → Weighed p S b.0 b.1
  weighed_to b w = record { is_instance = instance_to b.0 w.is_instance; body = w.body; is_body = w.is_body; nodes = w.nodes }

  one_to : (most : ℕ) (k : K) → IsOneTooMany p R most k → IsOneTooMany p S most k
  one_to most k t = record {
    is_instance = instance_to k t.is_instance;
    others = t.others;
    are = all_so (IsInstance p R) (IsInstance p S) t.others instance_to t.are;
    different = t.different;
    so_many = t.so_many;
    no_other = t.no_other;
  }

  many_to : (most : ℕ) (named : ℕ → K → Type 0) (name : ℕ) → HasOneTooMany p R most named name → HasOneTooMany p S most named name
  many_to most named name t = record { instance = t.instance; is_named = t.is_named; too_many = one_to most t.instance t.too_many }

  nodes_to : (most : ℕ) → HasTooManyNodes p R most → HasTooManyNodes p S most
  nodes_to most t = record {
    some_of = t.some_of;
    different = t.different;
    are = all_so (λ b. Weighed p R b.0 b.1) (λ b. Weighed p S b.0 b.1) t.some_of weighed_to t.are;
    too_many = t.too_many;
  }

  deep_to : (most : ℕ) → IsTooDeep p R most → IsTooDeep p S most
  deep_to most t = record {
    instance = t.instance;
    body = t.body;
    nesting = t.nesting;
    is_instance = instance_to t.instance t.is_instance;
    is_body = t.is_body;
    nests = t.nests;
    too_deep = t.too_deep;
  }

  large_to : (large : K → Type 0) → HasLarge p R large → HasLarge p S large
  large_to large t = record { instance = t.instance; is_instance = instance_to t.instance t.is_instance; is_large = t.is_large }

are_to : {I K : Type 0} (p : Language I K) (R S : K → Type 0) (instances : List K) → ((k : K) → R k → S k) → ((k : K) → S k → R k) → AreInstances p R instances → AreInstances p S instances
are_to p R S instances to from are = record {
  different = are.different;
  only = λ j k e. instance_to p R S to k (are.only j k e);
  all = λ k h. are.all k (instance_to p S R from k h);
}

module _ (app : Typed) (roots : List Instance) (r : AreRoots app roots) where
  root_is : (k : Instance) → IsNumbered roots k → IsRoot app k
  root_is k h = (r.are k).1 h

  ends_by : (h : Halt) → Ends (language app) IsLarge IsOf roots h → EndsAs app h
  ends_by halt.Nodes e = nodes_to (language app) (IsNumbered roots) (IsRoot app) root_is most_nodes e
  ends_by halt.Nesting e = deep_to (language app) (IsNumbered roots) (IsRoot app) root_is most_levels e
  ends_by (halt.Instances name) e = many_to (language app) (IsNumbered roots) (IsRoot app) root_is most_instances IsOf name e
  ends_by halt.Large e = large_to (language app) (IsNumbered roots) (IsRoot app) root_is IsLarge e
  ends_by halt.Memory e = tt

  pub ends_as : (h : Halt) → Ends (pieces.language app) IsLarge IsOf roots h → EndsAs app h
  ends_as h e = ends_by h (subst (λ (p : Language Item Instance). Ends p IsLarge IsOf roots h) (same_language app) e)

  terms_by : (instances : List Instance) (bodies : List Term) → AllUnfolded (language app) roots instances bodies → AreTerms app instances bodies
  terms_by instances bodies a = record {
    are = are_to (language app) (IsNumbered roots) (IsRoot app) instances root_is (λ k h. (r.are k).0 h) a.are;
    unfolded = a.unfolded;
    few = a.few;
    nodes = a.nodes;
    within = a.within;
  }

  pub terms_are : (instances : List Instance) (bodies : List Term) → AllUnfolded (pieces.language app) roots instances bodies → AreTerms app instances bodies
  terms_are instances bodies a = terms_by instances bodies (subst (λ (p : Language Item Instance). AllUnfolded p roots instances bodies) (same_language app) a)

  ended_by : (instances : List Instance) (r : Result (List Term) Halt) → AreUnfolded (pieces.language app) IsLarge IsOf roots instances r → Ended app instances r
  ended_by instances (Ok bodies) a = terms_are instances bodies a
  ended_by instances (Err h) e = ends_as h e

-- what the work list says of the terms of a source
pub ended : (app : Typed) (of : Opening) (instances : List Instance) (r : Result (List Term) Halt) → of.typed.now ≡ app → IsWhole of → AreRoots app (instances_in of) → Different of.closing.cons → Different of.closing.statics
    → (IsWhole of → Different (instances_in of) → AreUnfolded (pieces.language of.typed.now) IsLarge IsOf (instances_in of) instances r) → Ended app instances r
ended app of instances r same whole roots cons statics made =
    ended_by app (instances_in of) roots instances r
    (subst (λ (app : Typed). AreUnfolded (pieces.language app) IsLarge IsOf (instances_in of) instances r) same (made whole (instances_differ of.closing cons statics of.instances.keys whole.keys whole.once)))
