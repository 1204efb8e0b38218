-- The first-order function of an instance, from what is read of its key.
use Rattle.std.proofs.Common.{◌≡◌, ℕ, List, [], ◌∷◌, ◌++◌, map, length, Some, Result, Ok, Err, sym, ap, ap₂, subst, ◌∙◌}
use Rattle.std.specs.Prelude.{slice_get, IfOk, OnOk}
use Rattle.ur_base.specs.declared.refusal.Memory.{Memory}
use Rattle.ur_terms.specs.declared.term.Function.{Function}
use Rattle.ur_terms.specs.declared.term.Term.{Term}
use Rattle.ur_tree.specs.declared.typed.Typed.{Typed}
use Rattle.ur_tree.specs.declared.typed.Function as source
use Rattle.ur_source.specs.Reading.{Cons, Names, closed_type, result_type}
use Rattle.ur_source.specs.Instances.{value_params}
use Rattle.ur_unfold_static.specs.declared.node.Scope.{Scope}
use Rattle.ur_unfold_static.specs.Held.{Held, con_at}
use Rattle.ur_unfold_static.specs.Scopes.{cons_of}
use Rattle.ur_unfold_pieces.specs.declared.opening.Key.{Key}
use Rattle.ur_unfold_pieces.specs.Keys.{instance_of}
use Rattle.ur_unfold_pieces.proofs.Lists.{numbered_map}
use Rattle.ur_unfold.specs.declared.functions.Head.{Head}
use Rattle.ur_unfold.specs.declared.functions.Types.{Types}
use Rattle.ur_unfold.specs.Heads.{IsFullName, IsHeadOf, HeadAt, IsPushed}
use Rattle.ur_unfold.specs.Typing.{HasTypes, IsHead}

-- what is read under the scope of a key's constructors is what is read under those of the instance
pub typed_so : (names : Names) (held : Held) (key : Key) (scope : Scope) (function : source.Function) (r : Result Types Memory) → scope.cons ≡ key.cons → IfOk r (HasTypes names function (cons_of held scope))
    → IfOk r (HasTypes names function (instance_of held key).cons)
typed_so names held key scope function r same h = subst (λ (cons : Cons). IfOk r (HasTypes names function cons)) (ap (map (con_at held.cons)) same) h

pub has_types : (names : Names) (cons : Cons) (function : source.Function) (ts : Types) → ts.params ≡ map (closed_type names cons) (value_params function.params) → ts.runs ≡ (result_type names cons function.result).0
    → ts.result ≡ (result_type names cons function.result).1 → HasTypes names function cons ts
has_types names cons function ts params runs result = record { params = params; result = ap₂ (λ a b. (a, b)) runs result }

pub headed : (app : Typed) (function : source.Function) (cons : Cons) (h : Head) (f : Function) → IsHead app function cons h → f.name ≡ h.name → f.params ≡ h.types.params → f.result ≡ h.types.result → f.runs ≡ h.types.runs
    → IsHeadOf app function cons f
headed app function cons h f is name params result runs = record {
  name = subst (IsFullName app function) (sym name) is.0;
  params = params ∙ is.1.params;
  result = ap₂ (λ a b. (a, b)) runs result ∙ is.1.result;
}

module _ (app : Typed) (held : Held) (keys : List Key) where
  pub head_at : (number : ℕ) (key : Key) (function : source.Function) (r : Result Function Memory) → slice_get keys number ≡ Some key → slice_get app.functions key.function ≡ Some function
      → IfOk r (IsHeadOf app function (instance_of held key).cons) → IfOk r (HeadAt app (map (instance_of held) keys) number)
  head_at number key function (Ok f) there is h = record {
    instance = instance_of held key;
    function = function;
    there = numbered_map (instance_of held) keys number key there;
    is_function = is;
    head = h;
  }
  head_at number key function (Err m) there is h = tt

  pub pushed : {E : Type 0} (body : Term) (old new : List Function) (f : Function) (count : ℕ) (r : Result (Unit {0}) E) → count ≡ length old → HeadAt app (map (instance_of held) keys) count f → f.body ≡ body
      → OnOk r (new ≡ old ++ f ∷ []) → OnOk r (IsPushed app (map (instance_of held) keys) body old new)
  pushed body old new f count (Ok u) counted h b more = record {
    function = f;
    more = more;
    head = subst (λ n. HeadAt app (map (instance_of held) keys) n f) counted h;
    body_is = b;
  }
  pushed body old new f count (Err m) counted h b more = tt
