-- Refusals by their reasons.
use Rattle.std.proofs.Common.{◌≡◌, ℕ, List, Result, Ok, Err, sym, subst}
use Rattle.std.specs.Prelude.{codes, IfOk}
use Rattle.ur_base.specs.declared.refusal.Memory.{Memory}
use Rattle.ur_base.specs.declared.refusal.Stop.{Stop}
use Rattle.ur_base.specs.declared.refusal.Stop.TheVariants as stop
use Rattle.ur_base.specs.Stopping.{IfRefused, Says}
use Rattle.ur_tree.specs.declared.typed.Typed.{Typed}
use Rattle.ur_meaning.specs.Instances.{HasTooManyNodes, IsTooDeep}
use Rattle.ur_source.specs.Source.{language}
use Rattle.ur_source.specs.Instances.{IsRoot}
use Rattle.ur_meaning.specs.Working.{HasOneTooMany, most_instances, most_nodes, most_levels}
use Rattle.ur_unfold_pieces.specs.Keys.{IsOf}
use Rattle.ur_unfold.specs.Limits.{HasLargeArgument}
use Rattle.ur_unfold.specs.Unfolding as u
use Rattle.ur_unfold.specs.Unfolding.{IsNamed, ExplainsUnfolded, RefusesWith, ExplainsStop}

module _ (app : Typed) where
  pub tells_nodes : (r : Result Stop Memory) → HasTooManyNodes (language app) (IsRoot app) most_nodes → IfOk r (RefusesWith 18 (codes "nodes") (codes "1000000")) → IfOk r (ExplainsStop app)
  tells_nodes (Ok s) h t = subst (ExplainsStop app) (sym t.1) (u.nodes t.2 h)
  tells_nodes (Err m) h t = tt

  pub tells_argument : (r : Result Stop Memory) → HasLargeArgument app → IfOk r (RefusesWith 18 (codes "nodes") (codes "1000000")) → IfOk r (ExplainsStop app)
  tells_argument (Ok s) h t = subst (ExplainsStop app) (sym t.1) (u.argument t.2 h)
  tells_argument (Err m) h t = tt

  pub tells_nesting : (r : Result Stop Memory) → IsTooDeep (language app) (IsRoot app) most_levels → IfOk r (RefusesWith 18 (codes "nesting") (codes "1024")) → IfOk r (ExplainsStop app)
  tells_nesting (Ok s) h t = subst (ExplainsStop app) (sym t.1) (u.nesting t.2 h)
  tells_nesting (Err m) h t = tt

  pub refuses_named : (function : ℕ) (left : List ℕ) (r : Result Stop Memory) → IsNamed app function left → IfOk r (RefusesWith 17 left (codes "4096")) → IfOk r (λ s. (left : List ℕ) × IsNamed app function left × RefusesWith 17 left (codes "4096") s)
  refuses_named function left (Ok s) n t = (left, n, t)
  refuses_named function left (Err m) n t = tt

  many : (s : Stop) (function : ℕ) (left : List ℕ) → HasOneTooMany (language app) (IsRoot app) most_instances IsOf function → IsNamed app function left → RefusesWith 17 left (codes "4096") s → ExplainsStop app s
  many s function left h n t =
      let same : t.0.left ≡ left = t.2.1 in
      let named : IsNamed app h.instance.function left = subst (λ j. IsNamed app j left) (sym h.is_named) n in
      subst (ExplainsStop app) (sym t.1)
      (u.many h.instance h.too_many (subst (IsNamed app h.instance.function) (sym same) named) (subst (λ l. Says t.0 17 l (codes "4096")) (sym same) t.2))

  pub tells_many : (function : ℕ) (r : Result Stop Memory) → HasOneTooMany (language app) (IsRoot app) most_instances IsOf function → IfOk r (λ s. (left : List ℕ) × IsNamed app function left × RefusesWith 17 left (codes "4096") s) → IfOk r (ExplainsStop app)
  tells_many function (Ok s) h t = many s function t.0 h t.1 t.2
  tells_many function (Err m) h t = tt

  pub stopped : (A : Type 0) (s : Stop) → ExplainsStop app s → IfRefused {A = A} (Err s) (ExplainsUnfolded app)
  stopped A (stop.Refused r) h = h
  stopped A stop.Memory h = tt
