-- What the functions promise that type what is spliced into a literal of XML.
use Rattle.std.specs.Prelude.{◌≡◌, ℕ, List, [], Option, Some, None, option_and_then}
use Rattle.ur_base.specs.declared.refusal.Refusal.{Refusal}
use Rattle.ur_syntax.specs.declared.exp.ExpForm.{ExpForm}
use Rattle.ur_rows.specs.declared.normal.NormalType.{NormalType}
use Rattle.ur_tree.specs.declared.exp.Markup.TheVariants as markup
use Rattle.ur_tree.specs.Places.{Place, fields_found}
use Rattle.ur_tree.specs.Text.{type_text}
use Rattle.ur_xmltype.specs.Faults.{IsMisplaced}
use Rattle.ur_xmltype.specs.Literal.{Asked, decides, asks}
use Rattle.ur_typed_rules.specs.Scopes.{World, Scope, Mode, finds, wants}
use Rattle.ur_typed.specs.Rules.{Sites, Out, Walk, then_}
use Rattle.ur_typed.specs.Markups.{Marked, one_mark}
use Rattle.ur_typed.specs.Walking.{typed}
use Rattle.ur_typed.specs.Causes.{HasFault}
use Rattle.ur_check_scopes.specs.declared.around.Around.{Around}
use Rattle.ur_check_scopes.specs.Views.{Stands}
use Rattle.ur_check_rules.specs.declared.out.Sites.{Sites as HeldSites}
use Rattle.ur_check_rules.specs.Views.{sites_in}
use Rattle.ur_check_forms.specs.declared.marked.Marked.{Marked as HeldMarked}
use Rattle.ur_check_forms.specs.Views.{marked_with}

-- what is wanted of a splice of which this is asked
abbrev pub asked_mode : Asked → Mode
asked_mode decides = finds
asked_mode (asks t) = wants t

-- what a splice gives of which this is asked
abbrev pub asked_out : Scope → Sites → Walk → Asked → Option Marked
asked_out s st a decides = then_ (a s st finds) (λ o. option_and_then (λ r. one_mark r [] (markup.Splice o.exp) o.sites) (fields_found o.of))
asked_out s st a (asks t) = then_ (a s st (wants t)) (λ o. one_mark [] [] (markup.Splice o.exp) o.sites)

abbrev pub GivesAsked : Around → HeldSites → ExpForm → Asked → HeldMarked → HeldSites → Type 0
GivesAsked a before x k d after = (w : World) (s : Scope) → Stands a w s → asked_out s (sites_in before) (typed w x) k ≡ Some (marked_with d (sites_in after))

-- a fault of a splice itself, or no fields are found of it where its type decides
pub data AskedFault (names : List (List ℕ)) (w : World) (s : Scope) (p : Place) (x : ExpForm) (st : Sites) (r : Refusal) : Asked → Type 0 where
  in_splice : {k : Asked} → HasFault names w s st x (asked_mode k) r → AskedFault names w s p x st r k
  no_fields : (o : Out) → typed w x s st finds ≡ Some o → fields_found o.of ≡ None → IsMisplaced r (type_text names o.of) p → AskedFault names w s p x st r decides

abbrev pub TellsAsked : Around → HeldSites → Place → ExpForm → Asked → Refusal → Type 0
TellsAsked a before p x k r = (w : World) (s : Scope) → Stands a w s → AskedFault a.world.now.datatype_names w s p x (sites_in before) r k
