-- A term is what it is one level deep, and what never form fits gets stuck.
use Rattle.std.proofs.Common.{◌≡◌, ℕ, List, [], None, Bool, if◌then◌else◌, refl, sym, ap, ◌∙◌}
use Rattle.ur_values.specs.declared.value.Value.{Value, out-Value, roll-Value, roll-out-Value}
use Rattle.ur_values.specs.declared.value.Node.TheOpen as ov
use Rattle.ur_values.specs.declared.value.Value.TheVariants as v
use Rattle.ur_terms.specs.declared.term.Op.{Op}
use Rattle.ur_terms.specs.declared.term.Branch.{Branch}
use Rattle.ur_terms.specs.declared.term.Term.{Term, out-Term, roll-Term, roll-out-Term}
use Rattle.ur_terms.specs.declared.term.Term.TheOpen as o
use Rattle.ur_terms.specs.declared.term.Term.TheVariants as t
use Rattle.ur_terms.specs.State.{State, Stuck}
use Rattle.ur_terms.specs.Values.{Open, as_bool, as_items, open_items}
use Rattle.ur_terms.specs.Ops.{given}
use Rattle.ur_terms.specs.Run.{Does, Calls, eval}
use Rattle.ur_machine_frames.specs.declared.frame.Frame.TheVariants as frame
use Rattle.ur_machine_frames.specs.Rest as rest
use Rattle.ur_machine_frames.specs.Rest.{applied, goes_on}

rolled : (x : Term) (y : rest.Open) → out-Term x ≡ y → x ≡ roll-Term y
rolled x y e = sym (roll-out-Term x) ∙ ap roll-Term e

-- the arguments fit none of the forms that have some
pub stuck_applied : (d : Does) (c : Calls) (x : Term) (env xs : List Value) (s : State)
    → ((op : Op) (args : List Term) → x ≡ t.Make op args → ⊥) → ((f : ℕ) (args : List Term) → x ≡ t.Call f args → ⊥)
    → ((args : List Term) (body : Term) → x ≡ t.Let args body → ⊥) → applied d c (out-Term x) env xs s ≡ Stuck
stuck_applied d c x env xs s no_make no_call no_let = at (out-Term x) refl
  where
    at : (y : rest.Open) → out-Term x ≡ y → applied d c y env xs s ≡ Stuck
    at (o.Variable i) e = refl
    at (o.Int i) e = refl
    at (o.Str i) e = refl
    at (o.Bool i) e = refl
    at (o.Make op args) e = absurd (no_make op args (rolled x _ e ∙ t.rolls-Make op args))
    at (o.Call f args) e = absurd (no_call f args (rolled x _ e ∙ t.rolls-Call f args))
    at (o.Let args body) e = absurd (no_let args body (rolled x _ e ∙ t.rolls-Let args body))
    at (o.If q a b) e = refl
    at (o.Case q bs) e = refl
    at (o.Each q body) e = refl

pub stuck_choice : (d : Does) (c : Calls) (x : Term) (env : List Value) (y : Value) (s : State)
    → ((q a b : Term) → x ≡ t.If q a b → ⊥) → goes_on d c frame.Condition (out-Term x) env y s ≡ Stuck
stuck_choice d c x env y s never = at (out-Term x) refl
  where
    at : (z : rest.Open) → out-Term x ≡ z → goes_on d c frame.Condition z env y s ≡ Stuck
    at (o.If q a b) e = absurd (never q a b (rolled x _ e ∙ t.rolls-If q a b))
    at (o.Variable i) e = refl
    at (o.Int i) e = refl
    at (o.Str i) e = refl
    at (o.Bool i) e = refl
    at (o.Make op args) e = refl
    at (o.Call f args) e = refl
    at (o.Let args body) e = refl
    at (o.Case q bs) e = refl
    at (o.Each q body) e = refl

pub stuck_case : (d : Does) (c : Calls) (x : Term) (env : List Value) (y : Value) (s : State)
    → ((q : Term) (bs : List Branch) → x ≡ t.Case q bs → ⊥) → goes_on d c frame.Subject (out-Term x) env y s ≡ Stuck
stuck_case d c x env y s never = at (out-Term x) refl
  where
    at : (z : rest.Open) → out-Term x ≡ z → goes_on d c frame.Subject z env y s ≡ Stuck
    at (o.Case q bs) e = absurd (never q bs (rolled x _ e ∙ t.rolls-Case q bs))
    at (o.Variable i) e = refl
    at (o.Int i) e = refl
    at (o.Str i) e = refl
    at (o.Bool i) e = refl
    at (o.Make op args) e = refl
    at (o.Call f args) e = refl
    at (o.Let args body) e = refl
    at (o.If q a b) e = refl
    at (o.Each q body) e = refl

pub stuck_rows : (d : Does) (c : Calls) (x : Term) (env : List Value) (y : Value) (s : State)
    → ((q body : Term) → x ≡ t.Each q body → ⊥) → goes_on d c frame.Rows (out-Term x) env y s ≡ Stuck
stuck_rows d c x env y s never = at (out-Term x) refl
  where
    at : (z : rest.Open) → out-Term x ≡ z → goes_on d c frame.Rows z env y s ≡ Stuck
    at (o.Each q body) e = absurd (never q body (rolled x _ e ∙ t.rolls-Each q body))
    at (o.Variable i) e = refl
    at (o.Int i) e = refl
    at (o.Str i) e = refl
    at (o.Bool i) e = refl
    at (o.Make op args) e = refl
    at (o.Call f args) e = refl
    at (o.Let args body) e = refl
    at (o.If q a b) e = refl
    at (o.Case q bs) e = refl

pub stuck_item : (d : Does) (c : Calls) (x : Term) (done more env : List Value) (y : Value) (s : State)
    → ((q body : Term) → x ≡ t.Each q body → ⊥) → goes_on d c (frame.Item done more) (out-Term x) env y s ≡ Stuck
stuck_item d c x done more env y s never = at (out-Term x) refl
  where
    at : (z : rest.Open) → out-Term x ≡ z → goes_on d c (frame.Item done more) z env y s ≡ Stuck
    at (o.Each q body) e = absurd (never q body (rolled x _ e ∙ t.rolls-Each q body))
    at (o.Variable i) e = refl
    at (o.Int i) e = refl
    at (o.Str i) e = refl
    at (o.Bool i) e = refl
    at (o.Make op args) e = refl
    at (o.Call f args) e = refl
    at (o.Let args body) e = refl
    at (o.If q a b) e = refl
    at (o.Case q bs) e = refl

pub no_bool : (x : Value) → ((b : Bool) → x ≡ v.Bool b → ⊥) → as_bool x ≡ None
no_bool (v.Bool b) never = absurd (never b refl)
no_bool (v.Int i) never = refl
no_bool (v.Str i) never = refl
no_bool (v.Row' _ i) never = refl
no_bool (v.Many' _ i) never = refl
no_bool v.Absent never = refl
no_bool (v.Present' _ i) never = refl
no_bool (v.Tagged' _ i) never = refl
no_bool (v.Markup' _ i) never = refl

pub no_list : (x : Value) → ((items : List Value) → x ≡ v.Many items → ⊥) → as_items x ≡ None
no_list x never = at (out-Value x) refl
  where
    at : (y : Open) → out-Value x ≡ y → open_items y ≡ None
    at (ov.Many items) e = absurd (never items (sym (roll-out-Value x) ∙ ap roll-Value e ∙ v.rolls-Many items))
    at (ov.Int i) e = refl
    at (ov.Str i) e = refl
    at (ov.Bool i) e = refl
    at (ov.Row i) e = refl
    at ov.Absent e = refl
    at (ov.Present i) e = refl
    at (ov.Tagged k i) e = refl
    at (ov.Markup i) e = refl

pub stuck_choice_value : (d : Does) (c : Calls) (x : Term) (env : List Value) (y : Value) (s : State) → as_bool y ≡ None → goes_on d c frame.Condition (out-Term x) env y s ≡ Stuck
stuck_choice_value d c x env y s e = at (out-Term x)
  where
    at : (z : rest.Open) → goes_on d c frame.Condition z env y s ≡ Stuck
    at (o.If q a b) = ap (λ z. given z (λ truth. if truth then eval d c a env s else eval d c b env s)) e
    at (o.Each q body) = refl
    at (o.Variable i) = refl
    at (o.Int i) = refl
    at (o.Str i) = refl
    at (o.Bool i) = refl
    at (o.Make op args) = refl
    at (o.Call f args) = refl
    at (o.Let args body) = refl
    at (o.Case q bs) = refl

pub stuck_rows_value : (d : Does) (c : Calls) (x : Term) (env : List Value) (y : Value) (s : State) → as_items y ≡ None → goes_on d c frame.Rows (out-Term x) env y s ≡ Stuck
stuck_rows_value d c x env y s e = at (out-Term x)
  where
    at : (z : rest.Open) → goes_on d c frame.Rows z env y s ≡ Stuck
    at (o.Each q body) = ap (λ z. given z (λ items. rest.items_from d c body env [] items s)) e
    at (o.If q a b) = refl
    at (o.Variable i) = refl
    at (o.Int i) = refl
    at (o.Str i) = refl
    at (o.Bool i) = refl
    at (o.Make op args) = refl
    at (o.Call f args) = refl
    at (o.Let args body) = refl
    at (o.Case q bs) = refl
