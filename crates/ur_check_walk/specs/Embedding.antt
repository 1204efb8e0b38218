-- What is told of antiquotes one by one, and of the row function of `queryX`.
use Rattle.std.specs.Prelude.{◌≡◌, ℕ, List, Some}
use Rattle.ur_base.specs.declared.refusal.Refusal.{Refusal}
use Rattle.ur_syntax.specs.declared.exp.Binder.{Binder}
use Rattle.ur_syntax.specs.declared.exp.LambdaParam.{LambdaParam}
use Rattle.ur_syntax.specs.declared.exp.Exp.{Exp}
use Rattle.ur_syntax.specs.declared.exp.ExpForm.{ExpForm}
use Rattle.ur_rows.specs.declared.normal.Part.{Part}
use Rattle.ur_rows.specs.Made.{record_of}
use Rattle.ur_typed_rules.specs.Scopes.{World, Scope, Mode, finds, of_transaction, within_binder}
use Rattle.ur_typed.specs.Rules.{Sites, Out, row_param}
use Rattle.ur_typed.specs.Walking.{typed, antiquotes_walk}
use Rattle.ur_typed.specs.Parts.{InAntiquotes}
use Rattle.ur_typed.specs.Faults.{BreaksRowFunction}
use Rattle.ur_typed.specs.Causes.{HasFault}
use Rattle.ur_check_scopes.specs.declared.around.Around.{Around}
use Rattle.ur_check_scopes.specs.Views.{Stands, Refuses}
use Rattle.ur_check_rules.specs.declared.out.Out.{Out as HeldOut}
use Rattle.ur_check_rules.specs.declared.out.Sites.{Sites as HeldSites}
use Rattle.ur_check_rules.specs.Views.{sites_in, out_in}
use Rattle.ur_check_forms.specs.declared.statements.Antiquotes.{Antiquotes as HeldAntiquotes}
use Rattle.ur_check_forms.specs.Views.{antiquotes_with}
use Rattle.ur_check_walk.specs.Listed.{exp_row}

-- ---- antiquotes

-- a fault within one of these antiquotes
pub record AntiquoteFault (names : List (List ℕ)) (w : World) (s : Scope) (st : Sites) (xs : List Exp) (r : Refusal) : Type 0 where
  pub behind : Sites
  pub place : ExpForm
  pub stands : InAntiquotes w s _ (exp_row xs).1 st behind place
  pub fault : HasFault names w s behind place finds r

-- The antiquotes give these, with the statements that are numbered behind them, in each world and scope in which the code stands.
abbrev pub GivesAntiquotes : Around → HeldSites → List Exp → HeldAntiquotes → HeldSites → Type 0
GivesAntiquotes a before xs held after = (w : World) (s : Scope) → Stands a w s → antiquotes_walk w (exp_row xs).1 s (sites_in before) ≡ Some (antiquotes_with held (sites_in after))

abbrev pub TellsAntiquotes : Around → HeldSites → List Exp → Refusal → Type 0
TellsAntiquotes a before xs r = (w : World) (s : Scope) → Stands a w s → AntiquoteFault a.world.now.datatype_names w s (sites_in before) xs r

-- ---- the row function of `queryX`

-- its variable, and what its body gives where that is a record with this row
pub record RowGives (w : World) (s : Scope) (st : Sites) (row : List Part) (params : List LambdaParam) (y : ExpForm) (m : Mode) (o : Out) : Type 0 where
  pub variable : Binder
  pub param : row_param w s row params ≡ Some variable
  pub body : typed w y (within_binder variable (record_of row) s) st (of_transaction m) ≡ Some o

-- it is none of a variable of this type, or its body has a fault
pub data RowHasFault (names : List (List ℕ)) (w : World) (s : Scope) (st : Sites) (row : List Part) (params : List LambdaParam) (y : ExpForm) (m : Mode) (r : Refusal) : Type 0 where
  breaks_row : Refuses names (BreaksRowFunction names w s row params) r → RowHasFault names w s st row params y m r
  in_row : {x : Binder} → row_param w s row params ≡ Some x → HasFault names w (within_binder x (record_of row) s) st y (of_transaction m) r → RowHasFault names w s st row params y m r

-- the same in each world and scope in which the code stands, where `m` is what is wanted of the whole
abbrev pub GivesRows : Around → HeldSites → List Part → List LambdaParam → Exp → Mode → HeldOut → HeldSites → Type 0
GivesRows a before row params y m o after = (w : World) (s : Scope) → Stands a w s → RowGives w s (sites_in before) row params y.form m (out_in o after)

abbrev pub TellsRows : Around → HeldSites → List Part → List LambdaParam → Exp → Mode → Refusal → Type 0
TellsRows a before row params y m r = (w : World) (s : Scope) → Stands a w s → RowHasFault a.world.now.datatype_names w s (sites_in before) row params y.form m r
