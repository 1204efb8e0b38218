-- What a source does with constructors, in reading order.
use Rattle.std.specs.Prelude.{ℕ, List, [], ◌∷◌, map}
use Rattle.ur_base.specs.declared.refusal.Span.{Span}
use Rattle.ur_syntax.specs.declared.kind.Kind.{Kind}
use Rattle.ur_syntax.specs.declared.kind.Kind.TheVariants as kind
use Rattle.ur_syntax.specs.declared.con.Con.{Con}
use Rattle.ur_syntax.specs.declared.con.ConForm.TheVariants as con
use Rattle.ur_syntax.specs.declared.con.ConParam.{ConParam}
use Rattle.ur_syntax.specs.declared.con.ConParam.TheVariants as con_param
use Rattle.ur_syntax.specs.declared.exp.ExpForm.{ExpForm}
use Rattle.ur_syntax.specs.Kinds.{arrow}
use Rattle.ur_kinds.specs.declared.event.Event.{Event}
use Rattle.ur_kinds.specs.declared.event.Event.TheVariants as event

pub data Act : Type 0 where
  open_scope : Act
  close_scope : Act
  -- a module begins
  enter : List ℕ → Act
  -- from here on the name is a constructor variable of this kind, or a constructor of the module's
  variable : List ℕ → Kind → Act
  constructor : List ℕ → Kind → Act
  -- from here on the name is a variable, or a function or `val` of the module's, with the kinds of its constructor parameters
  local : List ℕ → Act
  function : List ℕ → List Kind → Act
  -- the kind of a parameter
  plain : Span → Kind → Act
  -- a constructor is written where this kind is wanted, or as the next argument of this expression
  written : Con → Kind → Act
  argument : ExpForm → Con → Act

-- a variable that stands as the name of a field
abbrev pub label : Span → List ℕ → Act
label p x = written (record { span = p; form = con.Var x }) kind.Name

-- the kinds of the constructor parameters of a function
abbrev pub kinds_of : List ConParam → List Kind
kinds_of [] = []
kinds_of (con_param.Kinded x k ∷ params) = k ∷ kinds_of params
kinds_of (con_param.Disjoint c d ∷ params) = kinds_of params

abbrev pub type_at : Con → Act
type_at c = written c kind.Star

abbrev pub row_at : Con → Act
row_at c = written c kind.Row

-- the function of a fold makes a type of a row
abbrev pub fold_at : Con → Act
fold_at c = written c (arrow kind.Row kind.Star)

abbrev pub act_of : Event → Act
act_of event.Open = open_scope
act_of event.Close = close_scope
act_of (event.Enter m) = enter m.now
act_of (event.Variable x k) = variable x.now k.now
act_of (event.Defined x k) = constructor x.now k.now
act_of (event.Named x) = constructor x.now kind.Star
act_of (event.Local x) = local x.now
act_of (event.Val x) = function x.now []
act_of (event.Function x params) = function x.now (kinds_of params.now)
act_of (event.Plain p k) = plain p k.now
act_of (event.Label p x) = label p x
act_of (event.Type c) = type_at c.now
act_of (event.Row c) = row_at c.now
act_of (event.Fold c) = fold_at c.now
act_of (event.Of c k) = written c.now k.now
act_of (event.Argument f c) = argument f.now.form c.now

abbrev pub acts : List Event → List Act
acts = map act_of
