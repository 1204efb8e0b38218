-- What breaks the rules of written types, of parameters and of constructor arguments.
use Rattle.ur_rows.specs.Kinded.{type_is_in, row_is_in, is_of_kind}
use Rattle.ur_rows.specs.Types.{is_placed}
use Rattle.ur_tree.specs.Env.{Env, variables, con_is_plain, kinds_of, rows_apart}
use Rattle.ur_tree.specs.declared.typed.ConParam.{ConParam}
use Rattle.ur_rows.specs.declared.normal.NormalType.{NormalType}
use Rattle.ur_syntax.specs.declared.kind.Kind.{Kind}
use Rattle.std.specs.Prelude.{◌≡◌, ◌&&◌, nat_le, ℕ, false, List, [], ◌∷◌, codes, Contains}
use Rattle.ur_syntax.specs.declared.con.Con.{Con}
use Rattle.ur_rows.specs.declared.normal.Normal.{Normal}
use Rattle.ur_rows.specs.declared.normal.Normal.TheVariants as normal
use Rattle.ur_rows.specs.declared.normal.Part.{Part as RowPart}
use Rattle.ur_rows.specs.Apart.{Assumptions}
use Rattle.ur_rows.specs.Nodes.{nodes}
use Rattle.ur_rows.specs.Normal.{nf}
use Rattle.ur_rows.specs.Put.{as_type, as_row, instance_row}
use Rattle.ur_syntax.specs.declared.con.ConParam.{ConParam as WrittenConParam}
use Rattle.ur_syntax.specs.declared.exp.Binder.{Binder}
use Rattle.ur_syntax.specs.declared.exp.LambdaParam.{LambdaParam}
use Rattle.ur_syntax.specs.declared.exp.LambdaParam.TheVariants as lambda_param
use Rattle.ur_syntax.specs.declared.exp.Param.{Param as WrittenParam}
use Rattle.ur_syntax.specs.declared.exp.Param.TheVariants as written_param
use Rattle.ur_typed_rules.specs.Names.{Names}
use Rattle.ur_typed_rules.specs.Scopes.{World, Scope}
use Rattle.ur_typed_rules.specs.Tests.{is_apart, are_apart, rows_are_apart, row_rows_are_apart, are_arguments}
use Rattle.ur_typed_rules.specs.Faults.{Fault, twice, mismatch, not_apart, not_so, too_large, unkinded, of_no_type}
use Rattle.ur_typed_rules.specs.Meeting.{Meets, MeetsIn, MeetsRow, MeetsCon}
use Rattle.ur_typed_rules.specs.Repeats.{RepeatsName}

-- two rows that a function wants apart, at its constructor arguments, and that are not so
pub data IsUnmet (known : Assumptions) (args : List Normal) : Assumptions → List RowPart → List RowPart → Type 0 where
  this_pair : {r t : List RowPart} {more : Assumptions} → is_apart known (instance_row args r) (instance_row args t) ≡ false → IsUnmet known args ((r, t) ∷ more) (instance_row args r) (instance_row args t)
  later_pair : {p : List RowPart × List RowPart} {more : Assumptions} {a b : List RowPart} → IsUnmet known args more a b → IsUnmet known args (p ∷ more) a b

-- constructor arguments that are not of the kinds of the parameters, or not plain
pub data BreaksKinds (env : Env) : List Normal → List Kind → Fault → Type 0 where
  con_lacks : {k : Kind} {ks : List Kind} → BreaksKinds env [] (k ∷ ks) (not_so (codes "too few constructor arguments") (codes "all arguments"))
  con_exceeds : {a : Normal} {args : List Normal} → BreaksKinds env (a ∷ args) [] (mismatch (codes "a constructor argument") (codes "no further argument"))
  con_other_kind : {a : Normal} {args : List Normal} {k : Kind} {ks : List Kind} → is_of_kind (variables env) a k ≡ false → BreaksKinds env (a ∷ args) (k ∷ ks) (unkinded (codes "another kind") (codes "the kind of the parameter"))
  con_meets : {a : Normal} {args : List Normal} {k : Kind} {ks : List Kind} {r t : List RowPart} → MeetsCon env.known a r t → BreaksKinds env (a ∷ args) (k ∷ ks) (not_apart r t)
  con_not_plain : {a : Normal} {args : List Normal} {k : Kind} {ks : List Kind} → con_is_plain a ≡ false → BreaksKinds env (a ∷ args) (k ∷ ks) (not_so (codes "a constructor argument") (codes "no arrow and no transaction"))
  con_later : {a : Normal} {args : List Normal} {k : Kind} {ks : List Kind} {c : Fault} → BreaksKinds env args ks c → BreaksKinds env (a ∷ args) (k ∷ ks) c

-- rows in a written type that are not apart: a literal name that is written twice, or two parts
pub data BreaksApart (known : Assumptions) (c : Con) (t : NormalType) : Fault → Type 0 where
  type_repeats : {name : List ℕ} → RepeatsName c name → rows_are_apart known t ≡ false → BreaksApart known c t (twice name)
  type_meets : {a b : List RowPart} → MeetsIn known t a b → BreaksApart known c t (not_apart a b)

pub data BreaksRowApart (known : Assumptions) (c : Con) (r : List RowPart) : Fault → Type 0 where
  row_repeats : {name : List ℕ} → RepeatsName c name → (are_apart known r && row_rows_are_apart known r) ≡ false → BreaksRowApart known c r (twice name)
  row_meets : {a b : List RowPart} → MeetsRow known r a b → BreaksRowApart known c r (not_apart a b)

pub data BreaksCon (known : Assumptions) (c : Con) : Normal → Fault → Type 0 where
  of_type : {t : NormalType} {f : Fault} → BreaksApart known c t f → BreaksCon known c (normal.Type t) f
  of_row : {r : List RowPart} {f : Fault} → BreaksRowApart known c r f → BreaksCon known c (normal.Row r) f

-- a type that is written in a scope and may not stand there
pub data BreaksPlace (env : Env) (c : Con) (t : NormalType) : Fault → Type 0 where
  type_of_other_kind : type_is_in (variables env) t ≡ false → BreaksPlace env c t of_no_type
  type_not_apart : {f : Fault} → BreaksApart env.known c t f → BreaksPlace env c t f

-- the same of a row
pub data BreaksRowPlace (env : Env) (c : Con) (r : List RowPart) : Fault → Type 0 where
  row_of_other_kind : row_is_in (variables env) r ≡ false → BreaksRowPlace env c r (unkinded (codes "another kind") (codes "{Type}"))
  row_not_apart : {f : Fault} → BreaksRowApart env.known c r f → BreaksRowPlace env c r f

-- fields that stand together and are not apart
pub data BreaksFields (known : Assumptions) (r : List RowPart) : Fault → Type 0 where
  fields_met : {a b : List RowPart} → Meets known r a b → BreaksFields known r (not_apart a b)

-- the constructor arguments of a function, which are written so
pub data BreaksGiven (env : Env) (given : List Con) (args : List Normal) (cons : List ConParam) : Fault → Type 0 where
  of_other_kinds : {f : Fault} → BreaksKinds env args (kinds_of cons) f → BreaksGiven env given args cons f
  given_unmet : {a b : List RowPart} → IsUnmet env.known args (rows_apart cons) a b → BreaksGiven env given args cons (not_apart a b)
  given_repeats : {c : Con} {name : List ℕ} → Contains given c → RepeatsName c name → are_arguments env cons args ≡ false → BreaksGiven env given args cons (twice name)

-- what breaks the rule of a written type that may stand in a scope
pub data BreaksType (w : World) (s : Scope) (c : Con) : Fault → Type 0 where
  large_type : nat_le (nodes (nf s.names.cons c)) w.most ≡ false → BreaksType w s c too_large
  type_out_of_place : {f : Fault} → BreaksPlace s.env c (as_type (nf s.names.cons c)) f → BreaksType w s c f

-- the same of a written row
pub data BreaksRow (w : World) (s : Scope) (c : Con) : Fault → Type 0 where
  large_row : nat_le (nodes (nf s.names.cons c)) w.most ≡ false → BreaksRow w s c too_large
  row_out_of_place : {f : Fault} → BreaksRowPlace s.env c (as_row (nf s.names.cons c)) f → BreaksRow w s c f

-- ---- parameters

-- a parameter whose type is too large
pub data HasLarge (most : ℕ) (names : Names) : WrittenParam → Type 0 where
  large_param : {x : Binder} {c : Con} → nat_le (nodes (nf names.cons c)) most ≡ false → HasLarge most names (written_param.Value x c)

-- a parameter of a lambda that is one of a constructor, or has no type, or a too large one
pub data BreaksForms (most : ℕ) (names : Names) : List LambdaParam → Fault → Type 0 where
  bare_form : {x : Binder} {ps : List LambdaParam} → BreaksForms most names (lambda_param.Bare x ∷ ps) (not_so (codes "a parameter") (codes "its type"))
  con_form : {c : WrittenConParam} {ps : List LambdaParam} → BreaksForms most names (lambda_param.Con c ∷ ps) (not_so (codes "a parameter") (codes "its type"))
  large_form : {p : WrittenParam} {ps : List LambdaParam} → HasLarge most names p → BreaksForms most names (lambda_param.Typed p ∷ ps) too_large
  later_form : {p : LambdaParam} {ps : List LambdaParam} {f : Fault} → BreaksForms most names ps f → BreaksForms most names (p ∷ ps) f

-- a written type that may not be that of a parameter
pub data BreaksParameter (env : Env) (c : Con) (t : NormalType) : Fault → Type 0 where
  param_out_of_place : {f : Fault} → BreaksPlace env c t f → BreaksParameter env c t f
  param_not_placed : is_placed t ≡ false → BreaksParameter env c t (not_so (codes "a parameter") (codes "the type of a value or of a function"))

pub data BreaksWritten (env : Env) : WrittenParam → NormalType → Fault → Type 0 where
  breaks_written : {x : Binder} {c : Con} {t : NormalType} {f : Fault} → BreaksParameter env c t f → BreaksWritten env (written_param.Value x c) t f

pub data BreaksLambdaParam (env : Env) : LambdaParam → NormalType → Fault → Type 0 where
  breaks_typed : {p : WrittenParam} {t : NormalType} {f : Fault} → BreaksWritten env p t f → BreaksLambdaParam env (lambda_param.Typed p) t f
