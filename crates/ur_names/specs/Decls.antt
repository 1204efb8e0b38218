-- What declarations, modules and a signature do with names, in reading order.
use Rattle.std.specs.Prelude.{ℕ, List, [], ◌∷◌, ◌++◌, flat_map, Option, Some, None}
use Rattle.ur_base.specs.declared.refusal.Span.{Span}
use Rattle.ur_syntax.specs.declared.con.Con.{Con}
use Rattle.ur_syntax.specs.declared.decl.Variant.{Variant}
use Rattle.ur_syntax.specs.declared.decl.FunDef.{FunDef}
use Rattle.ur_syntax.specs.declared.decl.Decl.{Decl}
use Rattle.ur_syntax.specs.declared.decl.DeclForm.{DeclForm}
use Rattle.ur_syntax.specs.declared.decl.DeclForm.TheVariants as decl
use Rattle.ur_syntax.specs.declared.decl.Module.{Module}
use Rattle.ur_syntax.specs.declared.decl.ValDecl.{ValDecl}
use Rattle.ur_syntax.specs.declared.decl.Signature.{Signature}
use Rattle.ur_names.specs.declared.event.Sort.{Sort}
use Rattle.ur_names.specs.declared.event.Sort.TheVariants as sort
use Rattle.ur_names.specs.declared.event.Event.{Event}
use Rattle.ur_names.specs.declared.event.Event.TheVariants as event
use Rattle.ur_names.specs.Cons.{in_written, in_con_param}
use Rattle.ur_names.specs.Exps.{in_param, in_written_exp}

abbrev pub in_of : Option Con → List Event
in_of None = []
in_of (Some c) = in_written c

-- a constructor of a datatype, with its type
abbrev pub in_variant : Variant → List Event
in_variant v = (event.New sort.Constructor v.span v.name ∷ []) ++ in_of v.con ++ event.Declare sort.Constructor v.name ∷ []

-- the functions of a group are in scope of all of them
abbrev pub named : FunDef → List Event
named f = event.Declare sort.Value f.name ∷ []

-- the parameters of a function are a scope, in which no name stands twice among its sort
abbrev pub in_function : FunDef → List Event
in_function f = (event.New sort.Value f.span f.name ∷ []) ++ (event.Open ∷ []) ++ flat_map (in_con_param f.span) f.con_params ++ flat_map (in_param f.span) f.params ++
    in_written f.result ++ in_written_exp f.body ++ event.Close ∷ []

-- a name that is given, with its constructor
abbrev pub in_typed : Sort → Span → List ℕ → Con → List Event
in_typed s p x c = (event.New s p x ∷ []) ++ in_written c ++ event.Declare s x ∷ []

-- a name is in scope behind its declaration, that of a datatype and those of functions in it too
abbrev pub in_form : Span → DeclForm → List Event
in_form p (decl.Con x k c) = in_typed sort.Con p x c
in_form p (decl.Type x c) = in_typed sort.Con p x c
in_form p (decl.Datatype x vs) = (event.New sort.Con p x ∷ []) ++ (event.Declare sort.Con x ∷ []) ++ flat_map in_variant vs
in_form p (decl.Table x c key constraints) = in_typed sort.Table p x c
in_form p (decl.Sequence x) = (event.New sort.Sequence p x ∷ []) ++ event.Declare sort.Sequence x ∷ []
in_form p (decl.Cookie x c) = in_typed sort.Cookie p x c
in_form p (decl.Val x c a) = (event.New sort.Value p x ∷ []) ++ in_written c ++ in_written_exp a ++ event.Declare sort.Value x ∷ []
in_form p (decl.Fun fs) = flat_map named fs ++ flat_map in_function fs

abbrev pub in_decl : Decl → List Event
in_decl d = in_form d.span d.form

-- a module, by its name
abbrev pub in_module : List ℕ → Module → List Event
in_module m x = (event.Enter m ∷ []) ++ flat_map in_decl x.decls

abbrev pub in_modules : List (List ℕ) → List Module → List Event
in_modules (m ∷ names) (x ∷ modules) = in_module m x ++ in_modules names modules
in_modules _ _ = []

-- an item of the signature: a function of the main module, once
abbrev pub in_val : ValDecl → List Event
in_val v = (event.Own sort.Value v.span v.name ∷ []) ++ (event.New sort.Value v.span v.name ∷ []) ++ in_written v.con

abbrev pub in_signature : Option Signature → List Event
in_signature None = []
in_signature (Some s) = (event.Open ∷ []) ++ flat_map in_val s.vals

-- the whole project: its modules in order, and the signature
abbrev pub in_project : List (List ℕ) → List Module → Option Signature → List Event
in_project names modules signature = in_modules names modules ++ in_signature signature
