-- What declarations, modules and a signature do with constructors, in reading order.
use Rattle.std.specs.Prelude.{ℕ, List, [], ◌∷◌, ◌++◌, flat_map, Option, Some, None}
use Rattle.ur_syntax.specs.declared.kind.Kind.TheVariants as kind
use Rattle.ur_syntax.specs.declared.con.Con.{Con}
use Rattle.ur_syntax.specs.declared.decl.Variant.{Variant}
use Rattle.ur_syntax.specs.declared.decl.FunDef.{FunDef}
use Rattle.ur_syntax.specs.declared.decl.Decl.{Decl}
use Rattle.ur_syntax.specs.declared.decl.DeclForm.{DeclForm}
use Rattle.ur_syntax.specs.declared.decl.DeclForm.TheVariants as decl
use Rattle.ur_syntax.specs.declared.decl.Module.{Module}
use Rattle.ur_syntax.specs.declared.decl.ValDecl.{ValDecl}
use Rattle.ur_syntax.specs.declared.decl.Signature.{Signature}
use Rattle.ur_kinds.specs.Acts.{Act, open_scope, close_scope, enter, constructor, function, written, type_at, kinds_of}
use Rattle.ur_kinds.specs.Exps.{in_con_param, in_param, in_written_exp}

-- a constructor of a datatype, with its type
abbrev pub in_of : Option Con → List Act
in_of None = []
in_of (Some c) = type_at c ∷ []

abbrev pub in_variant : Variant → List Act
in_variant v = in_of v.con

-- the functions of a group are in scope of all of them
abbrev pub named : FunDef → List Act
named f = function f.name (kinds_of f.con_params) ∷ []

-- the parameters of a function are a scope
abbrev pub in_function : FunDef → List Act
in_function f = (open_scope ∷ []) ++ flat_map (in_con_param f.span) f.con_params ++ flat_map in_param f.params ++ (type_at f.result ∷ []) ++ in_written_exp f.body ++ close_scope ∷ []

-- a name is in scope behind its declaration, that of a datatype and those of functions in it too
abbrev pub in_form : DeclForm → List Act
in_form (decl.Con x k c) = (written c k ∷ []) ++ constructor x k ∷ []
in_form (decl.Type x c) = (type_at c ∷ []) ++ constructor x kind.Star ∷ []
in_form (decl.Datatype x vs) = (constructor x kind.Star ∷ []) ++ flat_map in_variant vs
in_form (decl.Table x c key constraints) = type_at c ∷ []
in_form (decl.Sequence x) = []
in_form (decl.Cookie x c) = type_at c ∷ []
in_form (decl.Val x c a) = (type_at c ∷ []) ++ in_written_exp a ++ function x [] ∷ []
in_form (decl.Fun fs) = flat_map named fs ++ flat_map in_function fs

abbrev pub in_decl : Decl → List Act
in_decl d = in_form d.form

-- a module, by its name
abbrev pub in_module : List ℕ → Module → List Act
in_module m x = (enter m ∷ []) ++ flat_map in_decl x.decls

abbrev pub in_modules : List (List ℕ) → List Module → List Act
in_modules (m ∷ names) (x ∷ modules) = in_module m x ++ in_modules names modules
in_modules _ _ = []

abbrev pub in_val : ValDecl → List Act
in_val v = type_at v.con ∷ []

abbrev pub in_signature : Option Signature → List Act
in_signature None = []
in_signature (Some s) = flat_map in_val s.vals

-- the whole project: its modules in order, and the signature
abbrev pub in_project : List (List ℕ) → List Module → Option Signature → List Act
in_project names modules signature = in_modules names modules ++ in_signature signature
