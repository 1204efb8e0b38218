-- The kinds of the constructor parameters of a project are no arrows.
use Rattle.std.proofs.Common.{inl, inr, refl, subst, Option, List, [], ◌∷◌, ◌++◌, ℕ}
use Rattle.std.specs.Prelude.{IsTrue, flat_map}
use Rattle.ur_base.specs.declared.refusal.Span.{Span}
use Rattle.ur_syntax.specs.declared.kind.Kind.{Kind}
use Rattle.ur_syntax.specs.declared.con.ConParam.{ConParam}
use Rattle.ur_syntax.specs.declared.con.ConParam.TheVariants as con_param
use Rattle.ur_syntax.specs.declared.decl.FunDef.{FunDef}
use Rattle.ur_syntax.specs.declared.decl.Decl.{Decl}
use Rattle.ur_syntax.specs.declared.decl.DeclForm.{DeclForm}
use Rattle.ur_syntax.specs.declared.decl.DeclForm.TheVariants as decl
use Rattle.ur_syntax.specs.declared.decl.Module.{Module}
use Rattle.ur_syntax.specs.declared.decl.Signature.{Signature}
use Rattle.ur_syntax.specs.Kinds.{is_plain}
use Rattle.ur_disjoint.proofs.Members.{In}
use Rattle.ur_kinds.specs.declared.state.State.{State}
use Rattle.ur_kinds.specs.Acts.{Act, open_scope, close_scope, enter, plain, type_at}
use Rattle.ur_kinds.specs.Exps.{in_con_param, in_param, in_written_exp}
use Rattle.ur_kinds.specs.Decls.{named, in_function, in_form, in_decl, in_module, in_modules, in_signature, in_project}
use Rattle.ur_kinds.specs.KindedFaults.{after, IsKinded, AreKinded, start, ProjectIsKinded}
use Rattle.ur_typed_laws.proofs.Among.{in_left, in_right}

-- ---- what is said

abbrev pub ArePlain : List ConParam → Type 0
ArePlain [] = Unit {0}
ArePlain (con_param.Kinded x k ∷ ps) = IsTrue (is_plain k) × ArePlain ps
ArePlain (con_param.Disjoint c d ∷ ps) = ArePlain ps

abbrev pub FunctionsArePlain : List FunDef → Type 0
FunctionsArePlain [] = Unit {0}
FunctionsArePlain (f ∷ fs) = ArePlain f.con_params × FunctionsArePlain fs

abbrev pub FormIsPlain : DeclForm → Type 0
FormIsPlain (decl.Fun fs) = FunctionsArePlain fs
FormIsPlain _ = Unit {0}

abbrev pub DeclsArePlain : List Decl → Type 0
DeclsArePlain [] = Unit {0}
DeclsArePlain (d ∷ ds) = FormIsPlain d.form × DeclsArePlain ds

abbrev pub ModulesArePlain : List (List ℕ) → List Module → Type 0
ModulesArePlain (m ∷ names) (x ∷ modules) = DeclsArePlain x.decls × ModulesArePlain names modules
ModulesArePlain _ _ = Unit {0}

-- ---- among acts

abbrev AllPlain : List Act → Type 0
AllPlain acts = (p : Span) (k : Kind) → In (plain p k) acts → IsTrue (is_plain k)

kinded_plain : (s : State) (acts : List Act) → AreKinded s acts → AllPlain acts
kinded_plain s [] h p k i = absurd i
kinded_plain s (a ∷ more) h p k (inl e) = subst (λ z. IsKinded s z) e h.0
kinded_plain s (a ∷ more) h p k (inr i) = kinded_plain (after s a) more h.1 p k i

plain_first : (a b : List Act) → AllPlain (a ++ b) → AllPlain a
plain_first a b h p k i = h p k (in_left (plain p k) a b i)

plain_second : (a b : List Act) → AllPlain (a ++ b) → AllPlain b
plain_second a b h p k i = h p k (in_right (plain p k) a b i)

-- ---- parameters, functions, declarations, modules

params_plain : (p : Span) (ps : List ConParam) → AllPlain (flat_map (in_con_param p) ps) → ArePlain ps
params_plain p [] h = tt
params_plain p (con_param.Kinded x k ∷ ps) h = (h p k (inl refl), params_plain p ps (plain_second (in_con_param p (con_param.Kinded x k)) (flat_map (in_con_param p) ps) h))
params_plain p (con_param.Disjoint c d ∷ ps) h = params_plain p ps (plain_second (in_con_param p (con_param.Disjoint c d)) (flat_map (in_con_param p) ps) h)

function_plain : (f : FunDef) → AllPlain (in_function f) → ArePlain f.con_params
function_plain f h =
    let a : List Act = flat_map (in_con_param f.span) f.con_params in
    let b : List Act = (open_scope ∷ []) ++ a in
    let c : List Act = b ++ flat_map in_param f.params in
    let d : List Act = c ++ type_at f.result ∷ [] in
    let e : List Act = d ++ in_written_exp f.body in
    let i : AllPlain e = plain_first e (close_scope ∷ []) h in
    let j : AllPlain d = plain_first d (in_written_exp f.body) i in
    let k : AllPlain c = plain_first c (type_at f.result ∷ []) j in
    let l : AllPlain b = plain_first b (flat_map in_param f.params) k in
    params_plain f.span f.con_params (plain_second (open_scope ∷ []) a l)

functions_plain : (fs : List FunDef) → AllPlain (flat_map in_function fs) → FunctionsArePlain fs
functions_plain [] h = tt
functions_plain (f ∷ fs) h = (function_plain f (plain_first (in_function f) (flat_map in_function fs) h), functions_plain fs (plain_second (in_function f) (flat_map in_function fs) h))

form_plain : (d : DeclForm) → AllPlain (in_form d) → FormIsPlain d
form_plain (decl.Fun fs) h = functions_plain fs (plain_second (flat_map named fs) (flat_map in_function fs) h)
form_plain _ h = tt

decls_plain : (ds : List Decl) → AllPlain (flat_map in_decl ds) → DeclsArePlain ds
decls_plain [] h = tt
decls_plain (d ∷ ds) h = (form_plain d.form (plain_first (in_decl d) (flat_map in_decl ds) h), decls_plain ds (plain_second (in_decl d) (flat_map in_decl ds) h))

modules_plain : (names : List (List ℕ)) (modules : List Module) → AllPlain (in_modules names modules) → ModulesArePlain names modules
modules_plain [] modules h = tt
modules_plain (m ∷ names) [] h = tt
modules_plain (m ∷ names) (x ∷ modules) h =
    (decls_plain x.decls (plain_second (enter m ∷ []) (flat_map in_decl x.decls) (plain_first (in_module m x) (in_modules names modules) h)), modules_plain names modules (plain_second (in_module m x) (in_modules names modules) h))

pub kinded_is_plain : (names : List (List ℕ)) (modules : List Module) (signature : Option Signature) → ProjectIsKinded names modules signature → ModulesArePlain names modules
kinded_is_plain names modules signature h = modules_plain names modules (plain_first (in_modules names modules) (in_signature signature) (kinded_plain start (in_project names modules signature) h))
