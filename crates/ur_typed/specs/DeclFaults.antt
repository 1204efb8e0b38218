-- What a declaration, a body or the signature breaks, as it is told: the first in order of modules and place.
use Rattle.std.specs.Prelude.{◌≡◌, ◌&&◌, ◌+◌, ℕ, nat_le, true, false, List, [], ◌∷◌, codes, Contains, Option, Some, None, option_and_then, slice_get}
use Rattle.ur_base.specs.declared.refusal.Refusal.{Refusal}
use Rattle.ur_syntax.specs.Names.{looked_up}
use Rattle.ur_syntax.specs.declared.con.Con.{Con}
use Rattle.ur_syntax.specs.declared.con.ConParam.{ConParam as WrittenConParam}
use Rattle.ur_syntax.specs.declared.con.ConParam.TheVariants as written_con
use Rattle.ur_syntax.specs.declared.kind.Kind.{Kind}
use Rattle.ur_syntax.specs.declared.decl.Variant.{Variant as WrittenVariant}
use Rattle.ur_syntax.specs.declared.decl.Constraint.{Constraint}
use Rattle.ur_syntax.specs.declared.decl.FunDef.{FunDef}
use Rattle.ur_syntax.specs.declared.decl.Decl.{Decl}
use Rattle.ur_syntax.specs.declared.decl.DeclForm.{DeclForm}
use Rattle.ur_syntax.specs.declared.decl.DeclForm.TheVariants as decl
use Rattle.ur_syntax.specs.declared.decl.Module.{Module}
use Rattle.ur_syntax.specs.declared.decl.Signature.{Signature}
use Rattle.ur_syntax.specs.declared.decl.ValDecl.{ValDecl}
use Rattle.ur_syntax.specs.declared.exp.Exp.{Exp as WrittenExp}
use Rattle.ur_syntax.specs.declared.exp.Param.{Param as WrittenParam}
use Rattle.ur_rows.specs.declared.normal.Normal.{Normal}
use Rattle.ur_rows.specs.declared.normal.Normal.TheVariants as normal
use Rattle.ur_rows.specs.declared.normal.NormalType.{NormalType}
use Rattle.ur_rows.specs.declared.normal.Part.{Part as RowPart}
use Rattle.ur_rows.specs.Kinded.{row_is_in}
use Rattle.ur_rows.specs.Nodes.{nodes}
use Rattle.ur_rows.specs.Normal.{nf}
use Rattle.ur_rows.specs.Put.{as_type}
use Rattle.ur_rows.specs.Types.{is_value_type, holds_arrow}
use Rattle.ur_tree.specs.Text.{type_text}
use Rattle.ur_tree.specs.declared.typed.ConParam.TheVariants as con_param
use Rattle.ur_tree.specs.Heads.{Head, function_type}
use Rattle.ur_tree.specs.Env.{Env, variables}
use Rattle.ur_tree.specs.declared.exp.Param.{Param}
use Rattle.ur_tree.specs.App.{nothing_in_scope, within_head}
use Rattle.ur_tree.specs.IsStatic.{is_static}
use Rattle.ur_tree.specs.Typing.{are_linkable, types_of}
use Rattle.ur_typed_rules.specs.Names.{Names, with_con}
use Rattle.ur_typed_rules.specs.Names as here
use Rattle.ur_typed_rules.specs.Scopes.{wants}
use Rattle.ur_typed_rules.specs.Tests.{same_type, is_page}
use Rattle.ur_sqltype.specs.Table.{type_kind}
use Rattle.ur_sqltype.specs.SqltableFaults.{TableBreaks}
use Rattle.ur_typed.specs.Rules.{Out}
use Rattle.ur_typed.specs.Walking.{typed}
use Rattle.ur_typed.specs.Causes.{HasFault}
use Rattle.ur_typed.specs.Project.{env_at, names_at, at, written_keys}
use Rattle.ur_typed.specs.Declaring.{FunctionHead, Sofar, world_behind, top_scope, datatype_names, variant_out, with_datatype, ConParams, con_params_out, Heading, written_heading, heading_out, with_head, val_type_out, decl_out, Bodies, body_scope, body_out, bodies_out, Checked, decls_out, entered, modules_out, entry_out, project_out}
use Rattle.ur_typed_rules.specs.Faults.{Fault, unknown, not_so, too_large, unkinded, as_refused, TellsType, types_differ, not_of_type}
use Rattle.ur_typed_rules.specs.Arguments.{BreaksType, BreaksCon, BreaksPlace, BreaksParameter, BreaksWritten, HasLarge}

-- ---- types and datatypes

abbrev pub form_of : Sofar → Con → Normal
form_of z c = nf (env_at z.place) c

abbrev pub type_of : Sofar → Con → NormalType
type_of z c = as_type (form_of z c)

pub data BreaksDefined (most : ℕ) (z : Sofar) (c : Con) : Fault → Type 0 where
  large_con : nat_le (nodes (form_of z c)) most ≡ false → BreaksDefined most z c too_large
  rows_meet : {f : Fault} → BreaksCon [] c (form_of z c) f → BreaksDefined most z c f

pub data BreaksArgument (most : ℕ) (z : Sofar) (c : Con) : Fault → Type 0 where
  argument_type : {f : Fault} → BreaksType (world_behind most z) (top_scope z) c f → BreaksArgument most z c f
  argument_moves : is_value_type (type_of z c) ≡ false → BreaksArgument most z c (not_so (type_text (datatype_names z) (type_of z c)) (codes "the type of a value"))

pub data BreaksVariants (most datatype : ℕ) : List WrittenVariant → Sofar → Fault → Type 0 where
  this_variant : {v : WrittenVariant} {vs : List WrittenVariant} {c : Con} {z : Sofar} {f : Fault} → v.con ≡ Some c → BreaksArgument most z c f → BreaksVariants most datatype (v ∷ vs) z f
  later_variant : {v : WrittenVariant} {vs : List WrittenVariant} {z y : Sofar} {f : Fault} → variant_out most datatype v.name v.con z ≡ Some y → BreaksVariants most datatype vs y f → BreaksVariants most datatype (v ∷ vs) z f

-- ---- tables and cookies

pub data BreaksTable (most : ℕ) (z : Sofar) (c : Con) (primary : Option (List (List ℕ))) (cs : List Constraint) : Fault → Type 0 where
  large_table : nat_le (nodes (form_of z c)) most ≡ false → BreaksTable most z c primary cs too_large
  no_table : {r : Refusal} → TableBreaks (datatype_names z) (normal.Type (type_of z c)) (written_keys primary cs) r → BreaksTable most z c primary cs (as_refused r)

pub data BreaksCookie (most : ℕ) (z : Sofar) (c : Con) : Fault → Type 0 where
  large_cookie : nat_le (nodes (form_of z c)) most ≡ false → BreaksCookie most z c too_large
  other_cookie : type_kind (type_of z c) ≡ None → BreaksCookie most z c (not_of_type (datatype_names z) (type_of z c) (codes "int, string or bool"))

-- ---- heads of functions and `val`s

-- a side of `~` that is too large
pub data HasLargeSide (most : ℕ) : Names → List WrittenConParam → Type 0 where
  large_left : {names : Names} {c d : Con} {ps : List WrittenConParam} → nat_le (nodes (nf names.cons c)) most ≡ false → HasLargeSide most names (written_con.Disjoint c d ∷ ps)
  large_right : {names : Names} {c d : Con} {ps : List WrittenConParam} → nat_le (nodes (nf names.cons d)) most ≡ false → HasLargeSide most names (written_con.Disjoint c d ∷ ps)
  behind_kinded : {names : Names} {x : List ℕ} {k : Kind} {ps : List WrittenConParam} → HasLargeSide most (with_con x k names) ps → HasLargeSide most names (written_con.Kinded x k ∷ ps)
  behind_apart : {names : Names} {c d : Con} {ps : List WrittenConParam} → HasLargeSide most names ps → HasLargeSide most names (written_con.Disjoint c d ∷ ps)

pub data HasLargeParam (most : ℕ) (names : Names) : List WrittenParam → Type 0 where
  this_large : {p : WrittenParam} {ps : List WrittenParam} → HasLarge most names p → HasLargeParam most names (p ∷ ps)
  later_large : {p : WrittenParam} {ps : List WrittenParam} → HasLargeParam most names ps → HasLargeParam most names (p ∷ ps)

-- a parameter whose type may not be written in its scope, or may not be that of a parameter
pub data BreaksHeadParams (env : Env) : List WrittenParam → List Param → Fault → Type 0 where
  this_param : {l : WrittenParam} {ls : List WrittenParam} {p : Param} {ps : List Param} {f : Fault} → BreaksWritten env l p.of f → BreaksHeadParams env (l ∷ ls) (p ∷ ps) f
  later_param : {l : WrittenParam} {ls : List WrittenParam} {p : Param} {ps : List Param} {f : Fault} → BreaksHeadParams env ls ps f → BreaksHeadParams env (l ∷ ls) (p ∷ ps) f

-- a head that may not be written
pub data BreaksHead (texts : List (List ℕ)) (f : FunDef) (h : Head) : Fault → Type 0 where
  side_unkinded : {r s : List RowPart} → Contains h.cons (con_param.Apart r s) → (row_is_in (variables (within_head h)) r && row_is_in (variables (within_head h)) s) ≡ false → BreaksHead texts f h (unkinded (codes "another kind") (codes "{Type}"))
  bad_param : {c : Fault} → BreaksHeadParams (within_head h) f.params h.params c → BreaksHead texts f h c
  result_out_of_place : {c : Fault} → BreaksPlace (within_head h) f.result h.result c → BreaksHead texts f h c
  result_arrow : holds_arrow h.result ≡ true → BreaksHead texts f h (not_so (type_text texts h.result) (codes "a result without an arrow"))

pub data BreaksHeading (texts : List (List ℕ)) (most : ℕ) (names : Names) (f : FunDef) : Fault → Type 0 where
  large_side : HasLargeSide most names f.con_params → BreaksHeading texts most names f too_large
  large_param : {c : ConParams} → con_params_out most names f.con_params ≡ Some c → HasLargeParam most c.0 f.params → BreaksHeading texts most names f too_large
  large_result : {c : ConParams} → con_params_out most names f.con_params ≡ Some c → nat_le (nodes (nf c.0.cons f.result)) most ≡ false → BreaksHeading texts most names f too_large
  bad_head : {h : Heading} {c : Fault} → written_heading most names f ≡ Some h → BreaksHead texts f h.head c → BreaksHeading texts most names f c

pub data BreaksHeadings (most home : ℕ) : List FunDef → Sofar → Fault → Type 0 where
  this_heading : {f : FunDef} {fs : List FunDef} {z : Sofar} {c : Fault} → BreaksHeading (datatype_names z) most (names_at z.place) f c → BreaksHeadings most home (f ∷ fs) z c
  later_heading : {f : FunDef} {fs : List FunDef} {z : Sofar} {h : Heading} {c : Fault} → heading_out most (names_at z.place) f ≡ Some h → BreaksHeadings most home fs (with_head home f z h) c → BreaksHeadings most home (f ∷ fs) z c

pub data BreaksVal (most : ℕ) (z : Sofar) (c : Con) : Fault → Type 0 where
  large_val : nat_le (nodes (form_of z c)) most ≡ false → BreaksVal most z c too_large
  bad_val : {f : Fault} → BreaksParameter nothing_in_scope c (type_of z c) f → BreaksVal most z c f

-- ---- declarations

-- a declaration's head may not stand behind what is declared before it
pub data BreaksDecl (most home : ℕ) (z : Sofar) : DeclForm → Fault → Type 0 where
  in_con : {x : List ℕ} {k : Kind} {c : Con} {f : Fault} → BreaksDefined most z c f → BreaksDecl most home z (decl.Con x k c) f
  in_type : {x : List ℕ} {c : Con} {f : Fault} → BreaksDefined most z c f → BreaksDecl most home z (decl.Type x c) f
  in_datatype : {x : List ℕ} {vs : List WrittenVariant} {f : Fault} → BreaksVariants most z.place.datatypes vs (with_datatype home x z) f → BreaksDecl most home z (decl.Datatype x vs) f
  in_table : {x : List ℕ} {c : Con} {primary : Option (List (List ℕ))} {cs : List Constraint} {f : Fault} → BreaksTable most z c primary cs f → BreaksDecl most home z (decl.Table x c primary cs) f
  in_cookie : {x : List ℕ} {c : Con} {f : Fault} → BreaksCookie most z c f → BreaksDecl most home z (decl.Cookie x c) f
  in_val : {x : List ℕ} {c : Con} {e : WrittenExp} {f : Fault} → BreaksVal most z c f → BreaksDecl most home z (decl.Val x c e) f
  in_functions : {fs : List FunDef} {f : Fault} → BreaksHeadings most home fs z f → BreaksDecl most home z (decl.Fun fs) f

-- the names of datatypes by which a fault of a declaration is told: a datatype is in scope of its own constructors
abbrev pub names_within : ℕ → DeclForm → Sofar → List (List ℕ)
names_within home (decl.Datatype x vs) z = datatype_names (with_datatype home x z)
names_within home _ z = datatype_names z

-- ---- bodies

pub data GroupHasFault (most : ℕ) (z : Sofar) (r : Refusal) : List FunDef → Bodies → Type 0 where
  this_body : {f : FunDef} {fs : List FunDef} {b : Bodies} {h : Heading} → heading_out most (names_at z.place) f ≡ Some h →
      HasFault (datatype_names z) (world_behind most z) (body_scope h) b.sites f.body.form (wants h.head.result) r → GroupHasFault most z r (f ∷ fs) b
  later_body : {f : FunDef} {fs : List FunDef} {b y : Bodies} → option_and_then (body_out most z f b) (heading_out most (names_at z.place) f) ≡ Some y → GroupHasFault most z r fs y → GroupHasFault most z r (f ∷ fs) b

pub data BodiesHaveFault (most : ℕ) (z after : Sofar) (b : Bodies) (r : Refusal) : DeclForm → Type 0 where
  in_right_side : {x : List ℕ} {c : Con} {e : WrittenExp} {t : NormalType} → val_type_out most c z ≡ Some t → HasFault (datatype_names z) (world_behind most z) (top_scope z) b.sites e.form (wants t) r →
      BodiesHaveFault most z after b r (decl.Val x c e)
  right_side_moves : {x : List ℕ} {c : Con} {e : WrittenExp} {t : NormalType} {o : Out} → val_type_out most c z ≡ Some t → typed (world_behind most z) e.form (top_scope z) b.sites (wants t) ≡ Some o → is_static o.exp ≡ false →
      TellsType (datatype_names z) r (not_so (codes "the right side of a val") (codes "a static expression")) → BodiesHaveFault most z after b r (decl.Val x c e)
  in_group : {fs : List FunDef} → GroupHasFault most after r fs b → BodiesHaveFault most z after b r (decl.Fun fs)

-- ---- modules

-- the first declaration that breaks a rule, all before it being typed
pub data DeclsHaveFault (most home : ℕ) (r : Refusal) : List Decl → Checked → Type 0 where
  in_head : {d : Decl} {ds : List Decl} {p : Checked} {f : Fault} → BreaksDecl most home p.0 d.form f → TellsType (names_within home d.form p.0) r f → DeclsHaveFault most home r (d ∷ ds) p
  in_bodies : {d : Decl} {ds : List Decl} {p : Checked} {after : Sofar} → decl_out most home d.form p.0 ≡ Some after → BodiesHaveFault most p.0 after p.1 r d.form → DeclsHaveFault most home r (d ∷ ds) p
  in_later_decl : {d : Decl} {ds : List Decl} {p : Checked} {after : Sofar} {b : Bodies} → decl_out most home d.form p.0 ≡ Some after → bodies_out most d.form p.0 after p.1 ≡ Some b → DeclsHaveFault most home r ds (after, b) →
      DeclsHaveFault most home r (d ∷ ds) p

pub data ModulesHaveFault (most : ℕ) (r : Refusal) : ℕ → List (List ℕ) → List Module → Checked → Type 0 where
  in_module : {n : ℕ} {m : List ℕ} {names : List (List ℕ)} {x : Module} {modules : List Module} {p : Checked} → DeclsHaveFault most n r x.decls (entered m p) → ModulesHaveFault most r n (m ∷ names) (x ∷ modules) p
  in_later_module : {n : ℕ} {m : List ℕ} {names : List (List ℕ)} {x : Module} {modules : List Module} {p q : Checked} → decls_out most n x.decls (entered m p) ≡ Some q → ModulesHaveFault most r (n + 1) names modules q →
      ModulesHaveFault most r n (m ∷ names) (x ∷ modules) p

-- ---- the signature

-- a name of the signature that is no entry: nothing has it, a `val` has it, or the function is of another type or no page function with linkable parameters
pub data BreaksEntry (most : ℕ) (z : Sofar) (v : ValDecl) : Fault → Type 0 where
  unknown_entry : looked_up (at z.place v.name) z.place.globals.values ≡ None → BreaksEntry most z v (unknown v.name)
  val_entry : {n : ℕ} → looked_up (at z.place v.name) z.place.globals.values ≡ Some (here.val n) → BreaksEntry most z v (not_so (codes "an entry") (codes "a page function"))
  large_entry : {n : ℕ} → looked_up (at z.place v.name) z.place.globals.values ≡ Some (here.function n) → nat_le (nodes (form_of z v.con)) most ≡ false → BreaksEntry most z v too_large
  other_entry : {n : ℕ} {g : FunctionHead} → looked_up (at z.place v.name) z.place.globals.values ≡ Some (here.function n) → slice_get z.functions n ≡ Some g → same_type (function_type g.head) (type_of z v.con) ≡ false →
      BreaksEntry most z v (types_differ (datatype_names z) (function_type g.head) (type_of z v.con))
  no_page : {n : ℕ} {g : FunctionHead} → looked_up (at z.place v.name) z.place.globals.values ≡ Some (here.function n) → slice_get z.functions n ≡ Some g → is_page g.head ≡ false → BreaksEntry most z v (not_so (codes "an entry") (codes "a page function"))
  no_link : {n : ℕ} {g : FunctionHead} → looked_up (at z.place v.name) z.place.globals.values ≡ Some (here.function n) → slice_get z.functions n ≡ Some g → are_linkable (types_of g.head.params) ≡ false →
      BreaksEntry most z v (not_so (codes "a parameter") (codes "int, string, bool or unit"))

pub data EntriesHaveFault (most : ℕ) (z : Sofar) (r : Refusal) : List ValDecl → Type 0 where
  this_entry : {v : ValDecl} {vs : List ValDecl} {f : Fault} → BreaksEntry most z v f → TellsType (datatype_names z) r f → EntriesHaveFault most z r (v ∷ vs)
  later_entry : {v : ValDecl} {vs : List ValDecl} {n : ℕ} → entry_out most z v ≡ Some n → EntriesHaveFault most z r vs → EntriesHaveFault most z r (v ∷ vs)

-- The routes break nothing: their functions are entries, or targets of links and buttons, which are told in bodies.
pub data ProjectHasFault (most : ℕ) (start : Checked) (names : List (List ℕ)) (modules : List Module) (signature : Option Signature) (r : Refusal) : Type 0 where
  in_modules : ModulesHaveFault most r 0 names modules start → ProjectHasFault most start names modules signature r
  in_signature : {s : Signature} {p : Checked} → signature ≡ Some s → modules_out most 0 names modules start ≡ Some p → EntriesHaveFault most p.0 r s.vals → ProjectHasFault most start names modules signature r

-- what has a fault is not typed
abbrev pub FaultyProjectIsNone : Type 0
FaultyProjectIsNone = (most : ℕ) (start : Checked) (names : List (List ℕ)) (modules : List Module) (signature : Option Signature) (r : Refusal) → ProjectHasFault most start names modules signature r → project_out most start names modules signature ≡ None
