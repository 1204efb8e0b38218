-- Written types where they are declared, and how refusals of them are told.
use Rattle.std.specs.Prelude.{codes, option_and_then}
use Rattle.std.proofs.Common.{◌≡◌, ap, sym, ◌∙◌, subst, subst₂, ℕ, nat_le, Bool, true, false, ◌&&◌, Option, Some, None, Err}
use Rattle.ur_base.specs.Stopping.{IfRefused}
use Rattle.ur_base.specs.declared.refusal.Refusal.{Refusal}
use Rattle.ur_base.specs.declared.refusal.Stop.{Stop}
use Rattle.ur_base.specs.declared.refusal.Stop.TheVariants as stop
use Rattle.ur_syntax.specs.declared.con.Con.{Con}
use Rattle.ur_rows.specs.declared.normal.Normal.{Normal}
use Rattle.ur_rows.specs.declared.normal.NormalType.{NormalType}
use Rattle.ur_rows.specs.Nodes.{nodes}
use Rattle.ur_rows.specs.Normal.{nf}
use Rattle.ur_rows.specs.Put.{as_type}
use Rattle.ur_rows.specs.Types.{is_value_type, is_placed}
use Rattle.ur_tree.specs.Text.{type_text}
use Rattle.ur_tree.specs.App.{nothing_in_scope}
use Rattle.ur_sqltype.specs.Table.{type_kind}
use Rattle.ur_typed_rules.specs.Tests.{is_type}
use Rattle.ur_typed_rules.specs.Faults.{Fault, TellsType, not_so, not_of_type}
use Rattle.ur_typed_rules.specs.Rules.{if_so, small_type, written_type}
use Rattle.ur_typed_rules.proofs.Options.{some_of, opened_if}
use Rattle.ur_check_scopes.specs.declared.world.World.{World as Held}
use Rattle.ur_check_scopes.specs.Views.{Refuses, StopIs}
use Rattle.ur_typed.specs.Project.{env_at}
use Rattle.ur_typed.specs.Declaring.{Sofar, datatype_names, world_behind, top_scope, may_be_defined, val_type_out}
use Rattle.ur_typed_rules.specs.Arguments.{BreaksCon, BreaksParameter}
use Rattle.ur_tree.specs.Env.{Env}
use Rattle.ur_typed_rules.specs.Tests as tests
use Rattle.ur_typed.specs.DeclFaults.{form_of, type_of, BreaksDefined, rows_meet, BreaksArgument, argument_moves, BreaksCookie, other_cookie, BreaksVal, bad_val}
use Rattle.ur_check_heads.specs.declared.project.Project.{Project}
use Rattle.ur_check_heads.specs.Views.{Sees}
use Rattle.ur_check_heads.proofs.Seeing.{names-seen}

-- ---- refusals

-- what is told by the project's names is told by those of what is declared
pub named-as : (p : Project) (home : ℕ) (z : Sofar) (w : Held) (P : Fault → Type 0) (r : Refusal) → Sees p home z → w ≡ p.world → Refuses w.datatype_names P r → Refuses (datatype_names z) P r
named-as p home z w P r s e h = subst (λ ns. Refuses ns P r) (ap (λ (x : Held). x.datatype_names) e ∙ sym (names-seen p home z s)) h

-- one fault, whatever is declared
pub told-all : (p : Project) (s : Stop) (f : Fault) (P : Sofar → Fault → Type 0) → StopIs p.world.datatype_names f s → ((home : ℕ) (z : Sofar) → Sees p home z → P z f) →
    IfRefused {A = Unit {0}} (Err s) (λ r. (home : ℕ) (z : Sofar) → Sees p home z → Refuses (datatype_names z) (P z) r)
told-all p (stop.Refused r) f P t g = λ home z s. (f, g home z s, subst (λ ns. TellsType ns r f) (sym (names-seen p home z s)) t)
told-all p stop.Memory f P t g = tt

-- ---- types

pub so-far : {A : Type 0} (test : A → Bool) (o : Option A) (x : A) → o ≡ Some x → test x ≡ true → option_and_then (λ t. if_so (test t) (Some t)) o ≡ Some x
so-far test o x e h = ap (option_and_then (λ t. if_so (test t) (Some t))) e ∙ ap (λ b. if_so b (Some x)) h

pub typed-is : (z : Sofar) (c : Con) (t : NormalType) → written_type (world_behind 65536 z) (top_scope z) c ≡ Some t → t ≡ type_of z c
typed-is z c t h = sym (some_of (opened_if (nat_le (nodes (nf (env_at z.place) c)) 65536 && is_type nothing_in_scope (as_type (nf (env_at z.place) c))) (Some (as_type (nf (env_at z.place) c))) t h).1)

pub small-is : (n : Normal) (t : NormalType) → small_type 65536 n ≡ Some t → t ≡ as_type n
small-is n t h = sym (some_of (opened_if (nat_le (nodes n) 65536) (Some (as_type n)) t h).1)

pub moves : (p : Project) (home : ℕ) (z : Sofar) (c : Con) (t : NormalType) → Sees p home z → t ≡ type_of z c → is_value_type t ≡ false → BreaksArgument 65536 z c (not_so (type_text p.world.datatype_names t) (codes "the type of a value"))
moves p home z c t s e h =
    subst₂ (λ ns u. BreaksArgument 65536 z c (not_so (type_text ns u) (codes "the type of a value"))) (names-seen p home z s) (sym e) (argument_moves (ap is_value_type (sym e) ∙ h))

pub no-cookie : (p : Project) (home : ℕ) (z : Sofar) (c : Con) (t : NormalType) → Sees p home z → t ≡ type_of z c → type_kind t ≡ None → BreaksCookie 65536 z c (not_of_type p.world.datatype_names t (codes "int, string or bool"))
no-cookie p home z c t s e h =
    subst₂ (λ ns u. BreaksCookie 65536 z c (not_of_type ns u (codes "int, string or bool"))) (names-seen p home z s) (sym e) (other_cookie (ap type_kind (sym e) ∙ h))

-- ---- definitions

both : (a b : Bool) → a ≡ true → b ≡ true → (a && b) ≡ true
both true b e h = h
both false b e h = cc

pub defined-so : (z : Sofar) (c : Con) (n : Normal) (env : Env) → n ≡ form_of z c → nat_le (nodes n) 65536 ≡ true → env ≡ nothing_in_scope → tests.con_rows_are_apart env n ≡ true → may_be_defined 65536 z c ≡ true
defined-so z c n env e small k h =
    subst₂ (λ v m. (nat_le (nodes m) 65536 && tests.con_rows_are_apart v m) ≡ true) k e (both (nat_le (nodes n) 65536) (tests.con_rows_are_apart env n) small h)

pub defined-breaks : (z : Sofar) (c : Con) (n : Normal) (env : Env) (f : Fault) → n ≡ form_of z c → env ≡ nothing_in_scope → BreaksCon env.known c n f → BreaksDefined 65536 z c f
defined-breaks z c n env f e k h = rows_meet (subst₂ (λ (v : Env) m. BreaksCon v.known c m f) k e h)

-- ---- the type of a `val`

pub val-so : (z : Sofar) (c : Con) (t : NormalType) (env : Env) → small_type 65536 (form_of z c) ≡ Some t → env ≡ nothing_in_scope → (is_type env t && is_placed t) ≡ true → val_type_out 65536 c z ≡ Some t
val-so z c t env e k h = so-far (λ u. is_type nothing_in_scope u && is_placed u) (small_type 65536 (form_of z c)) t e (subst (λ (v : Env). (is_type v t && is_placed t) ≡ true) k h)

pub val-breaks : (z : Sofar) (c : Con) (t : NormalType) (env : Env) (f : Fault) → small_type 65536 (form_of z c) ≡ Some t → env ≡ nothing_in_scope → BreaksParameter env c t f → BreaksVal 65536 z c f
val-breaks z c t env f e k h = bad_val (subst₂ (λ (v : Env) u. BreaksParameter v c u f) k (small-is (form_of z c) t e) h)
