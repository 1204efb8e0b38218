-- What is found of an expression, and what is not accepted.
use Rattle.std.proofs.Common.{◌≡◌, refl, ap, ap₂, sym, ◌∙◌, subst, ℕ, ◌+◌, ◌<◌, ◌≤◌, nat_le, arith, Bool, true, false, ◌&&◌, ◌||◌, not, List, Option, Some, None, Err}
use Rattle.ur_base.specs.Stopping.{IfRefused}
use Rattle.ur_base.specs.declared.refusal.Refusal.{Refusal}
use Rattle.ur_base.specs.declared.refusal.Stop.{Stop}
use Rattle.ur_base.specs.declared.refusal.Stop.TheVariants as stop
use Rattle.std.specs.Prelude.{IsTrue, ◌↔◌, codes, MatchOption}
use Rattle.std.specs.Option.{is_some}
use Rattle.ur_rows.specs.declared.normal.NormalType.{NormalType}
use Rattle.ur_rows.specs.Nodes.{type_nodes}
use Rattle.ur_rows.specs.Types.{holds_arrow, may_run}
use Rattle.ur_tree.specs.Text.{type_text}
use Rattle.ur_tree.specs.declared.exp.Exp.{Exp}
use Rattle.ur_tree.specs.IsStatic.{is_static}
use Rattle.ur_typed_rules.specs.Scopes.{World, Scope, Mode, wants}
use Rattle.ur_typed_rules.specs.Tests.{same_type}
use Rattle.ur_typed_rules.proofs.Rows as rows
use Rattle.ur_typed_rules.specs.Faults.{not_so, too_large, types_differ}
use Rattle.ur_typed_rules.specs.Rules.{if_so}
use Rattle.ur_typed.specs.Rules.{Sites, Out, fits, is_accepted, settled}
use Rattle.ur_typed.specs.Causes.{BreaksSettled, other_type, grows, runs, moves}
use Rattle.ur_check_scopes.specs.declared.around.Around.{Around}
use Rattle.ur_check_scopes.specs.Views.{Stands, Refuses, StopIs}
use Rattle.ur_check_rules.specs.declared.out.Out.{Out as HeldOut}
use Rattle.ur_check_rules.specs.Views.{out_with}

pub most_is : (a : Around) (w : World) (s : Scope) → Stands a w s → w.most ≡ 65536
most_is a w s h = ap (λ z. z.most) h.world

-- two tests that tell the same
pub same-bool : (a b : Bool) → (a ≡ true → b ≡ true) → (b ≡ true → a ≡ true) → a ≡ b
same-bool true b f g = sym (f refl)
same-bool false true f g = g refl
same-bool false false f g = refl

pub types-told : (b : Bool) (t u : NormalType) → IsTrue b ↔ (t ≡ u) → b ≡ same_type t u
types-told b t u h = same-bool b (same_type t u) (λ e. (rows.told t u).1 (h.0 e)) (λ e. h.1 ((rows.told t u).0 e))

pub is-small : (n m : ℕ) → n ≤ m → nat_le n m ≡ true
is-small n m h = grind arith

pub is-large : (n m : ℕ) → m < n → nat_le n m ≡ false
is-large n m h = grind arith

-- whether so many nodes are within a limit, by what is left of it
pub small-told : (left : Option ℕ) (n m : ℕ) (b : Bool) → MatchOption left (m < n) (λ l. l + n ≡ m) → b ≡ is_some left → b ≡ nat_le n m
small-told (Some l) n m b h e = e ∙ sym (is-small n m (omega arith))
small-told None n m b h e = e ∙ sym (is-large n m h)

pub other-type : (names : List (List ℕ)) (t u : NormalType) (s : Stop) → same_type t u ≡ false → StopIs names (types_differ names t u) s →
    IfRefused {A = Unit {0}} (Err s) (λ r. (w : World) (o : Out) → o.of ≡ t → Refuses names (BreaksSettled names w (wants u) o) r)
other-type names t u (stop.Refused r) h s = λ w o e. (types_differ names t u, subst (λ z. BreaksSettled names w (wants u) o (types_differ names z u)) e (other_type (ap (λ z. same_type z u) e ∙ h)), s)
other-type names t u stop.Memory h s = tt

-- ---- what is not accepted

abbrev pub Unsettled : Around → HeldOut → Refusal → Type 0
Unsettled a o r = (w : World) (s : Scope) (m : Mode) (st : Sites) → Stands a w s → Refuses a.world.now.datatype_names (BreaksSettled a.world.now.datatype_names w m (out_with o st)) r

pub grows-told : (a : Around) (o : HeldOut) (s : Stop) → nat_le (type_nodes o.of) 65536 ≡ false → ((names : List (List ℕ)) → StopIs names too_large s) → IfRefused {A = Unit {0}} (Err s) (Unsettled a o)
grows-told a o (stop.Refused r) h t = λ w s m st stands. (too_large, grows (ap (nat_le (type_nodes o.of)) (most_is a w s stands) ∙ h), t a.world.now.datatype_names)
grows-told a o stop.Memory h t = tt

pub runs-told : (a : Around) (o : HeldOut) (s : Stop) → may_run o.of ≡ false → StopIs a.world.now.datatype_names (not_so (type_text a.world.now.datatype_names o.of) (codes "no transaction within")) s → IfRefused {A = Unit {0}} (Err s) (Unsettled a o)
runs-told a o (stop.Refused r) h t = λ w s m st stands. (not_so (type_text a.world.now.datatype_names o.of) (codes "no transaction within"), runs h, t)
runs-told a o stop.Memory h t = tt

static-not : (a b : Bool) → (not a || b) ≡ false → (a ≡ true) × (b ≡ false)
static-not true b h = (refl, h)
static-not false b h = cc

pub moves-told : (a : Around) (o : HeldOut) (s : Stop) → (not (holds_arrow o.of) || is_static o.exp) ≡ false → StopIs a.world.now.datatype_names (not_so (type_text a.world.now.datatype_names o.of) (codes "a static expression")) s → IfRefused {A = Unit {0}} (Err s) (Unsettled a o)
moves-told a o (stop.Refused r) h t = λ w s m st stands.
    let k : (holds_arrow o.of ≡ true) × (is_static o.exp ≡ false) = static-not (holds_arrow o.of) (is_static o.exp) h in
    (not_so (type_text a.world.now.datatype_names o.of) (codes "a static expression"), moves k.0 k.1, t)
moves-told a o stop.Memory h t = tt

pub accepted-made : (x : Exp) (t : NormalType) → nat_le (type_nodes t) 65536 ≡ true → may_run t ≡ true → (not (holds_arrow t) || is_static x) ≡ true → is_accepted 65536 x t ≡ true
accepted-made x t h k l = ap (λ z. z && (may_run t && (not (holds_arrow t) || is_static x))) h ∙ ap (λ z. z && (not (holds_arrow t) || is_static x)) k ∙ l

pub settled-made : (a : Around) (o : HeldOut) (m : Mode) → fits m o.of ≡ true → is_accepted 65536 o.exp o.of ≡ true → (w : World) (s : Scope) (st : Sites) → Stands a w s → settled w.most m (out_with o st) ≡ Some (out_with o st)
settled-made a o m f h w s st stands = ap (λ n. settled n m (out_with o st)) (most_is a w s stands) ∙ ap₂ (λ x y. if_so (x && y) (Some (out_with o st))) h f
