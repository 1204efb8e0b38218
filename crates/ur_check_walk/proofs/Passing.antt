-- Functions with constructor arguments that are not applied.
use Rattle.std.proofs.Common.{◌≡◌, ◌≢◌, ◌∙◌, refl, sym, subst, true, false, Bool, ℕ, ◌+◌, List, Option, Some, None, Err}
use Rattle.ur_base.specs.Stopping.{IfRefused}
use Rattle.ur_base.specs.declared.refusal.Refusal.{Refusal}
use Rattle.ur_base.specs.declared.refusal.Stop.{Stop}
use Rattle.ur_base.specs.declared.refusal.Stop.TheVariants as stop
use Rattle.ur_syntax.specs.Names.{name_text}
use Rattle.ur_syntax.specs.declared.con.Con.{Con}
use Rattle.ur_syntax.specs.declared.exp.Exp.{Exp}
use Rattle.ur_syntax.specs.declared.exp.ExpForm.{ExpForm, end_of-Exp as alone, more_of-Exp as its}
use Rattle.ur_syntax.specs.declared.exp.ExpForm.TheVariants as e
use Rattle.ur_typed_rules.specs.Names.{declared, local_at, val}
use Rattle.ur_typed_rules.specs.Scopes.{World, Scope, Mode}
use Rattle.ur_typed_rules.specs.Faults.{Fault, unknown}
use Rattle.ur_typed.specs.Causes.{Breaks, bad_name}
use Rattle.ur_typed.specs.Faults.{is_given, is_name, not_named, BreaksNamed, named_within, unknown_name, unknown_member, names_local, names_val, member_val, no_name_there}
use Rattle.ur_typed.specs.Rules.{Sites, function_out}
use Rattle.ur_check_scopes.specs.declared.around.Around.{Around}
use Rattle.ur_check_scopes.specs.declared.locals.Place.{Place}
use Rattle.ur_check_scopes.specs.declared.locals.Place.TheVariants as place
use Rattle.ur_check_scopes.specs.declared.names.Key.{Key}
use Rattle.ur_check_scopes.specs.declared.names.Key.TheVariants as key
use Rattle.ur_check_scopes.specs.Views.{Stands, StandsFor, locals_in, values_in, fixed_in, Refuses, StopIs, StopTells, key_in}
use Rattle.ur_check_rules.specs.declared.out.Out.{Out as HeldOut}
use Rattle.ur_check_rules.specs.Views.{out_with}
use Rattle.ur_check_rules.specs.declared.values.Applied.{Applied}
use Rattle.ur_check_rules.specs.Callees.{IsApplied, MayBeApplied, BreaksGivenTo, named_by, IsFree}
use Rattle.ur_check_rules.proofs.Naming.{walk-function, place-there}
use Rattle.ur_check_walk.specs.Promises.{GivesLeaf, TellsLeaf}
use Rattle.ur_check_walk.proofs.Forms.{con-app-made}
use Rattle.ur_check_walk.proofs.Steps.{rule}

pub applied-there : (w : World) (s : Scope) (x : ExpForm) (o : Option Applied) (f : Applied) → o ≡ Some f → MayBeApplied w s x o → IsApplied w s x f
applied-there w s x o f e h = subst (MayBeApplied w s x) e h

pub given-gives : (a : Around) (x : ExpForm) (m : Mode) (f : Applied) (o : HeldOut) → ((w : World) (s : Scope) → Stands a w s → IsApplied w s x f) → ((w : World) (s : Scope) (st : Sites) → Stands a w s → function_out w s st (f.number, f.args) ≡ Some (out_with o st)) → GivesLeaf a x m o
given-gives a x m f o h g w s st stands = walk-function w s st x m (f.number, f.args) (h w s stands).at ∙ g w s st stands

pub given-breaks : (names : List (List ℕ)) (w : World) (s : Scope) (st : Sites) (x : ExpForm) (m : Mode) (f : Fault) → is_given x ≡ true → BreaksNamed w s x f → Breaks names w s st x m f
given-breaks names w s st (e.ConApp' _ (its p x alone) c) m f h b = bad_name b
given-breaks names w s st _ m f h b = cc

pub given-to-tells : (a : Around) (x : ExpForm) (m : Mode) (r : Refusal) → ((w : World) (s : Scope) → Stands a w s → Refuses a.world.now.datatype_names (BreaksGivenTo w s x) r) → TellsLeaf a x m r
given-to-tells a x m r h w s st stands = let t = h w s stands in rule (t.0, given-breaks a.world.now.datatype_names w s st x m t.0 t.1.is_given t.1.broken, t.2)

pub no-function-tells : (a : Around) (x : ExpForm) (s : Stop) → ((w : World) (z : Scope) → Stands a w z → StopTells a.world.now.datatype_names (BreaksNamed w z x) s) → IfRefused {A = Unit {0}} (Err s) (λ r. is_given x ≡ true → (m : Mode) → TellsLeaf a x m r)
no-function-tells a x (stop.Refused r) h = λ g m w s st stands. let t = h w s stands in rule (t.0, given-breaks a.world.now.datatype_names w s st x m t.0 g t.1, t.2)
no-function-tells a x stop.Memory h = tt

-- what breaks the rule of the head does so with constructor arguments behind it
abbrev pub Within : ExpForm → ExpForm → Type 0
Within x y = (w : World) (s : Scope) (f : Fault) → BreaksNamed w s y f → BreaksNamed w s x f

pub within-next : (x y : ExpForm) (inner next : Exp) (c : Con) → y ≡ e.ConApp inner c → next ≡ inner → Within x y → Within x next.form
within-next x y inner next c e h within w s f b = within w s f (subst (λ z. BreaksNamed w s z f) (sym (e ∙ con-app-made inner c)) (named_within (subst (λ (z : Exp). BreaksNamed w s z.form f) h b)))

told-within : (names : List (List ℕ)) (P Q : Fault → Type 0) (s : Stop) → ((f : Fault) → P f → Q f) → StopTells names P s → StopTells names Q s
told-within names P Q (stop.Refused r) g h = (h.0, g h.0 h.1, h.2)
told-within names P Q stop.Memory g h = tt

pub within-told : (a : Around) (x y : ExpForm) (s : Stop) → Within x y → ((w : World) (z : Scope) → Stands a w z → StopTells a.world.now.datatype_names (BreaksNamed w z y) s) → (w : World) (z : Scope) → Stands a w z → StopTells a.world.now.datatype_names (BreaksNamed w z x) s
within-told a x y s within h w z stands = told-within a.world.now.datatype_names (BreaksNamed w z y) (BreaksNamed w z x) s (within w z) (h w z stands)

tells-one : (names : List (List ℕ)) (P : Fault → Type 0) (f : Fault) (s : Stop) → P f → StopIs names f s → StopTells names P s
tells-one names P f (stop.Refused r) p h = (f, p, h)
tells-one names P f stop.Memory p h = tt

-- ---- names

not-name : (x : ExpForm) → ((y : List ℕ) → x ≢ e.Var y) → ((m y : List ℕ) → x ≢ e.Member m y) → is_name x ≡ false
not-name (e.Var y) h g = absurd (h y refl)
not-name (e.Member m y) h g = absurd (g m y refl)
not-name _ h g = refl

pub nothing-named : (a : Around) (x : ExpForm) (s : Stop) → ((y : List ℕ) → x ≢ e.Var y) → ((m y : List ℕ) → x ≢ e.Member m y) → ((names : List (List ℕ)) → StopIs names not_named s) → is_given x ≡ false →
    (w : World) (z : Scope) → Stands a w z → StopTells a.world.now.datatype_names (BreaksNamed w z x) s
nothing-named a x s h g t given w z stands = tells-one a.world.now.datatype_names (BreaksNamed w z x) not_named s (no_name_there given (not-name x h g)) (t a.world.now.datatype_names)

bound-at : (x : List ℕ) (s : Scope) (p : Place) → StandsFor x 0 0 s.names.locals s.env.values s.env.fixed (Some p) → (i : Bool × ℕ) × (local_at x s.names.locals ≡ Some i)
bound-at x s (place.Variable n t) k = ((false, n), k.2)
bound-at x s (place.Fixed n t) k = ((true, n), k.2)
bound-at x s place.Hidden k = ((false, 0 + k.0), k.1)

pub local-named : (a : Around) (x : List ℕ) (found : Option Place) (p : Place) (s : Stop) → found ≡ Some p → StandsFor x 0 0 (locals_in a.scope.locals) (values_in a.scope.locals) (fixed_in a.scope.locals) found → ((names : List (List ℕ)) → StopIs names not_named s) →
    (w : World) (z : Scope) → Stands a w z → StopTells a.world.now.datatype_names (BreaksNamed w z (e.Var x)) s
local-named a x found p s h k t w z stands = tells-one a.world.now.datatype_names (BreaksNamed w z (e.Var x)) not_named s (names_local (bound-at x z p (place-there a x found p h k w z stands)).1) (t a.world.now.datatype_names)

pub val-named : (a : Around) (k : Key) (n : ℕ) (s : Stop) → ((w : World) (z : Scope) → Stands a w z → declared w.globals (key_in k) w.globals.values ≡ Some (val n)) → ((names : List (List ℕ)) → StopIs names not_named s) →
    (w : World) (z : Scope) → Stands a w z → IsFree k z → StopTells a.world.now.datatype_names (BreaksNamed w z (named_by k)) s
val-named a (key.Own x) n s h t w z stands free = tells-one a.world.now.datatype_names (BreaksNamed w z (e.Var x.now)) not_named s (names_val (h w z stands)) (t a.world.now.datatype_names)
val-named a (key.Member m x) n s h t w z stands free = tells-one a.world.now.datatype_names (BreaksNamed w z (e.Member m.now x.now)) not_named s (member_val (h w z stands)) (t a.world.now.datatype_names)

pub none-declared : (a : Around) (k : Key) (s : Stop) → ((w : World) (z : Scope) → Stands a w z → declared w.globals (key_in k) w.globals.values ≡ None) → ((names : List (List ℕ)) → StopIs names (unknown (name_text (key_in k).home (key_in k).name)) s) →
    (w : World) (z : Scope) → Stands a w z → IsFree k z → StopTells a.world.now.datatype_names (BreaksNamed w z (named_by k)) s
none-declared a (key.Own x) s h t w z stands free = tells-one a.world.now.datatype_names (BreaksNamed w z (e.Var x.now)) (unknown x.now) s (unknown_name free (h w z stands)) (t a.world.now.datatype_names)
none-declared a (key.Member m x) s h t w z stands free = tells-one a.world.now.datatype_names (BreaksNamed w z (e.Member m.now x.now)) (unknown (name_text (Some m.now) x.now)) s (unknown_member (h w z stands)) (t a.world.now.datatype_names)
