-- The targets of links and buttons.
use Rattle.std.proofs.Common.{arith, ◌+◌, ◌*◌, ◌≡◌, ◌∙◌, refl, ap, ap₂, sym, subst, true, false, Bool, ℕ, suc, ◌≤◌, ◌<◌, List, [], ◌∷◌, length, map, Option, Some, None, Err}
use Rattle.std.specs.Borrow.{Bor}
use Rattle.std.specs.Prelude.{option_map, option_and_then, slice_get}
use Rattle.std.proofs.lemmas.List.{length-map}
use mathlib.Core.Former.{Count}
use Rattle.ur_base.specs.Stopping.{IfRefused}
use Rattle.ur_base.specs.declared.refusal.Refusal.{Refusal}
use Rattle.ur_base.specs.declared.refusal.Stop.{Stop}
use Rattle.ur_base.specs.declared.refusal.Stop.TheVariants as stop
use Rattle.ur_syntax.specs.declared.exp.Exp.{Exp}
use Rattle.ur_syntax.specs.declared.exp.ExpForm.{ExpForm, end_of-Exp as alone, more_of-Exp as its}
use Rattle.ur_syntax.specs.declared.exp.ExpForm.TheVariants as e
use Rattle.ur_rows.specs.declared.normal.NormalType.{NormalType}
use Rattle.ur_tree.specs.declared.exp.Exp.{Exp as Resolved}
use Rattle.ur_tree.specs.Heads.{Declared}
use Rattle.ur_typed_rules.specs.Scopes.{World, Scope, Mode}
use Rattle.ur_typed_rules.specs.Faults.{Fault, TellsType as TellsFault}
use Rattle.ur_typed.specs.Causes.{HasFault}
use Rattle.ur_typed.specs.Faults.{walks, missing_argument, too_many_given, TooMany, no_type_left, many_behind}
use Rattle.ur_typed.specs.Markups.{page_params, without_last}
use Rattle.ur_typed.specs.Parts.{is_applied, first_types, InTarget, target_further, target_head}
use Rattle.ur_typed.specs.Rules.{Sites, Walk, args_out, function_named}
use Rattle.ur_typed.specs.Walking.{typed, call_walk, with_calls}
use Rattle.ur_typed.proofs.Literals.{call_at_head}
use Rattle.ur_check_scopes.specs.declared.around.Around.{Around}
use Rattle.ur_check_scopes.specs.Views.{Stands, Refuses, StopIs}
use Rattle.ur_check_rules.specs.declared.out.Sites.{Sites as HeldSites}
use Rattle.ur_check_rules.specs.Views.{sites_in, args_with}
use Rattle.ur_check_forms.specs.declared.targets.Target.{Target}
use Rattle.ur_check_walk.specs.declared.targets.Aim.{Aim}
use Rattle.ur_check_walk.specs.declared.targets.Aim.TheVariants as aim
use Rattle.ur_check_walk.specs.Applying.{forms_in, Unapplied, no_argument, an_argument, in_argument, many, few, ArgsHaveFault, GivesArgs, TellsArgs}
use Rattle.ur_check_walk.specs.Aiming.{Aims, BreaksAim, types_for, AsksFor, BreaksTarget, breaks_aim, given_more, given_less, IsTarget, TargetFault, in_target, breaks_target, GivesTarget, TellsTarget}
use Rattle.ur_check_walk.proofs.Applying.{forms-length}
use Rattle.ur_check_walk.proofs.Forms.{app-made}
use Rattle.ur_check_walk.proofs.Steps.{stands-there}

-- ---- how many arguments there are

many-longer : (xs : List Walk) (ts : List NormalType) → TooMany xs ts → length ts < length xs
many-longer _ _ (no_type_left {x = x} {xs = xs}) = omega arith
many-longer _ _ (many_behind {xs = xs} {ts = ts} g) = let h : length ts < length xs = many-longer xs ts g in omega (arith, h)

pub many-of : (w : World) (xs : List ExpForm) (ts : List NormalType) → length ts < length xs → TooMany (walks w xs) ts
many-of w [] ts h = absurd (omega (arith, h))
many-of w (x ∷ xs) [] h = no_type_left
many-of w (x ∷ xs) (t ∷ ts) h = many_behind (many-of w xs ts (omega (arith, h)))

not-many : (w : World) (xs : List ExpForm) (ts : List NormalType) → length xs ≤ length ts → TooMany (walks w xs) ts → ⊥
not-many w xs ts h g =
    let longer : length ts < length (walks w xs) = many-longer (walks w xs) ts g in
    let same : length (walks w xs) ≡ length xs = length-map xs (λ x. typed w x) in
    omega (arith, h, longer, same)

pub enough : (given : List (Bor Exp)) (ts : List NormalType) → length given ≤ length ts → length (forms_in given) ≤ length ts
enough given ts h = let e = forms-length given in omega (arith, e, h)

pub too-many-told : (given : List (Bor Exp)) (ts : List NormalType) (s : Stop) → length ts < length given → ((names : List (List ℕ)) → StopIs names too_many_given s) →
    IfRefused {A = Unit {0}} (Err s) (λ r. (length ts < length (forms_in given)) × ((names : List (List ℕ)) → TellsFault names r too_many_given))
too-many-told given ts (stop.Refused r) h t = let e = forms-length given in (omega (arith, e, h), t)
too-many-told given ts stop.Memory h t = tt

-- ---- what is called

asks-for : (a : Aim) (d : Declared) (t : Target) → Aims a d t → AsksFor a d t.number t.args
asks-for aim.Link d t h = record { all = t.args; params = h.params; wanted = refl }
asks-for aim.Action d t h = record { all = h.all; params = h.params; wanted = ap (option_map first_types) h.front }

-- the function that is named there may be the target
abbrev pub IsNamed : Around → ExpForm → Target → Type 0
IsNamed a x t = (w : World) (s : Scope) → Stands a w s → function_named w s x ≡ Some t.number

abbrev pub MayBe : Around → Aim → Target → Type 0
MayBe a how t = (w : World) (s : Scope) → Stands a w s → Aims how w.declared t

-- what may not be aimed at, by the code's own words
pub aim-as : (names : List (List ℕ)) (d : Declared) (how : Aim) (found n : Option ℕ) (r : Refusal) (k : Aim) → how ≡ k → found ≡ n → Refuses names (BreaksAim k d found) r → Refuses names (BreaksAim how d n) r
aim-as names d how found n r k ek en h = subst (λ z. Refuses names (BreaksAim how d z) r) en (subst (λ z. Refuses names (BreaksAim z d found) r) (sym ek) h)

called-there : (w : World) (s : Scope) (x : ExpForm) (xs : List Walk) (n : Option ℕ) → is_applied x ≡ false → function_named w s x ≡ n → call_walk w x s xs ≡ option_map (with_calls xs) n
called-there w s x xs n na en = call_at_head w x s xs na ∙ ap (option_map (with_calls xs)) en

pub target-gives : (a : Around) (before after : HeldSites) (how : Aim) (x : ExpForm) (xs : List ExpForm) (t : Target) (ts : List NormalType) (done : List Resolved) → is_applied x ≡ false → IsNamed a x t → MayBe a how t → ts ≡ t.args → GivesArgs a before xs ts done after → GivesTarget a before how x xs (t, done) after
target-gives a before after how x xs t ts done na named may et given w s st = record {
  args = walks w xs;
  called = called-there w s x (walks w xs) (Some t.number) na (named w s st);
  aims = may w s st;
  given = ap (λ z. args_out s (walks w xs) z (sites_in before)) (sym et) ∙ given w s st;
}

-- what is called may not be the target
pub aim-tells : (a : Around) (before : HeldSites) (how : Aim) (x : ExpForm) (xs : List ExpForm) (r : Refusal) → is_applied x ≡ false → ((w : World) (s : Scope) → Stands a w s → Refuses a.world.now.datatype_names (BreaksAim how w.declared (function_named w s x)) r) → TellsTarget a before how x xs r
aim-tells a before how x xs r na h w s st = let t = h w s st in breaks_target (t.0, breaks_aim (function_named w s x) (walks w xs) (call_at_head w x s (walks w xs) na) t.1, t.2)

-- there are more arguments
pub more-tells : (a : Around) (before : HeldSites) (how : Aim) (x : ExpForm) (xs : List ExpForm) (t : Target) (ts : List NormalType) (r : Refusal) → is_applied x ≡ false → IsNamed a x t → MayBe a how t → ts ≡ t.args → length ts < length xs → ((names : List (List ℕ)) → TellsFault names r too_many_given) →
    TellsTarget a before how x xs r
more-tells a before how x xs t ts r na named may et h told w s st =
    breaks_target (too_many_given, given_more (called-there w s x (walks w xs) (Some t.number) na (named w s st)) (asks-for how w.declared t (may w s st)) (many-of w xs t.args (subst (λ z. length z < length xs) et h)), told a.world.now.datatype_names)

args-told : {names : List (List ℕ)} {w : World} {s : Scope} {st : Sites} {how : Aim} {x : ExpForm} {xs : List ExpForm} {r : Refusal} (t : Target) → is_applied x ≡ false → function_named w s x ≡ Some t.number → Aims how w.declared t → length xs ≤ length t.args →
    ArgsHaveFault names w s st xs t.args r → TargetFault names w s how x xs st r
args-told {w = w} {how = how} t na named may h (in_argument c g) = let asks = asks-for how w.declared t may in in_target (target_head na named asks.params asks.wanted c) g
args-told {w = w} {xs = xs} t na named may h (many c told) = absurd (not-many w xs t.args h c)
args-told {w = w} {s = s} {how = how} {x = x} {xs = xs} t na named may h (few c told) =
    breaks_target (missing_argument, given_less (called-there w s x (walks w xs) (Some t.number) na named) (asks-for how w.declared t may) c, told)

-- an argument has a fault, or there are fewer
pub args-tell : (a : Around) (before : HeldSites) (how : Aim) (x : ExpForm) (xs : List ExpForm) (t : Target) (ts : List NormalType) (r : Refusal) → is_applied x ≡ false → IsNamed a x t → MayBe a how t → ts ≡ t.args → length xs ≤ length ts → TellsArgs a before xs ts r → TellsTarget a before how x xs r
args-tell a before how x xs t ts r na named may et h told w s st =
    args-told t na (named w s st) (may w s st) (subst (λ z. length xs ≤ length z) et h) (subst (λ z. ArgsHaveFault a.world.now.datatype_names w s (sites_in before) xs z r) et (told w s st))

-- ---- applications behind one another

pub target-further-gives : (a b : Around) (before after : HeldSites) (how : Aim) (x : ExpForm) (f g : Exp) (xs : List ExpForm) (t : Target × List Resolved) → b.world ≡ a.world → b.scope ≡ a.scope → x ≡ e.App f g → GivesTarget b before how f.form (g.form ∷ xs) t after → GivesTarget a before how x xs t after
target-further-gives a b before after how x f g xs t ew es ex h w s st =
    let there : IsTarget w s how f.form (g.form ∷ xs) (sites_in before) t.0 t.1 (sites_in after) = h w s (stands-there a b w s ew es st) in
    record { args = there.args; called = ap (λ z. call_walk w z s (walks w xs)) (ex ∙ app-made f g) ∙ there.called; aims = there.aims; given = there.given }

further-told : {names : List (List ℕ)} {w : World} {s : Scope} {how : Aim} {st : Sites} (f g : Exp) {xs : List ExpForm} {r : Refusal} → TargetFault names w s how f.form (g.form ∷ xs) st r → TargetFault names w s how (e.App' tt (its f.span f.form alone) tt (its g.span g.form alone)) xs st r
further-told f g (in_target c h) = in_target (target_further c) h
further-told f g (breaks_target t) = breaks_target t

pub target-further-tells : (a b : Around) (before : HeldSites) (how : Aim) (x : ExpForm) (f g : Exp) (xs : List ExpForm) (r : Refusal) → b.world ≡ a.world → b.scope ≡ a.scope → x ≡ e.App f g → TellsTarget b before how f.form (g.form ∷ xs) r → TellsTarget a before how x xs r
target-further-tells a b before how x f g xs r ew es ex h w s st =
    subst (λ z. TargetFault z.now.datatype_names w s how x xs (sites_in before) r) ew
    (subst (λ z. TargetFault b.world.now.datatype_names w s how z xs (sites_in before) r) (sym (ex ∙ app-made f g)) (further-told f g (h w s (stands-there a b w s ew es st))))

-- ---- along all applications

pub unapplied-aims : (a : Around) (before after : HeldSites) (how : Aim) (t : Target × List Resolved) {x y : ExpForm} {xs ys : List ExpForm} → Unapplied x xs y ys → GivesTarget a before how y ys t after → GivesTarget a before how x xs t after
unapplied-aims a before after how t no_argument h = h
unapplied-aims a before after how t (an_argument f g {xs = xs} u) h = target-further-gives a a before after how (e.App f g) f g xs t refl refl refl (unapplied-aims a before after how t u h)

pub unapplied-misses : (a : Around) (before : HeldSites) (how : Aim) (r : Refusal) {x y : ExpForm} {xs ys : List ExpForm} → Unapplied x xs y ys → TellsTarget a before how y ys r → TellsTarget a before how x xs r
unapplied-misses a before how r no_argument h = h
unapplied-misses a before how r (an_argument f g {xs = xs} u) h = target-further-tells a a before how (e.App f g) f g xs r refl refl refl (unapplied-misses a before how r u h)

-- where none stand behind the whole
pub whole-aims : (a : Around) (before after : HeldSites) (how : Aim) (t : Target × List Resolved) {x y : ExpForm} {xs ys : List ExpForm} → xs ≡ [] → Unapplied x xs y ys → GivesTarget a before how y ys t after → GivesTarget a before how x [] t after
whole-aims a before after how t {x = x} ex u h = subst (λ z. GivesTarget a before how x z t after) ex (unapplied-aims a before after how t u h)

pub whole-misses : (a : Around) (before : HeldSites) (how : Aim) (r : Refusal) {x y : ExpForm} {xs ys : List ExpForm} → xs ≡ [] → Unapplied x xs y ys → TellsTarget a before how y ys r → TellsTarget a before how x [] r
whole-misses a before how r {x = x} ex u h = subst (λ z. TellsTarget a before how x z r) ex (unapplied-misses a before how r u h)
