-- Refusals that tell what is wrong with a pattern.
use Rattle.std.proofs.Common.{◌≡◌, ap, sym, ◌∙◌, subst, ℕ, Bool, true, false, List, [], Option, Some, None, Result, Ok, Err, IfOk}
use Rattle.std.specs.Prelude.{◌&&◌, option_map, codes}
use Rattle.std.specs.Result.{OnOk}
use Rattle.ur_base.specs.Stopping.{IfRefused, Says}
use Rattle.ur_base.specs.declared.refusal.Refusal.{Refusal}
use Rattle.ur_base.specs.declared.refusal.Stop.{Stop}
use Rattle.ur_base.specs.declared.refusal.Stop.TheVariants as stop
use Rattle.ur_syntax.specs.Names.{own, member as of_module, name_text}
use Rattle.ur_syntax.specs.declared.exp.Argument.{Argument}
use Rattle.ur_syntax.specs.declared.exp.PatForm.{PatForm}
use Rattle.ur_syntax.specs.declared.exp.PatForm.TheVariants as pat
use Rattle.ur_rows.specs.declared.normal.NormalType.{NormalType}
use Rattle.ur_terms.specs.declared.term.Pattern.{Pattern}
use Rattle.ur_terms.specs.declared.term.Pattern.TheVariants as pattern
use Rattle.ur_tree.specs.Patterns.{last_is_any, constructors_of}
use Rattle.ur_tree.specs.Text.{type_text}
use Rattle.ur_typed_rules.specs.Names.{Globals, declared}
use Rattle.ur_typed_rules.specs.Scopes.{World}
use Rattle.ur_typed_rules.specs.Faults.{Fault, TellsType, unknown, twice, mismatch}
use Rattle.ur_typed_rules.specs.Patterns.{NamesConstructor, bare_constructor, member_constructor, called, of_another, IsRepeated, BreaksCover, comes_twice}
use Rattle.ur_check_scopes.specs.Views.{StopIs, Refuses}
use Rattle.ur_check_scopes.proofs.Exits.{refused-along}
use Rattle.ur_check_cases.specs.Binding.{plain_pattern, IsUnknown}
use Rattle.ur_check_cases.specs.Covering.{missing_of}
use Rattle.ur_check_cases.proofs.Chosen.{none-covers}

-- a stop that tells a fault
pub told-by : (names : List (List ℕ)) (s : Stop) (f : Fault) (P : Refusal → Type 0) → StopIs names f s → ((r : Refusal) → TellsType names r f → P r) → IfRefused {A = Unit {0}} (Err s) P
told-by names (stop.Refused r) f P h g = g r h
told-by names stop.Memory f P h g = tt

-- a name that nothing stands for
pub unknown-says : (s : Stop) (x y : List ℕ) (P : Type 0) → P → x ≡ y → StopIs [] (unknown x) s → IfRefused {A = Unit {0}} (Err s) (λ r. P × Says r 7 y [])
unknown-says s x y P p e h = told-by [] s (unknown x) (λ r. P × Says r 7 y []) h (λ r t. (p, subst (λ z. Says r 7 z []) e t))

bare-unknown : (g : Globals) (p : PatForm) (x : List ℕ) (a : Argument) → p ≡ pat.Constructor x a → (r : Refusal) → (declared g (own x) g.constructors ≡ None) × Says r 7 x [] → IsUnknown g p r
bare-unknown g p x a is r h = (own x, x, subst (λ z. NamesConstructor z (own x) x) (sym is) bare_constructor, h.0, h.1)

member-unknown : (g : Globals) (p : PatForm) (m x : List ℕ) (a : Argument) → p ≡ pat.Member m x a → (r : Refusal) → (declared g (of_module m x) g.constructors ≡ None) × Says r 7 (name_text (Some m) x) [] → IsUnknown g p r
member-unknown g p m x a is r h = (of_module m x, name_text (Some m) x, subst (λ z. NamesConstructor z (of_module m x) (name_text (Some m) x)) (sym is) member_constructor, h.0, h.1)

-- ---- the constructor that a pattern names

pub bare-pattern : (g : Globals) (p : PatForm) (x y : List ℕ) {a : Argument} (r : Result Pattern Stop) → p ≡ pat.Constructor x a → y ≡ x → IfOk r (λ q. option_map pattern.Tagged (declared g (own y) g.constructors) ≡ Some q) → IfOk r (λ q. plain_pattern g p ≡ Some q)
bare-pattern g p x y r is e h = subst (λ z. IfOk r (λ q. plain_pattern g z ≡ Some q)) (sym is) (subst (λ z. IfOk r (λ q. option_map pattern.Tagged (declared g (own z) g.constructors) ≡ Some q)) e h)

pub bare-refused : (g : Globals) (p : PatForm) (x y : List ℕ) {a : Argument} (r : Result Pattern Stop) → p ≡ pat.Constructor x a → y ≡ x → IfRefused r (λ s. (declared g (own y) g.constructors ≡ None) × Says s 7 y []) → IfRefused r (IsUnknown g p)
bare-refused g p x y {a} r is e h = refused-along r (bare-unknown g p x a is) (subst (λ z. IfRefused r (λ s. (declared g (own z) g.constructors ≡ None) × Says s 7 z [])) e h)

pub member-pattern : (g : Globals) (p : PatForm) (m x n y : List ℕ) {a : Argument} (r : Result Pattern Stop) → p ≡ pat.Member m x a → n ≡ m → y ≡ x → IfOk r (λ q. option_map pattern.Tagged (declared g (of_module n y) g.constructors) ≡ Some q) → IfOk r (λ q. plain_pattern g p ≡ Some q)
member-pattern g p m x n y r is e f h = subst (λ z. IfOk r (λ q. plain_pattern g z ≡ Some q)) (sym is)
    (subst (λ z. IfOk r (λ q. option_map pattern.Tagged (declared g (of_module m z) g.constructors) ≡ Some q)) f
    (subst (λ z. IfOk r (λ q. option_map pattern.Tagged (declared g (of_module z y) g.constructors) ≡ Some q)) e h))

pub member-refused : (g : Globals) (p : PatForm) (m x n y : List ℕ) {a : Argument} (r : Result Pattern Stop) → p ≡ pat.Member m x a → n ≡ m → y ≡ x → IfRefused r (λ s. (declared g (of_module n y) g.constructors ≡ None) × Says s 7 (name_text (Some n) y) []) → IfRefused r (IsUnknown g p)
member-refused g p m x n y {a} r is e f h = refused-along r (member-unknown g p m x a is)
    (subst (λ z. IfRefused r (λ s. (declared g (of_module m z) g.constructors ≡ None) × Says s 7 (name_text (Some m) z) [])) f
    (subst (λ z. IfRefused r (λ s. (declared g (of_module z y) g.constructors ≡ None) × Says s 7 (name_text (Some z) y) [])) e h))

-- ---- refusals of more

pub other-says : (names : List (List ℕ)) (s : Stop) (f : Fault) (Q : Type 0) → Q → StopIs names f s → IfRefused {A = Unit {0}} (Err s) (λ r. TellsType names r f × Q)
other-says names s f Q q h = told-by names s f (λ r. TellsType names r f × Q) h (λ r t. (t, q))

pub twice-says : (s : Stop) (o : Option (List ℕ)) (x : List ℕ) → o ≡ Some x → StopIs [] (twice x) s → IfRefused {A = Unit {0}} (Err s) (λ r. (y : List ℕ) × (o ≡ Some y) × Says r 8 y [])
twice-says s o x e h = told-by [] s (twice x) (λ r. (y : List ℕ) × (o ≡ Some y) × Says r 8 y []) h (λ r t. (x, e, t))

pub once-told : (names : List (List ℕ)) (w : World) (ps : List Pattern) (q : Pattern) (x : List ℕ) (s : Stop) → IsRepeated ps q → x ≡ called w q → StopIs names (twice x) s → IfRefused {A = Unit {0}} (Err s) (λ r. (u : NormalType) → Refuses names (BreaksCover w u ps) r)
once-told names w ps q x s i e h = told-by names s (twice x) (λ r. (u : NormalType) → Refuses names (BreaksCover w u ps) r) h
    (λ r t u. (twice x, subst (λ z. BreaksCover w u ps (twice z)) (sym e) (comes_twice i), t))

pub missing-refused : (names : List (List ℕ)) (w : World) (u : NormalType) (ps : List Pattern) (c : Pattern) (x : List ℕ) (s : Stop) → last_is_any ps ≡ false → missing_of (constructors_of w.declared u) ps ≡ Some c → x ≡ called w c → StopIs names (mismatch x (codes "a branch")) s →
    IfRefused {A = Unit {0}} (Err s) (Refuses names (BreaksCover w u ps))
missing-refused names w u ps c x s l m e h = told-by names s (mismatch x (codes "a branch")) (Refuses names (BreaksCover w u ps)) h
    (λ r t. (mismatch x (codes "a branch"), subst (λ z. BreaksCover w u ps (mismatch z (codes "a branch"))) (sym e) (none-covers w u ps c l m), t))

-- a pattern of another type is told by that type
pub other-is : (names ms : List (List ℕ)) (u : NormalType) (x : List ℕ) (s : Stop) → x ≡ type_text ms u → ms ≡ names → StopIs names (mismatch (codes "a pattern of another type") x) s → StopIs names (of_another names u) s
other-is names ms u x s e m h = subst (λ z. StopIs names (mismatch (codes "a pattern of another type") z) s) (e ∙ ap (λ z. type_text z u) m) h

pub every-type : (names : List (List ℕ)) (w : World) (ps : List Pattern) (u : NormalType) (r : Refusal) → ((v : NormalType) → Refuses names (BreaksCover w v ps) r) → Refuses names (BreaksCover w u ps) r
every-type names w ps u r h = h u

pub whole-covers : {A : Type 0} (r : Result A Stop) (a b : Bool) → a ≡ true → OnOk r (b ≡ true) → OnOk r ((a && b) ≡ true)
whole-covers (Ok x) a b e h = ap (λ z. z && b) e ∙ h
whole-covers (Err s) a b e h = h
