-- Applications: what is typed resolves and has its type by the rules.
use Rattle.std.proofs.lemmas.Bool.Decides.{nat_tests}
use Rattle.std.proofs.Common.{arith, ◌≡◌, ◌∙◌, refl, sym, ap, ap₂, subst, Bool, true, false, Option, Some, None, List, [], ◌∷◌, ℕ}
use Rattle.std.specs.Prelude.{◌≤◌, ◌&&◌, ◌++◌, nat_le, map, option_map, option_and_then, slice_get, codes}
use Rattle.ur_base.specs.Shape.{Shape, count}
use Rattle.ur_base.specs.declared.refusal.Span.{Span}
use Rattle.ur_syntax.specs.Names.{own, member as of_module}
use Rattle.ur_syntax.specs.declared.exp.ExpForm.{ExpForm, end_of-Exp as alone, more_of-Exp as its}
use Rattle.ur_syntax.specs.declared.exp.ExpForm.TheVariants as e
use Rattle.ur_rows.specs.declared.normal.Normal.{Normal}
use Rattle.ur_rows.specs.declared.normal.NormalType.{NormalType}
use Rattle.ur_rows.specs.declared.normal.NormalType.TheVariants as ty
use Rattle.ur_rows.specs.Nodes.{nodes, type_nodes}
use Rattle.ur_rows.specs.Normal.{nf}
use Rattle.ur_syntax.specs.declared.con.Con.{Con}
use Rattle.ur_tree.specs.Occurrences.{occurrences, occurrences_of}
use Rattle.ur_typed.specs.Parts.{is_applied}
use Rattle.ur_typed.proofs.Parts.{spine_at_head}
use Rattle.ur_typed_laws.proofs.Numbers.{numbered_none, numbered_end, numbered_both}
use Rattle.ur_rows.specs.Put.{instance_type}
use Rattle.ur_tree.specs.declared.exp.Exp.{Exp}
use Rattle.ur_tree.specs.declared.exp.Exp.TheVariants as exp
use Rattle.ur_tree.specs.declared.exp.Exp.TheBlock.{Row_of-Exp as Row_of-Resolved, end_of-Exp as no_more, more_of-Exp as one_more, Some'}
use Rattle.ur_tree.specs.Make as make
use Rattle.ur_tree.specs.Heads.{Head, function_type}
use Rattle.ur_tree.specs.Typing.{Finds, Checks, AreWanted, Applies, Found, called, parameters, keeps_arrows, are_static_at, has_rule, ByRule, Passes}
use Rattle.ur_typed_rules.specs.Names.{Declared as DeclaredAs, function, val, Names, declared, local_at}
use Rattle.ur_typed_rules.specs.Scopes.{World, Scope, Mode, finds, wants}
use Rattle.ur_typed_rules.specs.Tests.{are_arguments}
use Rattle.ur_typed.specs.Resolves.{Statements, Resolves, Spine, further, head, IsFunction, IsConstructor, is_head}
use Rattle.ur_typed.specs.Resolves as resolves
use Rattle.ur_typed.specs.Rules.{Sites, Out, Args, no_args, with_first, gives, args_out, call_out, named_call, build_out, with_type, with_argument, built, applied_out, by_head, function_at, function_out, without_arguments, as_function_number, if_unbound, tag_named, if_other, Capital, says_true, says_false, says_none, says_other, capital_of}
use Rattle.ur_typed.specs.Walking.{typed, spine}
use Rattle.ur_typed.specs.Faults.{walks}
use Rattle.ur_typed_laws.specs.Judged.{AreTold, ArgumentsAreTold, Fills, stated, Numbered, IsSound, Sound}
use Rattle.ur_typed_laws.proofs.Sound.{at_most, IsSettled, settled_by, judged_by, sound_at}
use Rattle.ur_typed_laws.proofs.Further.{is_word}
use Rattle.ur_typed_rules.specs.Rules.{if_so}
use Rattle.ur_typed_rules.proofs.Options.{some_of, then_some, opened, opened_if, both_true, mapped}
use Rattle.ur_typed.proofs.Shapes.{word_is_not, other_of}

-- ---- arguments

abbrev pub AllSound : World → Scope → List ExpForm → Type 0
AllSound w s [] = Unit {0}
AllSound w s (x ∷ xs) = Sound w x × AllSound w s xs

-- arguments, each with what it stands for
pub data ArgsResolve (d : Statements) (w : World) (s : Scope) : List ExpForm → (n : Shape) → Row_of-Resolved (count n) → Type 0 where
  none_given : ArgsResolve d w s [] [] no_more
  one_given : {x : ExpForm} {xs : List ExpForm} {b : Exp} {n : Shape} {row : Row_of-Resolved (count n)} → Resolves d w.most w.globals (stated d w).declared s.names x b → ArgsResolve d w s xs n row → ArgsResolve d w s (x ∷ xs) (tt ∷ n) (one_more b row)

pub record ArgsAreSound (w : World) (s : Scope) (ys : List ExpForm) (ts : List NormalType) (st : Sites) (d : Statements) (r : Args × Sites) : Type 0 where
  pub before : Fills w d st
  pub resolve : ArgsResolve d w s ys r.0.0 r.0.1
  pub wanted : AreWanted (stated d w).declared w.most s.env r.0.1 ts
  pub numbered : Numbered st (occurrences_of r.0.1) r.1

pub args_sound : (w : World) (s : Scope) (ys : List ExpForm) (ts : List NormalType) → AllSound w s ys → (st : Sites) (r : Args × Sites) → args_out s (walks w ys) ts st ≡ Some r → (d : Statements) → Fills w d r.1 → ArgsAreSound w s ys ts st d r
args_sound w s [] [] k st r h d g =
    let z : Args × Sites = (no_args, st) in
    let i : z ≡ r = some_of h in
    subst (λ v. ArgsAreSound w s [] [] st d v) i (record { before = subst (λ (v : Args × Sites). Fills w d v.1) (sym i) g; resolve = none_given; wanted = refl; numbered = numbered_none st })
args_sound w s [] (t ∷ ts) k st r h d g = cc
args_sound w s (y ∷ ys) [] k st r h d g = cc
args_sound w s (y ∷ ys) (t ∷ ts) k st r h d g =
    let c : (o : Out) × (typed w y s st (wants t) ≡ Some o) × (option_map (with_first o.exp) (args_out s (walks w ys) ts o.sites) ≡ Some r) = opened _ _ r h in
    let v : (z : Args × Sites) × (args_out s (walks w ys) ts c.0.sites ≡ Some z) × (with_first c.0.exp z ≡ r) = mapped _ _ r c.2 in
    let ir : ArgsAreSound w s ys ts c.0.sites d v.0 = args_sound w s ys ts k.1 c.0.sites v.0 v.1 d (subst (λ (z : Args × Sites). Fills w d z.1) (sym v.2) g) in
    let ix : IsSound w y s st (wants t) d c.0 = k.0 s st (wants t) c.0 c.1 d ir.before in
    subst (λ z. ArgsAreSound w s (y ∷ ys) (t ∷ ts) st d z) v.2 (record { before = ix.before; resolve = one_given ix.resolves ir.resolve; wanted = (t, ts, refl, ix.judged.1, ix.judged.2, ir.wanted); numbered = numbered_both ix.numbered ir.numbered })

-- ---- along a spine

-- what an application along a spine comes to
pub data SpineSound (w : World) (s : Scope) (st : Sites) (d : Statements) : ExpForm → List ExpForm → Out → Type 0 where
  calls : {x : ExpForm} {ys : List ExpForm} {o : Out} {n : Shape} {row : Row_of-Resolved (count n)} → Fills w d st → ArgsResolve d w s ys n row → Spine d w.most w.globals (stated d w).declared s.names x n row o.exp → has_rule o.exp ≡ false → Finds (stated d w).declared w.most s.env o.exp o.of →
      Numbered st (occurrences o.exp) o.sites → SpineSound w s st d x ys o
  builds : {x y : ExpForm} {o : Out} {n : ℕ} {b : Exp} → Fills w d st → IsConstructor w.globals x n → Resolves d w.most w.globals (stated d w).declared s.names y b → o.exp ≡ exp.Tagged' n (Some' tt (one_more b no_more)) → Finds (stated d w).declared w.most s.env o.exp o.of → Numbered st (occurrences o.exp) o.sites → SpineSound w s st d x (y ∷ []) o

further_sound : (w : World) (s : Scope) (st : Sites) (d : Statements) (p q : Span) (x a y : ExpForm) (ys : List ExpForm) (o : Out) → SpineSound w s st d x (a ∷ y ∷ ys) o → SpineSound w s st d (e.App' tt (its p x alone) tt (its q a alone)) (y ∷ ys) o
further_sound w s st d p q x a y ys o (calls b (one_given ra rr) sp hr f u) = calls b rr (further ra sp) hr f u

-- a call is found by the rule of applications
apply_found : (d : Statements) (w : World) (s : Scope) (y : ExpForm) (ys : List ExpForm) (x : Exp) (n : Shape) (row : Row_of-Resolved (count n)) (t : NormalType) → ArgsResolve d w s (y ∷ ys) n row →
    Applies (stated d w).declared w.most s.env (called (one_more x no_more)) (λ ps. are_static_at ps row) (Found (stated d w).declared w.most s.env (one_more x no_more)) (AreWanted (stated d w).declared w.most s.env row) t → Finds (stated d w).declared w.most s.env (make.apply x n row) t
apply_found d w s y ys x _ _ t (one_given ra rr) h = h

abbrev called_as : ℕ × List Normal → Head → Args × Sites → Option Out
called_as f h r = gives (instance_type f.1 h.result) (make.apply (exp.Function f.0 f.1) r.0.0 r.0.1) r.1

abbrev wanted_types : ℕ × List Normal → Head → List NormalType
wanted_types f h = map (λ p. instance_type f.1 p.of) h.params

call_sound : ArgumentsAreTold → (w : World) (s : Scope) (st : Sites) (d : Statements) (x y : ExpForm) (ys : List ExpForm) (f : ℕ × List Normal) (o : Out) → is_head x ≡ true → IsFunction w.most w.globals s.names x f.0 f.1 → AllSound w s (y ∷ ys) →
    named_call w s st (walks w (y ∷ ys)) f ≡ Some o → Fills w d o.sites → SpineSound w s st d x (y ∷ ys) o
call_sound args w s st d x y ys f o ih fn k h g =
    let c : (i : Head) × (slice_get w.declared.functions f.0 ≡ Some i) × (call_out w s st (walks w (y ∷ ys)) f i ≡ Some o) = opened _ _ o h in
    let b : Bool = are_arguments s.env c.0.cons f.1 && nat_le (type_nodes (instance_type f.1 (function_type c.0))) w.most in
    let q : (b ≡ true) × (option_and_then (λ r. if_so (are_static_at c.0.params r.0.1) (called_as f c.0 r)) (args_out s (walks w (y ∷ ys)) (wanted_types f c.0) st) ≡ Some o) = opened_if b _ o c.2 in
    let m : (are_arguments s.env c.0.cons f.1 ≡ true) × (nat_le (type_nodes (instance_type f.1 (function_type c.0))) w.most ≡ true) = both_true (are_arguments s.env c.0.cons f.1) (nat_le (type_nodes (instance_type f.1 (function_type c.0))) w.most) q.0 in
    let v : (r : Args × Sites) × (args_out s (walks w (y ∷ ys)) (wanted_types f c.0) st ≡ Some r) × (if_so (are_static_at c.0.params r.0.1) (called_as f c.0 r) ≡ Some o) = opened _ _ o q.1 in
    let t : (are_static_at c.0.params v.0.0.1 ≡ true) × (called_as f c.0 v.0 ≡ Some o) = opened_if (are_static_at c.0.params v.0.0.1) (called_as f c.0 v.0) o v.2 in
    let z : Out = record { of = instance_type f.1 c.0.result; exp = make.apply (exp.Function f.0 f.1) v.0.0.0 v.0.0.1; sites = v.0.1 } in
    let i : z ≡ o = some_of t.1 in
    let ia : ArgsAreSound w s (y ∷ ys) (wanted_types f c.0) st d v.0 = args_sound w s (y ∷ ys) (wanted_types f c.0) k st v.0 v.1 d (subst (λ u. Fills w d u.sites) (sym i) g) in
    subst (λ u. SpineSound w s st d x (y ∷ ys) u) i (calls ia.before ia.resolve (head ih (resolves.function fn)) refl
    (apply_found d w s y ys (exp.Function f.0 f.1) v.0.0.0 v.0.0.1 z.of ia.resolve (c.0, c.1, args s.env c.0.cons f.1 m.0, at_most (type_nodes (instance_type f.1 (function_type c.0))) w.most m.1, t.0, ia.wanted, refl)) ia.numbered)

-- ---- what resolves to a function is its name, with constructor arguments

spine_called : (d : Statements) (w : World) (names : Names) (x : ExpForm) (n : Shape) (row : Row_of-Resolved (count n)) (t : Exp) → Spine d w.most w.globals (stated d w).declared names x n row t → called (one_more t no_more) ≡ None
spine_called d w names _ n row t (further {x = x} {b = b} ra sp) = spine_called d w names x (tt ∷ n) (one_more b row) t sp
spine_called d w names _ n row _ (head ih r) = refl

none_some : {A : Type 0} {x : A} → None ≡ Some x → ⊥
none_some i = cc

pub calls_of : (d : Statements) (w : World) (names : Names) (x : ExpForm) (b : Exp) → Resolves d w.most w.globals (stated d w).declared names x b → (c : ℕ × List Normal) → called (one_more b no_more) ≡ Some c → IsFunction w.most w.globals names x c.0 c.1
calls_of d w names _ _ (resolves.function {x = x} r) c h = subst (λ (z : ℕ × List Normal). IsFunction w.most w.globals names x z.0 z.1) (some_of h) r
calls_of d w names _ t (resolves.application {x = x} {b = b} ra sp) c h = absurd (none_some (sym (spine_called d w names x (tt ∷ []) (one_more b no_more) t sp) ∙ h))
calls_of d w names _ _ _ c h = absurd (none_some h)

pub function_found : (w : World) (s : Scope) (x : ExpForm) (f : ℕ) (args : List Normal) → IsFunction w.most w.globals s.names x f args → function_at w s x ≡ Some (f, args)
function_found w s _ f _ (resolves.IsFunction.name (resolves.IsDeclared.bare el ed)) = ap (option_map without_arguments) (ap₂ if_unbound el (ap (option_and_then as_function_number) ed))
function_found w s _ f _ (resolves.IsFunction.name (resolves.IsDeclared.member ed)) = ap (option_map without_arguments) (ap (option_and_then as_function_number) ed)
function_found w s _ f _ (resolves.IsFunction.applied {x = x} {args = args} {c = c} {n = n} r i) =
    then_some (with_argument w s c) (function_at w s x) (f, args) (Some (f, args ++ n ∷ [])) (function_found w s x f args r) (with_small w s c f args n i.form i.small) where
      with_small : (w : World) (s : Scope) (c : Con) (f : ℕ) (args : List Normal) (n : Normal) → n ≡ nf s.names.cons c → nodes n ≤ w.most → with_argument w s c (f, args) ≡ Some (f, args ++ n ∷ [])
      with_small w s c f args n i k =
          let b : nat_le (nodes n) w.most ≡ true = grind (arith, nat_tests, k) in
          subst (λ m. if_so {A = ℕ × List Normal} (nat_le (nodes m) w.most) (Some (f, args ++ m ∷ [])) ≡ Some (f, args ++ n ∷ [])) i (ap (λ z. if_so {A = ℕ × List Normal} z (Some (f, args ++ n ∷ []))) b)

not_called : (d : Statements) (w : World) (s : Scope) (x : ExpForm) (b : Exp) → Resolves d w.most w.globals (stated d w).declared s.names x b → function_at w s x ≡ None → called (one_more b no_more) ≡ None
not_called d w s x b r h = by_call (called (one_more b no_more)) refl where
  by_call : (c : Option (ℕ × List Normal)) → called (one_more b no_more) ≡ c → called (one_more b no_more) ≡ None
  by_call None i = i
  by_call (Some c) i = absurd (none_some (sym h ∙ function_found w s x c.0 c.1 (calls_of d w s.names x b r c i)))

abbrev applied_as : Out → Args × Sites → Option Out
applied_as f r = gives (parameters f.of).1 (make.apply f.exp r.0.0 r.0.1) r.1

static_sound : (w : World) (s : Scope) (st : Sites) (d : Statements) (x y : ExpForm) (ys : List ExpForm) (o : Out) → is_head x ≡ true → Sound w x → function_at w s x ≡ None → AllSound w s (y ∷ ys) →
    option_and_then (applied_out s (walks w (y ∷ ys))) (typed w x s st finds) ≡ Some o → Fills w d o.sites → SpineSound w s st d x (y ∷ ys) o
static_sound w s st d x y ys o ih kx kept k h g =
    let c : (i : Out) × (typed w x s st finds ≡ Some i) × (applied_out s (walks w (y ∷ ys)) i ≡ Some o) = opened _ _ o h in
    let v : (r : Args × Sites) × (args_out s (walks w (y ∷ ys)) (parameters c.0.of).0 c.0.sites ≡ Some r) × (applied_as c.0 r ≡ Some o) = opened _ _ o c.2 in
    let z : Out = record { of = (parameters c.0.of).1; exp = make.apply c.0.exp v.0.0.0 v.0.0.1; sites = v.0.1 } in
    let i : z ≡ o = some_of v.2 in
    let ia : ArgsAreSound w s (y ∷ ys) (parameters c.0.of).0 c.0.sites d v.0 = args_sound w s (y ∷ ys) (parameters c.0.of).0 k c.0.sites v.0 v.1 d (subst (λ u. Fills w d u.sites) (sym i) g) in
    let ix : IsSound w x s st finds d c.0 = kx s st finds c.0 c.1 d ia.before in
    let a : Applies (stated d w).declared w.most s.env (called (one_more c.0.exp no_more)) (λ ps. are_static_at ps v.0.0.1) (Found (stated d w).declared w.most s.env (one_more c.0.exp no_more)) (AreWanted (stated d w).declared w.most s.env v.0.0.1) z.of =
    subst (λ n. Applies (stated d w).declared w.most s.env n (λ ps. are_static_at ps v.0.0.1) (Found (stated d w).declared w.most s.env (one_more c.0.exp no_more)) (AreWanted (stated d w).declared w.most s.env v.0.0.1) z.of)
    (sym (not_called d w s x c.0.exp ix.resolves kept)) (c.0.of, (ix.judged.0, ix.judged.1), ia.wanted, refl) in
    subst (λ u. SpineSound w s st d x (y ∷ ys) u) i (calls ix.before ia.resolve (head ih ix.resolves) refl (apply_found d w s y ys c.0.exp v.0.0.0 v.0.0.1 z.of ia.resolve a) (numbered_both (numbered_end ix.numbered) ia.numbered))

-- ---- heads

abbrev built_as : ℕ → ℕ × NormalType → Out → Option Out
built_as n v z = gives (ty.Datatype v.0) (exp.Tagged' n (Some' tt (one_more z.exp no_more))) z.sites

typed_with : (v : ℕ × Option NormalType) (u : ℕ × NormalType) → with_type v ≡ Some u → (v.0 ≡ u.0) × (v.1 ≡ Some u.1)
typed_with v u h = let c : (t : NormalType) × (v.1 ≡ Some t) × ((v.0, t) ≡ u) = mapped _ _ u h in
    (ap (λ (z : ℕ × NormalType). z.0) c.2, c.1 ∙ ap (λ (z : ℕ × NormalType). Some z.1) c.2)

build_sound : (w : World) (s : Scope) (st : Sites) (d : Statements) (x y : ExpForm) (ys : List ExpForm) (n : ℕ) (o : Out) → IsConstructor w.globals x n → AllSound w s (y ∷ ys) → built w s st (walks w (y ∷ ys)) n ≡ Some o → Fills w d o.sites → SpineSound w s st d x (y ∷ ys) o
build_sound w s st d x y (z ∷ ys) n o r k h g = cc
build_sound w s st d x y [] n o r k h g =
    let c : (u : ℕ × NormalType) × (option_and_then with_type (slice_get w.declared.variants n) ≡ Some u) × (build_out s st n (typed w y) u ≡ Some o) = opened _ _ o h in
    let v : (t : ℕ × Option NormalType) × (slice_get w.declared.variants n ≡ Some t) × (with_type t ≡ Some c.0) = opened _ _ c.0 c.1 in
    let q : (v.0.0 ≡ c.0.0) × (v.0.1 ≡ Some c.0.1) = typed_with v.0 c.0 v.2 in
    let l : (i : Out) × (typed w y s st (wants c.0.1) ≡ Some i) × (built_as n c.0 i ≡ Some o) = opened _ _ o c.2 in
    let b : Out = record { of = ty.Datatype c.0.0; exp = exp.Tagged' n (Some' tt (one_more l.0.exp no_more)); sites = l.0.sites } in
    let i : b ≡ o = some_of l.2 in
    let ix : IsSound w y s st (wants c.0.1) d l.0 = k.0 s st (wants c.0.1) l.0 l.1 d (subst (λ u. Fills w d u.sites) (sym i) g) in
    subst (λ u. SpineSound w s st d x (y ∷ []) u) i (builds ix.before r ix.resolves refl (v.0, v.1, ap (λ m. ty.Datatype m) (sym q.0), (c.0.1, q.1, (ix.judged.1, ix.judged.2))) (numbered_end ix.numbered))

named_function : (w : World) (s : Scope) (x : List ℕ) (f : ℕ × List Normal) (l : Option (Bool × ℕ)) → local_at x s.names.locals ≡ l → option_map without_arguments (if_unbound l (option_and_then as_function_number (declared w.globals (own x) w.globals.values))) ≡ Some f →
    IsFunction w.most w.globals s.names (e.Var x) f.0 f.1
named_function w s x f (Some i) el h = cc
named_function w s x f None el h =
    let c : (n : ℕ) × (option_and_then as_function_number (declared w.globals (own x) w.globals.values) ≡ Some n) × (without_arguments n ≡ f) = mapped _ _ f h in
    let v : (k : DeclaredAs) × (declared w.globals (own x) w.globals.values ≡ Some k) × (as_function_number k ≡ Some c.0) = opened _ _ c.0 c.1 in
    subst (λ (z : ℕ × List Normal). IsFunction w.most w.globals s.names (e.Var x) z.0 z.1) c.2 (resolves.IsFunction.name (resolves.IsDeclared.bare el (v.1 ∙ ap (λ z. Some z) (number_is v.0 c.0 v.2)))) where
      number_is : (k : DeclaredAs) (n : ℕ) → as_function_number k ≡ Some n → k ≡ function n
      number_is (function m) n h = ap (λ z. function z) (some_of h)
      number_is (val m) n h = cc

member_function : (w : World) (s : Scope) (i x : List ℕ) (f : ℕ × List Normal) → option_map without_arguments (option_and_then as_function_number (declared w.globals (of_module i x) w.globals.values)) ≡ Some f → IsFunction w.most w.globals s.names (e.Member i x) f.0 f.1
member_function w s i x f h =
    let c : (n : ℕ) × (option_and_then as_function_number (declared w.globals (of_module i x) w.globals.values) ≡ Some n) × (without_arguments n ≡ f) = mapped _ _ f h in
    let v : (k : DeclaredAs) × (declared w.globals (of_module i x) w.globals.values ≡ Some k) × (as_function_number k ≡ Some c.0) = opened _ _ c.0 c.1 in
    subst (λ (z : ℕ × List Normal). IsFunction w.most w.globals s.names (e.Member i x) z.0 z.1) c.2 (resolves.IsFunction.name (resolves.IsDeclared.member (v.1 ∙ ap (λ z. Some z) (number_is v.0 c.0 v.2)))) where
      number_is : (k : DeclaredAs) (n : ℕ) → as_function_number k ≡ Some n → k ≡ function n
      number_is (function m) n h = ap (λ z. function z) (some_of h)
      number_is (val m) n h = cc

-- a named function with its constructor arguments, which have kinds
pub function_is : (w : World) (s : Scope) (x : ExpForm) (f : ℕ × List Normal) → function_at w s x ≡ Some f → IsFunction w.most w.globals s.names x f.0 f.1
function_is w s (e.Var x) f h = named_function w s x f (local_at x s.names.locals) refl h
function_is w s (e.Member i x) f h = member_function w s i x f h
function_is w s (e.ConApp' _ (its p x alone) c) f h =
    let n : Normal = nf s.names.cons c in
    let q : (g : ℕ × List Normal) × (function_at w s x ≡ Some g) × (with_argument w s c g ≡ Some f) = opened _ _ f h in
    let r : (nat_le (nodes n) w.most ≡ true) × (Some (q.0.0, q.0.1 ++ n ∷ []) ≡ Some f) = opened_if (nat_le (nodes n) w.most) (Some (q.0.0, q.0.1 ++ n ∷ [])) f q.2 in
    subst (λ (z : ℕ × List Normal). IsFunction w.most w.globals s.names (e.ConApp' tt (its p x alone) c) z.0 z.1) (some_of r.1)
    (resolves.IsFunction.applied (function_is w s x q.0 q.1) (record { form = refl; small = at_most (nodes n) w.most r.0 }))
function_is w s _ f h = cc

-- it is no application, and no constructor of a datatype
function_head : (w : World) (s : Scope) (x : ExpForm) (f : ℕ × List Normal) → function_at w s x ≡ Some f → is_head x ≡ true
function_head w s (e.App' _ x _ y) f h = cc
function_head w s (e.Constructor x) f h = cc
function_head w s (e.MemberConstructor i x) f h = cc
function_head w s _ f h = refl

other_tag : (w : World) (x : List ℕ) (k : Capital) (m : ℕ) → capital_of x ≡ k → if_other k (declared w.globals (own x) w.globals.constructors) ≡ Some m → IsConstructor w.globals (e.Constructor x) m
other_tag w x says_true m ek h = cc
other_tag w x says_false m ek h = cc
other_tag w x says_none m ek h = cc
other_tag w x says_other m ek h =
    let i : (is_word x (codes "True") ≡ false) × (is_word x (codes "False") ≡ false) × (is_word x (codes "None") ≡ false) = other_of (is_word x (codes "True")) (is_word x (codes "False")) (is_word x (codes "None")) ek in
    resolves.IsConstructor.bare (word_is_not x (codes "True") i.0) (word_is_not x (codes "False") i.1) (word_is_not x (codes "None") i.2) h

tag_is : (w : World) (x : ExpForm) (n : ℕ) → tag_named w x ≡ Some n → IsConstructor w.globals x n
tag_is w (e.Constructor x) n h = other_tag w x (capital_of x) n refl h
tag_is w (e.MemberConstructor i x) n h = resolves.IsConstructor.member h
tag_is w _ n h = cc

by_parts : ArgumentsAreTold → (w : World) (s : Scope) (st : Sites) (d : Statements) (x y : ExpForm) (ys : List ExpForm) (o : Out) (b : Bool) (f : Option (ℕ × List Normal)) (n : Option ℕ) → is_head x ≡ b → function_at w s x ≡ f → tag_named w x ≡ n → Sound w x → AllSound w s (y ∷ ys) →
    by_head w s st (typed w x) (walks w (y ∷ ys)) b f n ≡ Some o → Fills w d o.sites → SpineSound w s st d x (y ∷ ys) o
by_parts args w s st d x y ys o b (Some f) n ib ef en kx k h g = call_sound args w s st d x y ys f o (function_head w s x f ef) (function_is w s x f ef) k h g
by_parts args w s st d x y ys o b None (Some n) ib ef en kx k h g = build_sound w s st d x y ys n o (tag_is w x n en) k h g
by_parts args w s st d x y ys o true None None ib ef en kx k h g = static_sound w s st d x y ys o ib kx ef k h g
by_parts args w s st d x y ys o false None None ib ef en kx k h g = cc

-- ---- the whole

-- what stands at the head of a spine gives what an application along it has to be
abbrev pub SpineIsSound : World → ExpForm → Type 0
SpineIsSound w x = (s : Scope) (st : Sites) (y : ExpForm) (ys : List ExpForm) → AllSound w s (y ∷ ys) → (o : Out) → spine w x s st (typed w x) (walks w (y ∷ ys)) ≡ Some o → (d : Statements) → Fills w d o.sites → SpineSound w s st d x (y ∷ ys) o

pub head_sound : ArgumentsAreTold → (w : World) (x : ExpForm) → is_applied x ≡ false → Sound w x → SpineIsSound w x
head_sound args w x a kx s st y ys k o h d g =
    by_parts args w s st d x y ys o (is_head x) (function_at w s x) (tag_named w x) refl refl refl kx k (sym (spine_at_head w x s st (typed w x) (walks w (y ∷ ys)) a) ∙ h) g

pub spine_sound : (w : World) (p q : Span) (f a : ExpForm) → SpineIsSound w f → Sound w a → SpineIsSound w (e.App' tt (its p f alone) tt (its q a alone))
spine_sound w p q f a kf ka s st y ys k o h d g = further_sound w s st d p q f a y ys o (kf s st a (y ∷ ys) (ka, k) o h d g)

pub found_checks : (w : World) (s : Scope) (x : Exp) (t : NormalType) → has_rule x ≡ false → Finds w.declared w.most s.env x t → Checks w.declared w.most s.env x t
found_checks w s x t r f = subst (λ b. ByRule b (Passes w.declared w.most s.env x t) (Finds w.declared w.most s.env x t)) (sym r) f

whole_sound : AreTold → (w : World) (s : Scope) (st : Sites) (m : Mode) (d : Statements) (p q : Span) (f a : ExpForm) (o : Out) → IsSettled w (e.App' tt (its p f alone) tt (its q a alone)) s st m o → SpineSound w s st d f (a ∷ []) o →
    IsSound w (e.App' tt (its p f alone) tt (its q a alone)) s st m d o
whole_sound told w s st m d p q f a o i (calls b (one_given ra none_given) sp hr fd u) =
    record { before = b; numbered = u; resolves = resolves.application ra sp; judged = judged_by told (stated d w) s m o.exp o.of fd (found_checks (stated d w) s o.exp o.of hr fd) i.accepted i.fit }
whole_sound told w s st m d p q f a o i (builds {n = n} {b = x} b r ra eq fd u) =
    record {
      before = b;
      numbered = u;
      resolves = subst (λ z. Resolves d w.most w.globals (stated d w).declared s.names (e.App' tt (its p f alone) tt (its q a alone)) z) (sym eq) (resolves.constructor_of r ra);
      judged = judged_by told (stated d w) s m o.exp o.of fd (found_checks (stated d w) s o.exp o.of (ap has_rule eq) fd) i.accepted i.fit;
    }

pub application_sound : AreTold → (w : World) (p q : Span) (f a : ExpForm) → SpineIsSound w f → Sound w a → Sound w (e.App' tt (its p f alone) tt (its q a alone))
application_sound told w p q f a kf ka s st m o h d g =
    let i : IsSettled w (e.App' tt (its p f alone) tt (its q a alone)) s st m o = settled_by w (e.App' tt (its p f alone) tt (its q a alone)) s st m o h in
    whole_sound told w s st m d p q f a o i (kf s st a [] (ka, tt) o i.walked d g)

-- ---- a named function that is not applied

abbrev instance_of : Sites → ℕ × List Normal → Head → Option Out
instance_of st f h = gives (instance_type f.1 (function_type h)) (exp.Function f.0 f.1) st

pub instance_sound : AreTold → ArgumentsAreTold → (w : World) (p : Span) (x : ExpForm) (c : Con) → Sound w (e.ConApp' tt (its p x alone) c)
instance_sound told args w p x c s st m o h d g =
    let y : ExpForm = e.ConApp' tt (its p x alone) c in
    let a : IsSettled w y s st m o = settled_by w y s st m o h in
    let f : (i : ℕ × List Normal) × (function_at w s y ≡ Some i) × (function_out w s st i ≡ Some o) = opened _ _ o a.walked in
    let l : (i : Head) × (slice_get w.declared.functions f.0.0 ≡ Some i) × (if_so (are_arguments s.env i.cons f.0.1 && keeps_arrows f.0.1 i.params) (instance_of st f.0 i) ≡ Some o) = opened _ _ o f.2 in
    let q : ((are_arguments s.env l.0.cons f.0.1 && keeps_arrows f.0.1 l.0.params) ≡ true) × (instance_of st f.0 l.0 ≡ Some o) = opened_if (are_arguments s.env l.0.cons f.0.1 && keeps_arrows f.0.1 l.0.params) (instance_of st f.0 l.0) o l.2 in
    let t : (are_arguments s.env l.0.cons f.0.1 ≡ true) × (keeps_arrows f.0.1 l.0.params ≡ true) = both_true (are_arguments s.env l.0.cons f.0.1) (keeps_arrows f.0.1 l.0.params) q.0 in
    let b : Out = record { of = instance_type f.0.1 (function_type l.0); exp = exp.Function f.0.0 f.0.1; sites = st } in
    sound_at w y s st m d b o a q.1 g (λ acc fit g'. record {
      before = g';
      numbered = numbered_none st;
      resolves = resolves.function (function_is w s y f.0 f.1);
      judged = judged_by told (stated d w) s m b.exp b.of (l.0, l.1, args s.env l.0.cons f.0.1 t.0, t.1, refl) (l.0, l.1, args s.env l.0.cons f.0.1 t.0, t.1, refl) acc fit;
    })
