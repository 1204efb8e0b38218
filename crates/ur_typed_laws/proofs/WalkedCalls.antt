-- Applications and constructors of datatypes: the walk gives what the rules say.
use Rattle.std.proofs.Common.{◌≡◌, ◌≢◌, ◌∙◌, refl, sym, ap, ap₂, subst, Bool, true, false, Option, Some, None, List, [], ◌∷◌, ◌++◌, ℕ, bytes_eq}
use Rattle.std.specs.Prelude.{◌&&◌, nat_le, map, codes, option_map, option_and_then, slice_get}
use Rattle.std.proofs.lemmas.Slice.Eq.{bytes_eq-Decides}
use Rattle.ur_base.specs.Shape.{Shape, count}
use Rattle.ur_base.specs.declared.refusal.Span.{Span}
use Rattle.ur_syntax.specs.Names.{own, member as of_module}
use Rattle.ur_syntax.specs.declared.exp.ExpForm.{ExpForm, end_of-Exp as alone, more_of-Exp as its}
use Rattle.ur_syntax.specs.declared.exp.ExpForm.TheVariants as e
use Rattle.ur_rows.specs.declared.normal.Normal.{Normal}
use Rattle.ur_rows.specs.declared.normal.NormalType.{NormalType}
use Rattle.ur_rows.specs.Nodes.{type_nodes}
use Rattle.ur_rows.specs.Put.{instance_type}
use Rattle.ur_tree.specs.declared.exp.Exp.{Exp}
use Rattle.ur_tree.specs.declared.exp.Exp.TheVariants as exp
use Rattle.ur_tree.specs.declared.exp.Exp.TheBlock.{Row_of-Exp as Row_of-Resolved, end_of-Exp as no_more, more_of-Exp as one_more, None', Some'}
use Rattle.ur_tree.specs.Make as make
use Rattle.ur_tree.specs.Heads.{Head, function_type}
use Rattle.ur_tree.specs.Env.{Env}
use Rattle.ur_tree.specs.Occurrences.{occurrences, occurrences_of}
use Rattle.ur_tree.specs.Typing.{Finds, Found, Applies, AreWanted, called, parameters, keeps_arrows, are_static_at, has_rule}
use Rattle.ur_typed_rules.specs.Names.{Names, declared, local_at}
use Rattle.ur_typed_rules.specs.Names as here
use Rattle.ur_typed_rules.specs.Scopes.{World, Scope, Mode, finds, wants}
use Rattle.ur_typed_rules.specs.Tests.{are_arguments}
use Rattle.ur_typed_rules.proofs.Rows.{arguments_decided}
use Rattle.ur_typed.specs.Resolves.{Statements, Resolves, Spine, further, head, IsFunction, IsConstructor, is_head}
use Rattle.ur_typed.specs.Resolves as resolves
use Rattle.ur_typed.specs.Rules.{Sites, Out, Walk, Args, with_first, args_out, gives, function_at, function_out, local_or, declared_out, if_unbound, as_function_number, without_arguments, call_out, applied_out, by_head, tag_named, plain_tag, tagged_out, with_type, build_out, built, capital_of, by_capital, says_other, chosen, says_true, says_false, says_none, if_other}
use Rattle.ur_typed.specs.Walking.{walk, typed, spine}
use Rattle.ur_typed.specs.Parts.{is_applied}
use Rattle.ur_typed.specs.Faults.{walks}
use Rattle.ur_typed.proofs.Parts.{spine_at_head}
use Rattle.ur_typed_rules.specs.Rules.{if_so}
use Rattle.ur_typed_rules.proofs.Options.{then_some, some_of, some_none}
use Rattle.ur_typed_laws.specs.Judged.{Fills, Numbered, stated}
use Rattle.ur_typed_laws.proofs.Numbers.{numbered_none, numbered_end, numbered_both}
use Rattle.ur_typed_laws.proofs.Applications.{calls_of, function_found}
use Rattle.ur_typed_laws.specs.Walked.{scope_at, out_of, Starts, IsWalked, Walks}
use Rattle.ur_typed_laws.proofs.Walked.{so_true, and_true, within, typed_by, starts_left, starts_right, starts_end, IsFound, found_by, scoped_walked}

-- ---- constructors of datatypes

not_word : (x y : List ℕ) → x ≢ y → bytes_eq x y ≡ false
not_word x y n = by_test (bytes_eq x y) refl where
  by_test : (b : Bool) → bytes_eq x y ≡ b → b ≡ false
  by_test true h = absurd (n ((bytes_eq-Decides x y).0 h))
  by_test false h = refl

other_word : (a b c : Bool) → a ≡ false → b ≡ false → c ≡ false → chosen a says_true (chosen b says_false (chosen c says_none says_other)) ≡ says_other
other_word a b c h i j = ap (λ z. chosen z says_true (chosen b says_false (chosen c says_none says_other))) h ∙ (ap (λ z. chosen z says_false (chosen c says_none says_other)) i ∙ ap (λ z. chosen z says_none says_other) j)

capital_other : (x : List ℕ) → x ≢ codes "True" → x ≢ codes "False" → x ≢ codes "None" → capital_of x ≡ says_other
capital_other x h i j = other_word (bytes_eq x (codes "True")) (bytes_eq x (codes "False")) (bytes_eq x (codes "None")) (not_word x (codes "True") h) (not_word x (codes "False") i) (not_word x (codes "None") j)

-- a constructor's name is looked up
constructor_walk : (w : World) (x : ExpForm) (n : ℕ) → IsConstructor w.globals x n → (s : Scope) (st : Sites) (m : Mode) → walk w x s st m ≡ tagged_out w st n
constructor_walk w _ n (resolves.IsConstructor.bare h i j k) s st m = ap₂ (by_capital w st m) k (capital_other _ h i j)
constructor_walk w _ n (resolves.IsConstructor.member k) s st m = then_some (tagged_out w st) _ n (tagged_out w st n) k refl

constructor_tag : (w : World) (x : ExpForm) (n : ℕ) → IsConstructor w.globals x n → tag_named w x ≡ Some n
constructor_tag w _ n (resolves.IsConstructor.bare h i j k) = ap₂ if_other (capital_other _ h i j) k
constructor_tag w _ n (resolves.IsConstructor.member k) = k

pub constructor_walked : (w : World) (d : Statements) (names : Names) (x : ExpForm) (n : ℕ) → IsConstructor w.globals x n → Walks w d names x (exp.Tagged' n None')
constructor_walked w d names x n c = scoped_walked w d names x (exp.Tagged' n None') refl refl
    (λ env t f st m. constructor_walk w x n c (scope_at names env) st m ∙ then_some (λ v. plain_tag v.0 n st v.1) (slice_get w.declared.variants n) f.0 (Some (out_of t (exp.Tagged' n None') st)) f.1
    (ap (plain_tag f.0.0 n st) f.3 ∙ ap (λ z. Some (out_of z (exp.Tagged' n None') st)) (sym f.2)))

constructor_spine : (w : World) (x : ExpForm) (n : ℕ) → IsConstructor w.globals x n → (s : Scope) (st : Sites) (h : Walk) (args : List Walk) → spine w x s st h args ≡ built w s st args n
constructor_spine w _ n (resolves.IsConstructor.bare {x = x} h i j k) s st f args = ap (by_head w s st f args false None) (constructor_tag w (e.Constructor x) n (resolves.IsConstructor.bare h i j k))
constructor_spine w _ n (resolves.IsConstructor.member {m = m} {x = x} k) s st f args = ap (by_head w s st f args false None) k

pub built_walked : (w : World) (d : Statements) (names : Names) (p q : Span) (x y : ExpForm) (n : ℕ) (b : Exp) → IsConstructor w.globals x n → Walks w d names y b → Walks w d names (e.App' tt (its p x alone) tt (its q y alone)) (exp.Tagged' n (Some' tt (one_more b no_more)))
built_walked w d names p q x y n b c k env m t j st g u =
    let s : Scope = scope_at names env in
    let f : ExpForm = e.App' tt (its p x alone) tt (its q y alone) in
    let v : Exp = exp.Tagged' n (Some' tt (one_more b no_more)) in
    let r : IsFound (stated d w) s m v t = found_by (stated d w) s m v t refl j in
    let a : NormalType = r.rule.3.0 in
    let i : IsWalked w d y s st (wants a) b a = k env (wants a) a (refl, r.rule.3.2.0, r.rule.3.2.1) st g (starts_end (occurrences b) u) in
    let l : with_type r.rule.0 ≡ Some (r.rule.0.0, a) = ap (option_map (λ z. (r.rule.0.0, z))) r.rule.3.1 in
    let h : walk w f s st m ≡ Some (out_of t v i.sites) =
    constructor_spine w x n c s st (typed w x) (typed w y ∷ []) ∙ then_some (build_out s st n (typed w y)) (option_and_then with_type (slice_get w.declared.variants n)) (r.rule.0.0, a) _
    (then_some with_type (slice_get w.declared.variants n) r.rule.0 (Some (r.rule.0.0, a)) r.rule.1 l)
    (then_some _ _ (out_of a b i.sites) _ i.walked (ap (λ z. Some (out_of z v i.sites)) (sym r.rule.2))) in
    record { sites = i.sites; walked = typed_by w f s st m (out_of t v i.sites) h r.accepts r.fit; fills = i.fills; numbered = numbered_end i.numbered }

-- ---- functions

function_walk : (w : World) (s : Scope) (x : ExpForm) (f : ℕ) (args : List Normal) → IsFunction w.most w.globals s.names x f args → (st : Sites) (m : Mode) → walk w x s st m ≡ function_out w s st (f, args)
function_walk w s _ f _ (resolves.IsFunction.name (resolves.IsDeclared.bare {x = x} h i)) st m = declared_of_var (local_at x s.names.locals) h where
  declared_of_var : (l : Option (Bool × ℕ)) → l ≡ None → local_or w s st x l ≡ function_out w s st (f, [])
  declared_of_var l k = ap (local_or w s st x) k ∙ then_some (declared_out w s st) (declared w.globals (own x) w.globals.values) (here.function f) (function_out w s st (f, [])) i refl
function_walk w s _ f _ (resolves.IsFunction.name (resolves.IsDeclared.member {m = j} {x = x} i)) st m = then_some (declared_out w s st) (declared w.globals (of_module j x) w.globals.values) (here.function f) (function_out w s st (f, [])) i refl
function_walk w s _ f args (resolves.IsFunction.applied {x = x} {p = p} {c = c} r i) st m =
    then_some (function_out w s st) (function_at w s (e.ConApp' tt (its p x alone) c)) (f, args) (function_out w s st (f, args)) (function_found w s (e.ConApp' tt (its p x alone) c) f args (resolves.IsFunction.applied r i)) refl

pub function_walked : (w : World) (d : Statements) (names : Names) (x : ExpForm) (f : ℕ) (args : List Normal) → IsFunction w.most w.globals names x f args → Walks w d names x (exp.Function f args)
function_walked w d names x f args c = scoped_walked w d names x (exp.Function f args) refl refl
    (λ env t r st m.
    let s : Scope = scope_at names env in
    let a : are_arguments env r.0.cons args ≡ true = (arguments_decided env r.0.cons args).1 r.2 in
    function_walk w s x f args c st m ∙ then_some (λ (h : Head). if_so (are_arguments s.env h.cons args && keeps_arrows args h.params) (gives (instance_type args (function_type h)) (exp.Function f args) st)) (slice_get w.declared.functions f) r.0 (Some (out_of t (exp.Function f args) st)) r.1
    (so_true (are_arguments env r.0.cons args && keeps_arrows args r.0.params) (gives (instance_type args (function_type r.0)) (exp.Function f args) st) (and_true (are_arguments env r.0.cons args) (keeps_arrows args r.0.params) a r.3) ∙ ap (λ z. Some (out_of z (exp.Function f args) st)) (sym r.4)))

-- ---- arguments

-- each argument gives what the rules say
pub data AllWalk (w : World) (d : Statements) (names : Names) : List ExpForm → (n : Shape) → Row_of-Resolved (count n) → Type 0 where
  no_walks : AllWalk w d names [] [] no_more
  one_walk : {y : ExpForm} {ys : List ExpForm} {b : Exp} {n : Shape} {row : Row_of-Resolved (count n)} → Walks w d names y b → AllWalk w d names ys n row → AllWalk w d names (y ∷ ys) (tt ∷ n) (one_more b row)

pub record ArgsAreWalked (w : World) (d : Statements) (s : Scope) (ys : List ExpForm) (ts : List NormalType) (st : Sites) (n : Shape) (row : Row_of-Resolved (count n)) : Type 0 where
  pub sites : Sites
  pub walked : args_out s (walks w ys) ts st ≡ Some ((n, row), sites)
  pub fills : Fills w d sites
  pub numbered : Numbered st (occurrences_of row) sites

pub args_walked : (w : World) (d : Statements) (names : Names) (env : Env) (ys : List ExpForm) (ts : List NormalType) (st : Sites) (n : Shape) (row : Row_of-Resolved (count n)) → AllWalk w d names ys n row → AreWanted (stated d w).declared w.most env row ts → Fills w d st →
    Starts st (occurrences_of row) → ArgsAreWalked w d (scope_at names env) ys ts st n row
args_walked w d names env _ ts st _ _ no_walks h g u = subst (λ z. ArgsAreWalked w d (scope_at names env) [] z st [] no_more) (sym h) (record { sites = st; walked = refl; fills = g; numbered = numbered_none st })
args_walked w d names env _ ts st _ _ (one_walk {y = y} {ys = ys} {b = b} {n = n} {row = row} k r) h g u =
    let s : Scope = scope_at names env in
    let i : IsWalked w d y s st (wants h.0) b h.0 = k env (wants h.0) h.0 (refl, h.3, h.4) st g (starts_left (occurrences b) (occurrences_of row) u) in
    let l : ArgsAreWalked w d s ys h.1 i.sites n row = args_walked w d names env ys h.1 i.sites n row r h.5 i.fills (starts_right (occurrences b) (occurrences_of row) u i.numbered) in
    subst (λ z. ArgsAreWalked w d s (y ∷ ys) z st (tt ∷ n) (one_more b row)) (sym h.2)
    (record { sites = l.sites; walked = then_some _ _ (out_of h.0 b i.sites) _ i.walked (ap (option_map (with_first b)) l.walked); fills = l.fills; numbered = numbered_both i.numbered l.numbered })

-- ---- along a spine

pub record SpineIsWalked (w : World) (d : Statements) (s : Scope) (x : ExpForm) (ys : List ExpForm) (st : Sites) (b : Exp) (t : NormalType) : Type 0 where
  pub sites : Sites
  pub walked : spine w x s st (typed w x) (walks w ys) ≡ Some (out_of t b sites)
  pub fills : Fills w d sites
  pub numbered : Numbered st (occurrences b) sites

abbrev pub SpineWalks : World → Statements → Names → ExpForm → (n : Shape) → Row_of-Resolved (count n) → Exp → Type 0
SpineWalks w d names x n row b = (y : ExpForm) (ys : List ExpForm) → AllWalk w d names (y ∷ ys) n row → (env : Env) (t : NormalType) → Finds (stated d w).declared w.most env b t → (st : Sites) → Fills w d st → Starts st (occurrences b) →
    SpineIsWalked w d (scope_at names env) x (y ∷ ys) st b t

pub further_walked : (w : World) (d : Statements) (names : Names) (p q : Span) (x a : ExpForm) (c b : Exp) (n : Shape) (row : Row_of-Resolved (count n)) → Walks w d names a c → SpineWalks w d names x (tt ∷ n) (one_more c row) b → SpineWalks w d names (e.App' tt (its p x alone) tt (its q a alone)) n row b
further_walked w d names p q x a c b n row k r y ys all env t f st g u =
    let i : SpineIsWalked w d (scope_at names env) x (a ∷ y ∷ ys) st b t = r a (y ∷ ys) (one_walk k all) env t f st g u in record { sites = i.sites; walked = i.walked; fills = i.fills; numbered = i.numbered }

called_is : (b : Exp) (c : ℕ × List Normal) → called (one_more b no_more) ≡ Some c → b ≡ exp.Function c.0 c.1
called_is (exp.Function f args) c h = ap (λ (z : ℕ × List Normal). exp.Function z.0 z.1) (some_of h)
called_is _ c h = absurd (some_none (sym h))

head_applied : (x : ExpForm) → is_head x ≡ true → is_applied x ≡ false
head_applied (e.App' _ x _ y) h = cc
head_applied _ h = refl

head_tagless : (w : World) (x : ExpForm) → is_head x ≡ true → tag_named w x ≡ None
head_tagless w (e.Constructor x) h = cc
head_tagless w (e.MemberConstructor m x) h = cc
head_tagless w _ h = refl

-- what resolves to something else than a function names none
unnamed : (d : Statements) (w : World) (names : Names) (env : Env) (x : ExpForm) (b : Exp) → Resolves d w.most w.globals (stated d w).declared names x b → called (one_more b no_more) ≡ None → function_at w (scope_at names env) x ≡ None
unnamed d w names env _ _ (resolves.variable {x = x} i) h = ap (λ z. option_map without_arguments (if_unbound z (option_and_then as_function_number (declared w.globals (own x) w.globals.values)))) i
unnamed d w names env _ _ (resolves.parameter {x = x} i) h = ap (λ z. option_map without_arguments (if_unbound z (option_and_then as_function_number (declared w.globals (own x) w.globals.values)))) i
unnamed d w names env _ _ (resolves.val (resolves.IsDeclared.bare i k)) h = ap (option_map without_arguments) (ap₂ if_unbound i (ap (option_and_then as_function_number) k))
unnamed d w names env _ _ (resolves.val (resolves.IsDeclared.member k)) h = ap (option_map without_arguments) (ap (option_and_then as_function_number) k)
unnamed d w names env _ _ (resolves.function r) h = absurd (some_none h)
unnamed d w names env _ _ (resolves.constructor (resolves.IsConstructor.bare i j k l)) h = refl
unnamed d w names env _ _ (resolves.constructor (resolves.IsConstructor.member k)) h = refl
unnamed d w names env _ _ _ h = refl

abbrev calling : ℕ → List Normal → Head → Args × Sites → Option Out
calling f cons h r = gives (instance_type cons h.result) (make.apply (exp.Function f cons) r.0.0 r.0.1) r.1

-- a named function at its arguments
call_walked : (w : World) (d : Statements) (names : Names) (x : ExpForm) (f : ℕ) (cons : List Normal) (n : Shape) (row : Row_of-Resolved (count n)) → is_head x ≡ true → IsFunction w.most w.globals names x f cons → SpineWalks w d names x n row (make.apply (exp.Function f cons) n row)
call_walked w d names x f cons _ _ ih c y ys (one_walk {b = b} {n = n} {row = row} k all) env t r st g u =
    let s : Scope = scope_at names env in
    let ts : List NormalType = map (λ p. instance_type cons p.of) r.0.params in
    let v : Exp = make.apply (exp.Function f cons) (tt ∷ n) (one_more b row) in
    let i : ArgsAreWalked w d s (y ∷ ys) ts st (tt ∷ n) (one_more b row) = args_walked w d names env (y ∷ ys) ts st (tt ∷ n) (one_more b row) (one_walk k all) r.5 g u in
    let a : are_arguments env r.0.cons cons ≡ true = (arguments_decided env r.0.cons cons).1 r.2 in
    let z : nat_le (type_nodes (instance_type cons (function_type r.0))) w.most ≡ true = within (type_nodes (instance_type cons (function_type r.0))) w.most r.3 in
    let h : spine w x s st (typed w x) (walks w (y ∷ ys)) ≡ Some (out_of t v i.sites) =
    spine_at_head w x s st (typed w x) (walks w (y ∷ ys)) (head_applied x ih) ∙ (ap (λ q. by_head w s st (typed w x) (walks w (y ∷ ys)) (is_head x) q (tag_named w x)) (function_found w s x f cons c) ∙
    then_some (call_out w s st (walks w (y ∷ ys)) (f, cons)) (slice_get w.declared.functions f) r.0 _ r.1
    (so_true (are_arguments env r.0.cons cons && nat_le (type_nodes (instance_type cons (function_type r.0))) w.most) _ (and_true (are_arguments env r.0.cons cons) (nat_le (type_nodes (instance_type cons (function_type r.0))) w.most) a z) ∙
    then_some _ _ ((tt ∷ n, one_more b row), i.sites) _ i.walked (so_true (are_static_at r.0.params (one_more b row)) (calling f cons r.0 ((tt ∷ n, one_more b row), i.sites)) r.4 ∙ ap (λ q. Some (out_of q v i.sites)) (sym r.6)))) in
    record { sites = i.sites; walked = h; fills = i.fills; numbered = i.numbered }

-- what is static otherwise, at all its arguments
static_walked : (w : World) (d : Statements) (names : Names) (x : ExpForm) (b : Exp) (n : Shape) (row : Row_of-Resolved (count n)) → is_head x ≡ true → Walks w d names x b → Resolves d w.most w.globals (stated d w).declared names x b → called (one_more b no_more) ≡ None →
    SpineWalks w d names x n row (make.apply b n row)
static_walked w d names x b _ _ ih kx rx cn y ys (one_walk {b = c} {n = n} {row = row} k all) env t r st g u =
    let s : Scope = scope_at names env in
    let v : Exp = make.apply b (tt ∷ n) (one_more c row) in
    let z : Applies (stated d w).declared w.most env None (λ ps. are_static_at ps (one_more c row)) (Found (stated d w).declared w.most env (one_more b no_more)) (AreWanted (stated d w).declared w.most env (one_more c row)) t =
    subst (λ q. Applies (stated d w).declared w.most env q (λ ps. are_static_at ps (one_more c row)) (Found (stated d w).declared w.most env (one_more b no_more)) (AreWanted (stated d w).declared w.most env (one_more c row)) t) cn r in
    let i : IsWalked w d x s st finds b z.0 = kx env finds z.0 (z.1.0, z.1.1) st g (starts_end (occurrences b) (starts_left (occurrences b ++ []) (occurrences_of (one_more c row)) u)) in
    let ni : Numbered st (occurrences b ++ []) i.sites = numbered_end i.numbered in
    let l : ArgsAreWalked w d s (y ∷ ys) (parameters z.0).0 i.sites (tt ∷ n) (one_more c row) = args_walked w d names env (y ∷ ys) (parameters z.0).0 i.sites (tt ∷ n) (one_more c row) (one_walk k all) z.2 i.fills (starts_right (occurrences b ++ []) (occurrences_of (one_more c row)) u ni) in
    let h : spine w x s st (typed w x) (walks w (y ∷ ys)) ≡ Some (out_of t v l.sites) =
    spine_at_head w x s st (typed w x) (walks w (y ∷ ys)) (head_applied x ih) ∙ (ap (λ q. by_head w s st (typed w x) (walks w (y ∷ ys)) (is_head x) q (tag_named w x)) (unnamed d w names env x b rx cn) ∙
    (ap₂ (λ q p. by_head w s st (typed w x) (walks w (y ∷ ys)) q None p) ih (head_tagless w x ih) ∙
    then_some (applied_out s (walks w (y ∷ ys))) (typed w x s st finds) (out_of z.0 b i.sites) _ i.walked (then_some _ _ ((tt ∷ n, one_more c row), l.sites) _ l.walked (ap (λ q. Some (out_of q v l.sites)) (sym z.3))))) in
    record { sites = l.sites; walked = h; fills = l.fills; numbered = numbered_both ni l.numbered }

pub head_walked : (w : World) (d : Statements) (names : Names) (x : ExpForm) (b : Exp) (n : Shape) (row : Row_of-Resolved (count n)) → is_head x ≡ true → Walks w d names x b → Resolves d w.most w.globals (stated d w).declared names x b → SpineWalks w d names x n row (make.apply b n row)
head_walked w d names x b n row ih kx rx = by_call (called (one_more b no_more)) refl where
  by_call : (c : Option (ℕ × List Normal)) → called (one_more b no_more) ≡ c → SpineWalks w d names x n row (make.apply b n row)
  by_call None h = static_walked w d names x b n row ih kx rx h
  by_call (Some c) h = subst (λ z. SpineWalks w d names x n row (make.apply z n row)) (sym (called_is b c h)) (call_walked w d names x c.0 c.1 n row ih (calls_of d w names x b rx c h))

spine_found : (d : Statements) (w : World) (names : Names) (x : ExpForm) (n : Shape) (row : Row_of-Resolved (count n)) (b : Exp) → Spine d w.most w.globals (stated d w).declared names x n row b → has_rule b ≡ false
spine_found d w names _ n row b (further {x = x} {b = c} r sp) = spine_found d w names x (tt ∷ n) (one_more c row) b sp
spine_found d w names _ n row _ (head ih r) = refl

pub application_walked : (w : World) (d : Statements) (names : Names) (p q : Span) (x y : ExpForm) (c b : Exp) → Walks w d names y c → Spine d w.most w.globals (stated d w).declared names x (tt ∷ []) (one_more c no_more) b → SpineWalks w d names x (tt ∷ []) (one_more c no_more) b →
    Walks w d names (e.App' tt (its p x alone) tt (its q y alone)) b
application_walked w d names p q x y c b k sp r env m t j st g u =
    let s : Scope = scope_at names env in
    let f : IsFound (stated d w) s m b t = found_by (stated d w) s m b t (spine_found d w names x (tt ∷ []) (one_more c no_more) b sp) j in
    let i : SpineIsWalked w d s x (y ∷ []) st b t = r y [] (one_walk k no_walks) env t f.rule st g u in
    record { sites = i.sites; walked = typed_by w (e.App' tt (its p x alone) tt (its q y alone)) s st m (out_of t b i.sites) i.walked f.accepts f.fit; fills = i.fills; numbered = i.numbered }
