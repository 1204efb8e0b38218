-- Forms of which the walk gives what the rules say.
use Rattle.std.proofs.Common.{arith, ◌≡◌, ◌∙◌, refl, sym, ap, ap₂, subst, Bool, true, false, Option, Some, None, List, [], ◌∷◌, ◌++◌, ℕ, ◌+◌, length}
use Rattle.std.specs.Prelude.{◌&&◌, ◌||◌, ◌≤◌, ◌<◌, not, nat_le, nat_lt, pos, option_map, option_and_then, slice_get, codes}
use Rattle.std.proofs.lemmas.Bool.Decides.{nat_tests}
use Rattle.std.proofs.lemmas.List.{length-append, append-nil}
use Rattle.ur_base.specs.declared.refusal.Span.{Span}
use Rattle.ur_syntax.specs.Names.{own, member as of_module}
use Rattle.ur_syntax.specs.declared.con.FieldName.{FieldName}
use Rattle.ur_syntax.specs.declared.sql.DeclName.{DeclName}
use Rattle.ur_syntax.specs.declared.exp.Binder.{Binder}
use Rattle.ur_syntax.specs.declared.exp.Binder.TheVariants as binder
use Rattle.ur_syntax.specs.declared.exp.Removed.{Removed}
use Rattle.ur_syntax.specs.declared.exp.ExpForm.{ExpForm, end_of-Exp as alone, more_of-Exp as its}
use Rattle.ur_syntax.specs.declared.exp.ExpForm.TheVariants as e
use Rattle.ur_values.specs.declared.schema.ColumnKind.{ColumnKind}
use Rattle.ur_rows.specs.declared.normal.Label.{Label}
use Rattle.ur_rows.specs.declared.normal.NormalType.{NormalType}
use Rattle.ur_rows.specs.declared.normal.NormalType.TheVariants as ty
use Rattle.ur_rows.specs.declared.normal.Part.{Part}
use Rattle.ur_rows.specs.Made.{unit, record_of, row, parts}
use Rattle.ur_rows.specs.Nodes.{type_nodes}
use Rattle.ur_rows.specs.Types.{option_of, list_of, transaction_of, field_type, without, holds_arrow, may_run}
use Rattle.ur_tree.specs.Scalars.{kind_type, is_basic}
use Rattle.ur_tree.specs.declared.exp.Exp.{Exp}
use Rattle.ur_tree.specs.declared.exp.Exp.TheVariants as exp
use Rattle.ur_tree.specs.declared.exp.Unary.TheVariants as unary
use Rattle.ur_tree.specs.Make as make
use Rattle.ur_tree.specs.Env.{Env, with_value}
use Rattle.ur_tree.specs.IsStatic.{is_static}
use Rattle.ur_tree.specs.Occurrences.{Occurrence, occurrences}
use Rattle.ur_tree.specs.Typing.{Finds, Passes, ByRule, Accepts, has_rule}
use Rattle.ur_typed_rules.specs.Names.{Names, WritesLabel, declared, local_at, with_local, name_of, bound_name}
use Rattle.ur_typed_rules.specs.Names as here
use Rattle.ur_typed_rules.specs.Scopes.{World, Scope, Mode, finds, wants, within_binder, of_option, of_transaction}
use Rattle.ur_typed_rules.specs.Tests.{same_type}
use Rattle.ur_typed_rules.proofs.Rows.{told}
use Rattle.ur_typed.specs.Resolves.{Statements, IsDeclared, bare, member}
use Rattle.ur_typed.specs.Typed.{sites_in, updates_in, CountsFrom}
use Rattle.ur_typed.specs.Rules.{Sites, Out, is_accepted, fits, settled, gives, local_or, declared_out, is_option, is_list, cookie_at, bind_with}
use Rattle.ur_typed.specs.Walking.{walk, typed}
use Rattle.ur_typed_rules.specs.Rules.{if_so, row_of, value_of, label_at}
use Rattle.ur_typed_rules.proofs.Options.{then_some}
use Rattle.ur_typed_laws.specs.Judged.{Fills, Numbered, stated, Judged}
use Rattle.ur_typed_laws.specs.Walked.{scope_at, out_of, Starts, IsWalked, Walks}
use Rattle.ur_typed_laws.proofs.Numbers.{sites_of_both, updates_of_both, numbered_none, numbered_end, numbered_both}

-- ---- tests that pass

pub so_true : {A : Type 0} (b : Bool) (o : Option A) → b ≡ true → if_so b o ≡ o
so_true b o h = ap (λ z. if_so z o) h

pub and_true : (a b : Bool) → a ≡ true → b ≡ true → (a && b) ≡ true
and_true a b h i = ap₂ (λ x y. x && y) h i

pub within : (a b : ℕ) → a ≤ b → nat_le a b ≡ true
within a b h = grind (arith, nat_tests, h)

accepted : (most : ℕ) (x : Exp) (t : NormalType) → Accepts most x t → is_accepted most x t ≡ true
accepted most x t a = and_true (nat_le (type_nodes t) most) (may_run t && (not (holds_arrow t) || is_static x)) (within (type_nodes t) most a.0) (and_true (may_run t) (not (holds_arrow t) || is_static x) a.1 a.2)

-- the rule's answer is that of the whole, where it is accepted and wanted
pub typed_by : (w : World) (x : ExpForm) (s : Scope) (st : Sites) (m : Mode) (o : Out) → walk w x s st m ≡ Some o → Accepts w.most o.exp o.of → fits m o.of ≡ true → typed w x s st m ≡ Some o
typed_by w x s st m o h a f = then_some (settled w.most m) (walk w x s st m) o (Some o) h (so_true (is_accepted w.most o.exp o.of && fits m o.of) (Some o) (and_true (is_accepted w.most o.exp o.of) (fits m o.of) (accepted w.most o.exp o.of a) f))

pub same_self : (t u : NormalType) → t ≡ u → same_type t u ≡ true
same_self t u e = (told t u).1 e

-- ---- numbers

counts_left : (n : ℕ) (a b : List ℕ) → CountsFrom n (a ++ b) → CountsFrom n a
counts_left n [] b c = tt
counts_left n (k ∷ a) b c = (c.0, counts_left (n + 1) a b c.1)

counts_right : (n : ℕ) (a b : List ℕ) → CountsFrom n (a ++ b) → CountsFrom (n + length a) b
counts_right n [] b c = let i : n + length {A = ℕ} [] ≡ n = omega arith in subst (λ z. CountsFrom z b) (sym i) c
counts_right n (k ∷ a) b c = let i : n + length (k ∷ a) ≡ (n + 1) + length a = omega arith in subst (λ z. CountsFrom z b) (sym i) (counts_right (n + 1) a b c.1)

pub starts_left : {st : Sites} (a b : List Occurrence) → Starts st (a ++ b) → Starts st a
starts_left {st} a b s = record {
  sites = counts_left (length st.queries) (sites_in a) (sites_in b) (subst (CountsFrom (length st.queries)) (sites_of_both a b) s.sites);
  updates = counts_left (length st.changes) (updates_in a) (updates_in b) (subst (CountsFrom (length st.changes)) (updates_of_both a b) s.updates);
}

-- so many more statements as there are numbers
grown : {A : Type 0} (x y xs : List A) (a : List ℕ) → y ≡ x ++ xs → length a ≡ length xs → length x + length a ≡ length y
grown x y xs a e l = ap (λ z. length x + z) l ∙ (sym (length-append x xs) ∙ sym (ap length e))

pub starts_right : {st su : Sites} (a b : List Occurrence) → Starts st (a ++ b) → Numbered st a su → Starts su b
starts_right {st} {su} a b s n = record {
  sites = subst (λ z. CountsFrom z (sites_in b)) (grown st.queries su.queries n.queries (sites_in a) n.all_queries n.how_many_sites) (counts_right (length st.queries) (sites_in a) (sites_in b) (subst (CountsFrom (length st.queries)) (sites_of_both a b) s.sites));
  updates = subst (λ z. CountsFrom z (updates_in b)) (grown st.changes su.changes n.changes (updates_in a) n.all_changes n.how_many_updates) (counts_right (length st.changes) (updates_in a) (updates_in b) (subst (CountsFrom (length st.changes)) (updates_of_both a b) s.updates));
}

pub starts_end : {st : Sites} (a : List Occurrence) → Starts st (a ++ []) → Starts st a
starts_end {st} a s = subst (λ z. Starts st z) (append-nil a) s

-- ---- what is judged

-- a form without a rule of its own for checking is found, and compared with what is wanted
pub record IsFound (w : World) (s : Scope) (m : Mode) (b : Exp) (t : NormalType) : Type 0 where
  pub rule : Finds w.declared w.most s.env b t
  pub accepts : Accepts w.most b t
  pub fit : fits m t ≡ true

pub found_by : (w : World) (s : Scope) (m : Mode) (b : Exp) (t : NormalType) → has_rule b ≡ false → Judged w s m b t → IsFound w s m b t
found_by w s finds b t h j = record { rule = j.0; accepts = j.1; fit = refl }
found_by w s (wants u) b t h j =
    let r : Finds w.declared w.most s.env b u = subst (λ z. ByRule z (Passes w.declared w.most s.env b u) (Finds w.declared w.most s.env b u)) h j.1 in
    record { rule = subst (λ z. Finds w.declared w.most s.env b z) (sym j.0) r; accepts = subst (λ z. Accepts w.most b z) (sym j.0) j.2; fit = same_self t u j.0 }

-- ---- forms without parts

abbrev HasNone : List Occurrence → Type 0
HasNone os = os ≡ []

plain_walked : (w : World) (d : Statements) (x : ExpForm) (s : Scope) (st : Sites) (m : Mode) (b : Exp) (t : NormalType) → HasNone (occurrences b) → walk w x s st m ≡ Some (out_of t b st) → Accepts w.most b t → fits m t ≡ true → Fills w d st → IsWalked w d x s st m b t
plain_walked w d x s st m b t o h a f g = record { sites = st; walked = typed_by w x s st m (out_of t b st) h a f; fills = g; numbered = subst (λ z. Numbered st z st) (sym o) (numbered_none st) }

-- a form that has one type
typed_alone : (w : World) (d : Statements) (names : Names) (x : ExpForm) (b : Exp) (u : NormalType) → HasNone (occurrences b) → has_rule b ≡ false → ((env : Env) (st : Sites) (m : Mode) → walk w x (scope_at names env) st m ≡ Some (out_of u b st)) →
    ((env : Env) (t : NormalType) → Finds (stated d w).declared w.most env b t → t ≡ u) → Walks w d names x b
typed_alone w d names x b u o r h k env m t j st g n =
    let q : IsFound (stated d w) (scope_at names env) m b t = found_by (stated d w) (scope_at names env) m b t r j in
    let i : t ≡ u = k env t q.rule in
    plain_walked w d x (scope_at names env) st m b t o (h env st m ∙ ap (λ z. Some (out_of z b st)) (sym i)) q.accepts q.fit g

pub int_walked : (w : World) (d : Statements) (names : Names) (n : ℕ) → Walks w d names (e.Int n) (exp.Int (pos n))
int_walked w d names n = typed_alone w d names (e.Int n) (exp.Int (pos n)) ty.Int refl refl (λ env st m. refl) (λ env t i. i)

pub string_walked : (w : World) (d : Statements) (names : Names) (s : List ℕ) → Walks w d names (e.Str s) (exp.Str s)
string_walked w d names s = typed_alone w d names (e.Str s) (exp.Str s) ty.Str refl refl (λ env st m. refl) (λ env t i. i)

pub true_walked : (w : World) (d : Statements) (names : Names) → Walks w d names (e.Constructor (codes "True")) (exp.Bool true)
true_walked w d names = typed_alone w d names (e.Constructor (codes "True")) (exp.Bool true) ty.Bool refl refl (λ env st m. refl) (λ env t i. i)

pub false_walked : (w : World) (d : Statements) (names : Names) → Walks w d names (e.Constructor (codes "False")) (exp.Bool false)
false_walked w d names = typed_alone w d names (e.Constructor (codes "False")) (exp.Bool false) ty.Bool refl refl (λ env st m. refl) (λ env t i. i)

pub unit_walked : (w : World) (d : Statements) (names : Names) → Walks w d names e.Unit exp.Unit
unit_walked w d names = typed_alone w d names e.Unit exp.Unit unit refl refl (λ env st m. refl) (λ env t i. i)

-- where the type comes from what is in scope
pub scoped_walked : (w : World) (d : Statements) (names : Names) (x : ExpForm) (b : Exp) → HasNone (occurrences b) → has_rule b ≡ false →
    ((env : Env) (t : NormalType) → Finds (stated d w).declared w.most env b t → (st : Sites) (m : Mode) → walk w x (scope_at names env) st m ≡ Some (out_of t b st)) → Walks w d names x b
scoped_walked w d names x b o r h env m t j st g n =
    let q : IsFound (stated d w) (scope_at names env) m b t = found_by (stated d w) (scope_at names env) m b t r j in
    plain_walked w d x (scope_at names env) st m b t o (h env t q.rule st m) q.accepts q.fit g

pub variable_walked : (w : World) (d : Statements) (names : Names) (x : List ℕ) (i : ℕ) → local_at x names.locals ≡ Some (false, i) → Walks w d names (e.Var x) (exp.Variable i)
variable_walked w d names x i h = scoped_walked w d names (e.Var x) (exp.Variable i) refl refl
    (λ env t f st m. ap (local_or w (scope_at names env) st x) h ∙ then_some (λ u. gives u (exp.Variable i) st) (slice_get env.values i) t (Some (out_of t (exp.Variable i) st)) f refl)

pub parameter_walked : (w : World) (d : Statements) (names : Names) (x : List ℕ) (i : ℕ) → local_at x names.locals ≡ Some (true, i) → Walks w d names (e.Var x) (exp.Fixed i)
parameter_walked w d names x i h = scoped_walked w d names (e.Var x) (exp.Fixed i) refl refl
    (λ env t f st m. ap (local_or w (scope_at names env) st x) h ∙ then_some (λ u. gives u (exp.Fixed i) st) (slice_get env.fixed i) t (Some (out_of t (exp.Fixed i) st)) f refl)

-- a name that is declared is looked up
pub declared_walk : (w : World) (names : Names) (x : ExpForm) (k : here.Declared) → IsDeclared w.globals names x k → (env : Env) (st : Sites) (m : Mode) → walk w x (scope_at names env) st m ≡ declared_out w (scope_at names env) st k
declared_walk w names _ k (bare {x = x} h i) env st m = ap (local_or w (scope_at names env) st x) h ∙ then_some (declared_out w (scope_at names env) st) (declared w.globals (own x) w.globals.values) k (declared_out w (scope_at names env) st k) i refl
declared_walk w names _ k (member {m = j} {x = x} i) env st m = then_some (declared_out w (scope_at names env) st) (declared w.globals (of_module j x) w.globals.values) k (declared_out w (scope_at names env) st k) i refl

pub val_walked : (w : World) (d : Statements) (names : Names) (x : ExpForm) (v : ℕ) → IsDeclared w.globals names x (here.val v) → Walks w d names x (exp.Val v)
val_walked w d names x v h = scoped_walked w d names x (exp.Val v) refl refl
    (λ env t f st m. declared_walk w names x (here.val v) h env st m ∙ then_some (λ u. gives u (exp.Val v) st) (slice_get w.declared.vals v) t (Some (out_of t (exp.Val v) st)) f refl)

pub absent_walked : (w : World) (d : Statements) (names : Names) (u : NormalType) → Walks w d names (e.Constructor (codes "None")) (exp.Absent u)
absent_walked w d names u env finds t j st g n = absurd j.0
absent_walked w d names u env (wants v) t j st g n =
    let o : (z : NormalType) × (v ≡ option_of z) = j.1.1 in
    let i : is_option v ≡ true = ap is_option o.1 in
    let b : exp.Absent v ≡ exp.Absent u = ap (λ z. exp.Absent z) j.1.0 in
    plain_walked w d (e.Constructor (codes "None")) (scope_at names env) st (wants v) (exp.Absent u) t refl
    (so_true (is_option v) (gives v (exp.Absent v) st) i ∙ ap₂ (λ z y. Some (out_of z y st)) (sym j.0) b) (subst (λ z. Accepts w.most (exp.Absent u) z) (sym j.0) j.2) (same_self t v j.0) g

pub empty_walked : (w : World) (d : Statements) (names : Names) (u : NormalType) → Walks w d names e.Nil (exp.Empty u)
empty_walked w d names u env finds t j st g n = absurd j.0
empty_walked w d names u env (wants v) t j st g n =
    let o : (z : NormalType) × (v ≡ list_of z) = j.1.1 in
    let i : is_list v ≡ true = ap is_list o.1 in
    let b : exp.Empty v ≡ exp.Empty u = ap (λ z. exp.Empty z) j.1.0 in
    plain_walked w d e.Nil (scope_at names env) st (wants v) (exp.Empty u) t refl
    (so_true (is_list v) (gives v (exp.Empty v) st) i ∙ ap₂ (λ z y. Some (out_of z y st)) (sym j.0) b) (subst (λ z. Accepts w.most (exp.Empty u) z) (sym j.0) j.2) (same_self t v j.0) g

below_is : (a b : ℕ) → a < b → nat_lt a b ≡ true
below_is a b h = grind (arith, nat_tests, h)

pub next_walked : (w : World) (d : Statements) (names : Names) (x : DeclName) (q : ℕ) → declared w.globals (name_of x) w.globals.sequences ≡ Some q → Walks w d names (e.Nextval x) (exp.Next q)
next_walked w d names x q h = scoped_walked w d names (e.Nextval x) (exp.Next q) refl refl
    (λ env t f st m. then_some (λ k. if_so (nat_lt k w.declared.sequences) (gives (transaction_of ty.Int) (exp.Next k) st)) (declared w.globals (name_of x) w.globals.sequences) q (Some (out_of t (exp.Next q) st)) h
    (so_true (nat_lt q w.declared.sequences) (gives (transaction_of ty.Int) (exp.Next q) st) (below_is q w.declared.sequences f.0) ∙ ap (λ z. Some (out_of z (exp.Next q) st)) (sym f.1)))

-- a cookie with its kind
pub cookie_there : (w : World) (x : DeclName) (c : ℕ) (k : ColumnKind) → declared w.globals (name_of x) w.globals.cookies ≡ Some c → slice_get w.declared.cookies c ≡ Some k → cookie_at w x ≡ Some (c, k)
cookie_there w x c k h i = then_some (λ n. option_map (λ j. (n, j)) (slice_get w.declared.cookies n)) (declared w.globals (name_of x) w.globals.cookies) c (Some (c, k)) h (ap (option_map (λ j. (c, j))) i)

pub get_cookie_walked : (w : World) (d : Statements) (names : Names) (x : DeclName) (c : ℕ) → declared w.globals (name_of x) w.globals.cookies ≡ Some c → Walks w d names (e.GetCookie x) (exp.GetCookie c)
get_cookie_walked w d names x c h = scoped_walked w d names (e.GetCookie x) (exp.GetCookie c) refl refl
    (λ env t f st m. then_some (λ (k : ℕ × ColumnKind). gives (transaction_of (option_of (kind_type k.1))) (exp.GetCookie k.0) st) (cookie_at w x) (c, f.0) (Some (out_of t (exp.GetCookie c) st)) (cookie_there w x c f.0 h f.1)
    (ap (λ z. Some (out_of z (exp.GetCookie c) st)) (sym f.2)))

-- ---- one part

pub negative_walked : (w : World) (d : Statements) (names : Names) (p : Span) (x : ExpForm) (b : Exp) → Walks w d names x b → Walks w d names (e.Negative' tt (its p x alone)) (make.unary unary.Neg b)
negative_walked w d names p x b k env m t j st g n =
    let s : Scope = scope_at names env in
    let y : Exp = make.unary unary.Neg b in
    let q : IsFound (stated d w) s m y t = found_by (stated d w) s m y t refl j in
    let i : IsWalked w d x s st (wants ty.Int) b ty.Int = k env (wants ty.Int) ty.Int (refl, q.rule.1.0, q.rule.1.1) st g (starts_end (occurrences b) n) in
    let h : walk w (e.Negative' tt (its p x alone)) s st m ≡ Some (out_of t y i.sites) = then_some _ _ (out_of ty.Int b i.sites) _ i.walked (ap (λ z. Some (out_of z y i.sites)) (sym q.rule.0)) in
    record { sites = i.sites; walked = typed_by w (e.Negative' tt (its p x alone)) s st m (out_of t y i.sites) h q.accepts q.fit; fills = i.fills; numbered = numbered_end i.numbered }

pub not_walked : (w : World) (d : Statements) (names : Names) (p : Span) (x : ExpForm) (b : Exp) → Walks w d names x b → Walks w d names (e.Not' tt (its p x alone)) (make.unary unary.Not b)
not_walked w d names p x b k env m t j st g n =
    let s : Scope = scope_at names env in
    let y : Exp = make.unary unary.Not b in
    let q : IsFound (stated d w) s m y t = found_by (stated d w) s m y t refl j in
    let i : IsWalked w d x s st (wants ty.Bool) b ty.Bool = k env (wants ty.Bool) ty.Bool (refl, q.rule.1.0, q.rule.1.1) st g (starts_end (occurrences b) n) in
    let h : walk w (e.Not' tt (its p x alone)) s st m ≡ Some (out_of t y i.sites) = then_some _ _ (out_of ty.Bool b i.sites) _ i.walked (ap (λ z. Some (out_of z y i.sites)) (sym q.rule.0)) in
    record { sites = i.sites; walked = typed_by w (e.Not' tt (its p x alone)) s st m (out_of t y i.sites) h q.accepts q.fit; fills = i.fills; numbered = numbered_end i.numbered }

pub show_walked : (w : World) (d : Statements) (names : Names) (p : Span) (x : ExpForm) (b : Exp) → Walks w d names x b → Walks w d names (e.Show' tt (its p x alone)) (make.unary unary.Show b)
show_walked w d names p x b k env m t j st g n =
    let s : Scope = scope_at names env in
    let y : Exp = make.unary unary.Show b in
    let q : IsFound (stated d w) s m y t = found_by (stated d w) s m y t refl j in
    let u : NormalType = q.rule.1.0 in
    let i : IsWalked w d x s st finds b u = k env finds u (q.rule.1.1.0, q.rule.1.1.1) st g (starts_end (occurrences b) n) in
    let h : walk w (e.Show' tt (its p x alone)) s st m ≡ Some (out_of t y i.sites) =
    then_some _ _ (out_of u b i.sites) _ i.walked (so_true (is_basic u) (gives ty.Str y i.sites) q.rule.1.2 ∙ ap (λ z. Some (out_of z y i.sites)) (sym q.rule.0)) in
    record { sites = i.sites; walked = typed_by w (e.Show' tt (its p x alone)) s st m (out_of t y i.sites) h q.accepts q.fit; fills = i.fills; numbered = numbered_end i.numbered }

pub some_walked : (w : World) (d : Statements) (names : Names) (p : Span) (x : ExpForm) (b : Exp) → Walks w d names x b → Walks w d names (e.Some' tt (its p x alone)) (make.unary unary.Present b)
some_walked w d names p x b k env finds t j st g n =
    let s : Scope = scope_at names env in
    let y : Exp = make.unary unary.Present b in
    let i : IsWalked w d x s st finds b j.0.0 = k env finds j.0.0 (j.0.2.0, j.0.2.1) st g (starts_end (occurrences b) n) in
    let h : walk w (e.Some' tt (its p x alone)) s st finds ≡ Some (out_of t y i.sites) = then_some _ _ (out_of j.0.0 b i.sites) _ i.walked (ap (λ z. Some (out_of z y i.sites)) (sym j.0.1)) in
    record { sites = i.sites; walked = typed_by w (e.Some' tt (its p x alone)) s st finds (out_of t y i.sites) h j.1 refl; fills = i.fills; numbered = numbered_end i.numbered }
some_walked w d names p x b k env (wants v) t j st g n =
    let s : Scope = scope_at names env in
    let y : Exp = make.unary unary.Present b in
    let i : IsWalked w d x s st (wants j.1.0) b j.1.0 = k env (wants j.1.0) j.1.0 (refl, j.1.2.0, j.1.2.1) st g (starts_end (occurrences b) n) in
    let a : typed w x s st (of_option (wants v)) ≡ Some (out_of j.1.0 b i.sites) = ap (λ z. typed w x s st (of_option (wants z))) j.1.1 ∙ i.walked in
    let h : walk w (e.Some' tt (its p x alone)) s st (wants v) ≡ Some (out_of t y i.sites) = then_some _ _ (out_of j.1.0 b i.sites) _ a (ap (λ z. Some (out_of z y i.sites)) (sym (j.0 ∙ j.1.1))) in
    record { sites = i.sites; walked = typed_by w (e.Some' tt (its p x alone)) s st (wants v) (out_of t y i.sites) h (subst (λ z. Accepts w.most y z) (sym j.0) j.2) (same_self t v j.0); fills = i.fills; numbered = numbered_end i.numbered }

pub return_walked : (w : World) (d : Statements) (names : Names) (p : Span) (x : ExpForm) (b : Exp) → Walks w d names x b → Walks w d names (e.Return' tt (its p x alone)) (make.unary unary.Return b)
return_walked w d names p x b k env finds t j st g n =
    let s : Scope = scope_at names env in
    let y : Exp = make.unary unary.Return b in
    let i : IsWalked w d x s st finds b j.0.0 = k env finds j.0.0 (j.0.2.0, j.0.2.1) st g (starts_end (occurrences b) n) in
    let h : walk w (e.Return' tt (its p x alone)) s st finds ≡ Some (out_of t y i.sites) = then_some _ _ (out_of j.0.0 b i.sites) _ i.walked (ap (λ z. Some (out_of z y i.sites)) (sym j.0.1)) in
    record { sites = i.sites; walked = typed_by w (e.Return' tt (its p x alone)) s st finds (out_of t y i.sites) h j.1 refl; fills = i.fills; numbered = numbered_end i.numbered }
return_walked w d names p x b k env (wants v) t j st g n =
    let s : Scope = scope_at names env in
    let y : Exp = make.unary unary.Return b in
    let i : IsWalked w d x s st (wants j.1.0) b j.1.0 = k env (wants j.1.0) j.1.0 (refl, j.1.2.0, j.1.2.1) st g (starts_end (occurrences b) n) in
    let a : typed w x s st (of_transaction (wants v)) ≡ Some (out_of j.1.0 b i.sites) = ap (λ z. typed w x s st (of_transaction (wants z))) j.1.1 ∙ i.walked in
    let h : walk w (e.Return' tt (its p x alone)) s st (wants v) ≡ Some (out_of t y i.sites) = then_some _ _ (out_of j.1.0 b i.sites) _ a (ap (λ z. Some (out_of z y i.sites)) (sym (j.0 ∙ j.1.1))) in
    record { sites = i.sites; walked = typed_by w (e.Return' tt (its p x alone)) s st (wants v) (out_of t y i.sites) h (subst (λ z. Accepts w.most y z) (sym j.0) j.2) (same_self t v j.0); fills = i.fills; numbered = numbered_end i.numbered }

pub error_walked : (w : World) (d : Statements) (names : Names) (p : Span) (x : ExpForm) (b : Exp) (u : NormalType) → Walks w d names x b → Walks w d names (e.Error' tt (its p x alone)) (make.fail u b)
error_walked w d names p x b u k env finds t j st g n = absurd j.0
error_walked w d names p x b u k env (wants v) t j st g n =
    let s : Scope = scope_at names env in
    let y : Exp = make.fail u b in
    let i : IsWalked w d x s st (wants ty.Xbody) b ty.Xbody = k env (wants ty.Xbody) ty.Xbody (refl, j.1.1.0, j.1.1.1) st g (starts_end (occurrences b) n) in
    let h : walk w (e.Error' tt (its p x alone)) s st (wants v) ≡ Some (out_of t y i.sites) =
    then_some _ _ (out_of ty.Xbody b i.sites) _ i.walked (ap₂ (λ z a. Some (out_of z (make.fail a b) i.sites)) (sym j.0) j.1.0) in
    record { sites = i.sites; walked = typed_by w (e.Error' tt (its p x alone)) s st (wants v) (out_of t y i.sites) h (subst (λ z. Accepts w.most y z) (sym j.0) j.2) (same_self t v j.0); fills = i.fills; numbered = numbered_end i.numbered }

parts_row : (r : List Part) → parts (row r).1 ≡ r
parts_row [] = refl
parts_row (p ∷ r) = ap (λ z. p ∷ z) (parts_row r)

-- the row of a record
pub row_back : (r : List Part) → row_of (record_of r) ≡ Some r
row_back r = ap (λ z. Some z) (parts_row r)

abbrev projected : Scope → FieldName → Out → NormalType → Option Out
projected s f o t = gives t (make.project o.exp (label_at s f)) o.sites

abbrev projected_by : Scope → FieldName → Out → List Part → Option Out
projected_by s f o r = option_and_then (projected s f o) (field_type (label_at s f) r)

abbrev left_of : Scope → FieldName → Out → List Part → NormalType → Option Out
left_of s f o r t = gives (record_of (without (label_at s f) r)) (make.cut o.exp (label_at s f)) o.sites

abbrev left_by : Scope → FieldName → Out → List Part → Option Out
left_by s f o r = option_and_then (left_of s f o r) (field_type (label_at s f) r)

pub project_walked : (w : World) (d : Statements) (names : Names) (p : Span) (x : ExpForm) (f : FieldName) (b : Exp) (l : Label) → Walks w d names x b → WritesLabel names.cons f l → Walks w d names (e.Project' tt (its p x alone) f) (make.project b l)
project_walked w d names p x f b l k c env m t j st g n =
    let s : Scope = scope_at names env in
    let y : Exp = make.project b l in
    let q : IsFound (stated d w) s m y t = found_by (stated d w) s m y t refl j in
    let r : List Part = q.rule.0 in
    let i : IsWalked w d x s st finds b (record_of r) = k env finds (record_of r) (q.rule.1.0, q.rule.1.1) st g (starts_end (occurrences b) n) in
    let a : field_type (label_at s f) r ≡ Some t = ap (λ z. field_type z r) (sym c) ∙ q.rule.2 in
    let h : walk w (e.Project' tt (its p x alone) f) s st m ≡ Some (out_of t y i.sites) =
    then_some _ _ (out_of (record_of r) b i.sites) _ i.walked (then_some (projected_by s f (out_of (record_of r) b i.sites)) (row_of (record_of r)) r _ (row_back r) (then_some (projected s f (out_of (record_of r) b i.sites)) (field_type (label_at s f) r) t _ a (ap (λ z. Some (out_of t (make.project b z) i.sites)) (sym c)))) in
    record { sites = i.sites; walked = typed_by w (e.Project' tt (its p x alone) f) s st m (out_of t y i.sites) h q.accepts q.fit; fills = i.fills; numbered = numbered_end i.numbered }

pub cut_walked : (w : World) (d : Statements) (names : Names) (p : Span) (x : ExpForm) (f : Removed) (b : Exp) (l : Label) → Walks w d names x b → WritesLabel names.cons f.name l → Walks w d names (e.Remove' tt (its p x alone) f) (make.cut b l)
cut_walked w d names p x f b l k c env m t j st g n =
    let s : Scope = scope_at names env in
    let y : Exp = make.cut b l in
    let q : IsFound (stated d w) s m y t = found_by (stated d w) s m y t refl j in
    let r : List Part = q.rule.0 in
    let i : IsWalked w d x s st finds b (record_of r) = k env finds (record_of r) (q.rule.2.0, q.rule.2.1) st g (starts_end (occurrences b) n) in
    let a : field_type (label_at s f.name) r ≡ Some q.rule.1 = ap (λ z. field_type z r) (sym c) ∙ q.rule.3 in
    let v : record_of (without (label_at s f.name) r) ≡ t = ap (λ z. record_of (without z r)) (sym c) ∙ sym q.rule.4 in
    let h : walk w (e.Remove' tt (its p x alone) f) s st m ≡ Some (out_of t y i.sites) =
    then_some _ _ (out_of (record_of r) b i.sites) _ i.walked (then_some (left_by s f.name (out_of (record_of r) b i.sites)) (row_of (record_of r)) r _ (row_back r) (then_some (left_of s f.name (out_of (record_of r) b i.sites) r) (field_type (label_at s f.name) r) q.rule.1 _ a (ap₂ (λ u z. Some (out_of u (make.cut b z) i.sites)) v (sym c)))) in
    record { sites = i.sites; walked = typed_by w (e.Remove' tt (its p x alone) f) s st m (out_of t y i.sites) h q.accepts q.fit; fills = i.fills; numbered = numbered_end i.numbered }

-- ---- what is judged of a form's parts

-- of the parts of an `if`
record IsChoice (w : World) (s : Scope) (m : Mode) (a b c : Exp) (t : NormalType) : Type 0 where
  condition : Judged w s (wants ty.Bool) a ty.Bool
  first : Judged w s m b t
  second : Judged w s (wants t) c t
  accepts : Accepts w.most (make.choice a b c) t
  fit : fits m t ≡ true

choice_judged : (w : World) (s : Scope) (m : Mode) (a b c : Exp) (t : NormalType) → Judged w s m (make.choice a b c) t → IsChoice w s m a b c t
choice_judged w s finds a b c t j = record { condition = (refl, j.0.0.0, j.0.0.1); first = (j.0.1.0, j.0.1.1); second = (refl, j.0.2.0, j.0.2.1); accepts = j.1; fit = refl }
choice_judged w s (wants v) a b c t j =
    subst (λ z. IsChoice w s (wants v) a b c z) (sym j.0) (record { condition = (refl, j.1.0.0, j.1.0.1); first = (refl, j.1.1.0, j.1.1.1); second = (refl, j.1.2.0, j.1.2.1); accepts = j.2; fit = same_self v v refl })

-- of a statement and what follows it
record IsBound (w : World) (names : Names) (s : Scope) (m : Mode) (x : Binder) (a b : Exp) (t : NormalType) : Type 0 where
  value : NormalType
  last : NormalType
  is : t ≡ transaction_of last
  first : Judged w s finds a (transaction_of value)
  second : Judged w (scope_at (with_local (here.value (bound_name x)) names) (with_value value s.env)) m b t
  accepts : Accepts w.most (make.bind a b) t
  fit : fits m t ≡ true

bind_judged : (w : World) (names : Names) (s : Scope) (m : Mode) (x : Binder) (a b : Exp) (t : NormalType) → Judged w s m (make.bind a b) t → IsBound w names s m x a b t
bind_judged w names s finds x a b t j = record { value = j.0.0; last = j.0.1; is = j.0.3; first = (j.0.2.0, j.0.2.1); second = (j.0.4.0, j.0.4.1); accepts = j.1; fit = refl }
bind_judged w names s (wants v) x a b t j =
    subst (λ z. IsBound w names s (wants v) x a b z) (sym j.0) (record { value = j.1.0; last = j.1.1; is = j.1.3; first = (j.1.2.0, j.1.2.1); second = (refl, j.1.4.0, j.1.4.1); accepts = j.2; fit = same_self v v refl })

-- ---- two and three parts

pub choice_walked : (w : World) (d : Statements) (names : Names) (p q r : Span) (x y z : ExpForm) (a b c : Exp) → Walks w d names x a → Walks w d names y b → Walks w d names z c → Walks w d names (e.If' tt (its p x alone) tt (its q y alone) tt (its r z alone)) (make.choice a b c)
choice_walked w d names p q r x y z a b c ka kb kc env m t j st g n =
    let s : Scope = scope_at names env in
    let f : ExpForm = e.If' tt (its p x alone) tt (its q y alone) tt (its r z alone) in
    let v : Exp = make.choice a b c in
    let oa : List Occurrence = occurrences a ++ [] in let ob : List Occurrence = occurrences b ++ [] in let oc : List Occurrence = occurrences c ++ [] in
    let u : IsChoice (stated d w) s m a b c t = choice_judged (stated d w) s m a b c t j in
    let i : IsWalked w d x s st (wants ty.Bool) a ty.Bool = ka env (wants ty.Bool) ty.Bool u.condition st g (starts_end (occurrences a) (starts_left oa (ob ++ oc) n)) in
    let na : Numbered st oa i.sites = numbered_end i.numbered in
    let sb : Starts i.sites (ob ++ oc) = starts_right oa (ob ++ oc) n na in
    let k : IsWalked w d y s i.sites m b t = kb env m t u.first i.sites i.fills (starts_end (occurrences b) (starts_left ob oc sb)) in
    let nb : Numbered i.sites ob k.sites = numbered_end k.numbered in
    let l : IsWalked w d z s k.sites (wants t) c t = kc env (wants t) t u.second k.sites k.fills (starts_end (occurrences c) (starts_right ob oc sb nb)) in
    let h : walk w f s st m ≡ Some (out_of t v l.sites) = then_some _ _ (out_of ty.Bool a i.sites) _ i.walked (then_some _ _ (out_of t b k.sites) _ k.walked (then_some _ _ (out_of t c l.sites) _ l.walked refl)) in
    record { sites = l.sites; walked = typed_by w f s st m (out_of t v l.sites) h u.accepts u.fit; fills = l.fills; numbered = numbered_both na (numbered_both nb (numbered_end l.numbered)) }

abbrev bound_last : Out → Out → NormalType → Option Out
bound_last o z v = gives z.of (make.bind o.exp z.exp) z.sites

abbrev bound_by : Out → Out → Option Out
bound_by o z = option_and_then (bound_last o z) (value_of z.of)

pub bind_walked : (w : World) (d : Statements) (names : Names) (x : Binder) (p q : Span) (y z : ExpForm) (a b : Exp) → Walks w d names y a → Walks w d (with_local (here.value (bound_name x)) names) z b → Walks w d names (e.Bind' x tt (its p y alone) tt (its q z alone)) (make.bind a b)
bind_walked w d names x p q y z a b ka kb env m t j st g n =
    let s : Scope = scope_at names env in
    let f : ExpForm = e.Bind' x tt (its p y alone) tt (its q z alone) in
    let v : Exp = make.bind a b in
    let oa : List Occurrence = occurrences a ++ [] in let ob : List Occurrence = occurrences b ++ [] in
    let u : IsBound (stated d w) names s m x a b t = bind_judged (stated d w) names s m x a b t j in
    let i : IsWalked w d y s st finds a (transaction_of u.value) = ka env finds (transaction_of u.value) u.first st g (starts_end (occurrences a) (starts_left oa ob n)) in
    let na : Numbered st oa i.sites = numbered_end i.numbered in
    let k : IsWalked w d z (within_binder x u.value s) i.sites m b t = kb (with_value u.value env) m t u.second i.sites i.fills (starts_end (occurrences b) (starts_right oa ob n na)) in
    let c : value_of t ≡ Some u.last = ap value_of u.is in
    let h : walk w f s st m ≡ Some (out_of t v k.sites) = then_some _ _ (out_of (transaction_of u.value) a i.sites) _ i.walked (then_some (bind_with s m x (typed w z) (out_of (transaction_of u.value) a i.sites)) (value_of (transaction_of u.value)) u.value _ refl (then_some (bound_by (out_of (transaction_of u.value) a i.sites)) (typed w z (within_binder x u.value s) i.sites m) (out_of t b k.sites) _ k.walked (then_some (bound_last (out_of (transaction_of u.value) a i.sites) (out_of t b k.sites)) (value_of t) u.last _ c refl))) in
    record { sites = k.sites; walked = typed_by w f s st m (out_of t v k.sites) h u.accepts u.fit; fills = k.fills; numbered = numbered_both na (numbered_end k.numbered) }

pub sequence_walked : (w : World) (d : Statements) (names : Names) (p q : Span) (y z : ExpForm) (a b : Exp) → Walks w d names y a → Walks w d (with_local (here.value None) names) z b → Walks w d names (e.Seq' tt (its p y alone) tt (its q z alone)) (make.bind a b)
sequence_walked w d names p q y z a b ka kb env m t j st g n =
    let s : Scope = scope_at names env in
    let f : ExpForm = e.Seq' tt (its p y alone) tt (its q z alone) in
    let v : Exp = make.bind a b in
    let oa : List Occurrence = occurrences a ++ [] in let ob : List Occurrence = occurrences b ++ [] in
    let u : IsBound (stated d w) names s m binder.Ignored a b t = bind_judged (stated d w) names s m binder.Ignored a b t j in
    let i : IsWalked w d y s st finds a (transaction_of u.value) = ka env finds (transaction_of u.value) u.first st g (starts_end (occurrences a) (starts_left oa ob n)) in
    let na : Numbered st oa i.sites = numbered_end i.numbered in
    let k : IsWalked w d z (within_binder binder.Ignored u.value s) i.sites m b t = kb (with_value u.value env) m t u.second i.sites i.fills (starts_end (occurrences b) (starts_right oa ob n na)) in
    let c : value_of t ≡ Some u.last = ap value_of u.is in
    let h : walk w f s st m ≡ Some (out_of t v k.sites) = then_some _ _ (out_of (transaction_of u.value) a i.sites) _ i.walked (then_some (bind_with s m binder.Ignored (typed w z) (out_of (transaction_of u.value) a i.sites)) (value_of (transaction_of u.value)) u.value _ refl (then_some (bound_by (out_of (transaction_of u.value) a i.sites)) (typed w z (within_binder binder.Ignored u.value s) i.sites m) (out_of t b k.sites) _ k.walked (then_some (bound_last (out_of (transaction_of u.value) a i.sites) (out_of t b k.sites)) (value_of t) u.last _ c refl))) in
    record { sites = k.sites; walked = typed_by w f s st m (out_of t v k.sites) h u.accepts u.fit; fills = k.fills; numbered = numbered_both na (numbered_end k.numbered) }
