-- Whether a tree is static, form by form.
use Rattle.std.proofs.Common.{◌≡◌, ◌∙◌, refl, ap, ap₂, sym, ℕ, ◌+◌, ◌<◌, ◌≤◌, Bool, true, false, List, length, drop, get_or}
use Rattle.std.specs.Prelude.{◌&&◌}
use Rattle.ur_rows.specs.declared.normal.Label.{Label}
use Rattle.ur_rows.specs.declared.normal.NormalType.{NormalType}
use Rattle.ur_rows.specs.declared.normal.Part.{Part}
use Rattle.ur_rows.specs.Types.{is_arrow}
use Rattle.ur_tree.specs.declared.exp.Binary.{Binary}
use Rattle.ur_tree.specs.declared.exp.Param.{Param}
use Rattle.ur_tree.specs.declared.exp.FieldExp.{FieldExp}
use Rattle.ur_tree.specs.declared.exp.Exp.{Exp}
use Rattle.ur_tree.specs.declared.exp.Exp.TheVariants as exp
use Rattle.ur_tree.specs.IsStatic.{is_join, is_static, are_static}
use Rattle.ur_check_scopes.proofs.Loops.{left-here, left-end}
use Rattle.ur_check_rules.specs.Views.{exps_with}
use Rattle.ur_check_rules.proofs.Trees.{binary-made, project-made, cut-made, fold-made, record-made, lambda-made}

and_true : (a : Bool) → (a && true) ≡ a
and_true true = refl
and_true false = refl

pub static-lambda : (ps : List Param) (a : Exp) → is_static (exp.Lambda ps a) ≡ true
static-lambda ps a = ap is_static (lambda-made ps a)

pub static-binary : (op : Binary) (a b : Exp) → is_static (exp.Binary op a b) ≡ (is_join op && (is_static a && is_static b))
static-binary op a b = ap is_static (binary-made op a b) ∙ ap (λ z. is_join op && z) (ap (λ z. z && (is_static b && true)) (and_true (is_static a)) ∙ ap (λ z. is_static a && z) (and_true (is_static b)))

pub static-project : (a : Exp) (l : Label) → is_static (exp.Project a l) ≡ is_static a
static-project a l = ap is_static (project-made a l) ∙ and_true (is_static a)

pub static-cut : (a : Exp) (l : Label) → is_static (exp.Cut a l) ≡ is_static a
static-cut a l = ap is_static (cut-made a l) ∙ and_true (is_static a)

pub static-fold : (of : NormalType) (acc : Param) (a b : Exp) (r : List Part) → is_static (exp.Fold of acc a b r) ≡ (is_arrow of && (is_static a && is_static b))
static-fold of acc a b r = ap is_static (fold-made of acc a b r) ∙ ap (λ z. is_arrow of && z) (ap (λ z. z && (is_static b && true)) (and_true (is_static a)) ∙ ap (λ z. is_static a && z) (and_true (is_static b)))

pub static-record : (fs : List FieldExp) → is_static (exp.Record fs) ≡ are_static (exps_with fs).1
static-record fs = ap is_static (record-made fs)

pub ruleset statics = (static-lambda, static-binary, static-project, static-cut, static-fold, static-record)

-- ---- tests one after the other

pub none-first : (p q r z b : Bool) → z ≡ (p && (q && r)) → b ≡ p → b ≡ false → false ≡ z
none-first p q r z b h i e = sym (h ∙ ap (λ a. a && (q && r)) (sym i ∙ e))

pub none-second : (p q r z b c : Bool) → z ≡ (p && (q && r)) → b ≡ p → b ≡ true → c ≡ q → c ≡ false → false ≡ z
none-second p q r z b c h i e j f = sym (h ∙ ap₂ (λ a d. a && (d && r)) (sym i ∙ e) (sym j ∙ f))

pub all-third : (p q r z b c d : Bool) → z ≡ (p && (q && r)) → b ≡ p → b ≡ true → c ≡ q → c ≡ true → d ≡ r → d ≡ z
all-third p q r z b c d h i e j f k = k ∙ sym (h ∙ ap₂ (λ a l. a && (l && r)) (sym i ∙ e) (sym j ∙ f))

-- ---- fields, one after the other

abbrev fields_static : List FieldExp → Bool
fields_static fs = are_static (exps_with fs).1

static-here : (fs : List FieldExp) (i : ℕ) (f : FieldExp) (b : Bool) → i < length fs → f ≡ get_or fs i f → b ≡ is_static (get_or fs i f).of → fields_static (drop i fs) ≡ (b && fields_static (drop (i + 1) fs))
static-here fs i f b h is q = left-here fields_static fs i f h is ∙ ap (λ z. z && fields_static (drop (i + 1) fs)) (ap (λ (z : FieldExp). is_static z.of) is ∙ sym q)

pub static-past : (fs : List FieldExp) (i : ℕ) (f : FieldExp) (b : Bool) → i < length fs → f ≡ get_or fs i f → b ≡ is_static (get_or fs i f).of → b ≡ true → fields_static (drop i fs) ≡ fields_static fs → fields_static (drop (i + 1) fs) ≡ fields_static fs
static-past fs i f b h is q t inv = ap (λ z. z && fields_static (drop (i + 1) fs)) (sym t) ∙ sym (static-here fs i f b h is q) ∙ inv

pub static-not : (fs : List FieldExp) (i : ℕ) (f : FieldExp) (b : Bool) → i < length fs → f ≡ get_or fs i f → b ≡ is_static (get_or fs i f).of → b ≡ false → fields_static (drop i fs) ≡ fields_static fs → false ≡ fields_static fs
static-not fs i f b h is q t inv = ap (λ z. z && fields_static (drop (i + 1) fs)) (sym t) ∙ sym (static-here fs i f b h is q) ∙ inv

pub static-end : (fs : List FieldExp) (i : ℕ) → length fs ≤ i → fields_static (drop i fs) ≡ fields_static fs → true ≡ fields_static fs
static-end fs i h inv = sym (left-end fields_static fs i h) ∙ inv
