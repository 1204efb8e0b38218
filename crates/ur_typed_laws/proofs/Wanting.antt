-- Of a resolved expression no type is found exactly where none is found of what is written.
use Rattle.std.proofs.lemmas.Slice.Eq.{bytes_eq-Decides}
use Rattle.std.proofs.lemmas.Bool.{cases_Bool}
use Rattle.std.proofs.Common.{inl, inr, ◌≡◌, ◌≢◌, refl, sym, ap₂, Bool, false, List, ℕ}
use Rattle.std.specs.Prelude.{◌&&◌, ◌||◌, bytes_eq, codes}
use mathlib.Core.Former.{Count}
use Rattle.ur_base.specs.Shape.{Shape, count}
use Rattle.ur_syntax.specs.declared.exp.Binary.{Binary as WrittenBinary}
use Rattle.ur_syntax.specs.declared.exp.ExpForm.{ExpForm, Row_of-Field, Row_of-Branch}
use Rattle.ur_rows.specs.declared.normal.Normal.{Normal}
use Rattle.ur_tree.specs.declared.exp.Exp.{Exp}
use Rattle.ur_tree.specs.declared.exp.Exp.TheBlock.{Row_of-Exp as Row_of-Resolved, Row_of-FieldExp, Row_of-Branch as Row_of-ResolvedBranch}
use Rattle.ur_tree.specs.declared.exp.Binary.{Binary}
use Rattle.ur_tree.specs.Heads.{Declared as Heads}
use Rattle.ur_tree.specs.IsStatic.{is_cons, wants_type, some_want_type, first_wants_type}
use Rattle.ur_typed_rules.specs.Lacking.{if_cons, lacks_type, some_lack_type, first_lacks_type}
use Rattle.ur_typed_rules.specs.Names.{Declared, Globals, Names}
use Rattle.ur_typed.specs.Resolves.{Statements, Resolves, ResolvesFields, fields_none, fields_one, ResolvesBranches, branches_none, branches_one, Spine, further, head, IsOperator, IsDeclared, IsConstructor, IsFunction}
use Rattle.ur_typed.specs.Resolves as resolves

operator_wants : (w : WrittenBinary) (o : Binary) (a c : Bool) → IsOperator w o → a ≡ c → (is_cons o && a) ≡ if_cons w c
operator_wants _ _ a c resolves.cons h = h
operator_wants _ _ a c resolves.or h = refl
operator_wants _ _ a c resolves.and h = refl
operator_wants _ _ a c resolves.equal h = refl
operator_wants _ _ a c resolves.unequal h = refl
operator_wants _ _ a c resolves.less h = refl
operator_wants _ _ a c resolves.less_equal h = refl
operator_wants _ _ a c resolves.greater h = refl
operator_wants _ _ a c resolves.greater_equal h = refl
operator_wants _ _ a c resolves.append h = refl
operator_wants _ _ a c resolves.join h = refl
operator_wants _ _ a c resolves.add h = refl
operator_wants _ _ a c resolves.sub h = refl
operator_wants _ _ a c resolves.mul h = refl
operator_wants _ _ a c resolves.div h = refl
operator_wants _ _ a c resolves.rem h = refl

declared_lacks : (g : Globals) (names : Names) (x : ExpForm) (d : Declared) → IsDeclared g names x d → false ≡ lacks_type x
declared_lacks g names _ d (resolves.IsDeclared.bare l r) = refl
declared_lacks g names _ d (resolves.IsDeclared.member r) = refl

function_lacks : (most : ℕ) (g : Globals) (names : Names) (x : ExpForm) (f : ℕ) (args : List Normal) → IsFunction most g names x f args → false ≡ lacks_type x
function_lacks most g names x f _ (resolves.IsFunction.name r) = declared_lacks g names x _ r
function_lacks most g names _ f _ (resolves.IsFunction.applied r i) = refl

other_word : (x y : List ℕ) → x ≢ y → false ≡ bytes_eq x y
other_word x y h = elim (cases_Bool (bytes_eq x y)) [ inl i ↦ absurd (h ((bytes_eq-Decides x y).0 i)) | inr i ↦ sym i ]

constructor_lacks : (g : Globals) (x : ExpForm) (n : ℕ) → IsConstructor g x n → false ≡ lacks_type x
constructor_lacks g _ n (resolves.IsConstructor.bare {x = x} t f o d) = other_word x (codes "None") o
constructor_lacks g _ n (resolves.IsConstructor.member d) = refl

spine_wants : (d : Statements) (most : ℕ) (g : Globals) (hs : Heads) (names : Names) (x : ExpForm) (s : Shape) (row : Row_of-Resolved (count s)) (t : Exp) → Spine d most g hs names x s row t → wants_type t ≡ false
spine_wants d most g hs names _ s row t (further {x = x} ra sp) = spine_wants d most g hs names x _ _ t sp
spine_wants d most g hs names _ s row _ (head i r) = refl

mutual
  pub wants_is : (d : Statements) (most : ℕ) (g : Globals) (hs : Heads) (names : Names) (x : ExpForm) (b : Exp) → Resolves d most g hs names x b → wants_type b ≡ lacks_type x
  wants_is d most g hs names _ _ resolves.int = refl
  wants_is d most g hs names _ _ resolves.string = refl
  wants_is d most g hs names _ _ resolves.true_ = refl
  wants_is d most g hs names _ _ resolves.false_ = refl
  wants_is d most g hs names _ _ resolves.unit_value = refl
  wants_is d most g hs names _ _ resolves.absent = refl
  wants_is d most g hs names _ _ resolves.empty = refl
  wants_is d most g hs names _ _ (resolves.error r) = refl
  wants_is d most g hs names _ _ (resolves.variable l) = refl
  wants_is d most g hs names _ _ (resolves.parameter l) = refl
  wants_is d most g hs names x _ (resolves.val {v = v} r) = declared_lacks g names x _ r
  wants_is d most g hs names x _ (resolves.function r) = function_lacks most g names x _ _ r
  wants_is d most g hs names _ t (resolves.application {x = x} r sp) = spine_wants d most g hs names x _ _ t sp
  wants_is d most g hs names x _ (resolves.constructor r) = constructor_lacks g x _ r
  wants_is d most g hs names _ _ (resolves.constructor_of r a) = refl
  wants_is d most g hs names _ _ (resolves.lambda {x = x} {b = b} ps ds r) = wants_is d most g hs _ x b r
  wants_is d most g hs names _ _ (resolves.record_literal {fields = fields} {out = out} r) = fields_want d most g hs names _ fields _ out r
  wants_is d most g hs names _ _ (resolves.project r l) = refl
  wants_is d most g hs names _ _ (resolves.cut r l) = refl
  wants_is d most g hs names _ _ (resolves.negative r) = refl
  wants_is d most g hs names _ _ (resolves.negation r) = refl
  wants_is d most g hs names _ _ (resolves.show r) = refl
  wants_is d most g hs names _ _ (resolves.some {x = x} {b = b} r) = wants_is d most g hs names x b r
  wants_is d most g hs names _ _ (resolves.return_ {x = x} {b = b} r) = wants_is d most g hs names x b r
  wants_is d most g hs names _ _ (resolves.operator {w = w} {o = o} {x = x} {a = a} i r t) = operator_wants w o (wants_type a) (lacks_type x) i (wants_is d most g hs names x a r)
  wants_is d most g hs names _ _ (resolves.choice {y = y} {b = b} c r t) = wants_is d most g hs names y b r
  wants_is d most g hs names _ _ (resolves.cases {branches = branches} {out = out} r bs) = branches_want d most g hs names _ branches _ out bs
  wants_is d most g hs names _ _ (resolves.local_last {z = z} {b = b} i r t) = wants_is d most g hs _ z b t
  wants_is d most g hs names _ _ (resolves.local_more {b = b} i r t) = wants_is d most g hs _ _ b t
  wants_is d most g hs names _ _ (resolves.bind {z = z} {b = b} r t) = wants_is d most g hs _ z b t
  wants_is d most g hs names _ _ (resolves.sequence {z = z} {b = b} r t) = wants_is d most g hs _ z b t
  wants_is d most g hs names _ _ (resolves.nextval r) = refl
  wants_is d most g hs names _ _ (resolves.get_cookie r) = refl
  wants_is d most g hs names _ _ (resolves.set_cookie r i t) = refl
  wants_is d most g hs names _ _ (resolves.dml r i t) = refl
  wants_is d most g hs names _ _ (resolves.query a r i t) = refl
  wants_is d most g hs names _ _ (resolves.query_each {y = y} {b = b} r i t u) = wants_is d most g hs _ y b u
  wants_is d most g hs names _ _ (resolves.query_each_typed q {y = y} {b = b} r i k c t u) = wants_is d most g hs _ y b u
  wants_is d most g hs names _ _ (resolves.fold f r n l o p s t) = refl
  wants_is d most g hs names _ _ (resolves.xml s r) = refl

  fields_want : (d : Statements) (most : ℕ) (g : Globals) (hs : Heads) (names : Names) (n : Count) (fs : Row_of-Field n) (m : Count) (out : Row_of-FieldExp m) → ResolvesFields d most g hs names n fs m out → some_want_type out ≡ some_lack_type fs
  fields_want d most g hs names _ _ _ _ fields_none = refl
  fields_want d most g hs names _ _ _ _ (fields_one {x = x} {b = b} {rest = rest} {out = out} l r t) = ap₂ (λ a c. a || c) (wants_is d most g hs names x b r) (fields_want d most g hs names _ rest _ out t)

  branches_want : (d : Statements) (most : ℕ) (g : Globals) (hs : Heads) (names : Names) (n : Count) (bs : Row_of-Branch n) (m : Count) (out : Row_of-ResolvedBranch m) → ResolvesBranches d most g hs names n bs m out → first_wants_type out ≡ first_lacks_type bs
  branches_want d most g hs names _ _ _ _ branches_none = refl
  branches_want d most g hs names _ _ _ _ (branches_one {x = x} {b = b} p ds r t) = wants_is d most g hs _ x b r
