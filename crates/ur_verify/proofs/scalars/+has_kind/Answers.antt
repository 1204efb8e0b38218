-- What the kinds of the parts say of that of the whole.
use Rattle.std.proofs.Common.{◌≡◌, ◌∙◌, sym, subst}
use Rattle.ur_sql.specs.declared.scalar.Scalar.{Scalar}
use Rattle.ur_values.specs.declared.schema.ColumnKind.TheVariants as kind
use Rattle.ur_sql.specs.Typing.{HasKind}
use Rattle.ur_verify.specs.Scope.{scope}
use Rattle.ur_verify.proofs.HavingKinds.{kind_Or, kind_And, kind_Add, kind_Sub, kind_Mul, kind_Not, kind_Neg, kind_of_Compare, compare_none, compare_parts, compare_made, null_kind, present_none, present_some}
use Rattle.ur_verify.proofs.Loops.{kind_apart, kind_then, kind_else, one_apart, kind_one, not_so, never, fails}
use Rattle.ur_verify.proofs.scalars.+has_kind.Goals as goal

pub returns-then-not-same_kind : goal.returns-then-not-same_kind
returns-then-not-same_kind t c =
    kind_apart (λ z. HasKind (scope c.args.params.now c.args.items.now) z c.args.kind) (λ z. HasKind (scope c.args.params.now c.args.items.now) z kind.Bool) (c.args.kind ≡ kind.Bool)
    _ _ c.in-Or.a c.in-Or.b c.in-Or.is (kind_Or (scope c.args.params.now c.args.items.now) c.in-Or.a c.in-Or.b c.args.kind) _ c.same_kind.ensures c.if-not-same_kind.true

pub returns-then-has_kind : goal.returns-then-has_kind
returns-then-has_kind t c =
    kind_then (λ z. HasKind (scope c.args.params.now c.args.items.now) z c.args.kind) (λ z. HasKind (scope c.args.params.now c.args.items.now) z kind.Bool) (c.args.kind ≡ kind.Bool)
    _ _ _ _ _ _ c.in-Or.is (kind_Or (scope c.args.params.now c.args.items.now) c.in-Or.a c.in-Or.b c.args.kind) c.get.ensures c.get-then-has_kind.ensures _ _ _
    c.same_kind.ensures c.if-not-same_kind.false c.has_kind.ensures c.if-has_kind.true c.has_kind-then-has_kind.ensures

pub returns-else-has_kind : goal.returns-else-has_kind
returns-else-has_kind t c =
    kind_else (λ z. HasKind (scope c.args.params.now c.args.items.now) z c.args.kind) (λ z. HasKind (scope c.args.params.now c.args.items.now) z kind.Bool) (c.args.kind ≡ kind.Bool)
    _ _ _ c.in-Or.b _ c.in-Or.is (kind_Or (scope c.args.params.now c.args.items.now) c.in-Or.a c.in-Or.b c.args.kind) c.get.ensures _ c.has_kind.ensures c.if-has_kind.false

pub returns-then-not-same_kind-2 : goal.returns-then-not-same_kind-2
returns-then-not-same_kind-2 t c =
    kind_apart (λ z. HasKind (scope c.args.params.now c.args.items.now) z c.args.kind) (λ z. HasKind (scope c.args.params.now c.args.items.now) z kind.Bool) (c.args.kind ≡ kind.Bool)
    _ _ c.in-And.a c.in-And.b c.in-And.is (kind_And (scope c.args.params.now c.args.items.now) c.in-And.a c.in-And.b c.args.kind) _ c.same_kind-in-And.ensures c.if-not-same_kind-2.true

pub returns-then-has_kind-2 : goal.returns-then-has_kind-2
returns-then-has_kind-2 t c =
    kind_then (λ z. HasKind (scope c.args.params.now c.args.items.now) z c.args.kind) (λ z. HasKind (scope c.args.params.now c.args.items.now) z kind.Bool) (c.args.kind ≡ kind.Bool)
    _ _ _ _ _ _ c.in-And.is (kind_And (scope c.args.params.now c.args.items.now) c.in-And.a c.in-And.b c.args.kind) c.get-in-And.ensures c.get-then-has_kind-2.ensures _ _ _
    c.same_kind-in-And.ensures c.if-not-same_kind-2.false c.has_kind-in-And.ensures c.if-has_kind-2.true c.has_kind-then-has_kind-2.ensures

pub returns-else-has_kind-2 : goal.returns-else-has_kind-2
returns-else-has_kind-2 t c =
    kind_else (λ z. HasKind (scope c.args.params.now c.args.items.now) z c.args.kind) (λ z. HasKind (scope c.args.params.now c.args.items.now) z kind.Bool) (c.args.kind ≡ kind.Bool)
    _ _ _ c.in-And.b _ c.in-And.is (kind_And (scope c.args.params.now c.args.items.now) c.in-And.a c.in-And.b c.args.kind) c.get-in-And.ensures _ c.has_kind-in-And.ensures c.if-has_kind-2.false

pub returns-then-not-same_kind-5 : goal.returns-then-not-same_kind-5
returns-then-not-same_kind-5 t c =
    kind_apart (λ z. HasKind (scope c.args.params.now c.args.items.now) z c.args.kind) (λ z. HasKind (scope c.args.params.now c.args.items.now) z kind.Int) (c.args.kind ≡ kind.Int)
    _ _ c.in-Add.a c.in-Add.b c.in-Add.is (kind_Add (scope c.args.params.now c.args.items.now) c.in-Add.a c.in-Add.b c.args.kind) _ c.same_kind-in-Add.ensures c.if-not-same_kind-5.true

pub returns-then-has_kind-4 : goal.returns-then-has_kind-4
returns-then-has_kind-4 t c =
    kind_then (λ z. HasKind (scope c.args.params.now c.args.items.now) z c.args.kind) (λ z. HasKind (scope c.args.params.now c.args.items.now) z kind.Int) (c.args.kind ≡ kind.Int)
    _ _ _ _ _ _ c.in-Add.is (kind_Add (scope c.args.params.now c.args.items.now) c.in-Add.a c.in-Add.b c.args.kind) c.get-in-Add.ensures c.get-then-has_kind-4.ensures _ _ _
    c.same_kind-in-Add.ensures c.if-not-same_kind-5.false c.has_kind-in-Add.ensures c.if-has_kind-4.true c.has_kind-then-has_kind-4.ensures

pub returns-else-has_kind-4 : goal.returns-else-has_kind-4
returns-else-has_kind-4 t c =
    kind_else (λ z. HasKind (scope c.args.params.now c.args.items.now) z c.args.kind) (λ z. HasKind (scope c.args.params.now c.args.items.now) z kind.Int) (c.args.kind ≡ kind.Int)
    _ _ _ c.in-Add.b _ c.in-Add.is (kind_Add (scope c.args.params.now c.args.items.now) c.in-Add.a c.in-Add.b c.args.kind) c.get-in-Add.ensures _ c.has_kind-in-Add.ensures c.if-has_kind-4.false

pub returns-then-not-same_kind-6 : goal.returns-then-not-same_kind-6
returns-then-not-same_kind-6 t c =
    kind_apart (λ z. HasKind (scope c.args.params.now c.args.items.now) z c.args.kind) (λ z. HasKind (scope c.args.params.now c.args.items.now) z kind.Int) (c.args.kind ≡ kind.Int)
    _ _ c.in-Sub.a c.in-Sub.b c.in-Sub.is (kind_Sub (scope c.args.params.now c.args.items.now) c.in-Sub.a c.in-Sub.b c.args.kind) _ c.same_kind-in-Sub.ensures c.if-not-same_kind-6.true

pub returns-then-has_kind-5 : goal.returns-then-has_kind-5
returns-then-has_kind-5 t c =
    kind_then (λ z. HasKind (scope c.args.params.now c.args.items.now) z c.args.kind) (λ z. HasKind (scope c.args.params.now c.args.items.now) z kind.Int) (c.args.kind ≡ kind.Int)
    _ _ _ _ _ _ c.in-Sub.is (kind_Sub (scope c.args.params.now c.args.items.now) c.in-Sub.a c.in-Sub.b c.args.kind) c.get-in-Sub.ensures c.get-then-has_kind-5.ensures _ _ _
    c.same_kind-in-Sub.ensures c.if-not-same_kind-6.false c.has_kind-in-Sub.ensures c.if-has_kind-5.true c.has_kind-then-has_kind-5.ensures

pub returns-else-has_kind-5 : goal.returns-else-has_kind-5
returns-else-has_kind-5 t c =
    kind_else (λ z. HasKind (scope c.args.params.now c.args.items.now) z c.args.kind) (λ z. HasKind (scope c.args.params.now c.args.items.now) z kind.Int) (c.args.kind ≡ kind.Int)
    _ _ _ c.in-Sub.b _ c.in-Sub.is (kind_Sub (scope c.args.params.now c.args.items.now) c.in-Sub.a c.in-Sub.b c.args.kind) c.get-in-Sub.ensures _ c.has_kind-in-Sub.ensures c.if-has_kind-5.false

pub returns-then-not-same_kind-7 : goal.returns-then-not-same_kind-7
returns-then-not-same_kind-7 t c =
    kind_apart (λ z. HasKind (scope c.args.params.now c.args.items.now) z c.args.kind) (λ z. HasKind (scope c.args.params.now c.args.items.now) z kind.Int) (c.args.kind ≡ kind.Int)
    _ _ c.in-Mul.a c.in-Mul.b c.in-Mul.is (kind_Mul (scope c.args.params.now c.args.items.now) c.in-Mul.a c.in-Mul.b c.args.kind) _ c.same_kind-in-Mul.ensures c.if-not-same_kind-7.true

pub returns-then-has_kind-6 : goal.returns-then-has_kind-6
returns-then-has_kind-6 t c =
    kind_then (λ z. HasKind (scope c.args.params.now c.args.items.now) z c.args.kind) (λ z. HasKind (scope c.args.params.now c.args.items.now) z kind.Int) (c.args.kind ≡ kind.Int)
    _ _ _ _ _ _ c.in-Mul.is (kind_Mul (scope c.args.params.now c.args.items.now) c.in-Mul.a c.in-Mul.b c.args.kind) c.get-in-Mul.ensures c.get-then-has_kind-6.ensures _ _ _
    c.same_kind-in-Mul.ensures c.if-not-same_kind-7.false c.has_kind-in-Mul.ensures c.if-has_kind-6.true c.has_kind-then-has_kind-6.ensures

pub returns-else-has_kind-6 : goal.returns-else-has_kind-6
returns-else-has_kind-6 t c =
    kind_else (λ z. HasKind (scope c.args.params.now c.args.items.now) z c.args.kind) (λ z. HasKind (scope c.args.params.now c.args.items.now) z kind.Int) (c.args.kind ≡ kind.Int)
    _ _ _ c.in-Mul.b _ c.in-Mul.is (kind_Mul (scope c.args.params.now c.args.items.now) c.in-Mul.a c.in-Mul.b c.args.kind) c.get-in-Mul.ensures _ c.has_kind-in-Mul.ensures c.if-has_kind-6.false

pub returns-then-not-same_kind-3 : goal.returns-then-not-same_kind-3
returns-then-not-same_kind-3 t c = one_apart (λ z. HasKind (scope c.args.params.now c.args.items.now) z c.args.kind) (λ z. HasKind (scope c.args.params.now c.args.items.now) z kind.Bool) (c.args.kind ≡ kind.Bool) _ _ c.in-Not.a c.in-Not.is (kind_Not (scope c.args.params.now c.args.items.now) c.in-Not.a c.args.kind) _ c.same_kind-in-Not.ensures c.if-not-same_kind-3.true

pub returns-else-not-same_kind-3 : goal.returns-else-not-same_kind-3
returns-else-not-same_kind-3 t c =
    kind_one (λ z. HasKind (scope c.args.params.now c.args.items.now) z c.args.kind) (λ z. HasKind (scope c.args.params.now c.args.items.now) z kind.Bool) (c.args.kind ≡ kind.Bool)
    _ _ _ _ c.in-Not.is (kind_Not (scope c.args.params.now c.args.items.now) c.in-Not.a c.args.kind) c.get-in-Not.ensures _ _ c.same_kind-in-Not.ensures c.if-not-same_kind-3.false c.has_kind-in-Not.ensures

pub returns-then-not-same_kind-8 : goal.returns-then-not-same_kind-8
returns-then-not-same_kind-8 t c = one_apart (λ z. HasKind (scope c.args.params.now c.args.items.now) z c.args.kind) (λ z. HasKind (scope c.args.params.now c.args.items.now) z kind.Int) (c.args.kind ≡ kind.Int) _ _ c.in-Neg.a c.in-Neg.is (kind_Neg (scope c.args.params.now c.args.items.now) c.in-Neg.a c.args.kind) _ c.same_kind-in-Neg.ensures c.if-not-same_kind-8.true

pub returns-else-not-same_kind-8 : goal.returns-else-not-same_kind-8
returns-else-not-same_kind-8 t c =
    kind_one (λ z. HasKind (scope c.args.params.now c.args.items.now) z c.args.kind) (λ z. HasKind (scope c.args.params.now c.args.items.now) z kind.Int) (c.args.kind ≡ kind.Int)
    _ _ _ _ c.in-Neg.is (kind_Neg (scope c.args.params.now c.args.items.now) c.in-Neg.a c.args.kind) c.get-in-Neg.ensures _ _ c.same_kind-in-Neg.ensures c.if-not-same_kind-8.false c.has_kind-in-Neg.ensures

pub returns-then-not-same_kind-4 : goal.returns-then-not-same_kind-4
returns-then-not-same_kind-4 t c =
    never (λ q. not_so _ c.same_kind-in-Compare.ensures c.if-not-same_kind-4.true
    (kind_of_Compare (scope c.args.params.now c.args.items.now) c.args.by.now c.in-Compare.comparison c.in-Compare.a c.in-Compare.b c.args.kind c.in-Compare.is q))

pub returns-then-not-compares : goal.returns-then-not-compares
returns-then-not-compares t c =
    never (λ q. not_so _ c.compares.ensures c.if-not-compares.true
    (compare_parts (scope c.args.params.now c.args.items.now) c.args.by.now c.in-Compare.comparison c.in-Compare.a c.in-Compare.b c.get-in-Compare.result.now c.args.kind c.in-Some.of
    c.in-Compare.is c.get-in-Compare.ensures (sym c.head_kind.ensures ∙ c.in-Some.is) q).3)

pub returns-in-None : goal.returns-in-None
returns-in-None t c =
    never (λ q. compare_none (scope c.args.params.now c.args.items.now) c.args.by.now c.in-Compare.comparison c.in-Compare.a c.in-Compare.b c.get-in-Compare.result.now c.args.kind
    c.in-Compare.is c.get-in-Compare.ensures (sym c.head_kind.ensures ∙ c.in-None.is) q)

pub returns-then-has_kind-3 : goal.returns-then-has_kind-3
returns-then-has_kind-3 t c =
    let has = λ (z : Scalar). HasKind (scope c.args.params.now c.args.items.now) z c.in-Some.of in (
      (λ q. compare_made (scope c.args.params.now c.args.items.now) c.args.by.now c.in-Compare.comparison c.in-Compare.a c.in-Compare.b c.args.kind c.in-Some.of c.in-Compare.is
          (c.same_kind-in-Compare.ensures.0 c.if-not-same_kind-4.false) (subst has c.get-in-Some.ensures (c.has_kind-in-Some.ensures.0 c.if-has_kind-3.true))
          (subst has c.get-then-has_kind-3.ensures (c.has_kind-then-has_kind-3.ensures.0 q)) (c.compares.ensures.0 c.if-not-compares.false)),
      (λ q. c.has_kind-then-has_kind-3.ensures.1 (subst has (sym c.get-then-has_kind-3.ensures)
          (compare_parts (scope c.args.params.now c.args.items.now) c.args.by.now c.in-Compare.comparison c.in-Compare.a c.in-Compare.b c.get-in-Compare.result.now c.args.kind c.in-Some.of
          c.in-Compare.is c.get-in-Compare.ensures (sym c.head_kind.ensures ∙ c.in-Some.is) q).2)),
    )

pub returns-else-has_kind-3 : goal.returns-else-has_kind-3
returns-else-has_kind-3 t c =
    fails _ c.if-has_kind-3.false (λ q. not_so _ c.has_kind-in-Some.ensures c.if-has_kind-3.false
    (subst (λ (z : Scalar). HasKind (scope c.args.params.now c.args.items.now) z c.in-Some.of) (sym c.get-in-Some.ensures)
    (compare_parts (scope c.args.params.now c.args.items.now) c.args.by.now c.in-Compare.comparison c.in-Compare.a c.in-Compare.b c.get-in-Compare.result.now c.args.kind c.in-Some.of
    c.in-Compare.is c.get-in-Compare.ensures (sym c.head_kind.ensures ∙ c.in-Some.is) q).1))

pub returns-in-Null : goal.returns-in-Null
returns-in-Null t c = null_kind (scope c.args.params.now c.args.items.now) c.args.by.now c.in-Null.of c.args.kind c.in-Null.is _ c.is_null_kind.ensures

pub returns-in-None-inside : goal.returns-in-None-inside
returns-in-None-inside t c =
    never (λ q. present_none (scope c.args.params.now c.args.items.now) c.args.by.now c.in-Present.a c.args.kind c.in-Present.is
    (sym c.inside.ensures ∙ c.in-None-inside.is) q)

pub returns-in-Some-inside : goal.returns-in-Some-inside
returns-in-Some-inside t c =
    present_some (scope c.args.params.now c.args.items.now) c.args.by.now c.in-Present.a c.get-in-Some-inside.result.now c.args.kind c.in-Some-inside.of
    c.in-Present.is c.get-in-Some-inside.ensures (sym c.inside.ensures ∙ c.in-Some-inside.is) _ c.has_kind-in-Some-inside.ensures
