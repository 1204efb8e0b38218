-- What misfits say.
use Rattle.std.proofs.Common.{◌≡◌, List, [], ◌∷◌, ◌++◌, Some, Result, Ok, Err, sym, ap, ◌∙◌, subst}
use Rattle.std.proofs.lemmas.List.{append_assoc}
use Rattle.std.specs.Result.{IsErrAnd}
use Rattle.ur_values.specs.declared.types.ValueType.{ValueType}
use Rattle.ur_values.specs.declared.types.TypeField.{TypeField}
use Rattle.ur_values.specs.Texts.{Names}
use Rattle.ur_terms.specs.Types.{IsPlainXml}
use Rattle.ur_verify_operations.specs.declared.misfit.Untyped.{Untyped}
use Rattle.ur_verify_operations.specs.declared.misfit.Untyped.TheVariants as untyped
use Rattle.ur_verify_operations.specs.Answering.{Tells, Says}
use Rattle.ur_verify_operations.specs.Fields.{flow_before, add_part, add_part_to}
use Rattle.ur_verify_operations.specs.Saying.{TwoTexts}
use Rattle.ur_verify_operations.specs.Misfits.{UnlikePart, UnlikeFlow, at_part, UnlikeAll, UnlikeParts, not_all}
use Rattle.ur_verify_operations.proofs.Flows.{flow_to}

pub told_by : {M N : TwoTexts → Type 0} (e : Untyped) → ((said : TwoTexts) → N said → M said) → Tells N e → Tells M e
told_by (untyped.Misfit m) f h = f (m.left, m.right) h
told_by untyped.Memory f h = tt

-- behind a `?`
pub told_exit : {B : Type 0} {M N : TwoTexts → Type 0} (r : Result B Untyped) (e : Untyped) → IsErrAnd r (λ y. y ≡ e) → ((said : TwoTexts) → N said → M said) → Tells N e → Says M r
told_exit (Ok b) e i f h = absurd i
told_exit {M = M} {N = N} (Err y) e i f h = told_by {M = M} {N = N} y f (subst (Tells N) (sym i) h)

pub says_by : {A : Type 0} {M N : TwoTexts → Type 0} (o : Result A Untyped) → ((said : TwoTexts) → N said → M said) → Says N o → Says M o
says_by (Ok a) f h = tt
says_by {M = M} {N = N} (Err e) f h = told_by {M = M} {N = N} e f h

-- ---- parts of bodies and forms

-- the parts behind those that are left make up a form with these fields
abbrev pub Behind : List ValueType → List ValueType → List TypeField → Type 0
Behind ts left fields = (behind : List ValueType) × (ts ≡ left ++ behind) × (flow_before behind [] ≡ Some fields)

one_more : (ts left rest behind : List ValueType) (part : ValueType) → left ≡ rest ++ part ∷ [] → ts ≡ left ++ behind → ts ≡ rest ++ part ∷ behind
one_more ts left rest behind part e is = is ∙ ap (λ xs. xs ++ behind) e ∙ append_assoc rest (part ∷ []) behind

pub more_behind : (ts left rest : List ValueType) (part : ValueType) (fields new : List TypeField) → left ≡ rest ++ part ∷ [] → add_part part fields ≡ Some new → Behind ts left fields → Behind ts rest new
more_behind ts left rest part fields new e h (behind, is, known) = (part ∷ behind, one_more ts left rest behind part e is, ap (add_part_to part) known ∙ h)

pub flow_told : (names : Names) (ts left rest : List ValueType) (part : ValueType) (fields : List TypeField) (said : TwoTexts) → left ≡ rest ++ part ∷ [] → Behind ts left fields
    → UnlikePart names part fields said → UnlikeFlow names ts said
flow_told names ts left rest part fields said e (behind, is, known) h = at_part rest part behind fields (one_more ts left rest behind part e is) (flow_to behind fields known) h

-- ---- elements

pub plain_told : {B : Type 0} (names : Names) (of b : ValueType) (ts : List ValueType) (r : Result B Untyped) → of ≡ b → IsPlainXml b → Says (UnlikeAll names of ts) r → Says (UnlikeParts names of ts) r
plain_told names of b ts r e plain = says_by {M = UnlikeParts names of ts} {N = UnlikeAll names of ts} r (λ said k. not_all (subst IsPlainXml (sym e) plain) k)
