-- What expressions without parts stand for, and where they stand for nothing.
use Rattle.std.proofs.lemmas.Bool.Decides.{nat_tests}
use Rattle.std.proofs.Common.{arith, ◌≡◌, ◌∙◌, sym, ap, subst, true, false, ℕ, List, Option, Some, None}
use Rattle.std.specs.Fmt.{decimal}
use Rattle.std.specs.Prelude.{◌≤◌, ◌<◌, ◌^◌, pos, nat_lt, if◌then◌else◌, codes, option_map, slice_get}
use Rattle.std.specs.Str.{is_utf8}
use Rattle.ur_base.specs.declared.refusal.Refusal.{Refusal}
use Rattle.ur_syntax.specs.Names.{name_text}
use Rattle.ur_syntax.specs.declared.sql.SqlForm.TheVariants as form
use Rattle.ur_tree.specs.FieldNames.{capital}
use Rattle.ur_values.specs.declared.schema.ColumnKind.{ColumnKind}
use Rattle.ur_values.specs.declared.schema.ColumnKind.TheVariants as kind
use Rattle.ur_values.specs.declared.value.Value.TheVariants as value
use Rattle.ur_sql.specs.declared.scalar.Scalar.{Scalar}
use Rattle.ur_sql.specs.declared.scalar.Scalar.TheVariants as scalar
use Rattle.ur_sqltype.specs.declared.scope.Within.{Within}
use Rattle.ur_sqltype.specs.Scope.{column_of, column_from}
use Rattle.ur_sqltype.specs.Expression.{Kinded, kinded, column_scalar, bare_scalar}
use Rattle.ur_sqltype.specs.Faults.{TellsSql, unknown, misfit, six_kinds, no_column, no_bare, no_antiquote, too_great, no_text, HasFault}
use Rattle.ur_sqltype.proofs.Steps.{fault-here}

pub bare-kinded : (w : Within) (a : List ℕ) (at : ℕ) (k : ColumnKind) (x : Scalar) → column_of a w.bare ≡ Some (at, k) → x ≡ scalar.Column 0 at → kinded w (form.Column a) ≡ Some (x, k)
unfolding kinded
bare-kinded w a at k x h e = ap (λ o. option_map bare_scalar o) h ∙ ap (λ z. Some (z, k)) (sym e)

pub bare-fault : (w : Within) (a s : List ℕ) (r : Refusal) → column_of a w.bare ≡ None → s ≡ a → TellsSql r (unknown s) → HasFault w (form.Column a) r
bare-fault w a s r h e t = fault-here {f = unknown a} (no_bare h) (subst (λ z. TellsSql r (unknown z)) e t)

pub qualified-kinded : (w : Within) (q a alias : List ℕ) (i at : ℕ) (k : ColumnKind) (x : Scalar) → alias ≡ capital q → column_from alias a 0 w.sources ≡ Some (i, (at, k)) → x ≡ scalar.Column i at → kinded w (form.Qualified q a) ≡ Some (x, k)
unfolding kinded
qualified-kinded w q a alias i at k x e h f = ap (λ o. option_map column_scalar o) (ap (λ z. column_from z a 0 w.sources) (sym e) ∙ h) ∙ ap (λ z. Some (z, k)) (sym f)

pub qualified-fault : (w : Within) (q a alias s text : List ℕ) (r : Refusal) → alias ≡ capital q → column_from alias a 0 w.sources ≡ None → s ≡ text → text ≡ name_text (Some q) a → TellsSql r (unknown s) → HasFault w (form.Qualified q a) r
qualified-fault w q a alias s text r e h f g t = fault-here {f = unknown (name_text (Some q) a)} (no_column (ap (λ z. column_from z a 0 w.sources) (sym e) ∙ h)) (subst (λ z. TellsSql r (unknown z)) (f ∙ g) t)

pub antiquote-kinded : (w : Within) (n : ℕ) (k : ColumnKind) (x : Scalar) → slice_get w.antiquotes n ≡ Some k → x ≡ scalar.Param n → kinded w (form.Anti n) ≡ Some (x, k)
unfolding kinded
antiquote-kinded w n k x h e = ap (λ o. option_map (λ j. (scalar.Param n, j)) o) h ∙ ap (λ z. Some (z, k)) (sym e)

pub antiquote-fault : (w : Within) (n : ℕ) (r : Refusal) → slice_get w.antiquotes n ≡ None → TellsSql r (misfit (codes "no antiquote") six_kinds) →
    HasFault w (form.Anti n) r
antiquote-fault w n r h t = fault-here {f = misfit (codes "no antiquote") six_kinds} (no_antiquote h) t

within_limit : (n : ℕ) → n < 2 ^ 63 → nat_lt n (2 ^ 63) ≡ true
within_limit n l = grind (arith, nat_tests, l)

pub int-kinded : (w : Within) (n : ℕ) (x : Scalar) → n < 2 ^ 63 → x ≡ scalar.Constant (value.Int (pos n)) → kinded w (form.Int n) ≡ Some (x, kind.Int)
unfolding kinded
int-kinded w n x l e = let made : Option Kinded = Some (scalar.Constant (value.Int (pos n)), kind.Int) in ap (λ z. if z then made else None) (within_limit n l) ∙ ap (λ z. Some (z, kind.Int)) (sym e)

pub int-fault : (w : Within) (n : ℕ) (s text : List ℕ) (r : Refusal) → 2 ^ 63 ≤ n → s ≡ text → text ≡ decimal n → TellsSql r (misfit s (codes "int")) → HasFault w (form.Int n) r
int-fault w n s text r l e f t = fault-here {f = misfit (decimal n) (codes "int")} (too_great l) (subst (λ z. TellsSql r (misfit z (codes "int"))) (e ∙ f) t)

pub string-kinded : (w : Within) (s copy : List ℕ) (x : Scalar) → is_utf8 s ≡ true → copy ≡ s → x ≡ scalar.Constant (value.Str copy) → kinded w (form.Str s) ≡ Some (x, kind.Str)
unfolding kinded
string-kinded w s copy x u c e = let made : Option Kinded = Some (scalar.Constant (value.Str s), kind.Str) in ap (λ z. if z then made else None) u ∙ ap (λ z. Some (z, kind.Str)) (sym (e ∙ ap (λ z. scalar.Constant (value.Str z)) c))

pub string-fault : (w : Within) (s : List ℕ) (r : Refusal) → is_utf8 s ≡ false → TellsSql r (misfit (codes "bytes") (codes "string")) → HasFault w (form.Str s) r
string-fault w s r u t = fault-here {f = misfit (codes "bytes") (codes "string")} (no_text u) t
