-- The four laws.
use Rattle.std.proofs.Common.{◌≡◌, refl, ap, ap₂, sym, ◌∙◌, subst, ℕ, suc, ◌+◌, ◌-◌, arith, Bool, true, false, List, [], ◌∷◌, map, Option, Some, None, codes, bytes_eq, if◌then◌else◌}
use Rattle.std.proofs.lemmas.Slice.Eq.{bytes_eq-Decides}
use Rattle.ur_syntax.specs.declared.kind.Kind.TheVariants as kind
use Rattle.ur_base.specs.declared.refusal.Span.{Span}
use Rattle.ur_syntax.specs.declared.con.ConForm.{ConForm}
use Rattle.ur_syntax.specs.declared.con.ConForm.TheVariants as con
use Rattle.ur_syntax.specs.declared.con.ConName.{ConName}
use Rattle.ur_syntax.specs.declared.con.ConEnv.{ConEnv}
use Rattle.ur_syntax.specs.Names.{own, looked_up, or_own}
use Rattle.ur_syntax.specs.Forms.{fn_con, concat_con, map_con}
use Rattle.ur_rows.specs.declared.normal.Var.TheVariants as var
use Rattle.ur_rows.specs.declared.normal.NormalType.{NormalType}
use Rattle.ur_rows.specs.declared.normal.NormalType.TheVariants as ty
use Rattle.ur_rows.specs.declared.normal.Normal.{Normal}
use Rattle.ur_rows.specs.declared.normal.Normal.TheVariants as normal
use Rattle.ur_rows.specs.IsNormal.{is_row, is_normal, is_normal_type, is_normal_row, all_normal_parts}
use Rattle.ur_rows.specs.Order.{joined}
use Rattle.ur_rows.specs.Put.{as_row, as_type, applied_type, composed, mapped_row}
use Rattle.ur_rows.specs.Normal.{Known, or_raised, known_as, known_in, within, as_function, map_of, name_with, nf_with, nf_form}
use Rattle.ur_rows.specs.Laws.{IsKindedEnv, IsRow, HasMap, no_fields, ConcatIsUnion, MapOfConcat, MapOfMap, MapOfIdentity}
use Rattle.ur_rows.proofs.Order.{joined-assoc, joined-comm, and-left}
use Rattle.ur_rows.proofs.PutAfter.{applied-composed, mapped_row-joined, mapped_row-twice, mapped_row-itself}
use Rattle.ur_rows.proofs.InOrder.{nf-normal, as_row-normal, as_type-normal, as_function-normal}
use Rattle.ur_rows.proofs.Kinding.{nf-row, map-unknown}

row-normal : (env : ConEnv) (c : ConForm) → is_normal_row (as_row (nf_form env c)) ≡ true
row-normal env c = as_row-normal (nf_form env c) (nf-normal env c)

row-sorted : (env : ConEnv) (c : ConForm) → is_row (as_row (nf_form env c)) ≡ true
row-sorted env c = and-left (is_row (as_row (nf_form env c))) (all_normal_parts (as_row (nf_form env c))) (row-normal env c)

pub union : (env : ConEnv) → ConcatIsUnion env
union env = record {
  associative = λ p q r s t u v w a b c. ap (λ r. normal.Row r) (sym (joined-assoc (as_row (nf_form env a)) (as_row (nf_form env b)) (as_row (nf_form env c))));
  commutative = λ p q r s a b. ap (λ r. normal.Row r) (joined-comm (as_row (nf_form env a)) (as_row (nf_form env b)) (row-sorted env a) (row-sorted env b));
  unit = λ p q a k h. nf-row env a k h;
}

-- a map in normal form
map-nf : (env : ConEnv) (p o q t : Span) (f r : ConForm) → HasMap env →
    nf_form env (map_con p o q f t r) ≡ normal.Row (mapped_row (as_function (nf_form env f)) (as_row (nf_form env r)))
map-nf env p o q t f r w = ap (λ z. name_with z (codes "map") (nf_form env f ∷ nf_form env r ∷ [])) (map-unknown env w)

pub of_concat : (env : ConEnv) → MapOfConcat env
of_concat env at f a b w = map-nf env (at 0) (at 1) (at 2) (at 3) f (concat_con (at 4) a (at 5) b) w ∙
    ap (λ r. normal.Row r) (mapped_row-joined (as_function (nf_form env f)) (as_row (nf_form env a)) (as_row (nf_form env b))) ∙
    sym (ap₂ (λ x y. normal.Row (joined (as_row x) (as_row y))) (map-nf env (at 7) (at 8) (at 9) (at 10) f a w) (map-nf env (at 12) (at 13) (at 14) (at 15) f b w))

pub of_map : (env : ConEnv) → MapOfMap env
of_map env = record {
  maps = λ at f g r w. map-nf env (at 0) (at 1) (at 2) (at 3) f (map_con (at 4) (at 5) (at 6) g (at 7) r) w ∙
      ap (λ x. normal.Row (mapped_row (as_function (nf_form env f)) (as_row x))) (map-nf env (at 4) (at 5) (at 6) (at 7) g r w) ∙
      ap (λ r. normal.Row r) (mapped_row-twice (as_function (nf_form env f)) (as_function (nf_form env g)) (as_row (nf_form env r)) (as_function-normal (nf_form env f) (nf-normal env f)));
  composition = applied-composed;
}

-- `fn x :: Type => x` is the identity
identity-nf : (env : ConEnv) (p : Span) (x : List ℕ) → as_function (nf_form env (fn_con x kind.Star p (con.Var x))) ≡ ty.Variable (var.Bound 0)
identity-nf env p x = ap (λ b. as_type (name_with (or_raised (suc (known_in env).depth) (or_own (known_in env).home (own x) (within x kind.Star (known_in env)).names
    (if b then Some (suc (known_in env).depth, normal.Type (ty.Variable (var.Bound 0))) else looked_up (own x) (known_in env).names))) x [])) ((bytes_eq-Decides x x).1 refl) ∙
    ap (λ n. ty.Variable (var.Bound n)) (none (known_in env).depth) where
      none : (d : ℕ) → 0 + (suc d - suc d) ≡ 0
      none d = omega arith

pub of_identity : (env : ConEnv) → MapOfIdentity env
of_identity env at x r w k h = map-nf env (at 0) (at 1) (at 2) (at 4) (fn_con x kind.Star (at 3) (con.Var x)) r w ∙
    ap (λ f. normal.Row (mapped_row f (as_row (nf_form env r)))) (identity-nf env (at 3) x) ∙
    ap (λ r. normal.Row r) (mapped_row-itself (as_row (nf_form env r)) (row-normal env r)) ∙ nf-row env r k h
