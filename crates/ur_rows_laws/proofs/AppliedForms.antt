-- An applied function has the form of the application.
use Rattle.std.proofs.Common.{◌≡◌, refl, []}
use Rattle.ur_base.specs.declared.refusal.Span.{Span}
use Rattle.ur_syntax.specs.declared.kind.Kind.{Kind}
use Rattle.ur_syntax.specs.declared.con.ConForm.{ConForm}
use Rattle.ur_syntax.specs.declared.con.ConEnv.{ConEnv}
use Rattle.ur_syntax.specs.Kinds.{arrow}
use Rattle.ur_syntax.specs.Forms.{fn_con, apply_con}
use Rattle.ur_syntax.specs.HasKind.{HasKind, scope_in}
use Rattle.ur_rows.specs.Kinded.{Variables}
use Rattle.ur_rows.specs.Put.{applied_once}
use Rattle.ur_rows.specs.Normal.{Known, known_in, nf_form}
use Rattle.ur_rows.specs.Laws.{IsKindedEnv}
use Rattle.ur_rows.proofs.InOrder.{nf_with-normal}
use Rattle.ur_rows_laws.specs.Instances.{outside}
use Rattle.ur_rows_laws.specs.Reading.{variable_kinds, FormOfApplied}
use Rattle.ur_rows_laws.proofs.ReadingLawsForms.{done, more}
use Rattle.ur_rows_laws.proofs.Reading.{plain-taken}
use Rattle.ur_rows_laws.proofs.Fresh.{IsRead, nf-kinds}
use Rattle.ur_rows_laws.proofs.Given.{nf-given}
use Rattle.ur_rows_laws.proofs.Entries.{environment-read}

at-argument : (env : ConEnv) (p q : Span) (f a : ConForm) (k j : Kind) → IsKindedEnv env → HasKind (scope_in env) f (arrow k j) → HasKind (scope_in env) a k
    → nf_form env (apply_con p f q a) ≡ applied_once (nf_form env f) (nf_form env a)
at-argument env p q f a k j e h i =
    nf-given h vs 0 known read (more (plain-taken (nf-kinds vs 0 known read h)) (nf-kinds vs 0 known read i) (nf_with-normal known a [] refl) done) where
      vs : Variables
      vs = outside (variable_kinds env.entries)

      known : Known
      known = known_in env

      read : IsRead vs 0 (scope_in env) known
      read = environment-read env e

pub of-applied-form : (env : ConEnv) → FormOfApplied env
of-applied-form env = record {
  applied = at-argument env;
  written = λ p q s x k j c a e h i. at-argument env p q (fn_con x k s c) a k j e h i;
}
