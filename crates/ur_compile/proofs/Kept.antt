-- Code that is compiled.
use Rattle.std.proofs.Common.{◌≡◌, ap, ◌∙◌, map, Option, Some, None, MatchOption}
use Rattle.ur_code.specs.declared.code.Code.{Code}
use Rattle.ur_code.specs.Fits.{Fits}
use Rattle.ur_code.specs.Sound.{NeverStuck}
use Rattle.ur_tree.specs.declared.typed.Typed.{Typed}
use Rattle.ur_tree.specs.declared.closed.Closed.{Closed}
use Rattle.ur_source.specs.Instances.{IsClosed}
use Rattle.ur_unfold.specs.Limits.{IsSmall}
use Rattle.ur_check_limits.specs.declared.limit.Limit.{Limit}
use Rattle.ur_check_limits.specs.Limits.{IsWithinLimits}
use Rattle.ur_mono.specs.Mono.{IsCodeOf, CodeKeepsMeaning, cookie_of}
use Rattle.ur_effects.specs.Refused.{GetNeverWrites}
use Rattle.ur_compile.specs.Explains.{HasCode}
use Rattle.ur_compile.specs.Kept.{IsCodeFor}
use Rattle.ur_compile.proofs.Numberings as numberings

pub code_for : CodeKeepsMeaning → (app : Typed) (closed : Closed) (code : Code) → IsClosed app closed → IsCodeOf closed code → Fits code → NeverStuck code →
    GetNeverWrites code → IsSmall app → IsWithinLimits app → IsCodeFor app code
code_for law app closed code is of fits never gets small limits = record {
  handlers = of.handlers ∙ is.1.handlers;
  cookies = of.cookies ∙ ap (map cookie_of) is.1.cookies;
  schema = of.schema ∙ is.1.schema;
  queries = of.queries ∙ is.1.queries;
  changes = of.changes ∙ is.1.changes;
  meaning = law app closed code is of fits never;
  fits = fits;
  gets = gets;
  small = small;
  limits = limits;
  passes = record {
    small = small;
    fit = numberings.fits app closed code is of fits;
    gets = numberings.gets app closed code is of gets;
    limits = limits;
  };
}

pub has_code : (app : Typed) (closed : Closed) (code : Code) → IsSmall app → IsClosed app closed → IsCodeOf closed code → HasCode app code
has_code app closed code small is of = record { closed = closed; small = small; is_closed = is; is_code = of }

-- no limit is exceeded
pub none_exceeded : (app : Typed) (P : Limit → Type 0) (over : Option Limit) → over ≡ None → MatchOption over (IsWithinLimits app) P → IsWithinLimits app
none_exceeded app P None e h = h
none_exceeded app P (Some l) e h = absurd (cc)
