use Rattle.std.proofs.Common.{refl}
use Rattle.ur_mono.specs.Mono.{IsCodeOf}
use Rattle.ur_mono.proofs.Meaning.{keeps_outcomes}
use Rattle.ur_mono.proofs.coding.mono.Goals as goal

pub returns-clause-code : goal.returns-clause-code
returns-clause-code c = record {
  schema = refl;
  handlers = refl;
  targets = refl;
  names = refl;
  variants = refl;
  cookies = c.in_ok-cookies.ensures;
  functions = refl;
  queries = refl;
  changes = refl;
}

pub returns-clause-meaning : goal.returns-clause-meaning
returns-clause-meaning c = keeps_outcomes c.args.closed _ (returns-clause-code c)
