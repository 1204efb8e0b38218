use Rattle.std.proofs.Common.{◌≡◌, ap, ap₂, sym, ◌∙◌, ℕ, List, [], None}
use Rattle.std.specs.Prelude.{option_map}
use Rattle.ur_syntax.specs.Names.{name_text, seen}
use Rattle.ur_terms.specs.declared.term.Pattern.TheVariants as pattern
use Rattle.ur_check_scopes.specs.declared.names.Named.{Named}
use Rattle.ur_check_scopes.specs.Views.{key_in, globals_in, names_in, itself}
use Rattle.ur_check_cases.proofs.Telling.{unknown-says}
use Rattle.ur_check_cases.proofs.patterns.tagged.Goals as goal

pub returns-in-Some-clause-tag : goal.returns-in-Some-clause-tag
returns-in-Some-clause-tag c = ap (option_map pattern.Tagged) (ap₂ (λ (h : List ℕ) (z : List (Named ℕ)). seen h (key_in c.args.key.now) (names_in itself z)) (sym c.as_slice-home.ensures) (sym c.as_slice.ensures) ∙ sym c.seen.ensures ∙ c.in-Some.is)

pub returns-in_ok-name-in-None-clause-refused : goal.returns-in_ok-name-in-None-clause-refused
returns-in_ok-name-in-None-clause-refused c = unknown-says c.unknown.result c.as_slice-text.result.now (name_text (key_in c.args.key.now).home (key_in c.args.key.now).name)
    (seen c.args.world.now.env.home (key_in c.args.key.now) (globals_in c.args.world.now).constructors ≡ None) (ap₂ (λ (h : List ℕ) (z : List (Named ℕ)). seen h (key_in c.args.key.now) (names_in itself z)) (sym c.as_slice-home.ensures) (sym c.as_slice.ensures) ∙ sym c.seen.ensures ∙ c.in-None.is) (c.as_slice-text.ensures ∙ c.in_ok-name-in-None.ensures) (c.unknown.ensures [])
