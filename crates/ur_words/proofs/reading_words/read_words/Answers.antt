use Rattle.std.proofs.Common.{◌∙◌, ap, sym, map, string_bytes, Option, None, Some}
use Rattle.clap.specs.Words.{found_of, rows_of, subcommand_rows_of}
use Rattle.ur_words.specs.declared.named.Named.{Named}
use Rattle.ur_words.specs.Commands.{made_from}
use Rattle.ur_words.proofs.Apps.{single_unread}
use Rattle.ur_words.proofs.Refusals.{at_none, at_some, both_of, name_of_rows, none_of, reads_as, reads_not}
use Rattle.ur_words.proofs.reading_words.read_words.Goals as goal

pub returns-then-has_single : goal.returns-then-has_single
returns-then-has_single c = sym (single_unread (map string_bytes c.args.words.now) (sym c.has_single.ensures ∙ c.if-has_single.true))

pub returns-in_default : goal.returns-in_default
returns-in_default c =
    reads_not (map string_bytes c.args.words.now) (sym c.has_single.ensures ∙ c.if-has_single.false) (at_none c.in_ok-parsed.parsed _ _ c.in_ok-parsed.ensures c.in_default.is)

pub returns-in_default-subcommand : goal.returns-in_default-subcommand
returns-in_default-subcommand c =
    let found = at_some c.in_ok-parsed.parsed _ _ c.in-Some.matches c.in_ok-parsed.ensures c.in-Some.is in
    let none = none_of (subcommand_rows_of c.in-Some.matches) (c.in_default-subcommand.ensures.name ∙ name_of_rows c.in-Some.matches) in
    reads_as (map string_bytes c.args.words.now) None (sym c.has_single.ensures ∙ c.if-has_single.false) found.0 (sym none ∙ found.1)

pub returns : goal.returns
returns c =
    let found = at_some c.in_ok-parsed.parsed _ _ c.in-Some.matches c.in_ok-parsed.ensures c.in-Some.is in
    let rows = rows_of (found_of c.in-Some-subcommand.given.now) in
    let both = both_of (subcommand_rows_of c.in-Some.matches) c.in-Some-subcommand.name.now rows (c.in-Some-subcommand.ensures.name ∙ name_of_rows c.in-Some.matches) c.in-Some-subcommand.ensures.rows in
    c.in_ok-made.ensures ∙ ap (λ (n : Option Named). made_from n rows) c.command_named.ensures
    ∙ reads_as (map string_bytes c.args.words.now) (Some (c.in-Some-subcommand.name.now, rows)) (sym c.has_single.ensures ∙ c.if-has_single.false) found.0 (sym both ∙ found.1)
