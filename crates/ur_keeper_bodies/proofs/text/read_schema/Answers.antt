use Rattle.std.proofs.Common.{◌≡◌, sym, ◌∙◌, rules}
use Rattle.std.specs.Str.{bytes_eq}
use Rattle.ur_values.specs.SchemaText.{schema_text}
use Rattle.ur_keeper_bodies.proofs.Named.{found-is, no-other}
use Rattle.ur_keeper_bodies.proofs.text.read_schema.Goals as goal

pub returns-in_default-clause-named : goal.returns-in_default-clause-named
returns-in_default-clause-named c = λ schema named spelled.
    absurd (c.in_default.not-Some schema (found-is c.in_ok-schema.field-0 c.args.bytes.now schema c.in_ok-schema.ensures named spelled))

pub returns-then-eq-clause-named : goal.returns-then-eq-clause-named
returns-then-eq-clause-named c = λ schema named spelled.
    sym c.in-Some.is ∙ found-is c.in_ok-schema.field-0 c.args.bytes.now schema c.in_ok-schema.ensures named spelled

pub returns-clause-named : goal.returns-clause-named
returns-clause-named c = λ schema named spelled.
    let text : c.as_slice.result.now ≡ schema_text c.in-Some.schema = search rules in
    let tested : c.eq.result ≡ bytes_eq c.as_slice.result.now c.args.bytes.now = search rules in
    absurd (no-other c.in_ok-schema.field-0 c.in-Some.schema c.as_slice.result.now c.args.bytes.now c.eq.result schema c.in_ok-schema.ensures c.in-Some.is text tested c.if-eq.false named spelled)
