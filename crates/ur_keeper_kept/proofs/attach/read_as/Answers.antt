use Rattle.std.proofs.Common.{◌≡◌, ◌≢◌, IfSome, rules}
use Rattle.ur_values.specs.declared.schema.Schema.{Schema}
use Rattle.ur_values.specs.SchemaText.{schema_text}
use Rattle.ur_keeper_kept.proofs.Texts.{read-own, read-some, read-nothing}
use Rattle.ur_keeper_kept.proofs.attach.read_as.Goals as goal

pub returns-then-eq-clause-found : goal.returns-then-eq-clause-found
returns-then-eq-clause-found c =
    let is : c.args.text.now ≡ schema_text c.args.schema.now = search rules in
    read-own c.args.schema.now c.in_ok-copy.copy c.args.text.now is c.in_ok-copy.ensures

pub returns-clause-found : goal.returns-clause-found
returns-clause-found c =
    let apart : c.args.text.now ≢ schema_text c.args.schema.now = search rules in
    read-some c.args.schema.now c.args.text.now c.in_ok-found.found c.in_ok-found.ensures.text apart c.in_ok-found.ensures.named

pub returns-clause-none : goal.returns-clause-none
returns-clause-none c =
    let apart : c.args.text.now ≢ schema_text c.args.schema.now = search rules in
    read-nothing c.args.schema.now c.args.text.now c.in_ok-found.found apart c.in_ok-found.ensures.named
