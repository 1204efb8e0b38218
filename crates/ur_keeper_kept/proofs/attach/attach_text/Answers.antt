use Rattle.std.proofs.Common.{◌≡◌, ◌≢◌, true, false, refl, rules}
use Rattle.ur_values.specs.declared.schema.Schema.{Schema}
use Rattle.ur_values.specs.Named.{IsNamed}
use Rattle.ur_values.specs.SchemaText.{schema_text}
use Rattle.ur_values.specs.Extends.{extends}
use Rattle.ur_keeper.specs.Keeper.{IsReadAs}
use Rattle.ur_keeper_bodies.specs.Stored.{parted}
use Rattle.ur_keeper_kept.proofs.Texts.{text-kept, reads-ready, reads-differs, text-faulty, unread-faulty}
use Rattle.ur_keeper_kept.proofs.Finding.{finds-at}
use Rattle.ur_keeper_kept.proofs.attach.attach_text.Goals as goal

pub grow-requires-clause-text : goal.grow-requires-clause-text
grow-requires-clause-text g c =
    let layout = c.parted-layout.result.0 in
    let text = c.parted-layout.result.1.now in
    let p : (layout, text) ≡ parted c.args.stored.now = search rules in
    let read : IsReadAs c.args.schema.now text c.in-Some.kept = search rules in
    text-kept c.in-Some.kept layout c.args.stored.now text _ p read.spells c.requires.stored

pub returns-clause-answer : goal.returns-clause-answer
returns-clause-answer g c =
    let layout = c.parted-layout.result.0 in
    let text = c.parted-layout.result.1.now in
    let p : (layout, text) ≡ parted c.args.stored.now = search rules in
    let read : IsReadAs c.args.schema.now text c.in-Some.kept = search rules in
    let e : extends c.args.schema.now c.in-Some.kept ≡ true = search rules in
    reads-ready c.args.schema.now c.in-Some.kept layout c.args.stored.now text _ _ p read e c.in_ok-grow.ensures.grows

pub returns-then-not-extends-clause-answer : goal.returns-then-not-extends-clause-answer
returns-then-not-extends-clause-answer g c =
    let layout = c.parted-layout.result.0 in
    let text = c.parted-layout.result.1.now in
    let p : (layout, text) ≡ parted c.args.stored.now = search rules in
    let read : IsReadAs c.args.schema.now text c.in-Some.kept = search rules in
    let e : extends c.args.schema.now c.in-Some.kept ≡ false = search rules in
    reads-differs c.args.schema.now c.in-Some.kept layout c.args.stored.now text _ _ p read e refl

pub returns-in_default-clause-found : goal.returns-in_default-clause-found
returns-in_default-clause-found g c = λ other.
    let layout = c.parted-layout.result.0 in
    let text = c.parted-layout.result.1.now in
    let p : (layout, text) ≡ parted c.args.stored.now = search rules in
    let unread : (text ≢ schema_text c.args.schema.now) × ((x : Schema) → IsNamed x → text ≢ schema_text x) = search rules in
    unread-faulty c.args.schema.now layout c.args.stored.now text _ p unread c.requires.stored

pub returns-in_err-grow-clause-found : goal.returns-in_err-grow-clause-found
returns-in_err-grow-clause-found g c =
    let layout = c.parted-layout.result.0 in
    let text = c.parted-layout.result.1.now in
    let p : (layout, text) ≡ parted c.args.stored.now = search rules in
    let read : IsReadAs c.args.schema.now text c.in-Some.kept = search rules in
    let e : extends c.args.schema.now c.in-Some.kept ≡ true = search rules in
    finds-at c.from_residual-in_err-grow.result _ _ _ _ _ c.from_residual-in_err-grow.ensures.1
    (λ other. text-faulty c.args.schema.now c.in-Some.kept layout c.args.stored.now text _ p read e c.requires.stored (c.in_err-grow.ensures.found other))
