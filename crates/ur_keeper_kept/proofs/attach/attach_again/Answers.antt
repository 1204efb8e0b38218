use Rattle.std.proofs.Common.{◌≡◌, true, false, Some, refl, ◌∙◌, rules}
use Rattle.ur_values.specs.Extends.{extends}
use Rattle.ur_keeper_kept.proofs.Texts.{known-kept, again-ready, again-differs, known-faulty, not-its-text}
use Rattle.ur_keeper_kept.proofs.Finding.{finds-at}
use Rattle.ur_keeper_kept.proofs.attach.attach_again.Goals as goal

pub grow-requires-clause-text : goal.grow-requires-clause-text
grow-requires-clause-text g c = known-kept c.args.known.now _ _ c.in_ok-stored.ensures.same.same c.requires.text

pub returns-clause-answer : goal.returns-clause-answer
returns-clause-answer g c =
    let e : extends c.args.schema.now c.args.known.now ≡ true = search rules in
    again-ready c.args.known.now c.args.schema.now _ _ _ c.in_ok-stored.ensures.same.same e c.in_ok-grow.ensures.grows

pub returns-then-not-extends-clause-answer : goal.returns-then-not-extends-clause-answer
returns-then-not-extends-clause-answer g c =
    let e : extends c.args.schema.now c.args.known.now ≡ false = search rules in
    again-differs c.args.known.now c.args.schema.now c.in_ok-copy.copy _ _ c.in_ok-copy.ensures e refl

pub returns-in_err-grow-clause-found : goal.returns-in_err-grow-clause-found
returns-in_err-grow-clause-found g c =
    let e : extends c.args.schema.now c.args.known.now ≡ true = search rules in
    finds-at c.from_residual-in_err-grow.result _ _ _ _ _ c.from_residual-in_err-grow.ensures.1
    (λ other. known-faulty c.args.schema.now c.args.known.now _ _ c.in_ok-stored.ensures.same.same e c.requires.text
    (c.in_err-grow.ensures.found (λ same. other (same ∙ c.in_ok-stored.ensures.found))))

pub returns-then-ne-clause-found : goal.returns-then-ne-clause-found
returns-then-ne-clause-found g c = λ other.
    let apart : c.in_ok-stored.stored ≡ Some c.in_ok-text.text → ⊥ = search rules in
    not-its-text c.args.schema.now c.args.known.now c.in_ok-text.text c.in_ok-stored.stored _ _ c.in_ok-text.ensures apart c.in_ok-stored.ensures.body
    c.requires.text refl
