use Rattle.std.proofs.Common.{◌≡◌, true, Some, ap, sym, subst, ◌∙◌}
use Rattle.ur_values.specs.declared.schema.Schema.{Schema}
use Rattle.ur_values.specs.Extends.{extends}
use Rattle.ur_keeper.specs.Tables.{Tables, AreSound}
use Rattle.ur_keeper.specs.Memory.{Memory}
use Rattle.ur_keeper.proofs.Attaching.{empty-sound}
use Rattle.ur_keeper.proofs.Grown.{grown-sound}
use Rattle.ur_keeper.proofs.memory.MemoryKeeperKeeper.attach.Goals as goal

pub returns-in_default-clause-sound : goal.returns-in_default-clause-sound
returns-in_default-clause-sound c =
    subst (λ t. AreSound c.args.schema.now t) (sym (ap (λ (m : Memory). m.saved) c.in_ok-take.ensures.ok)) (empty-sound c.args.schema.now)

pub returns-then-extends-clause-sound : goal.returns-then-extends-clause-sound
returns-then-extends-clause-sound c =
    let schema = c.args.schema.now in
    let kept = c.in_ok-kept.kept in
    let view = c.self-2.view_is in
    let t = c.self-2.inside.held.saved in
    let there : c.args.self.now.kept ≡ Some kept =
    sym (ap (λ (m : Memory). m.kept) view) ∙ c.in-Some.is ∙ ap (λ (k : Schema). Some k) (sym c.in_ok-kept.ensures) in
    let grows : extends schema kept ≡ true = sym c.extends.ensures ∙ c.if-extends.true in
    let sound : AreSound kept c.args.self.now.saved = c.is_faulty.ensures.sound c.if-is_faulty.false kept there grows in
    let same : AreSound kept t = subst (λ (x : Tables). AreSound kept x) (sym (ap (λ (m : Memory). m.saved) view)) sound in
    subst (λ (x : Tables). AreSound schema x) (sym (ap (λ (m : Memory). m.saved) c.in_ok-grow.ensures.ok)) (grown-sound schema kept t grows same)
