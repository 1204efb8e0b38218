-- The head that the spans show, and what its fields say.
use Rattle.std.proofs.Common.{◌∙◌, ◌<◌, ◌≤◌, ap, map, refl, Some, None, length, take, drop, arith}
use Rattle.std.proofs.lemmas.Grind.{common_steps}
use Rattle.std.proofs.lemmas.List.{take_rest}
use Rattle.ur_http.specs.Reading.{field_pair}
use Rattle.ur_http.proofs.Begun.{fault_at, length_at, refused_at, waits_at, whole_at}
use Rattle.ur_http.proofs.starts.with_head.Goals as goal

pub returns-in-Err : goal.returns-in-Err
returns-in-Err c =
    let (h, at) = c.requires.is in
    let fields = ap (map field_pair) c.as_slice-fields.ensures.value ∙ c.in_ok-fields.ensures in
    refused_at c.args.bytes.now c.args.window.now c.args.spans.now c.args.head.now h c.requires.window at c.in-Err.status
    (fault_at c.args.bytes.now c.args.window.now c.args.spans.now c.args.head.now h c.requires.window at _ _ (Some c.in-Err.status) fields c.of-target.ensures c.in-Err.ensures.fault)

pub returns-then-rest-sound : goal.returns-then-rest-sound
returns-then-rest-sound c =
    let (h, at) = c.requires.is in
    let fields = ap (map field_pair) c.as_slice-fields.ensures.value ∙ c.in_ok-fields.ensures in
    let short : length (drop c.args.head.now.len c.args.bytes.now) < c.in-Ok.sound.length = grind (arith, common_steps) in
    waits_at c.args.bytes.now c.args.window.now c.args.spans.now c.args.head.now h c.requires.window at c.in-Ok.sound.length _
    (fault_at c.args.bytes.now c.args.window.now c.args.spans.now c.args.head.now h c.requires.window at _ _ None fields c.of-target.ensures c.in-Ok.ensures.fault)
    (length_at c.args.bytes.now c.args.window.now c.args.spans.now c.args.head.now h c.requires.window at _ c.in-Ok.sound.length fields c.in-Ok.ensures.length.0)
    short refl

pub returns : goal.returns
returns c =
    let (h, at) = c.requires.is in
    let fields = ap (map field_pair) c.as_slice-fields.ensures.value ∙ c.in_ok-fields.ensures in
    let fits : c.in-Ok.sound.length ≤ length (drop c.args.head.now.len c.args.bytes.now) = grind (arith, common_steps) in
    whole_at c.args.bytes.now c.args.window.now c.args.spans.now c.args.head.now h c.requires.window at _ _ _ _ _ c.in-Ok.sound.length _ _ fields c.of-target.ensures c.of-method.ensures
    (fault_at c.args.bytes.now c.args.window.now c.args.spans.now c.args.head.now h c.requires.window at _ _ None fields c.of-target.ensures c.in-Ok.ensures.fault)
    (length_at c.args.bytes.now c.args.window.now c.args.spans.now c.args.head.now h c.requires.window at _ c.in-Ok.sound.length fields c.in-Ok.ensures.length.0)
    c.in-Ok.ensures.path (ap (take c.in-Ok.sound.length) (take_rest c.args.bytes.now c.args.head.now.len)) c.in_ok-request-in-Ok.ensures fits c.requires.fits refl
