-- The bytes grow by what was taken, and where less than the piece was taken the room is full.
use Rattle.std.proofs.Common.{◌≡◌, ◌≤◌, ◌+◌, ◌∙◌, ap, length, drop, take, arith, vec_capacity, length-drop, length-take, length-append}
use Rattle.ur_http.proofs.Buffered.{buffer_fed, full_needs_no_more}
use Rattle.ur_http.proofs.splitter.Splitter.feed.Goals as goal

pub invariant_of-self : goal.invariant_of-self
invariant_of-self c =
    let bytes = c.make_room-self-inside.new.bytes.items in
    let taken = take c.min-count.result c.args.piece.now in
    let l = length-take c.min-count.result c.args.piece.now in
    let fits : length bytes + length taken ≤ 1064960 = omega arith in
    let grown : vec_capacity c.self.inside.bytes ≤ vec_capacity c.extend_from_slice.new.self = grind arith in
    buffer_fed bytes taken c.self.inside.bytes.items _ (vec_capacity c.self.inside.bytes) _ c.self.inside.from _ _ _ c.self.invariant
    c.make_room-self-inside.ensures.begins c.make_room-self-inside.ensures.same fits c.in-Ok.ensures.items grown

pub returns-clause-full : goal.returns-clause-full
returns-clause-full c = λ less none.
    let bytes = c.make_room-self-inside.new.bytes.items in
    let taken = take c.min-count.result c.args.piece.now in
    let t = length-take c.min-count.result c.args.piece.now in
    let all : length c.extend_from_slice.new.self.items ≡ length bytes + length taken = ap length c.in-Ok.ensures.items ∙ length-append bytes taken in
    let same : length (drop c.make_room-self-inside.result bytes) ≡ length (drop c.self.inside.from c.self.inside.bytes.items) = ap length c.make_room-self-inside.ensures.same in
    let a = length-drop c.make_room-self-inside.result bytes in
    let b = length-drop c.self.inside.from c.self.inside.bytes.items in
    let d = length-drop c.make_room-self-inside.result c.extend_from_slice.new.self.items in
    let full : 1064960 ≤ length (drop c.make_room-self-inside.result c.extend_from_slice.new.self.items) = omega arith in
    full_needs_no_more _ full
