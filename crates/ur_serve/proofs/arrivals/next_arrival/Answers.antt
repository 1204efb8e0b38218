use Rattle.std.proofs.Common.{◌≡◌, ◌+◌, length, ap, subst, ◌∙◌, arith}
use Rattle.ur_base.specs.Told.{WhereTold, Tells}
use Rattle.ur_http.specs.declared.request.Item.TheVariants as http
use Rattle.ur_http.specs.Items.{SplitterState, Gives}
use Rattle.ur_serve.specs.declared.arrivals.Arrival.TheVariants.{Request, Bad}
use Rattle.ur_serve.specs.Arrivals.{IsFed}
use Rattle.ur_serve.proofs.Arriving.{bad_answerable, came, request_comes, bad_comes, moved_more}
use Rattle.ur_serve.proofs.Taking.{taken_fed}
use Rattle.ur_serve.proofs.arrivals.next_arrival.Goals as goal

pub returns-in-Ok-Request-clause-comes : goal.returns-in-Ok-Request-clause-comes
returns-in-Ok-Request-clause-comes g c =
    came (g.W.Wire.told c.args.wire.now) (g.W.Wire.told c.loop-request.wire) c.args.splitter.now.left c.loop-request.splitter.left c.next.new.self.left (Request c.in-Ok-Request.request)
    c.loop-request.invariant.moved (request_comes c.loop-request.splitter c.next.new.self c.in-Ok-Request.request (rw c.in-Ok-Request.field-0-is at c.in-Ok-Request.ensures.item))

pub returns-in-Ok-Bad-clause-comes : goal.returns-in-Ok-Bad-clause-comes
returns-in-Ok-Bad-clause-comes g c =
    came (g.W.Wire.told c.args.wire.now) (g.W.Wire.told c.loop-request.wire) c.args.splitter.now.left c.loop-request.splitter.left c.next.new.self.left (Bad c.in-Ok-Bad.status)
    c.loop-request.invariant.moved (bad_comes c.loop-request.splitter c.next.new.self c.in-Ok-Bad.status c.loop-request.invariant.unrefused (rw c.in-Ok-Bad.field-0-is at c.in-Ok-Bad.ensures.item))

pub returns-in-Ok-Bad-clause-answerable : goal.returns-in-Ok-Bad-clause-answerable
returns-in-Ok-Bad-clause-answerable g c =
    bad_answerable c.loop-request.splitter c.next.new.self c.in-Ok-Bad.status c.loop-request.invariant.unrefused (rw c.in-Ok-Bad.field-0-is at c.in-Ok-Bad.ensures.item)

pub returns-in-Ok-Request-clause-text : goal.returns-in-Ok-Request-clause-text
returns-in-Ok-Request-clause-text g c = rw c.in-Ok-Request.field-0-is at c.in-Ok-Request.ensures.text

pub loop-request-preserved : goal.loop-request-preserved
loop-request-preserved g c =
    let told0 = g.W.Wire.told c.args.wire.now in
    let told1 = g.W.Wire.told c.loop-request.wire in
    let told2 = g.W.Wire.told c.fill.new.wire in
    let held0 = c.args.splitter.now.left in
    let held1 = c.loop-request.splitter.left in
    let held2 = c.fill.new.splitter.left in
    let count = c.in-Ok._count in
    let so = c.loop-request.invariant in
    let item : Gives c.loop-request.splitter http.NeedMore c.next.new.self = rw c.in-Ok-NeedMore.field-0-is at c.in-Ok-NeedMore.ensures.item in
    let held : c.next.new.self.left ≡ held1 = ap (λ (s : SplitterState). s.left) item.2 in
    let grew : length held2 ≡ length held1 + count = c.in-Ok.ensures.grown ∙ ap (λ l. length l + count) held in
    record {
      current = c.fill.ensures.current;
      same_size = c.fill.ensures.buffer ∙ so.same_size;
      unrefused = c.fill.ensures.open ∙ ap (λ (s : SplitterState). s.refused) item.2 ∙ so.unrefused;
      counted = c.in-Ok.ensures.counts.1 ∙ so.counted;
      grown = omega (arith, grew, so.grown);
      fits = omega (arith, c.in-Ok.ensures.fits);
      taken = taken_fed told0 told1 told2 (length held0) (length held1) (length held2) count so.taken so.grown c.in-Ok.ensures.taken grew;
      moved = moved_more told0 told1 told2 held0 held1 held2 count so.moved (subst (λ h. WhereTold told1 (λ t. Tells told2 (IsFed t count h held2))) held c.in-Ok.ensures.fed);
    }
