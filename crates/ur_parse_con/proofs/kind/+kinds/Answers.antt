use Rattle.std.proofs.Common.{refl, arith, ◌+◌}
use Rattle.ur_parse_rules.specs.Rules.{no_span, syntax}
use Rattle.ur_parse_rules.specs.ConParts.{kind_atom}
use Rattle.ur_parse_rules.specs.Parts.{of_con}
use Rattle.ur_parse_rules.proofs.Steps.{nothing, a_mark, a_word, an_one, mark_read, word_read, one_read, one_refused, no_mark, no_word, not_mark, not_word, reads_by, refused_by, none_of, passed, made}
use Rattle.ur_parse_rules.proofs.Choices.{chosen_mark_at}
use Rattle.ur_parse_rules.proofs.Choice.{choice}
use Rattle.ur_parse_rules.proofs.AllDecided.{decided}
use Rattle.ur_parse_rules.proofs.Places.{ends_empty}
use Rattle.ur_parse_con.proofs.Chains.{chain_start, chain_more, chain_done, chain_refused, first_refused}
use Rattle.ur_parse_con.proofs.kind.+kinds.Goals as goal

-- ---- kind

pub kind-returns-in_err-last-clause-refused : goal.kind-returns-in_err-last-clause-refused
kind-returns-in_err-last-clause-refused t c = passed _ _ c.from_residual.ensures.1 c.in_err-last.ensures.refused (λ r h n. first_refused c.args.tokens.now c.args.at (h n))

pub kind-arrows-init : goal.kind-arrows-init
kind-arrows-init t c = let e = c.new-left.ensures in record { start = omega arith; last = c.in_ok-last.ensures.moves; chain = λ n. rw e (chain_start (c.in_ok-last.ensures.found n)) }

pub kind-returns-in_err-next-clause-refused : goal.kind-returns-in_err-next-clause-refused
kind-returns-in_err-next-clause-refused t c = passed _ _ c.from_residual-in_err-next.ensures.1 c.in_err-next.ensures.refused
    (λ r h n. chain_refused (c.arrows.last.end + 1) (c.arrows.invariant.chain n) (c.sees.ensures.yes c.arrows-test.true) (h n))

pub kind-arrows-preserved : goal.kind-arrows-preserved
kind-arrows-preserved t c = let s = c.arrows.invariant.start in let m = c.arrows.invariant.last.on in let p = c.in_ok-pushed.ensures.found in record {
  start = omega (arith, s, m);
  last = c.in_ok-next.ensures.moves;
  chain = λ n. rw p (chain_more (c.arrows.invariant.chain n) (c.sees.ensures.yes c.arrows-test.true) (c.in_ok-next.ensures.found n));
}

pub kind-returns-clause-found : goal.kind-returns-clause-found
kind-returns-clause-found t c = λ n. let e = c.in_ok-whole.ensures.found in let f = e.0 in let g = e.1 in rw (f, g) (chain_done (c.arrows.invariant.chain n) (c.sees.ensures.no c.arrows-test.false))

-- ---- kind_atom

pub kind_atom-returns-then-sees_word-clause-found :
    goal.kind_atom-returns-then-sees_word-clause-found
kind_atom-returns-then-sees_word-clause-found t c = λ n. let a = c.sees_word.ensures.yes c.if-sees_word.true in let e = c.leaf.ensures.tree in let f = c.leaf.ensures.end in
    rw (e, f) (reads_by 0 n (omega arith) (record { v = tt; span = no_span; is_span = refl; allowed = refl; builds = refl; fills = a_word a nothing }) (ends_empty _))

pub kind_atom-returns-then-sees_word-2-clause-found :
    goal.kind_atom-returns-then-sees_word-2-clause-found
kind_atom-returns-then-sees_word-2-clause-found t c = λ n. let a = c.sees_word-else-sees_word.ensures.yes c.if-sees_word-2.true in let e = c.leaf-then-sees_word-2.ensures.tree in let f = c.leaf-then-sees_word-2.ensures.end in
    rw (e, f) (reads_by 1 n (omega arith) (record { v = tt; span = no_span; is_span = refl; allowed = refl; builds = refl; fills = a_word a nothing }) (ends_empty _))

pub kind_atom-returns-in_err-word-clause-refused :
    goal.kind_atom-returns-in_err-word-clause-refused
kind_atom-returns-in_err-word-clause-refused t c = passed _ _ c.from_residual.ensures.1 c.in_err-word.ensures.refused (λ r h n. let a = c.sees.ensures.yes c.if-sees.true in
    refused_by decided 2 n (omega arith) (chosen_mark_at (choice (of_con kind_atom)) a (λ w s us. refl)) (mark_read a (no_word h)))

pub kind_atom-returns-in_err-close-clause-refused :
    goal.kind_atom-returns-in_err-close-clause-refused
kind_atom-returns-in_err-close-clause-refused t c = passed _ _ c.from_residual-in_err-close.ensures.1 c.in_err-close.ensures.refused (λ r h n. let a = c.sees.ensures.yes c.if-sees.true in
    refused_by decided 2 n (omega arith) (chosen_mark_at (choice (of_con kind_atom)) a (λ w s us. refl)) (mark_read a (word_read c.in_ok-word.ensures.found (no_mark h))))

pub kind_atom-returns-in_ok-close-clause-found : goal.kind_atom-returns-in_ok-close-clause-found
kind_atom-returns-in_ok-close-clause-found t c = λ n. let a = c.sees.ensures.yes c.if-sees.true in let e = c.leaf-then-sees.ensures.tree in let f = c.leaf-then-sees.ensures.end in
    rw (e, f) (reads_by 2 n (omega arith) (record {
      v = tt;
      span = no_span;
      is_span = refl;
      allowed = refl;
      builds = refl;
      fills = a_mark a (a_word c.in_ok-word.ensures.found (a_mark c.in_ok-close.ensures.found nothing));
    }) (ends_empty _))

pub kind_atom-returns-in_err-inner-clause-refused :
    goal.kind_atom-returns-in_err-inner-clause-refused
kind_atom-returns-in_err-inner-clause-refused t c = passed _ _ c.from_residual-in_err-inner.ensures.1 c.in_err-inner.ensures.refused (λ r h n. let a = c.sees-else-sees.ensures.yes c.if-sees-2.true in
    refused_by decided 3 n (omega arith) (chosen_mark_at (choice (of_con kind_atom)) a (λ w s us. refl)) (mark_read a (one_refused (h n))))

pub kind_atom-returns-in_err-close-2-clause-refused :
    goal.kind_atom-returns-in_err-close-2-clause-refused
kind_atom-returns-in_err-close-2-clause-refused t c = passed _ _ c.from_residual-in_err-close-2.ensures.1 c.in_err-close-2.ensures.refused (λ r h n. let a = c.sees-else-sees.ensures.yes c.if-sees-2.true in
    refused_by decided 3 n (omega arith) (chosen_mark_at (choice (of_con kind_atom)) a (λ w s us. refl)) (mark_read a (one_read decided (c.in_ok-inner.ensures.found n) (no_mark h))))

pub kind_atom-returns-in_ok-close-2-clause-found :
    goal.kind_atom-returns-in_ok-close-2-clause-found
kind_atom-returns-in_ok-close-2-clause-found t c = λ n. let a = c.sees-else-sees.ensures.yes c.if-sees-2.true in let e = c.ending.ensures.tree in let f = c.ending.ensures.end in
    rw (e, f) (reads_by 3 n (omega arith) (record {
      v = (c.in_ok-inner.inner.tree, tt);
      span = no_span;
      is_span = refl;
      allowed = refl;
      builds = refl;
      fills = a_mark a (an_one (c.in_ok-inner.ensures.found n) (a_mark c.in_ok-close-2.ensures.found nothing));
    }) (ends_empty _))

pub kind_atom-returns-else-sees-2-clause-refused :
    goal.kind_atom-returns-else-sees-2-clause-refused
kind_atom-returns-else-sees-2-clause-refused t c = made _ c.unexpected.ensures (λ r h n. syntax h (none_of (
  not_word (c.sees_word.ensures.no c.if-sees_word.false),
  (
    not_word (c.sees_word-else-sees_word.ensures.no c.if-sees_word-2.false),
    (not_mark (c.sees.ensures.no c.if-sees.false), (not_mark (c.sees-else-sees.ensures.no c.if-sees-2.false), tt)),
  ),
)))
