use Rattle.std.proofs.Common.{ℕ, List, ◌≡◌, ◌+◌, ◌<◌, ◌≤◌, true, false, not, nat_le, subst, sym, ap, ◌∙◌, arith, IsNone}
use Rattle.ur_values.specs.declared.atom.Atom.{Atom}
use Rattle.ur_values.specs.Atom.{atom_values}
use Rattle.ur_cacheindex.specs.declared.node.Node.{Node}
use Rattle.ur_cache.specs.Entries.{entry_at}
use Rattle.ur_cache.specs.contracts.cache.Cache.{the_view}
use Rattle.ur_cache.proofs.Recency.{put_fits, put_whole, dropped_fits, dropped_one}
use Rattle.ur_cache.proofs.cache.Cache.put.Goals as goal

abbrev node_at : ℕ → List Atom → Node
node_at site key = record { site = site; key = key }

beyond : (n capacity : ℕ) → not (nat_le n capacity) ≡ true → capacity < n
beyond n capacity e = grind arith

within : (n capacity : ℕ) → not (nat_le n capacity) ≡ false → n ≤ capacity
within n capacity e = grind arith

pub invariant_of-self-then-is_beyond : goal.invariant_of-self-then-is_beyond
invariant_of-self-then-is_beyond c =
    let i = c.self.inside in
    let absent = subst (λ s. IsNone (entry_at c.args.site (atom_values c.args.key) s.entries)) (sym c.self.view_is) c.requires.absent in (
      dropped_fits i.capacity i.index c.put_in.new.index i.held.entries c.put_in.new.held.entries i.dropped (node_at c.args.site c.args.key) c.args.rows c.self.invariant.0 absent c.in_ok-put_in.ensures.ok c.drop_last.new.index
          c.drop_last.new.held.entries (beyond _ _ (sym c.is_beyond.ensures ∙ c.if-is_beyond.true)) c.drop_last.ensures.drops,
      subst (λ n. i.capacity + 1 < n) (sym (c.drop_last.ensures.cap ∙ c.in_ok-put_in.ensures.cap)) c.self.invariant.1,
    )

pub invariant_of-self-else-is_beyond : goal.invariant_of-self-else-is_beyond
invariant_of-self-else-is_beyond c =
    let i = c.self.inside in
    let absent = subst (λ s. IsNone (entry_at c.args.site (atom_values c.args.key) s.entries)) (sym c.self.view_is) c.requires.absent in (
      put_fits i.capacity i.index c.put_in.new.index i.held.entries c.put_in.new.held.entries i.dropped (node_at c.args.site c.args.key) c.args.rows c.self.invariant.0 absent c.in_ok-put_in.ensures.ok
          (within _ _ (sym c.is_beyond.ensures ∙ c.if-is_beyond.false)),
      subst (λ n. i.capacity + 1 < n) (sym c.in_ok-put_in.ensures.cap) c.self.invariant.1,
    )

pub returns-then-is_beyond-clause-ok : goal.returns-then-is_beyond-clause-ok
returns-then-is_beyond-clause-ok c =
    let i = c.self.inside in
    let absent = subst (λ s. IsNone (entry_at c.args.site (atom_values c.args.key) s.entries)) (sym c.self.view_is) c.requires.absent in
    rw (← c.self.view_is) (ap (λ es. record (the_view i) { entries = es })
    (dropped_one i.capacity i.index c.put_in.new.index i.held.entries c.put_in.new.held.entries i.dropped (node_at c.args.site c.args.key) c.args.rows c.self.invariant.0 absent c.in_ok-put_in.ensures.ok c.drop_last.new.index
    c.drop_last.new.held.entries (beyond _ _ (sym c.is_beyond.ensures ∙ c.if-is_beyond.true)) c.drop_last.ensures.drops))

pub returns-else-is_beyond-clause-ok : goal.returns-else-is_beyond-clause-ok
returns-else-is_beyond-clause-ok c =
    let i = c.self.inside in
    let absent = subst (λ s. IsNone (entry_at c.args.site (atom_values c.args.key) s.entries)) (sym c.self.view_is) c.requires.absent in
    rw (← c.self.view_is) (ap (λ es. record (the_view i) { entries = es })
    (put_whole i.capacity i.index c.put_in.new.index i.held.entries c.put_in.new.held.entries i.dropped (node_at c.args.site c.args.key) c.args.rows c.self.invariant.0 absent c.in_ok-put_in.ensures.ok
    (within _ _ (sym c.is_beyond.ensures ∙ c.if-is_beyond.false))))
