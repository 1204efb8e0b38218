use Rattle.std.proofs.Common.{◌+◌, ◌<◌, refl, sym, subst, ap, ◌∙◌}
use Rattle.ur_values.specs.Atom.{atom_values}
use Rattle.ur_cache.specs.Held.{entries_of, IsKept}
use Rattle.ur_cache.specs.contracts.cache.Cache.{the_view}
use Rattle.ur_cache.proofs.Recency.{entry_absent, rows_there, to_front_there, IsKept-promoted, missed, missed_rows, found, found_rows}
use Rattle.ur_cache.proofs.cache.Cache.lookup.Goals as goal

pub invariant_of-self-in-Some : goal.invariant_of-self-in-Some
invariant_of-self-in-Some c =
    let i = c.self.inside in (
      subst (λ l. IsKept i.capacity i.index l.entries i.dropped) (sym c.get_to_front.follows.holds-at-none) (IsKept-promoted i.capacity i.index i.held.entries i.dropped c.in-Some.id.number c.self.invariant.0),
      subst (λ l. i.capacity + 1 < l.cap) (sym c.get_to_front.follows.holds-at-none) c.self.invariant.1,
    )

pub returns-in-None : goal.returns-in-None
returns-in-None c =
    let v = the_view c.self.inside in
    let site = c.args.site in
    let key = atom_values c.args.key.now in
    let unmasked = sym c.masked.ensures ∙ c.if-masked.false in
    let none = entry_absent c.self.inside.index c.self.inside.held.entries c.self.invariant.0.kept site c.args.key.now c.in-None.ensures in
    rw (← c.self.view_is) ((refl, λ _. tt, missed v site key unmasked none), record { front = tt; rows = missed_rows v site key unmasked none })

pub returns-in-Some : goal.returns-in-Some
returns-in-Some c =
    let v = the_view c.self.inside in
    let site = c.args.site in
    let key = atom_values c.args.key.now in
    let i = c.self.inside in
    let unmasked = sym c.masked.ensures ∙ c.if-masked.false in
    let front = ap (λ l. entries_of i.index l.entries) c.get_to_front.follows.holds-at-none ∙ to_front_there i.index i.held.entries c.self.invariant.0.kept site c.args.key.now c.in-Some.id.number c.in-Some.ensures in
    let rows = c.get_to_front.ensures.value ∙ rows_there i.index i.held.entries c.self.invariant.0.kept site c.args.key.now c.in-Some.id.number c.in-Some.ensures in
    rw (← c.self.view_is) ((refl, λ _. tt, found v site key unmasked (entries_of i.index c.get_to_front.follows.lender-at-none.entries) front), record { front = tt; rows = found_rows v site key unmasked _ rows })
