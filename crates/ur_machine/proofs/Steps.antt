-- Steps of the list of entries, one after the other.
use Rattle.std.proofs.Common.{◌≡◌, ℕ, zero, suc, ◌+◌, List, [], ◌∷◌, ◌++◌, Option, Some, None, slice_get, length, refl, sym, ap, ap₂, subst, ◌∙◌, arith}
use Rattle.std.specs.List.{fold}
use Rattle.ur_base.specs.Counts.{next_count}
use Rattle.ur_values.specs.declared.value.Value.{Value}
use Rattle.ur_values.specs.Event.{Event, Ask, Write}
use Rattle.ur_sql.specs.declared.query.Query.{Query}
use Rattle.ur_conditions.specs.declared.patterns.Patterns.{Patterns}
use Rattle.ur_cache.specs.Entries.{Entry, Cached, hit, looked_up, kept, masked}
use Rattle.ur_cache.specs.Cached.{Sites, Tally, asked, stepped, after_events}
use Rattle.ur_code.specs.declared.code.Code.{Code}
use Rattle.ur_machine.specs.Answers.{Follows, scanned, sites_of, items_in}
use Rattle.ur_machine.specs.Laws.{StepsJoin}

tally : Cached → ℕ → Tally
tally list scans = record { list = list; scans = scans }

-- ---- scans add up

module _ (sites : Sites) where
  one_step : (l : Cached) (n : ℕ) (e : Event) → stepped sites (record { list = l; scans = n }) e ≡ record { list = (stepped sites (record { list = l; scans = 0 }) e).list; scans = n + (stepped sites (record { list = l; scans = 0 }) e).scans }
  one_step l n (Ask site key rows) = go (hit l site key)
    where
      ent : Entry
      ent = record { site = site; key = key; rows = rows }

      go : (o : Option Entry) → asked sites (record { list = l; scans = n }) ent o ≡ record { list = (asked sites (record { list = l; scans = 0 }) ent o).list; scans = n + (asked sites (record { list = l; scans = 0 }) ent o).scans }
      go None = ap (λ (k : ℕ). record { list = kept l ent; scans = k }) (omega arith)
      go (Some found) = ap (λ (k : ℕ). record { list = looked_up l site key; scans = k }) (omega arith)
  one_step l n (Write update args) = ap (λ (k : ℕ). record { list = masked l (sites.masks update args); scans = k }) (omega arith)

  all_steps : (es : List Event) (l : Cached) (n : ℕ) → fold (stepped sites) (record { list = l; scans = n }) es ≡ record { list = (after_events sites l es).list; scans = n + (after_events sites l es).scans }
  all_steps [] l n = ap (λ (k : ℕ). record { list = l; scans = k }) (omega arith)
  all_steps (e ∷ es) l n =
      let one : Tally = stepped sites (record { list = l; scans = 0 }) e in
      let rest : Tally = after_events sites one.list es in
      ap (λ s. fold (stepped sites) s es) (one_step l n e)
      ∙ all_steps es one.list (n + one.scans)
      ∙ ap (λ (k : ℕ). record { list = rest.list; scans = k }) (omega arith)
      ∙ sym (ap (λ (s : Tally). record { list = s.list; scans = n + s.scans }) (all_steps es one.list one.scans))

  joined : (es fs : List Event) (s : Tally) → fold (stepped sites) s (es ++ fs) ≡ fold (stepped sites) (fold (stepped sites) s es) fs
  joined [] fs s = refl
  joined (e ∷ es) fs s = joined es fs (stepped sites s e)

  pub after_both : (es fs : List Event) (l : Cached) → after_events sites l (es ++ fs)
      ≡ record { list = (after_events sites (after_events sites l es).list fs).list; scans = (after_events sites l es).scans + (after_events sites (after_events sites l es).list fs).scans }
  after_both es fs l =
      let first : Tally = after_events sites l es in
      joined es fs (record { list = l; scans = 0 }) ∙ all_steps fs first.list first.scans

pub scanned_more : (m n reads : ℕ) → scanned (m + n) reads ≡ scanned n (scanned m reads)
scanned_more m zero reads = ap (λ k. scanned k reads) (omega arith)
scanned_more m (suc n) reads =
    let next : m + suc n ≡ suc (m + n) = omega arith in
    ap (λ k. scanned k reads) next ∙ ap next_count (scanned_more m n reads)

pub steps_join : (code : Code) → StepsJoin code
steps_join code patterns c c₁ c₂ reads reads₁ reads₂ es fs first second =
    let sites = sites_of code patterns in
    let one = after_events sites c es in
    let both = after_both sites es fs c in
    let from : after_events sites c₁ fs ≡ after_events sites one.list fs = ap (λ l. after_events sites l fs) first.0 in (
      second.0 ∙ ap (λ (s : Tally). s.list) from ∙ sym (ap (λ (s : Tally). s.list) both),
      second.1 ∙ ap₂ (λ (s : Tally) (r : ℕ). scanned s.scans r) from first.1
          ∙ sym (scanned_more one.scans (after_events sites one.list fs).scans reads)
          ∙ sym (ap (λ (s : Tally). scanned s.scans reads) both),
    )

-- ---- the step of a query

module _ (code : Code) (patterns : Patterns) (c : Cached) (site : ℕ) (key rows : List Value) (reads : ℕ) where
  -- that is found
  pub hit_step : (e : Entry) → hit c site key ≡ Some e → Follows (sites_of code patterns) c (looked_up c site key) reads reads (Ask site key rows ∷ [])
  hit_step e found = subst (λ (s : Tally). (looked_up c site key ≡ s.list) × (reads ≡ scanned s.scans reads))
      (sym (ap (asked (sites_of code patterns) (record { list = c; scans = 0 }) (record { site = site; key = key; rows = rows })) found)) (refl, refl)

  -- that is read
  pub read_step : (q : Query) → slice_get code.queries site ≡ Some q → hit c site key ≡ None
      → Follows (sites_of code patterns) c (kept c (record { site = site; key = key; rows = rows })) reads (scanned (length q.from) reads) (Ask site key rows ∷ [])
  read_step q at missed = subst (λ (s : Tally). (kept c (record { site = site; key = key; rows = rows }) ≡ s.list) × (scanned (length q.from) reads ≡ scanned s.scans reads))
      (sym (ap (asked (sites_of code patterns) (record { list = c; scans = 0 }) (record { site = site; key = key; rows = rows })) missed))
      (refl, ap (λ n. scanned n reads) (count (slice_get code.queries site) at))
    where
      count : (o : Option Query) → o ≡ Some q → length q.from ≡ 0 + items_in o
      count o e = ap items_in (sym e) ∙ zero_more (items_in o)
        where
          zero_more : (n : ℕ) → n ≡ 0 + n
          zero_more n = omega arith
