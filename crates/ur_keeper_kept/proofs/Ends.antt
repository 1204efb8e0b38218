-- What is told before and after an `attach`.
use Rattle.std.proofs.Common.{◌≡◌, ℕ, Bool, true, false, List, Option, Some, None, option_map, refl, ap, sym, subst, ◌∙◌}
use Rattle.std.specs.Prelude.{IsSome}
use Rattle.std.proofs.lemmas.Bool.{false≢true}
use Rattle.ur_base.specs.Told.{WhereTold}
use Rattle.ur_values.specs.declared.schema.Schema.{Schema}
use Rattle.ur_keeper.specs.declared.keeper.Attached.{Attached}
use Rattle.ur_keeper.specs.declared.keeper.Attached.TheVariants.{Ready, Differs}
use Rattle.ur_keeper.specs.Tables.{Tables, KeptSchema, Keeps, AreSound, empty_tables}
use Rattle.ur_keeper.specs.Keeper.{AttachesTo}
use Rattle.ur_values.specs.Extends.{extends}
use Rattle.ur_keeper.specs.Growing.{grown_tables}
use Rattle.ur_keeper_bodies.specs.Bodies.{BodyMap}
use Rattle.ur_keeper_bodies.specs.declared.stored.Layout.{Layout}
use Rattle.ur_keeper_bodies.specs.declared.stored.Layout.TheVariants as layouts
use Rattle.ur_keeper_bodies.specs.Stored.{stored_text}
use Rattle.ur_keeper_kept.specs.Laid.{text_at, tables_in, tables_by}
use Rattle.ur_keeper_kept.specs.Kept.{no_changes, found_in, tables_found, kept_in, saved_in, IsPending, IsGoodFor}
use Rattle.ur_keeper_kept.specs.Attach.{IsSame, IsAnswer, IsTaken, Grows, Again, Reads, TakesFrom, Takes, HasTextOf, First, Starts, kept_after}
use Rattle.ur_keeper_kept.proofs.Attaching.{empty-sound}
use Rattle.ur_keeper_kept.proofs.Told.{told-one}

-- ---- what stays

good-told : (told told' : Option BodyMap) (s : Option Schema) → told' ≡ told → IsGoodFor s told no_changes → IsGoodFor s told' no_changes
good-told told told' s t good = subst (λ (o : Option BodyMap). IsGoodFor s o no_changes) (sym t) good

pub all-same : (first first' : Bool) (told told' : Option BodyMap) (s : Option Schema) → first' ≡ first → told' ≡ told → IsGoodFor s told no_changes
    → IsSame first first' told told' s s
all-same first first' told told' s f t good = record { good = good-told told told' s t good; saved = λ i. saved_in (f i) (t i) s; kept = λ i. kept_in (f i) (t i) s }

pub opened-same : (first first' opened : Bool) (told told' : Option BodyMap) (s : Option Schema) → first' ≡ first → WhereTold told (λ m. told' ≡ told)
    → (opened ≡ true → told' ≡ told)
    → (IsSome s → opened ≡ true) → (first ≡ true → IsSome told) → IsGoodFor s told no_changes → IsSame first first' told told' s s
opened-same first first' opened told told' (Some s) f w again opens law good = all-same first first' told told' (Some s) f (again (opens refl)) good
opened-same first first' opened (Some m) told' None f w again opens law good = all-same first first' (Some m) told' None f w good
opened-same true first' opened None told' None f w again opens law good = absurd (false≢true (law refl))
opened-same false first' opened None told' None f w again opens law good =
    record { good = refl; saved = ap (λ b. saved_in b told' None) f; kept = ap (λ b. kept_in b told' None) f }

-- ---- a store that has grown

grown-told : (layout : Layout) (schema kept : Schema) (old new : Option BodyMap) → Grows layout schema kept old new
    → option_map (tables_in schema) new ≡ option_map (λ m. grown_tables schema kept (tables_by layout kept m)) old
grown-told layout schema kept None new h = ap (option_map (tables_in schema)) h
grown-told layout schema kept (Some m) new h = ap (option_map (tables_in schema)) h.1 ∙ ap Some h.3

grown-sound-told : (layout : Layout) (schema kept : Schema) (old new : Option BodyMap) → Grows layout schema kept old new
    → WhereTold (option_map (tables_in schema) new) (AreSound schema)
grown-sound-told layout schema kept None new h = subst (λ (o : Option BodyMap). WhereTold (option_map (tables_in schema) o) (AreSound schema)) (sym h) tt
grown-sound-told layout schema kept (Some m) new h =
    subst (λ (o : Option BodyMap). WhereTold (option_map (tables_in schema) o) (AreSound schema)) (sym h.1) h.2.sound

grown-good-told : (layout : Layout) (schema kept : Schema) (old new : Option BodyMap) → Grows layout schema kept old new
    → WhereTold new (λ m. IsPending schema m no_changes)
grown-good-told layout schema kept None new h = subst (λ (o : Option BodyMap). WhereTold o (λ m. IsPending schema m no_changes)) (sym h) tt
grown-good-told layout schema kept (Some m) new h = subst (λ (o : Option BodyMap). WhereTold o (λ m. IsPending schema m no_changes)) (sym h.1) h.2.pending

-- ---- a store with a known schema

twice : (schema known : Schema) (old : Option BodyMap)
    → option_map (λ m. grown_tables schema known (tables_by layouts.Two known m)) old ≡ option_map (grown_tables schema known) (option_map (tables_in known) old)
twice schema known None = refl
twice schema known (Some m) = refl

pub again-is : (schema known : Schema) (answer : Attached) (first first' : Bool) (told told' : Option BodyMap) (kept : Option Schema) → first' ≡ first
    → IsGoodFor (Some known) told no_changes → Again known schema answer told told'
    → kept ≡ kept_after schema (Some known) answer → IsAnswer schema answer first first' told told' (Some known) kept
again-is schema known Ready first first' told told' kept f good h k =
    subst (λ (o : Option Schema). IsAnswer schema Ready first first' told told' (Some known) o) (sym k) record {
      attaches_to = (h.0, grown-told layouts.Two schema known told told' h.1 ∙ twice schema known told);
      attaches = refl;
      sound = grown-sound-told layouts.Two schema known told told' h.1;
      good = grown-good-told layouts.Two schema known told told' h.1;
    }
again-is schema known (Differs other) first first' told told' kept f good h k =
    subst (λ (o : Option Schema). IsAnswer schema (Differs other) first first' told told' (Some known) o) (sym k) record {
      attaches_to = (h.0, h.1, ap (option_map (tables_in known)) h.2);
      attaches = (subst (λ (s : Schema). extends schema s ≡ false) (sym h.0) h.1, ap (option_map (tables_in known)) h.2, refl);
      sound = tt;
      good = good-told told told' (Some known) h.2 good;
    }

-- ---- a store of which nothing was known

taken-sound : (schema : Schema) (m : BodyMap) → IsTaken schema m → AreSound schema (tables_in schema m)
taken-sound schema m h = h.sound

saved-of : (schema : Schema) (told after : Option BodyMap) (m : BodyMap) → told ≡ Some m → saved_in true told (Some schema) ≡ Some (tables_in schema m)
saved-of schema told after m e = ap (option_map (tables_in schema)) e

-- `told` before the `open`, `now` after it, `after` at the end
pub ready-is : (schema : Schema) (first first' : Bool) (told now after : Option BodyMap) → IsSame first first told now None None → (first ≡ true → IsSome now)
    → Takes schema now after
    → IsAnswer schema Ready first first' told after None (Some schema)
ready-is schema first first' told now after same law h =
    let kept : kept_in first now None ≡ kept_in first told None = same.kept in
    record {
      attaches_to = told-is first now law h told same;
      attaches = refl;
      sound = sound-is now h;
      good = good-is now h;
    }
  where
    sound-is : (now : Option BodyMap) → Takes schema now after → WhereTold (option_map (tables_in schema) after) (AreSound schema)
    sound-is None h = subst (λ (o : Option BodyMap). WhereTold (option_map (tables_in schema) o) (AreSound schema)) (sym h) tt
    sound-is (Some m) h = subst (λ (o : Option BodyMap). WhereTold (option_map (tables_in schema) o) (AreSound schema)) (sym h.1) h.2.sound

    good-is : (now : Option BodyMap) → Takes schema now after → WhereTold after (λ m. IsPending schema m no_changes)
    good-is None h = subst (λ (o : Option BodyMap). WhereTold o (λ m. IsPending schema m no_changes)) (sym h) tt
    good-is (Some m) h = subst (λ (o : Option BodyMap). WhereTold o (λ m. IsPending schema m no_changes)) (sym h.1) h.2.pending

    from-text : (text : Option (List ℕ)) (m end : BodyMap) → after ≡ Some end → TakesFrom schema m end text
        → AttachesTo schema (found_in m text) Ready (tables_found text) (option_map (tables_in schema) after)
    from-text None m end e h = ap (option_map (tables_in schema)) e ∙ ap Some h
    from-text (Some stored) m end e h = (h.0, h.1, h.2, ap (option_map (tables_in schema)) e ∙ ap Some h.3)

    here : (first : Bool) (now : Option BodyMap) → (first ≡ true → IsSome now) → Takes schema now after
        → AttachesTo schema (kept_in first now None) Ready (saved_in first now None) (option_map (tables_in schema) after)
    here false now law h = tt
    here true None law h = tt
    here true (Some m) law h = from-text (text_at m) m h.0 h.1 h.3

    told-is : (first : Bool) (now : Option BodyMap) → (first ≡ true → IsSome now) → Takes schema now after → (told : Option BodyMap)
        → IsSame first first told now None None
        → AttachesTo schema (kept_in first told None) Ready (saved_in first told None) (option_map (tables_in schema) after)
    told-is first now law h told same =
        subst (λ (q : KeptSchema × Option Tables). AttachesTo schema q.0 Ready q.1 (option_map (tables_in schema) after)) (λ i. (same.kept i, same.saved i)) (here first now law h)

pub differs-is : (schema other : Schema) (first first' : Bool) (told now after : Option BodyMap) → IsSame first first told now None None → first' ≡ first
    → extends schema other ≡ false → after ≡ now → WhereTold now (λ m. HasTextOf schema other (text_at m))
    → IsAnswer schema (Differs other) first first' told after None None
differs-is schema other first first' told now after same f differs e text =
    let back = all-same first first' now after None f e refl in
    record {
      attaches_to =
          subst (λ (q : KeptSchema × Option Tables). AttachesTo schema q.0 (Differs other) q.1 (saved_in first' after None)) (λ i. (same.kept i, same.saved i)) (here first now text back.saved);
      attaches = (differs, back.saved ∙ same.saved, back.kept ∙ same.kept);
      sound = tt;
      good = refl;
    }
  where
    from-text : (text : Option (List ℕ)) (m : BodyMap) → HasTextOf schema other text → saved_in first' after None ≡ tables_found text
        → AttachesTo schema (found_in m text) (Differs other) (tables_found text) (saved_in first' after None)
    from-text None m h e = absurd h
    from-text (Some stored) m h e = (h, differs, e)

    here : (first : Bool) (now : Option BodyMap) → WhereTold now (λ m. HasTextOf schema other (text_at m))
        → saved_in first' after None ≡ saved_in first now None
        → AttachesTo schema (kept_in first now None) (Differs other) (saved_in first now None) (saved_in first' after None)
    here false now text e = tt
    here true None text e = tt
    here true (Some m) text e = from-text (text_at m) m text e

-- ---- the parts of an `attach_first`

pub started-takes : (schema : Schema) (old new : Option BodyMap) → WhereTold old (λ m. None ≡ text_at m) → Starts schema old new → Takes schema old new
started-takes schema None new none h = h
started-takes schema (Some m) new none h = (
  h.0,
  h.1,
  record { pending = h.2.pending; sound = subst (λ (t : Tables). AreSound schema t) (sym h.2.tables) (empty-sound schema) },
  subst (λ (o : Option (List ℕ)). TakesFrom schema m h.0 o) none h.2.tables,
)

pub read-first : (schema : Schema) (stored : List ℕ) (answer : Attached) (old new : Option BodyMap) → WhereTold old (λ m. Some stored ≡ text_at m)
    → Reads schema stored answer old new → First schema answer old new
read-first schema stored Ready None new text h = h.3
read-first schema stored Ready (Some m) new text h =
    (h.3.0, h.3.1, h.3.2, subst (λ (o : Option (List ℕ)). TakesFrom schema m h.3.0 o) text (h.0, h.1, h.2, h.3.3))
read-first schema stored (Differs other) None new text h = (h.1, h.2, tt)
read-first schema stored (Differs other) (Some m) new text h = (h.1, h.2, subst (λ (o : Option (List ℕ)). HasTextOf schema other o) text h.0)

-- ---- the parts of an `attach_to`

-- `now` after the `open`, `copy` the known schema
pub again-answers : (schema known copy : Schema) (answer : Attached) (first first' : Bool) (told now after : Option BodyMap) (s kept : Option Schema)
    → s ≡ Some known → copy ≡ known → first' ≡ first → now ≡ told → IsGoodFor s told no_changes → Again copy schema answer now after
    → kept ≡ kept_after schema (Some copy) answer → IsAnswer schema answer first first' told after s kept
again-answers schema known copy answer first first' told now after s kept is same f e good h k =
    let whole : s ≡ Some copy = is ∙ ap Some (sym same) in
    subst (λ (o : Option Schema). IsAnswer schema answer first first' told after o kept) (sym whole)
    (again-is schema copy answer first first' told after kept f (subst (λ (o : Option Schema). IsGoodFor o told no_changes) whole good)
    (subst (λ (o : Option BodyMap). Again copy schema answer o after) e h) k)

pub again-same : (known copy : Schema) (first first' : Bool) (told now after : Option BodyMap) (s kept : Option Schema) → s ≡ Some known → copy ≡ known
    → first' ≡ first → now ≡ told → after ≡ now → kept ≡ Some copy → IsGoodFor s told no_changes → IsSame first first' told after s kept
again-same known copy first first' told now after s kept is same f e a k good =
    subst (λ (o : Option Schema). IsSame first first' told after s o) (sym (k ∙ ap Some same ∙ sym is)) (all-same first first' told after s f (a ∙ e) good)

pub again-text : (known copy : Schema) (told now : Option BodyMap) (s : Option Schema) → s ≡ Some known → copy ≡ known → now ≡ told
    → IsGoodFor s told no_changes → WhereTold now (λ m. text_at m ≡ Some (stored_text copy))
again-text known copy told now s is same e good =
    let whole : s ≡ Some copy = is ∙ ap Some (sym same) in
    subst (λ (o : Option BodyMap). WhereTold o (λ m. text_at m ≡ Some (stored_text copy))) (sym e)
    (told-one told (λ (m : BodyMap). IsPending copy m no_changes) (λ (m : BodyMap). text_at m ≡ Some (stored_text copy))
    (subst (λ (o : Option Schema). IsGoodFor o told no_changes) whole good) (λ m p. p.good.text))

-- `mid` and `now` after the `open`
module _ (first mid first' : Bool) (told now after : Option BodyMap) (fm : mid ≡ first) (fe : first' ≡ mid) (w : WhereTold told (λ m. now ≡ told))
    (law : first ≡ true → IsSome told) (law' : mid ≡ true → IsSome now) where
  open-same : IsSame first first told now None None
  open-same = opened-same first first false told now None refl w (λ e. absurd (false≢true e)) (λ e. absurd (false≢true e)) law refl

  answered-so : (schema : Schema) (answer : Attached) → First schema answer now after
      → IsAnswer schema answer first first' told after None (kept_after schema None answer)
  answered-so schema Ready h = ready-is schema first first' told now after open-same (λ e. law' (fm ∙ e)) h
  answered-so schema (Differs other) h = differs-is schema other first first' told now after open-same (fe ∙ fm) h.0 h.1 h.2

  pub first-answers : (schema : Schema) (answer : Attached) (s kept : Option Schema) → s ≡ None → First schema answer now after
      → kept ≡ kept_after schema None answer → IsAnswer schema answer first first' told after s kept
  first-answers schema answer s kept none h k =
      subst (λ (o : Option Schema). IsAnswer schema answer first first' told after o kept) (sym none)
      (subst (λ (o : Option Schema). IsAnswer schema answer first first' told after None o) (sym k) (answered-so schema answer h))

  same-none : after ≡ now → IsSame first first' told after None None
  same-none a =
      let end = all-same mid first' now after None fe a refl in
      record {
        saved = end.saved ∙ ap (λ (b : Bool). saved_in b now None) fm ∙ open-same.saved;
        kept = end.kept ∙ ap (λ (b : Bool). kept_in b now None) fm ∙ open-same.kept;
        good = refl;
      }

  pub first-same : (s kept : Option Schema) → s ≡ None → after ≡ now → kept ≡ None → IsSame first first' told after s kept
  first-same s kept none a k =
      subst (λ (o : Option Schema). IsSame first first' told after o kept) (sym none)
      (subst (λ (o : Option Schema). IsSame first first' told after None o) (sym k) (same-none a))
