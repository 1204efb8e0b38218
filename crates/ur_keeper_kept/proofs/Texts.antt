-- Which schema the text of a store is read as, and what is answered then.
use Rattle.std.proofs.Common.{◌≡◌, ◌≢◌, ℕ, true, false, List, Option, Some, None, IfSome, IfNone, refl, ap, sym, subst, ◌∙◌}
use Rattle.std.specs.Prelude.{unwrap_or}
use Rattle.ur_base.specs.Told.{WhereTold}
use Rattle.ur_values.specs.declared.schema.Schema.{Schema}
use Rattle.ur_values.specs.Named.{IsNamed}
use Rattle.ur_values.specs.SchemaText.{schema_text}
use Rattle.ur_values.specs.Extends.{extends}
use Rattle.ur_keeper.specs.Keeper.{IsReadAs}
use Rattle.ur_keeper.specs.declared.keeper.Attached.TheVariants.{Ready, Differs}
use Rattle.ur_keeper_bodies.specs.declared.stored.Layout.{Layout}
use Rattle.ur_keeper_bodies.specs.declared.stored.Layout.TheVariants as layouts
use Rattle.ur_keeper_bodies.specs.Stored.{stored_text, parted}
use Rattle.ur_keeper_bodies.specs.Bodies.{BodyMap}
use Rattle.ur_keeper_kept.specs.Laid.{text_at}
use Rattle.ur_keeper_kept.specs.Attach.{IsKeptText, IsSoundStore, Grows, Again, Reads}
use Rattle.ur_keeper_kept.specs.Faults.{IsFaultyStore}
use Rattle.ur_keeper_kept.proofs.Faulty.{unsound-faulty, no-schema}
use Rattle.ur_keeper_kept.proofs.Told.{told-one, told-two}

-- ---- what a text is read as

pub read-own : (schema copy : Schema) (text : List ℕ) → text ≡ schema_text schema → copy ≡ schema → IsReadAs schema text copy
read-own schema copy text is same = record { spells = is ∙ ap schema_text (sym same); own = λ _. same; named = λ apart. absurd (apart is) }

some-same : (x y : Schema) → Some x ≡ Some y → x ≡ y
some-same x y e = ap (λ o. unwrap_or o x) e

pub read-found : (schema s : Schema) (text : List ℕ) (found : Option Schema) → found ≡ Some s → schema_text s ≡ text → text ≢ schema_text schema
    → ((x : Schema) → IsNamed x → text ≡ schema_text x → found ≡ Some x) → IsReadAs schema text s
read-found schema s text found is of apart named = record {
  spells = sym of;
  own = λ e. absurd (apart e);
  named = λ _ other n e. some-same s other (sym is ∙ named other n e);
}

none-some : (x : Schema) → None ≡ Some x → ⊥
none-some x p = cc

pub read-none : (schema : Schema) (text : List ℕ) (found : Option Schema) → found ≡ None → text ≢ schema_text schema
    → ((x : Schema) → IsNamed x → text ≡ schema_text x → found ≡ Some x)
    → (text ≢ schema_text schema) × ((x : Schema) → IsNamed x → text ≢ schema_text x)
read-none schema text found is apart named = (apart, λ x n e. none-some x (sym is ∙ named x n e))

pub read-some : (schema : Schema) (text : List ℕ) (found : Option Schema) → IfSome found (λ s. schema_text s ≡ text) → text ≢ schema_text schema
    → ((x : Schema) → IsNamed x → text ≡ schema_text x → found ≡ Some x) → IfSome found (IsReadAs schema text)
read-some schema text None of apart named = tt
read-some schema text (Some s) of apart named = read-found schema s text (Some s) refl of apart named

pub read-nothing : (schema : Schema) (text : List ℕ) (found : Option Schema) → text ≢ schema_text schema
    → ((x : Schema) → IsNamed x → text ≡ schema_text x → found ≡ Some x)
    → IfNone found ((text ≢ schema_text schema) × ((x : Schema) → IsNamed x → text ≢ schema_text x))
read-nothing schema text None apart named = read-none schema text None refl apart named
read-nothing schema text (Some s) apart named = tt

-- ---- the text of a store

pub text-kept : (kept : Schema) (layout : Layout) (stored text : List ℕ) (told : Option BodyMap) → (layout, text) ≡ parted stored → text ≡ schema_text kept
    → WhereTold told (λ m. Some stored ≡ text_at m)
    → WhereTold told (IsKeptText layout kept)
text-kept kept layout stored text told p is h =
    told-one told (λ (m : BodyMap). Some stored ≡ text_at m) (IsKeptText layout kept) h (λ m t. (stored, sym t, sym p ∙ ap (λ (x : List ℕ). (layout, x)) is))

pub known-kept : (known : Schema) (old now : Option BodyMap) → now ≡ old → WhereTold old (λ m. text_at m ≡ Some (stored_text known))
    → WhereTold now (IsKeptText layouts.Two known)
known-kept known old now same h =
    subst (λ (o : Option BodyMap). WhereTold o (IsKeptText layouts.Two known)) (sym same)
    (told-one old (λ (m : BodyMap). text_at m ≡ Some (stored_text known)) (IsKeptText layouts.Two known) h (λ m t. (stored_text known, t, refl)))

-- ---- what is answered

pub reads-ready : (schema kept : Schema) (layout : Layout) (stored text : List ℕ) (old new : Option BodyMap) → (layout, text) ≡ parted stored
    → IsReadAs schema text kept → extends schema kept ≡ true
    → Grows layout schema kept old new → Reads schema stored Ready old new
reads-ready schema kept layout stored text old new p r e g = (
  kept,
  subst (λ (q : Layout × List ℕ). IsReadAs schema q.1 kept) p r,
  e,
  subst (λ (q : Layout × List ℕ). Grows q.0 schema kept old new) p g,
)

pub reads-differs : (schema other : Schema) (layout : Layout) (stored text : List ℕ) (old new : Option BodyMap) → (layout, text) ≡ parted stored
    → IsReadAs schema text other → extends schema other ≡ false → new ≡ old
    → Reads schema stored (Differs other) old new
reads-differs schema other layout stored text old new p r e same = (subst (λ (q : Layout × List ℕ). IsReadAs schema q.1 other) p r, e, same)

pub again-ready : (known schema : Schema) (old mid new : Option BodyMap) → mid ≡ old → extends schema known ≡ true → Grows layouts.Two schema known mid new
    → Again known schema Ready old new
again-ready known schema old mid new same e g = (e, subst (λ (o : Option BodyMap). Grows layouts.Two schema known o new) same g)

pub again-differs : (known schema other : Schema) (old new : Option BodyMap) → other ≡ known → extends schema known ≡ false → new ≡ old
    → Again known schema (Differs other) old new
again-differs known schema other old new is e same = (is, e, same)

-- ---- why it is a fault

pub known-faulty : (s known : Schema) (old now : Option BodyMap) → now ≡ old → extends s known ≡ true → WhereTold old (λ m. text_at m ≡ Some (stored_text known))
    → WhereTold now (λ m. IsSoundStore layouts.Two known m → ⊥) → WhereTold old (IsFaultyStore s)
known-faulty s known old now same e text h =
    unsound-faulty layouts.Two s known old e (subst (λ (o : Option BodyMap). WhereTold o (IsKeptText layouts.Two known)) same (known-kept known old now same text))
    (subst (λ (o : Option BodyMap). WhereTold o (λ m. IsSoundStore layouts.Two known m → ⊥)) same h)

pub text-faulty : (s kept : Schema) (layout : Layout) (stored text : List ℕ) (told : Option BodyMap) → (layout, text) ≡ parted stored → IsReadAs s text kept
    → extends s kept ≡ true → WhereTold told (λ m. Some stored ≡ text_at m) → WhereTold told (λ m. IsSoundStore layout kept m → ⊥) → WhereTold told (IsFaultyStore s)
text-faulty s kept layout stored text told p r e h unsound = unsound-faulty layout s kept told e (text-kept kept layout stored text told p r.spells h) unsound

pub unread-faulty : (s : Schema) (layout : Layout) (stored text : List ℕ) (told : Option BodyMap) → (layout, text) ≡ parted stored
    → (text ≢ schema_text s) × ((x : Schema) → IsNamed x → text ≢ schema_text x) → WhereTold told (λ m. Some stored ≡ text_at m) → WhereTold told (IsFaultyStore s)
unread-faulty s layout stored text told p other h =
    let is : text ≡ (parted stored).1 = ap (λ (q : Layout × List ℕ). q.1) p in
    no-schema s told stored (λ e. other.0 (is ∙ e)) (λ x n e. other.1 x n (is ∙ e)) h

-- a store that has not the text of the schema that it is known to keep
pub not-its-text : (s known : Schema) (text : List ℕ) (stored : Option (List ℕ)) (old now : Option BodyMap) → text ≡ stored_text known
    → (stored ≡ Some text → ⊥) → WhereTold old (λ m. stored ≡ text_at m) → WhereTold old (λ m. text_at m ≡ Some (stored_text known)) → now ≡ old
    → WhereTold now (IsFaultyStore s)
not-its-text s known text stored old now is apart read there same =
    subst (λ (o : Option BodyMap). WhereTold o (IsFaultyStore s)) (sym same)
    (told-two old (λ (m : BodyMap). stored ≡ text_at m) (λ (m : BodyMap). text_at m ≡ Some (stored_text known)) (IsFaultyStore s) read there
    (λ m r t. absurd (apart (r ∙ t ∙ ap Some (sym is)))))
