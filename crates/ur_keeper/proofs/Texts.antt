-- Which schema the text of a store is read as.
use Rattle.std.proofs.Common.{◌≡◌, Bool, true, false, refl, sym, subst}
use Rattle.std.specs.Str.{bytes_eq}
use Rattle.std.proofs.lemmas.Slice.Eq.{bytes_eq-Decides}
use Rattle.std.proofs.lemmas.Bool.Decides.{not_from_Decides}
use Rattle.ur_values.specs.declared.schema.Schema.{Schema}
use Rattle.ur_values.specs.Extends.{extends}
use Rattle.ur_values.specs.SchemaText.{schema_text}
use Rattle.ur_values.proofs.Extending.{extends-itself}
use Rattle.ur_keeper.specs.Laws.{OwnTextsAreTaken, NamedTextsAreTaken, NamedTextsAreOther}

pub own-text : OwnTextsAreTaken
own-text schema tables = λ kept r. subst (λ (k : Schema). extends schema k ≡ true) (sym (r.own refl)) (extends-itself schema)

pub named-text : NamedTextsAreTaken
named-text schema kept tables named e =
    λ other r. by (bytes_eq (schema_text kept) (schema_text schema)) refl other r.own (λ apart. r.named apart kept named refl)
  where
    by : (b : Bool) → bytes_eq (schema_text kept) (schema_text schema) ≡ b → (other : Schema) → (schema_text kept ≡ schema_text schema → other ≡ schema)
        → ((schema_text kept ≡ schema_text schema → ⊥) → other ≡ kept)
        → extends schema other ≡ true
    by true is other own found =
        subst (λ (k : Schema). extends schema k ≡ true) (sym (own ((bytes_eq-Decides (schema_text kept) (schema_text schema)).0 is))) (extends-itself schema)
    by false is other own found =
        subst (λ (k : Schema). extends schema k ≡ true) (sym (found (not_from_Decides (bytes_eq (schema_text kept) (schema_text schema)) (bytes_eq-Decides (schema_text kept) (schema_text schema)) is))) e

pub other-text : NamedTextsAreOther
other-text schema kept tables named apart e = λ other r. subst (λ (k : Schema). extends schema k ≡ false) (sym (r.named apart kept named refl)) e
