-- What the text of a store tells of its layout.
use Rattle.std.proofs.Common.{◌≡◌, ◌≢◌, ℕ, Bool, true, false, true≢false, cond, ◌==◌, eqb-true, List, [], ◌∷◌, ◌++◌, Option, Some, None, refl, ap, ap₂, sym, ◌∙◌}
use Rattle.ur_values.specs.declared.schema.TableShape.{TableShape}
use Rattle.ur_values.specs.declared.schema.Schema.{Schema}
use Rattle.ur_values.specs.SchemaText.{tables_text, sequences_text, schema_text}
use Rattle.ur_keeper_bodies.specs.declared.stored.Layout.{Layout}
use Rattle.ur_keeper_bodies.specs.declared.stored.Layout.TheVariants as layouts
use Rattle.ur_keeper_bodies.specs.Stored.{layout_line, stored_text, behind_line, parted_by, parted, TextsTellLayouts}

-- what stands behind a line begins with it
behind-is : (line bytes rest : List ℕ) → behind_line line bytes ≡ Some rest → bytes ≡ line ++ rest
behind-is [] bytes rest e = let same : bytes ≡ rest = cc in same
behind-is (c ∷ line) [] rest e = cc
behind-is (c ∷ line) (b ∷ bytes) rest e = go (b == c) refl e (λ f. behind-is line bytes rest f)
  where
    go : (t : Bool) → (b == c) ≡ t → cond t (behind_line line bytes) None ≡ Some rest → (behind_line line bytes ≡ Some rest → bytes ≡ line ++ rest)
        → b ∷ bytes ≡ c ∷ line ++ rest
    go true same f more = ap₂ (λ (x : ℕ) (xs : List ℕ). x ∷ xs) (eqb-true b c same) (more f)
    go false same f more = cc

pub parted-two : (bytes rest : List ℕ) → bytes ≡ layout_line ++ rest → parted bytes ≡ (layouts.Two, rest)
parted-two bytes rest e = ap parted e

pub parted-one : (bytes : List ℕ) → ((rest : List ℕ) → bytes ≢ layout_line ++ rest) → parted bytes ≡ (layouts.One, bytes)
parted-one bytes other = go (behind_line layout_line bytes) refl
  where
    go : (o : Option (List ℕ)) → behind_line layout_line bytes ≡ o → parted_by bytes o ≡ (layouts.One, bytes)
    go None e = refl
    go (Some rest) e = absurd (other rest (behind-is layout_line bytes rest e))

abbrev is-first : Layout → Bool
is-first layouts.One = true
is-first layouts.Two = false

-- a text of the second layout begins with the line
pub parted-back : (bytes text : List ℕ) → parted bytes ≡ (layouts.Two, text) → bytes ≡ layout_line ++ text
parted-back bytes text e = go (behind_line layout_line bytes) refl e
  where
    go : (o : Option (List ℕ)) → behind_line layout_line bytes ≡ o → parted_by bytes o ≡ (layouts.Two, text) → bytes ≡ layout_line ++ text
    go None is f = absurd (true≢false (ap (λ (p : Layout × List ℕ). is-first p.0) f))
    go (Some rest) is f = behind-is layout_line bytes rest is ∙ ap (λ (p : Layout × List ℕ). layout_line ++ p.1) f

-- ---- a text of one layout is none of the other

-- the text begins as the line does
abbrev begins : List ℕ → Bool
begins [] = false
begins (b ∷ bytes) = b == 108

other-head : (tables : List TableShape) (sequences : List (List ℕ)) (rest : List ℕ) → tables_text tables ++ sequences_text sequences ≡ layout_line ++ rest → ⊥
other-head [] [] rest e = true≢false (ap begins (sym e))
other-head [] (s ∷ ss) rest e = true≢false (ap begins (sym e))
other-head (t ∷ ts) ss rest e = true≢false (ap begins (sym e))

pub texts-tell : TextsTellLayouts
texts-tell schema = (parted-two (stored_text schema) (schema_text schema) refl, parted-one (schema_text schema) (λ rest e. other-head schema.tables schema.sequences rest e))
