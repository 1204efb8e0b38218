-- Pieces that are written one after the other.
use Rattle.std.proofs.Common.{◌≡◌, ◌∙◌, ℕ, List, [], ◌++◌, codes, ap, sym}
use mathlib.Core.List.{append_assoc}
use Rattle.ur_rows.specs.declared.normal.Var.{Var}
use Rattle.ur_rows.specs.declared.normal.Label.{Label}
use Rattle.ur_rows.specs.declared.normal.NormalType.{NormalType}
use Rattle.ur_rows.specs.declared.normal.NormalType.TheVariants as ty
use Rattle.ur_rows.specs.declared.normal.Part.{Part}
use Rattle.ur_rows.specs.declared.normal.Part.TheVariants as part
use Rattle.ur_tree.specs.Text.{Names, var_text, label_text, wrapped, type_text, part_text}
use Rattle.ur_tree.proofs.Equations.{type_text-Arrow, part_text-Field, part_text-Mapped}

-- a type in parentheses
abbrev around : Names → NormalType → List ℕ
around names t = wrapped (type_text names t)

written : (out p q a b : List ℕ) → p ≡ out ++ a → q ≡ p ++ b → q ≡ out ++ (a ++ b)
written out p q a b first second = second ∙ ap (λ o. o ++ b) first ∙ append_assoc out a b

regrouped : (a b c d : List ℕ) → ((a ++ b) ++ c) ++ d ≡ a ++ (b ++ (c ++ d))
regrouped a b c d = simp append_assoc

pub field-written : (names : Names) (out p q : List ℕ) (l : Label) (t g : NormalType) (x : Part) → x ≡ part.Field l t → g ≡ t → p ≡ out ++ label_text l →
    q ≡ p ++ (codes " = " ++ around names g) → q ≡ out ++ part_text names x
field-written names out p q l t g x e h a b =
    written out p q (label_text l) (codes " = " ++ around names g) a b
    ∙ ap (λ z. out ++ z) (ap (λ z. label_text l ++ (codes " = " ++ around names z)) h ∙ sym (ap (part_text names) e ∙ part_text-Field names l t))

pub mapped-written : (names : Names) (out p q s : List ℕ) (v : Var) (t g : NormalType) (x : Part) → x ≡ part.Mapped v t → g ≡ t → p ≡ out ++ (codes "map " ++ around names g) →
    q ≡ p ++ codes " " → s ≡ q ++ var_text v → s ≡ out ++ part_text names x
mapped-written names out p q s v t g x e h a b d =
    d ∙ ap (λ z. z ++ var_text v) (b ∙ ap (λ z. z ++ codes " ") a) ∙ regrouped out (codes "map " ++ around names g) (codes " ") (var_text v)
    ∙ ap (λ z. out ++ z) (append_assoc (codes "map ") (around names g) (codes " " ++ var_text v)
    ∙ ap (λ z. codes "map " ++ (around names z ++ (codes " " ++ var_text v))) h ∙ sym (ap (part_text names) e ∙ part_text-Mapped names v t))

pub arrow-written : (names : Names) (out p q : List ℕ) (t u g h : NormalType) (x : NormalType) → x ≡ ty.Arrow t u → g ≡ t → h ≡ u → p ≡ out ++ ([] ++ around names g) →
    q ≡ p ++ (codes " -> " ++ around names h) → q ≡ out ++ type_text names x
arrow-written names out p q t u g h x e i j a b =
    written out p q (around names g) (codes " -> " ++ around names h) a b
    ∙ ap (λ z. out ++ z) (ap (λ z. around names z ++ (codes " -> " ++ around names h)) i ∙ ap (λ z. around names t ++ (codes " -> " ++ around names z)) j
    ∙ sym (ap (type_text names) e ∙ type_text-Arrow names t u))
