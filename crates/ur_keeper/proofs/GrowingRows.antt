-- One column more of a row that grows.
use Rattle.std.proofs.Common.{◌≡◌, ℕ, ◌+◌, ◌≤◌, ◌<◌, List, [], ◌∷◌, ◌++◌, length, drop, get_or, Some, None, refl, ap, ap₂, sym, ◌∙◌, arith}
use Rattle.std.proofs.lemmas.List.{drop_more}
use Rattle.ur_values.specs.declared.value.Value.{Value}
use Rattle.ur_values.specs.declared.value.Value.TheVariants as v
use Rattle.ur_values.specs.Store.{Row}
use Rattle.ur_values.specs.Extends.{Column, grown}
use Rattle.ur_keeper.specs.Growing.{grown_step}

-- what a loop over the columns keeps
abbrev pub Grows : List Column → List Column → Row → ℕ → ℕ → Row → Type 0
Grows columns kept cells i at out = (out ++ grown (drop i columns) (drop at kept) (drop at cells) ≡ grown columns kept cells) × (at ≤ length cells)

snoc : (out : Row) (x : Value) (rest : Row) → out ++ x ∷ rest ≡ (out ++ x ∷ []) ++ rest
snoc [] x rest = refl
snoc (y ∷ out) x rest = ap (λ (r : Row). y ∷ r) (snoc out x rest)

pub with-cell : (columns kept : List Column) (cells : Row) (i at : ℕ) (out longer : Row) (d : Column) (x : Value) (next : ℕ) → i < length columns
    → d ≡ get_or columns i d → Grows columns kept cells i at out
    → grown (d ∷ drop (i + 1) columns) (drop at kept) (drop at cells) ≡ grown_step (drop (i + 1) columns) kept cells at (Some x) → at < length cells
    → longer ≡ out ++ x ∷ [] → next ≡ at + 1
    → Grows columns kept cells (i + 1) next longer
with-cell columns kept cells i at out longer d x next small is g step within pushed more =
    let whole : drop i columns ≡ d ∷ drop (i + 1) columns = drop_more columns i d small ∙ ap (λ (y : Column). y ∷ drop (i + 1) columns) (sym is) in (
      ap₂ (λ (o : Row) (n : ℕ). o ++ grown (drop (i + 1) columns) (drop n kept) (drop n cells)) pushed more
          ∙ sym (snoc out x (grown (drop (i + 1) columns) (drop (at + 1) kept) (drop (at + 1) cells))) ∙ ap (λ (r : Row). out ++ r) (sym step)
          ∙ ap (λ (ds : List Column). out ++ grown ds (drop at kept) (drop at cells)) (sym whole) ∙ g.0,
      omega (arith, within, more),
    )

pub without-cell : (columns kept : List Column) (cells : Row) (i at : ℕ) (out longer : Row) (d : Column) (next : ℕ) → i < length columns
    → d ≡ get_or columns i d → Grows columns kept cells i at out
    → grown (d ∷ drop (i + 1) columns) (drop at kept) (drop at cells) ≡ grown_step (drop (i + 1) columns) kept cells at None
    → longer ≡ out ++ v.Absent ∷ [] → next ≡ at
    → Grows columns kept cells (i + 1) next longer
without-cell columns kept cells i at out longer d next small is g step pushed more =
    let whole : drop i columns ≡ d ∷ drop (i + 1) columns = drop_more columns i d small ∙ ap (λ (y : Column). y ∷ drop (i + 1) columns) (sym is) in (
      ap₂ (λ (o : Row) (n : ℕ). o ++ grown (drop (i + 1) columns) (drop n kept) (drop n cells)) pushed more
          ∙ sym (snoc out v.Absent (grown (drop (i + 1) columns) (drop at kept) (drop at cells))) ∙ ap (λ (r : Row). out ++ r) (sym step)
          ∙ ap (λ (ds : List Column). out ++ grown ds (drop at kept) (drop at cells)) (sym whole) ∙ g.0,
      (let l = g.1 in omega (arith, l, more)),
    )
