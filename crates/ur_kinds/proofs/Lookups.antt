-- Names of an environment that are looked up from the last entry on, and small facts of rows, kinds and texts.
use Rattle.std.proofs.Common.{◌≡◌, ◌↔◌, refl, ap, sym, ◌∙◌, ℕ, ◌+◌, ◌-◌, ◌<◌, arith, Bool, true, false, if◌then◌else◌, List, [], ◌∷◌, ◌++◌, length, take, get_or, codes, Option, Some, IsTrue}
use Rattle.std.proofs.lemmas.List.{take_more, append_assoc}
use Rattle.ur_syntax.specs.declared.kind.Kind.{Kind}
use Rattle.ur_syntax.specs.declared.kind.Kind.TheVariants as kind
use Rattle.ur_syntax.specs.declared.con.ConName.{ConName}
use Rattle.ur_syntax.specs.declared.con.ConEntry.{ConEntry}
use Rattle.ur_syntax.specs.declared.con.CField.{CField}
use Rattle.ur_syntax.specs.declared.con.ConForm.TheVariants as con
use Rattle.ur_syntax.specs.Names.{same_con, looked_up}
use Rattle.ur_syntax.specs.HasKind.{Scope, scope_after}
use Rattle.ur_kinds.specs.Texts.{around, kind_text}
use Rattle.ur_kinds.specs.Words.{is_empty_row}
use Rattle.ur_kinds.proofs.Infer.{taken, left-out}
use Rattle.ur_syntax.proofs.Shapes.{row, kind-arrow, fields-made}

pub home-after : (s : Scope) (es : List ConEntry) → (scope_after s es).home ≡ s.home
home-after s [] = refl
home-after s (e ∷ es) = home-after (record s { names = (e.name, e.kind) ∷ s.names }) es

names-after : (s : Scope) (es : List ConEntry) (e : ConEntry) → (scope_after s (es ++ e ∷ [])).names ≡ (e.name, e.kind) ∷ (scope_after s es).names
names-after s [] e = refl
names-after s (f ∷ es) e = names-after (record s { names = (f.name, f.kind) ∷ s.names }) es e

abbrev pub within_last : ConName → Scope → List ConEntry → Option Kind
within_last key s es = looked_up key (scope_after s es).names

one-more : (n i l : ℕ) → i < l → n ≡ l - 1 - i → l - i ≡ n + 1
one-more n i l h e = omega arith

one-less : (n i l : ℕ) → i < l → n ≡ l - 1 - i → n ≡ l - (i + 1)
one-less n i l h e = omega arith

below : (n i l : ℕ) → i < l → n ≡ l - 1 - i → n < l
below n i l h e = omega arith

last-at : (key : ConName) (s : Scope) (es : List ConEntry) (n : ℕ) (e : ConEntry) → n < length es → e ≡ get_or es n e →
    within_last key s (take (n + 1) es) ≡ (if same_con key e.name then Some e.kind else within_last key s (take n es))
last-at key s es n e h g = ap (within_last key s) (take_more es n e h ∙ ap (λ x. take n es ++ x ∷ []) (sym g)) ∙ ap (looked_up key) (names-after s (take n es) e)

pub last-entry : (key : ConName) (s : Scope) (es : List ConEntry) (i : ℕ) (e : ConEntry) → i < length es → e ≡ get_or es (length es - 1 - i) e →
    within_last key s (take (length es - i) es) ≡ (if same_con key e.name then Some e.kind else within_last key s (take (length es - (i + 1)) es))
last-entry key s es i e h g =
    ap (λ n. within_last key s (take n es)) (one-more (length es - 1 - i) i (length es) h refl) ∙
    (last-at key s es (length es - 1 - i) e (below (length es - 1 - i) i (length es) h refl) g ∙
    ap (λ n. if same_con key e.name then Some e.kind else within_last key s (take n es)) (one-less (length es - 1 - i) i (length es) h refl))

pub is-last : (key : ConName) (s : Scope) (es : List ConEntry) (i : ℕ) (e : ConEntry) → i < length es → e ≡ get_or es (length es - 1 - i) e → same_con key e.name ≡ true →
    within_last key s (take (length es - i) es) ≡ Some e.kind
is-last key s es i e h g t = last-entry key s es i e h g ∙ taken (same_con key e.name) (Some e.kind) (within_last key s (take (length es - (i + 1)) es)) t

pub not-last : (key : ConName) (s : Scope) (es : List ConEntry) (i : ℕ) (e : ConEntry) → i < length es → e ≡ get_or es (length es - 1 - i) e → same_con key e.name ≡ false →
    within_last key s (take (length es - i) es) ≡ within_last key s (take (length es - (i + 1)) es)
not-last key s es i e h g t = last-entry key s es i e h g ∙ left-out (same_con key e.name) (Some e.kind) (within_last key s (take (length es - (i + 1)) es)) t

some-list : {A B : Type 0} {x : A} {xs : List A} → x ∷ xs ≡ [] → B
some-list e = absurd (cc)

pub row-empty : (b : Bool) (fs : List CField) → IsTrue b ↔ (fs ≡ []) → b ≡ is_empty_row (con.Row fs)
row-empty b fs h = go b fs h ∙ ap is_empty_row (sym (fields-made fs)) where
  go : (b : Bool) (fs : List CField) → IsTrue b ↔ (fs ≡ []) → b ≡ is_empty_row (con.Row' (row fs).0 (row fs).1)
  go b [] h = h.1 refl
  go true (f ∷ fs) h = some-list (h.0 refl)
  go false (f ∷ fs) h = refl

pub arrow-text : (k a b : Kind) (o p q r : List ℕ) → k ≡ kind.Arrow a b → p ≡ o ++ around a (kind_text a) → q ≡ p ++ codes " -> " → r ≡ q ++ kind_text b → r ≡ o ++ kind_text k
arrow-text k a b o p q r e f g h =
    h ∙ (ap (λ z. z ++ kind_text b) (g ∙ (ap (λ z. z ++ codes " -> ") f ∙ append_assoc o (around a (kind_text a)) (codes " -> "))) ∙
    (append_assoc o (around a (kind_text a) ++ codes " -> ") (kind_text b) ∙ ap (λ z. o ++ z) (ap kind_text (sym (e ∙ kind-arrow a b)))))
