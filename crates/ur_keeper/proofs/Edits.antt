-- All tables after a change of one, after a commit and after a rollback.
use Rattle.std.proofs.Common.{◌≡◌, ℕ, ℤ, pos, ◌+ℤ◌, ◌<◌, List, [], ◌∷◌, length, map, get_or, set, refl, ap, ap₂, sym, subst, ◌∙◌, Result, Ok, Err, OnOk}
use Rattle.std.proofs.lemmas.List.{map-set, get_or-map, length-map}
use Rattle.std.proofs.Math.Seq.{map-set_same}
use Rattle.ur_values.specs.declared.schema.Numbered.{Numbered}
use Rattle.ur_keeper.specs.declared.sequence.Sequence.{Sequence}
use Rattle.ur_keeper.specs.Sequences.{committed_sequence, rolled_back_sequence, drawn_sequence}
use Rattle.ur_keeper.specs.Tables.{Tables, with_table, drawn, sequence_at}
use Rattle.ur_keeper.specs.Versions.{Rows, Both, committed, rolled_back}
use Rattle.ur_keeper.proofs.Rising.{versions}

abbrev pub tables_of : List (List Numbered) → List ℤ → Tables
tables_of tables sequences = record { tables = tables; sequences = sequences }

abbrev pub both_of : Tables → Tables → Both
both_of saved current = record { saved = saved; current = current }

-- what is held, of its tables and sequences
abbrev pub held : List Rows → List Sequence → Both
held tables sequences =
    both_of (tables_of (map (λ (t : Rows). t.saved) tables) (map (λ (s : Sequence). s.saved) sequences)) (tables_of (map (λ (t : Rows). t.current) tables) (map (λ (s : Sequence). s.current) sequences))

-- ---- one table

module _ (tables : List Rows) (sequences : List Sequence) (n : ℕ) (x new : Rows) (f : List Numbered → List Numbered) where
  changed-here : n < length (held tables sequences).current.tables → x ≡ get_or tables n x → new ≡ versions x.saved (f x.current)
      → held (set tables n new) sequences ≡ both_of (held tables sequences).saved (with_table n f (held tables sequences).current)
  changed-here w e g =
      let within : n < length tables = simp length-map at w in
      let same : new.saved ≡ (get_or tables n x).saved = ap (λ (t : Rows). t.saved) g ∙ ap (λ (t : Rows). t.saved) e in
      let current : x.current ≡ get_or (map (λ (t : Rows). t.current) tables) n [] = ap (λ (t : Rows). t.current) e ∙ sym (get_or-map (λ (t : Rows). t.current) tables n x [] within) in
      let put : List Numbered → List (List Numbered) = λ rows. set (map (λ (t : Rows). t.current) tables) n rows in
      let after : map (λ (t : Rows). t.current) (set tables n new) ≡ put (f (get_or (map (λ (t : Rows). t.current) tables) n [])) =
      map-set (λ (t : Rows). t.current) tables n new ∙ ap put (ap (λ (t : Rows). t.current) g ∙ ap f current) in
      ap₂ (λ (s c : List (List Numbered)). both_of (tables_of s (map (λ (s : Sequence). s.saved) sequences)) (tables_of c (map (λ (s : Sequence). s.current) sequences)))
      (map-set_same (λ (t : Rows). t.saved) tables n new x same) after

  pub changed : {E : Type 0} (r : Result (Unit {0}) E) (old : Both) → held tables sequences ≡ old → n < length old.current.tables → x ≡ get_or tables n x
      → OnOk r (new ≡ versions x.saved (f x.current))
      → OnOk r (held (set tables n new) sequences ≡ both_of old.saved (with_table n f old.current))
  changed (Ok u) old v w e g =
      let here = changed-here (subst (λ (o : Both). n < length o.current.tables) (sym v) w) e g in
      subst (λ (o : Both). held (set tables n new) sequences ≡ both_of o.saved (with_table n f o.current)) v here
  changed (Err u) old v w e g = g

-- ---- one sequence

module _ (tables : List Rows) (sequences : List Sequence) (n : ℕ) (x : Sequence) where
  number-here : n < length (held tables sequences).current.sequences → x ≡ get_or sequences n x → x.current ≡ sequence_at (held tables sequences).current n
  number-here w e =
      let within : n < length sequences = simp length-map at w in
      ap (λ (s : Sequence). s.current) e ∙ sym (get_or-map (λ (s : Sequence). s.current) sequences n x (pos 1) within)

  drawn-here : (new : Sequence) → n < length (held tables sequences).current.sequences → x ≡ get_or sequences n x → new ≡ drawn_sequence x
      → held tables (set sequences n new) ≡ both_of (held tables sequences).saved (drawn n (held tables sequences).current)
  drawn-here new w e g =
      let same : new.saved ≡ (get_or sequences n x).saved = ap (λ (s : Sequence). s.saved) g ∙ ap (λ (s : Sequence). s.saved) e in
      let put : ℤ → List ℤ = λ k. set (map (λ (s : Sequence). s.current) sequences) n k in
      let after : map (λ (s : Sequence). s.current) (set sequences n new) ≡ put (sequence_at (held tables sequences).current n +ℤ pos 1) =
      map-set (λ (s : Sequence). s.current) sequences n new ∙ ap put (ap (λ (s : Sequence). s.current) g ∙ ap (λ k. k +ℤ pos 1) (number-here w e)) in
      ap₂ (λ (s c : List ℤ). both_of (tables_of (map (λ (t : Rows). t.saved) tables) s) (tables_of (map (λ (t : Rows). t.current) tables) c))
      (map-set_same (λ (s : Sequence). s.saved) sequences n new x same) after

  pub number-of : (old : Both) → held tables sequences ≡ old → n < length old.current.sequences → x ≡ get_or sequences n x
      → x.current ≡ sequence_at old.current n
  number-of old v w e =
      subst (λ (o : Both). x.current ≡ sequence_at o.current n) v (number-here (subst (λ (o : Both). n < length o.current.sequences) (sym v) w) e)

  pub drawn-in : (new : Sequence) (old : Both) → held tables sequences ≡ old → n < length old.current.sequences → x ≡ get_or sequences n x
      → new ≡ drawn_sequence x
      → held tables (set sequences n new) ≡ both_of old.saved (drawn n old.current)
  drawn-in new old v w e g =
      subst (λ (o : Both). held tables (set sequences n new) ≡ both_of o.saved (drawn n o.current)) v (drawn-here new (subst (λ (o : Both). n < length o.current.sequences) (sym v) w) e g)

-- ---- all of them

pub map-after : {A B C : Type 0} (f : B → C) (g : A → B) (xs : List A) → map f (map g xs) ≡ map (λ x. f (g x)) xs
map-after f g [] = refl
map-after f g (x ∷ xs) = ap (λ rest. f (g x) ∷ rest) (map-after f g xs)

pub all-committed : (old : Both) (tables after : List Rows) (sequences after' : List Sequence) → held tables sequences ≡ old → after ≡ map committed tables
    → after' ≡ map committed_sequence sequences
    → held after after' ≡ both_of old.current old.current
all-committed old tables after sequences after' v t q =
    let saved = ap₂ tables_of (map-after (λ (t : Rows). t.saved) committed tables) (map-after (λ (s : Sequence). s.saved) committed_sequence sequences) in
    let current = ap₂ tables_of (map-after (λ (t : Rows). t.current) committed tables) (map-after (λ (s : Sequence). s.current) committed_sequence sequences) in
    ap₂ held t q ∙ ap₂ both_of saved current ∙ ap (λ (o : Both). both_of o.current o.current) v

pub all-rolled_back : (old : Both) (tables after : List Rows) (sequences after' : List Sequence) → held tables sequences ≡ old → after ≡ map rolled_back tables
    → after' ≡ map rolled_back_sequence sequences
    → held after after' ≡ both_of old.saved old.saved
all-rolled_back old tables after sequences after' v t q =
    let saved = ap₂ tables_of (map-after (λ (t : Rows). t.saved) rolled_back tables) (map-after (λ (s : Sequence). s.saved) rolled_back_sequence sequences) in
    let current = ap₂ tables_of (map-after (λ (t : Rows). t.current) rolled_back tables) (map-after (λ (s : Sequence). s.current) rolled_back_sequence sequences) in
    ap₂ held t q ∙ ap₂ both_of saved current ∙ ap (λ (o : Both). both_of o.saved o.saved) v
