-- Lists that loops over fields make.
use Rattle.std.proofs.Common.{◌≡◌, ◌<◌, ◌≤◌, ℕ, suc, ◌+◌, List, [], ◌∷◌, ◌++◌, length, drop, get_or, Option, None, Some, option_map, refl, sym, ap, subst, ◌∙◌, append_assoc, append-nil, drop-cons, add-one}
use Rattle.std.proofs.lemmas.List.{drop_all}
use Rattle.ur_base.specs.declared.names.Name.{Name}
use Rattle.ur_tree.specs.declared.exp.FieldExp.{FieldExp}
use Rattle.ur_source.specs.Reading.{Names, Cons, label_number, cons_option}
use Rattle.ur_source.specs.Items.{field_numbers}

here : {A : Type 0} (xs : List A) (i : ℕ) (d : A) → i < length xs → d ≡ get_or xs i d → drop i xs ≡ d ∷ drop (i + 1) xs
here xs i d h e = rw (add-one) (drop-cons xs i d h ∙ ap (λ x. x ∷ drop (suc i) xs) (sym e))

-- the names so far, with those of the fields that are left, are all
abbrev pub NamedTo : Names → Cons → List FieldExp → ℕ → List Name → Type 0
NamedTo names cs all i made = option_map (λ rest. made ++ rest) (field_numbers names cs (drop i all)) ≡ field_numbers names cs all

module _ (names : Names) (cs : Cons) (all : List FieldExp) where
  pub names_from : (made : List Name) → made ≡ [] → NamedTo names cs all 0 made
  names_from made e = subst (NamedTo names cs all 0) (sym e) (whole (field_numbers names cs (drop 0 all)) ∙ ap (field_numbers names cs) (from_first all))
    where
      whole : (r : Option (List Name)) → option_map (λ rest. [] ++ rest) r ≡ r
      whole None = refl
      whole (Some l) = refl

      from_first : (all : List FieldExp) → drop 0 all ≡ all
      from_first [] = refl
      from_first (g ∷ all) = refl

  next : (i : ℕ) (g : FieldExp) → i < length all → g ≡ get_or all i g → field_numbers names cs (drop i all) ≡ cons_option (label_number names cs g.name) (field_numbers names cs (drop (i + 1) all))
  next i g h e = ap (field_numbers names cs) (here all i g h e)

  pub names_more : (i : ℕ) (g : FieldExp) (made new : List Name) (n : Name) → i < length all → g ≡ get_or all i g → Some n ≡ label_number names cs g.name → NamedTo names cs all i made → new ≡ made ++ n ∷ []
      → NamedTo names cs all (i + 1) new
  names_more i g made new n h e is so m =
      let rest = field_numbers names cs (drop (i + 1) all) in
      ap (λ l. option_map (λ more. l ++ more) rest) m ∙ longer rest ∙ sym (ap (option_map (λ more. made ++ more)) (next i g h e ∙ ap (λ o. cons_option o rest) (sym is))) ∙ so
    where
      longer : (r : Option (List Name)) → option_map (λ more. (made ++ n ∷ []) ++ more) r ≡ option_map (λ more. made ++ more) (cons_option (Some n) r)
      longer None = refl
      longer (Some l) = ap Some (append_assoc made (n ∷ []) l)

  pub names_stop : (i : ℕ) (g : FieldExp) (made : List Name) → i < length all → g ≡ get_or all i g → None ≡ label_number names cs g.name → NamedTo names cs all i made → None ≡ field_numbers names cs all
  names_stop i g made h e is so = sym (ap (option_map (λ more. made ++ more)) (next i g h e ∙ ap (λ o. cons_option o (field_numbers names cs (drop (i + 1) all))) (sym is))) ∙ so

  pub names_end : (i : ℕ) (made : List Name) → length all ≤ i → NamedTo names cs all i made → Some made ≡ field_numbers names cs all
  names_end i made h so = ap Some (sym (append-nil made)) ∙ ap (λ l. option_map (λ more. made ++ more) (field_numbers names cs l)) (sym (drop_all i all h)) ∙ so
