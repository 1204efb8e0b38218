-- A file is a project in one way at most, has one line at most that is the first wrong one, and not both.
use Rattle.std.proofs.Common.{◌≡◌, ◌≢◌, ◌∙◌, ◌⊎◌, inl, inr, ℕ, ◌+◌, Bool, true, false, not, List, [], ◌∷◌, ◌++◌, length, refl, ap, sym, subst, arith, Contains, get_or}
use Rattle.std.specs.List.{list_all}
use Rattle.std.proofs.lemmas.List.{length-append}
use Rattle.std.proofs.lemmas.List.Elements.{Contains-append_right}
use Rattle.std.proofs.lemmas.List.Sums.{AllPass-from_list_all}
use Rattle.ur_load.specs.Words.{is_module_name, is_one_of}
use Rattle.ur_load.specs.Lines.{is_empty, project_lines}
use Rattle.ur_load.specs.Project.{is_directive, AreToName, AreModules, IsProject, IsBadLine}
use Rattle.ur_load.proofs.Facing.{apart, first_failing, none_fails, Cuts, two_cuts, other_words}

-- ---- which lines are to name modules

record Headed (lines names : List (List ℕ)) : Type 0 where
  directives : List (List ℕ)
  are : list_all is_directive directives ≡ true
  is : lines ≡ directives ++ [] ∷ names

record Alone (lines names : List (List ℕ)) : Type 0 where
  filled : list_all (λ line. not (is_empty line)) lines ≡ true
  is : lines ≡ names

to_name : (lines names : List (List ℕ)) → AreToName lines names → Alone lines names ⊎ Headed lines names
to_name lines _ (AreToName.alone _ f) = inl (record { filled = f; is = refl })
to_name _ names (AreToName.behind ds _ f) = inr (record { directives = ds; are = f; is = refl })

not_both : (lines xs ys : List (List ℕ)) → Alone lines xs → Headed lines ys → ⊥
not_both lines xs ys a h = let e : ◌≡◌ {A = Bool} false true = none_fails (λ line. not (is_empty line)) h.directives ys (subst (λ l. list_all (λ line. not (is_empty line)) l ≡ true) h.is a.filled) in cc

pub one_to_name : (lines xs ys : List (List ℕ)) → AreToName lines xs → AreToName lines ys → xs ≡ ys
one_to_name lines xs ys a b = by (to_name lines xs a) (to_name lines ys b) where
  by : Alone lines xs ⊎ Headed lines xs → Alone lines ys ⊎ Headed lines ys → xs ≡ ys
  by (inl p) (inl q) = sym p.is ∙ q.is
  by (inl p) (inr q) = absurd (not_both lines xs ys p q)
  by (inr p) (inl q) = absurd (not_both lines ys xs q p)
  by (inr p) (inr q) = (first_failing is_directive p.directives q.directives p.are q.are refl refl (sym p.is ∙ q.is)).behind

pub one_project_of : (bytes : List ℕ) (a b : List (List ℕ)) → IsProject bytes a → IsProject bytes b → a ≡ b
one_project_of bytes a b p q = one_to_name (project_lines bytes) a b p.named q.named

-- ---- the first wrong line

record NoDirective (lines : List (List ℕ)) (number : ℕ) (line : List ℕ) : Type 0 where
  before : List (List ℕ)
  behind : List (List ℕ)
  is : lines ≡ before ++ line ∷ behind
  counts : number ≡ length before
  are : list_all is_directive before ≡ true
  some : line ≢ []
  fails : is_directive line ≡ false
  ends : Contains behind []

record NoName (lines : List (List ℕ)) (number : ℕ) (line : List ℕ) : Type 0 where
  before : List (List ℕ)
  behind : List (List ℕ)
  named : AreToName lines (before ++ line ∷ behind)
  counts : number + length (line ∷ behind) ≡ length lines
  fit : AreModules before
  wrong : (is_module_name line ≡ false) ⊎ (is_one_of before line ≡ true)

record NoModules (lines : List (List ℕ)) (number : ℕ) (line : List ℕ) : Type 0 where
  counts : number ≡ 0
  named : AreToName lines []
  is : line ≡ []

bad_cases : (lines : List (List ℕ)) (number : ℕ) (line : List ℕ) → IsBadLine lines number line → NoDirective lines number line ⊎ (NoName lines number line ⊎ NoModules lines number line)
bad_cases _ number line (IsBadLine.no_directive before behind _ _ n a s f c) = inl (record { before = before; behind = behind; is = refl; counts = n; are = a; some = s; fails = f; ends = c })
bad_cases lines number line (IsBadLine.no_name _ before behind _ _ t n a w) = inr (inl (record { before = before; behind = behind; named = t; counts = n; fit = a; wrong = w }))
bad_cases lines number _ (IsBadLine.no_modules _ _ n t) = inr (inr (record { counts = n; named = t; is = refl }))

-- behind a line that is no directive no line is to name a module
no_names : (lines names : List (List ℕ)) (number : ℕ) (line : List ℕ) → NoDirective lines number line → AreToName lines names → ⊥
no_names lines names number line d n = by (to_name lines names n) where
  by : Alone lines names ⊎ Headed lines names → ⊥
  by (inr h) = d.some (first_failing is_directive d.before h.directives d.are h.are d.fails refl (sym d.is ∙ h.is)).at'
  by (inl a) = let c : Contains lines [] = subst (λ l. Contains l []) (sym d.is) (Contains-append_right d.before (line ∷ d.behind) [] (Contains-append_right (line ∷ []) d.behind [] d.ends)) in
      let t : not (is_empty (get_or lines c.0 [])) ≡ true = AllPass-from_list_all (λ l. not (is_empty l)) lines a.filled c.0 [] c.1 in
      apart (sym t ∙ ap (λ l. not (is_empty l)) c.2)

-- no name in a list of modules is wrong there
none_wrong : (before more : List (List ℕ)) (line : List ℕ) → AreModules (before ++ line ∷ more) → (is_module_name line ≡ false) ⊎ (is_one_of before line ≡ true) → ⊥
none_wrong before more line a (inl f) = apart (sym (none_fails is_module_name before more a.words) ∙ f)
none_wrong before more line a (inr f) = apart (sym f ∙ other_words before more line a.differ)

some_names : (before behind : List (List ℕ)) (line : List ℕ) → before ++ line ∷ behind ≡ [] → ⊥
some_names [] behind line e = cc
some_names (x ∷ xs) behind line e = cc

-- two lines in one list are of one number, where as many stand before both
one_number : (lines xs ys us vs : List (List ℕ)) (a b : List ℕ) (m n : ℕ) → xs ++ a ∷ us ≡ ys ++ b ∷ vs → xs ≡ ys → m + length (a ∷ us) ≡ length lines → n + length (b ∷ vs) ≡ length lines → m ≡ n
one_number lines xs ys us vs a b m n e s p q =
    let whole : length xs + length (a ∷ us) ≡ length ys + length (b ∷ vs) = sym (length-append xs (a ∷ us)) ∙ ap length e ∙ length-append ys (b ∷ vs) in
    let front : length xs ≡ length ys = ap length s in omega arith

two_wrong : (lines : List (List ℕ)) (m n : ℕ) (a b : List ℕ) → NoName lines m a → NoName lines n b → (m ≡ n) × (a ≡ b)
two_wrong lines m n a b p q = by (two_cuts p.before q.before p.behind q.behind whole) where
  whole : p.before ++ a ∷ p.behind ≡ q.before ++ b ∷ q.behind
  whole = one_to_name lines (p.before ++ a ∷ p.behind) (q.before ++ b ∷ q.behind) p.named q.named

  by : Cuts p.before q.before a b → (m ≡ n) × (a ≡ b)
  by (Cuts.same s e) = (one_number lines p.before q.before p.behind q.behind a b m n whole s p.counts q.counts, e)
  by (Cuts.earlier more h) = absurd (none_wrong p.before more a (subst AreModules h q.fit) p.wrong)
  by (Cuts.later more h) = absurd (none_wrong q.before more b (subst AreModules h p.fit) q.wrong)

two_first : (lines : List (List ℕ)) (m n : ℕ) (a b : List ℕ) → NoDirective lines m a → NoDirective lines n b → (m ≡ n) × (a ≡ b)
two_first lines m n a b x y = let s = first_failing is_directive x.before y.before x.are y.are x.fails y.fails (sym x.is ∙ y.is) in
    (x.counts ∙ ap length s.before ∙ sym y.counts, s.at')

pub one_wrong : (lines : List (List ℕ)) (m n : ℕ) (a b : List ℕ) → IsBadLine lines m a → IsBadLine lines n b → (m ≡ n) × (a ≡ b)
one_wrong lines m n a b p q = by (bad_cases lines m a p) (bad_cases lines n b q) where
  by : NoDirective lines m a ⊎ (NoName lines m a ⊎ NoModules lines m a) → NoDirective lines n b ⊎ (NoName lines n b ⊎ NoModules lines n b) → (m ≡ n) × (a ≡ b)
  by (inl x) (inl y) = two_first lines m n a b x y
  by (inl x) (inr (inl y)) = absurd (no_names lines (y.before ++ b ∷ y.behind) m a x y.named)
  by (inl x) (inr (inr y)) = absurd (no_names lines [] m a x y.named)
  by (inr (inl x)) (inl y) = absurd (no_names lines (x.before ++ a ∷ x.behind) n b y x.named)
  by (inr (inl x)) (inr (inl y)) = two_wrong lines m n a b x y
  by (inr (inl x)) (inr (inr y)) = absurd (some_names x.before x.behind a (one_to_name lines (x.before ++ a ∷ x.behind) [] x.named y.named))
  by (inr (inr x)) (inl y) = absurd (no_names lines [] n b y x.named)
  by (inr (inr x)) (inr (inl y)) = absurd (some_names y.before y.behind b (one_to_name lines (y.before ++ b ∷ y.behind) [] y.named x.named))
  by (inr (inr x)) (inr (inr y)) = (x.counts ∙ sym y.counts, x.is ∙ sym y.is)

pub no_project : (bytes : List ℕ) (number : ℕ) (line : List ℕ) (modules : List (List ℕ)) → IsBadLine (project_lines bytes) number line → IsProject bytes modules → ⊥
no_project bytes number line modules bad p = by (bad_cases (project_lines bytes) number line bad) where
  by : NoDirective (project_lines bytes) number line ⊎ (NoName (project_lines bytes) number line ⊎ NoModules (project_lines bytes) number line) → ⊥
  by (inl x) = no_names (project_lines bytes) modules number line x p.named
  by (inr (inl x)) = none_wrong x.before x.behind line (subst AreModules (one_to_name (project_lines bytes) modules (x.before ++ line ∷ x.behind) p.named x.named) p.fit) x.wrong
  by (inr (inr x)) = p.some (one_to_name (project_lines bytes) modules [] p.named x.named)
