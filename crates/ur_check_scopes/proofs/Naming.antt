-- Names in order of declaration, looked for from the latest one.
use Rattle.std.proofs.Common.{◌≡◌, refl, ap, ◌∙◌, ℕ, true, false, List, [], ◌∷◌, ◌++◌, Some, None}
use Rattle.std.specs.Prelude.{if◌then◌else◌}
use Rattle.ur_syntax.specs.declared.con.ConName.{ConName}
use Rattle.ur_syntax.specs.Names.{own, same_con, looked_up}
use Rattle.ur_check_scopes.specs.declared.names.Named.{Named}
use Rattle.ur_check_scopes.specs.Views.{name_in, names_onto, names_in, itself}

onto-end : {A B : Type 0} (f : A → B) (ns : List (Named A)) (n : Named A) (names : List (ConName × B)) → names_onto f (ns ++ n ∷ []) names ≡ (name_in n, f n.of) ∷ names_onto f ns names
onto-end f [] n names = refl
onto-end f (m ∷ ns) n names = onto-end f ns n ((name_in m, f m.of) ∷ names)

onto-bare : {A B : Type 0} (f : A → B) (x : List ℕ) (ns : List (Named A)) (names : List (ConName × B)) → looked_up (own x) (names_onto f ns names) ≡ looked_up (own x) names
onto-bare f x [] names = refl
onto-bare f x (n ∷ ns) names = onto-bare f x ns ((name_in n, f n.of) ∷ names)

-- a name without a home is none of them
pub none-bare : {A : Type 0} (x : List ℕ) (ns : List (Named A)) → looked_up (own x) (names_in itself ns) ≡ None
none-bare x ns = onto-bare itself x ns []

pub last-named : {A : Type 0} (k : ConName) (left rest : List (Named A)) (n : Named A) → left ≡ rest ++ n ∷ [] → same_con k (name_in n) ≡ true → looked_up k (names_in itself left) ≡ Some n.of
last-named k left rest n is e = ap (λ z. looked_up k (names_in itself z)) is ∙ ap (looked_up k) (onto-end itself rest n []) ∙ ap (λ b. if b then Some n.of else looked_up k (names_in itself rest)) e

pub last-other : {A : Type 0} (k : ConName) (left rest : List (Named A)) (n : Named A) → left ≡ rest ++ n ∷ [] → same_con k (name_in n) ≡ false → looked_up k (names_in itself left) ≡ looked_up k (names_in itself rest)
last-other k left rest n is e = ap (λ z. looked_up k (names_in itself z)) is ∙ ap (looked_up k) (onto-end itself rest n []) ∙ ap (λ b. if b then Some n.of else looked_up k (names_in itself rest)) e

pub ruleset naming = (none-bare, last-named, last-other)
