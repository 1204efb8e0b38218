-- What is applied, with its constructor arguments.
use Rattle.std.proofs.Common.{inl, inr, ◌⊎◌, ◌≡◌, refl, ap, sym, ◌∙◌, subst, ℕ, ◌≤◌, ◌<◌, nat_le, Bool, true, false, true≢false, ◌&&◌, List, [], ◌∷◌, ◌++◌, map, reverse, length, ◌+◌, arith, Option, Some, None, Bor}
use Rattle.std.specs.Prelude.{option_map, option_and_then}
use Rattle.std.proofs.lemmas.List.{append-nil, append_assoc, length-append, map-append, reverse-append, reverse-reverse}
use Rattle.ur_base.specs.declared.refusal.Refusal.{Refusal}
use Rattle.ur_syntax.specs.declared.con.Con.{Con}
use Rattle.ur_syntax.specs.declared.exp.Exp.{Exp as Written}
use Rattle.ur_syntax.specs.declared.exp.ExpForm.{ExpForm, end_of-Exp as alone, more_of-Exp as its}
use Rattle.ur_syntax.specs.declared.exp.ExpForm.TheVariants as e
use Rattle.ur_syntax.specs.declared.exp.ExpForm.TheBlock as T
use Rattle.ur_rows.specs.declared.normal.Normal.{Normal}
use Rattle.ur_rows.specs.IsNormal.{is_normal}
use Rattle.ur_rows.specs.Nodes.{nodes, most_nodes}
use Rattle.ur_rows.specs.Normal.{nf}
use Rattle.ur_rows.specs.Types.{arrows_of, arrow_of}
use Rattle.ur_rows.proofs.Shapes.{arrow-made}
use Rattle.ur_rows_normal.specs.Arguments.{are_normal}
use Rattle.ur_tree.specs.declared.exp.Param.{Param}
use Rattle.ur_tree.specs.Typing.{types_of}
use Rattle.ur_rows.specs.declared.normal.NormalType.{NormalType}
use Rattle.ur_typed_rules.specs.Scopes.{World, Scope}
use Rattle.ur_typed_rules.specs.Faults.{Fault, too_large}
use Rattle.ur_typed_rules.specs.Rules.{if_so}
use Rattle.ur_typed.specs.Rules.{function_at, function_named, with_argument, without_arguments}
use Rattle.ur_typed.specs.Faults.{given_to, is_given, BreaksNamed, BreaksHead, large_argument, named_within}
use Rattle.ur_syntax.specs.declared.con.ConEnv.{ConEnv}
use Rattle.ur_rows_normal.specs.Preparing.{Reads}
use Rattle.ur_check_scopes.specs.declared.around.Around.{Around}
use Rattle.ur_check_scopes.specs.Views.{Stands, Refuses, IsLarge}
use Rattle.ur_check_rules.specs.declared.values.Applied.{Applied}
use Rattle.ur_check_rules.specs.declared.values.Callee.TheVariants as callee
use Rattle.ur_check_rules.specs.Callees.{with_back, BreaksBack, large_back, further_back, BreaksGivenTo, IsApplied, MayBeApplied, MayBeTag, IsCallee, BreaksCallee, large_given, bad_head}
use Rattle.ur_check_rules.specs.Peeling.{Peels}
use Rattle.ur_check_rules.proofs.Settling.{most_is, is-small, is-large}

-- ---- types of functions

pub arrows-last : (ps : List Param) (p : Param) (t : NormalType) → arrows_of (types_of (ps ++ p ∷ [])) t ≡ arrows_of (types_of ps) (arrow_of p.of t)
arrows-last [] p t = refl
arrows-last (q ∷ ps) p t = ap (arrow_of q.of) (arrows-last ps p t)

pub arrow-past : (left rest : List Param) (p : Param) (from of made whole : NormalType) → left ≡ rest ++ p ∷ [] → from ≡ p.of → made ≡ arrow_of from of → arrows_of (types_of left) of ≡ whole → arrows_of (types_of rest) made ≡ whole
arrow-past left rest p from of made whole e f g h = ap (arrows_of (types_of rest)) (g ∙ ap (λ z. arrow_of z of) f) ∙ sym (arrows-last rest p of) ∙ ap (λ z. arrows_of (types_of z) of) (sym e) ∙ h

-- ---- constructor arguments, the last one first

pub back-last : (w : World) (s : Scope) (cs : List Con) (c : Con) (f : Option (ℕ × List Normal)) → with_back w s (cs ++ c ∷ []) f ≡ with_back w s cs (option_and_then (with_argument w s c) f)
back-last w s [] c f = refl
back-last w s (d ∷ cs) c f = ap (option_and_then (with_argument w s d)) (back-last w s cs c f)

pub broken-last : (w : World) (s : Scope) (f : Option (ℕ × List Normal)) (c : Con) (cs : List Con) (x : Fault) → BreaksBack w s (option_and_then (with_argument w s c) f) cs x → BreaksBack w s f (cs ++ c ∷ []) x
broken-last w s f c _ _ (large_back {c = d} {cs = cs} h k) = large_back (back-last w s cs c f ∙ h) k
broken-last w s f c _ x (further_back {c = d} {cs = cs} b) = further_back (broken-last w s f c cs x b)

pub broken-there : (w : World) (s : Scope) (cs : List Con) (c : Con) (g : ℕ × List Normal) → nat_le (nodes (nf s.names.cons c)) w.most ≡ false → BreaksBack w s (Some g) (cs ++ c ∷ []) too_large
broken-there w s [] c g h = large_back refl h
broken-there w s (d ∷ cs) c g h = further_back (broken-there w s cs c g h)

with-large : (w : World) (s : Scope) (c : Con) (f : ℕ × List Normal) → nat_le (nodes (nf s.names.cons c)) w.most ≡ false → with_argument w s c f ≡ None
with-large w s c f h = ap (λ b. if_so b (Some (f.0, f.1 ++ nf s.names.cons c ∷ []))) h

pub broken-none : (w : World) (s : Scope) (f : Option (ℕ × List Normal)) (cs : List Con) (x : Fault) → BreaksBack w s f cs x → with_back w s cs f ≡ None
broken-none w s f _ _ (large_back {c = c} {g = g} h k) = ap (option_and_then (with_argument w s c)) h ∙ with-large w s c g k
broken-none w s f _ x (further_back {c = c} {cs = cs} b) = ap (option_and_then (with_argument w s c)) (broken-none w s f cs x b)

pub none-back : (w : World) (s : Scope) (cs : List Con) → with_back w s cs None ≡ None
none-back w s [] = refl
none-back w s (c ∷ cs) = ap (option_and_then (with_argument w s c)) (none-back w s cs)

-- ---- one argument more

pub con-made : (x : Written) (c : Con) → e.ConApp x c ≡ e.ConApp' tt (its x.span x.form alone) c
unfolding T.hidden-the_row-Exp-0 denote.Hole.Carrier.hidden
con-made x c = refl

pub given-con : (x : Written) (c : Con) → given_to (e.ConApp x c) ≡ given_to x.form ++ c ∷ []
given-con x c = ap given_to (con-made x c)

pub at-con : (w : World) (s : Scope) (x : Written) (c : Con) → function_at w s (e.ConApp x c) ≡ option_and_then (with_argument w s c) (function_at w s x.form)
at-con w s x c = ap (function_at w s) (con-made x c)

pub not-given : (x : ExpForm) → is_given x ≡ false → given_to x ≡ []
not-given (e.ConApp' _ x c) h = absurd (true≢false h)
not-given _ h = refl

pub not-con : (x : ExpForm) → ((i : Written) (c : Con) → x ≡ e.ConApp i c → ⊥) → is_given x ≡ false
not-con (e.ConApp' _ (its p x alone) c) h = absurd (h (record { span = p; form = x }) c (sym (con-made (record { span = p; form = x }) c)))
not-con _ h = refl

pub plain-at : (w : World) (s : Scope) (x : ExpForm) → is_given x ≡ false → function_at w s x ≡ option_map without_arguments (function_named w s x)
plain-at w s (e.ConApp' _ x c) h = absurd (true≢false h)
plain-at w s _ h = refl

-- ---- what is given is peeled from what has it, the last one first

nothing-broken : (w : World) (s : Scope) (f : Option (ℕ × List Normal)) (cs : List Con) (x : Fault) → cs ≡ [] → BreaksBack w s f cs x → ⊥
nothing-broken w s f _ _ e (large_back h k) = cc
nothing-broken w s f _ x e (further_back b) = cc

-- the breach is of the last argument
abbrev IsLast : World → Scope → Con → Option (ℕ × List Normal) → Fault → Type 0
IsLast w s c f x = (x ≡ too_large) × ((g : ℕ × List Normal) × (f ≡ Some g)) × (nat_le (nodes (nf s.names.cons c)) w.most ≡ false)

split-last : (w : World) (s : Scope) (cs : List Con) (c : Con) (f : Option (ℕ × List Normal)) (x : Fault) → BreaksBack w s f (cs ++ c ∷ []) x → BreaksBack w s (option_and_then (with_argument w s c) f) cs x ⊎ IsLast w s c f x
split-last w s [] c f _ (large_back {g = g} h k) = inr (refl, (g, h), k)
split-last w s [] c f x (further_back b) = absurd (nothing-broken w s f [] x refl b)
split-last w s (d ∷ cs) c f _ (large_back h k) = inl (large_back (sym (back-last w s cs c f) ∙ h) k)
split-last w s (d ∷ cs) c f x (further_back b) = elim (split-last w s cs c f x b) [
  | inl r ↦ inl (further_back r)
  | inr q ↦ inr q
]

pub peels-start : (x : ExpForm) → Peels x [] x
peels-start x = record { given = sym (append-nil (given_to x)); at = λ w s. refl; inside = λ w s f b. b; broken = λ w s f b. absurd (nothing-broken w s (function_at w s x) [] f refl b) }

last-named : (w : World) (s : Scope) (x : ExpForm) (given : List Con) (i : Written) (c : Con) (f : Fault) → Peels x given (e.ConApp i c) → BreaksBack w s (option_and_then (with_argument w s c) (function_at w s i.form)) given f ⊎ IsLast w s c (function_at w s i.form) f → BreaksNamed w s x f
last-named w s x given i c f p (inl b) = p.broken w s f (subst (λ z. BreaksBack w s z given f) (sym (at-con w s i c)) b)
last-named w s x given i c f p (inr q) = p.inside w s f (subst (λ z. BreaksNamed w s z f) (sym (con-made i c)) (subst (BreaksNamed w s (e.ConApp' tt (its i.span i.form alone) c)) (sym q.0) (large_argument q.1.1 q.2)))

pub peels-more : (x : ExpForm) (given : List Con) (i : Written) (c : Con) → Peels x given (e.ConApp i c) → Peels x (given ++ c ∷ []) i.form
peels-more x given i c p = record {
  given = p.given ∙ ap (λ z. z ++ reverse given) (given-con i c) ∙ append_assoc (given_to i.form) (c ∷ []) (reverse given) ∙ ap (λ z. given_to i.form ++ z) (sym (reverse-append given (c ∷ [])));
  at = λ w s. p.at w s ∙ ap (with_back w s given) (at-con w s i c) ∙ sym (back-last w s given c (function_at w s i.form));
  inside = λ w s f b. p.inside w s f (subst (λ z. BreaksNamed w s z f) (sym (con-made i c)) (named_within b));
  broken = λ w s f b. last-named w s x given i c f p (split-last w s given c (function_at w s i.form) f b);
}

pub peels-init : (x : ExpForm) (given : List (Bor Con)) → given ≡ [] → Peels x (map (λ c. c.now) given) x
peels-init x given e = subst (λ (z : List (Bor Con)). Peels x (map (λ c. c.now) z) x) (sym e) (peels-start x)

pub peels-past : (x head : ExpForm) (given more : List (Bor Con)) (i j : Written) (c : Bor Con) → more ≡ given ++ c ∷ [] → head ≡ e.ConApp i c.now → j ≡ i → Peels x (map (λ c. c.now) given) head → Peels x (map (λ c. c.now) more) j.form
peels-past x head given more i j c m h k p =
    subst (λ (z : Written). Peels x (map (λ (c : Bor Con). c.now) more) z.form) (sym k)
    (subst (λ z. Peels x z i.form) (sym (ap (map (λ (c : Bor Con). c.now)) m ∙ map-append (λ (c : Bor Con). c.now) given (c ∷ []))) (peels-more x (map (λ c. c.now) given) i c.now (subst (λ z. Peels x (map (λ (c : Bor Con). c.now) given) z) h p)))

pub given-less : (head : ExpForm) (i j : Written) (c : Con) → head ≡ e.ConApp i c → j ≡ i → length (given_to j.form) < length (given_to head)
given-less head i j c h k =
    let one : length (given_to head) ≡ length (given_to i.form ++ c ∷ []) = ap (λ z. length (given_to z)) h ∙ ap length (given-con i c) in
    let two : length (given_to j.form) ≡ length (given_to i.form) = ap (λ (z : Written). length (given_to z.form)) k in
    less (length (given_to j.form)) (length (given_to head)) (length (given_to i.form)) (two) (one ∙ length-append (given_to i.form) (c ∷ [])) where
      less : (a b n : ℕ) → a ≡ n → b ≡ n + 1 → a < b
      less a b n e f = omega arith

pub peels-given : (x : ExpForm) (given : List Con) (head : ExpForm) → Peels x given head → is_given head ≡ false → given_to x ≡ reverse given
peels-given x given head p h = p.given ∙ ap (λ z. z ++ reverse given) (not-given head h)

reverse-none : (cs : List Con) → reverse cs ≡ [] → cs ≡ []
reverse-none cs h = sym (reverse-reverse cs) ∙ ap reverse h

given-there : (x : ExpForm) (given : List Con) (w : World) (s : Scope) (g : Option (ℕ × List Normal)) (f : Fault) (b : Bool) → is_given x ≡ b → given_to x ≡ reverse given → BreaksBack w s g given f → is_given x ≡ true
given-there x given w s g f true h e k = h
given-there x given w s g f false h e k = absurd (nothing-broken w s g given f (reverse-none given (sym e ∙ not-given x h)) k)

pub peels-broken : (x : ExpForm) (given : List Con) (head : ExpForm) → Peels x given head → is_given head ≡ false → (w : World) (s : Scope) (f : Fault) → BreaksBack w s (function_at w s head) given f → BreaksGivenTo w s x f
peels-broken x given head p h w s f b = record {
  is_given = given-there x given w s (function_at w s head) f (is_given x) refl (peels-given x given head p h) b;
  none = p.at w s ∙ broken-none w s (function_at w s head) given f b;
  broken = p.broken w s f b;
}

-- ---- arguments in normal form, the first one first

-- what is left to be given, behind what is given so far
pub record Gives (a : Around) (n : ℕ) (back : List Con) (k : ℕ) (args : List Normal) (there : List Con) (left : List Con) : Type 0 where
  pub at : (w : World) (s : Scope) → Stands a w s → with_back w s back (Some (n, [])) ≡ with_back w s left (Some (k, args))
  pub given : reverse back ≡ there ++ reverse left
  pub ordered : (w : World) (s : Scope) → Stands a w s → are_normal args ≡ true
  pub broken : (w : World) (s : Scope) (f : Fault) → BreaksBack w s (Some (k, args)) left f → Stands a w s → BreaksBack w s (Some (n, [])) back f

pub gives-start : (a : Around) (n : ℕ) (back : List Con) → Gives a n back n [] [] back
gives-start a n back = record { at = λ w s h. refl; given = refl; ordered = λ w s h. refl; broken = λ w s f b h. b }

pub gives-more : (a : Around) (n k j : ℕ) (back given more left rest : List Con) (args new : List Normal) (c : Con) → Gives a n back k args given left → left ≡ rest ++ c ∷ [] → ((w : World) (s : Scope) → Stands a w s → with_argument w s c (k, args) ≡ Some (j, new)) → more ≡ given ++ c ∷ [] →
    ((w : World) (s : Scope) → Stands a w s → are_normal args ≡ true → are_normal new ≡ true) → Gives a n back j new more rest
gives-more a n k j back given more left rest args new c p e step g ok = record {
  at = λ w s h. p.at w s h ∙ ap (λ z. with_back w s z (Some (k, args))) e ∙ back-last w s rest c (Some (k, args)) ∙ ap (with_back w s rest) (step w s h);
  given = p.given ∙ ap (λ z. given ++ reverse z) e ∙ ap (λ z. given ++ z) (reverse-append rest (c ∷ [])) ∙ sym (ap (λ z. z ++ reverse rest) g ∙ append_assoc given (c ∷ []) (reverse rest));
  ordered = λ w s h. ok w s h (p.ordered w s h);
  broken = λ w s f b h. p.broken w s f (subst (λ z. BreaksBack w s (Some (k, args)) z f) (sym e) (broken-last w s (Some (k, args)) c rest f (subst (λ z. BreaksBack w s z rest f) (sym (step w s h)) b))) h;
}

pub gives-broken : (a : Around) (n k : ℕ) (back given left rest : List Con) (args : List Normal) (c : Con) → Gives a n back k args given left → left ≡ rest ++ c ∷ [] → (names : List (List ℕ)) (r : Refusal) →
    ((w : World) (s : Scope) → Stands a w s → Refuses names (λ x. (x ≡ too_large) × (nat_le (nodes (nf s.names.cons c)) w.most ≡ false)) r) → (w : World) (s : Scope) → Stands a w s → Refuses names (BreaksBack w s (Some (n, [])) back) r
gives-broken a n k back given left rest args c p e names r told w s h =
    let t : Refuses names (λ x. (x ≡ too_large) × (nat_le (nodes (nf s.names.cons c)) w.most ≡ false)) r = told w s h in
    (t.0, p.broken w s t.0 (subst (λ z. BreaksBack w s (Some (k, args)) z t.0) (sym e) (subst (BreaksBack w s (Some (k, args)) (rest ++ c ∷ [])) (sym t.1.0) (broken-there w s rest c (k, args) t.1.1))) h, t.2)

-- the same along what the code takes from the end
with-last : (left rest : List (Bor Con)) (c : Bor Con) → left ≡ rest ++ c ∷ [] → map (λ (c : Bor Con). c.now) left ≡ map (λ (c : Bor Con). c.now) rest ++ c.now ∷ []
with-last left rest c e = ap (map (λ (c : Bor Con). c.now)) e ∙ map-append (λ (c : Bor Con). c.now) rest (c ∷ [])

pub gives-past : (a : Around) (n : ℕ) (back left rest : List (Bor Con)) (f g : Applied) (c : Bor Con) → left ≡ rest ++ c ∷ [] → Gives a n (map (λ (c : Bor Con). c.now) back) f.number f.args (map (λ (c : Bor Con). c.now) f.given) (map (λ (c : Bor Con). c.now) left) →
    ((w : World) (s : Scope) → Stands a w s → with_argument w s c.now (f.number, f.args) ≡ Some (g.number, g.args)) → map (λ (c : Bor Con). c.now) g.given ≡ map (λ (c : Bor Con). c.now) f.given ++ c.now ∷ [] → ((w : World) (s : Scope) → Stands a w s → are_normal f.args ≡ true → are_normal g.args ≡ true) →
    Gives a n (map (λ (c : Bor Con). c.now) back) g.number g.args (map (λ (c : Bor Con). c.now) g.given) (map (λ (c : Bor Con). c.now) rest)
gives-past a n back left rest f g c e p step more ok =
    gives-more a n f.number g.number (map (λ (c : Bor Con). c.now) back) (map (λ (c : Bor Con). c.now) f.given) (map (λ (c : Bor Con). c.now) g.given) (map (λ (c : Bor Con). c.now) left) (map (λ (c : Bor Con). c.now) rest) f.args g.args c.now p (with-last left rest c e) step more ok

pub told-past : (a : Around) (n : ℕ) (back left rest : List (Bor Con)) (f : Applied) (c : Bor Con) → left ≡ rest ++ c ∷ [] → Gives a n (map (λ (c : Bor Con). c.now) back) f.number f.args (map (λ (c : Bor Con). c.now) f.given) (map (λ (c : Bor Con). c.now) left) → (names : List (List ℕ)) (r : Refusal) →
    ((w : World) (s : Scope) → Stands a w s → Refuses names (λ x. (x ≡ too_large) × (nat_le (nodes (nf s.names.cons c.now)) w.most ≡ false)) r) → (w : World) (s : Scope) → Stands a w s → Refuses names (BreaksBack w s (Some (n, [])) (map (λ (c : Bor Con). c.now) back)) r
told-past a n back left rest f c e p names r told =
    gives-broken a n f.number (map (λ (c : Bor Con). c.now) back) (map (λ (c : Bor Con). c.now) f.given) (map (λ (c : Bor Con). c.now) left) (map (λ (c : Bor Con). c.now) rest) f.args c.now p (with-last left rest c e) names r told

-- the end of a list of arguments in order
normal-last : (args : List Normal) (n : Normal) → are_normal args ≡ true → is_normal n ≡ true → are_normal (args ++ n ∷ []) ≡ true
normal-last [] n h k = ap (λ z. z && true) k
normal-last (a ∷ args) n h k = both-true (is_normal a) (are_normal args) (are_normal (args ++ n ∷ [])) h (λ t. normal-last args n t k) where
  both-true : (a b c : Bool) → (a && b) ≡ true → (b ≡ true → c ≡ true) → (a && c) ≡ true
  both-true true b c h f = f h
  both-true false b c h f = h

pub one-given : (a : Around) (con : Con) (form : Normal) (k : ℕ) (args : List Normal) → ((env : ConEnv) → Reads a.scope.cons.names env → form ≡ nf env con) → ((env : ConEnv) → Reads a.scope.cons.names env → nodes form ≤ most_nodes) → (w : World) (s : Scope) → Stands a w s →
    with_argument w s con (k, args) ≡ Some (k, args ++ form ∷ [])
one-given a con form k args read small w s h =
    let is : form ≡ nf s.names.cons con = read s.names.cons h.cons in
    ap (λ z. if_so (nat_le (nodes z) w.most) (Some (k, args ++ z ∷ []))) (sym is) ∙ ap (λ b. if_so b (Some (k, args ++ form ∷ []))) (ap (nat_le (nodes form)) (most_is a w s h) ∙ is-small (nodes form) 65536 (small s.names.cons h.cons))

pub ordered-given : (a : Around) (form : Normal) (args : List Normal) → ((env : ConEnv) → Reads a.scope.cons.names env → is_normal form ≡ true) → (w : World) (s : Scope) → Stands a w s → are_normal args ≡ true → are_normal (args ++ form ∷ []) ≡ true
ordered-given a form args ok w s h e = normal-last args form e (ok s.names.cons h.cons)

pub large-given : (a : Around) (con : Con) (names : List (List ℕ)) (r : Refusal) → IsLarge r → ((env : ConEnv) → Reads a.scope.cons.names env → most_nodes < nodes (nf env con)) → (w : World) (s : Scope) → Stands a w s →
    Refuses names (λ x. (x ≡ too_large) × (nat_le (nodes (nf s.names.cons con)) w.most ≡ false)) r
large-given a con names r says large w s h = (too_large, (refl, ap (nat_le (nodes (nf s.names.cons con))) (most_is a w s h) ∙ is-large (nodes (nf s.names.cons con)) 65536 (large s.names.cons h.cons)), says)

-- ---- what is named

pub applied-made : (w : World) (s : Scope) (x head : ExpForm) (back : List Con) (n : ℕ) (a : Applied) → Peels x back head → is_given head ≡ false → function_named w s head ≡ Some n → with_back w s back (Some (n, [])) ≡ Some (a.number, a.args) → map (λ c. c.now) a.given ≡ reverse back → are_normal a.args ≡ true →
    IsApplied w s x a
applied-made w s x head back n a p h f e g ok = record {
  at = p.at w s ∙ ap (with_back w s back) (plain-at w s head h ∙ ap (option_map without_arguments) f) ∙ e;
  given = g ∙ sym (peels-given x back head p h);
  ordered = ok;
}

pub none-made : (w : World) (s : Scope) (x head : ExpForm) (back : List Con) → Peels x back head → is_given head ≡ false → function_named w s head ≡ None → function_at w s x ≡ None
none-made w s x head back p h f = p.at w s ∙ ap (with_back w s back) (plain-at w s head h ∙ ap (option_map without_arguments) f) ∙ none-back w s back

pub applied-told : (w : World) (s : Scope) (x head : ExpForm) (back : List Con) (n : ℕ) (names : List (List ℕ)) (r : Refusal) → Peels x back head → is_given head ≡ false → function_named w s head ≡ Some n → Refuses names (BreaksBack w s (Some (n, [])) back) r → Refuses names (BreaksGivenTo w s x) r
applied-told w s x head back n names r p h f t = (t.0, peels-broken x back head p h w s t.0 (subst (λ z. BreaksBack w s z back t.0) (sym (plain-at w s head h ∙ ap (option_map without_arguments) f)) t.1), t.2)

-- ---- the choice of what is applied

pub applied-there : (w : World) (s : Scope) (x : ExpForm) (o : Option Applied) (a : Applied) → o ≡ Some a → MayBeApplied w s x o → IsApplied w s x a
applied-there w s x o a e h = subst (MayBeApplied w s x) e h

pub none-there : (w : World) (s : Scope) (x : ExpForm) (o : Option Applied) → o ≡ None → MayBeApplied w s x o → function_at w s x ≡ None
none-there w s x o e h = subst (MayBeApplied w s x) e h

pub callee-tag : (w : World) (s : Scope) (x : ExpForm) (o : Option Applied) (t : Option ℕ) (n : ℕ) → o ≡ None → MayBeApplied w s x o → t ≡ Some n → MayBeTag w x t → IsCallee w s x (callee.Tag n)
callee-tag w s x o t n e h f k = (none-there w s x o e h, subst (MayBeTag w x) f k)

pub callee-other : (w : World) (s : Scope) (x : ExpForm) (o : Option Applied) (t : Option ℕ) → o ≡ None → MayBeApplied w s x o → t ≡ None → MayBeTag w x t → IsCallee w s x callee.Other
callee-other w s x o t e h f k = (none-there w s x o e h, subst (MayBeTag w x) f k)

pub given-told : (w : World) (s : Scope) (x : ExpForm) (names : List (List ℕ)) (r : Refusal) → Refuses names (BreaksGivenTo w s x) r → Refuses names (BreaksCallee w s x) r
given-told w s x names r t = (t.0, large_given t.1, t.2)

pub head-told : (w : World) (s : Scope) (x : ExpForm) (names : List (List ℕ)) (r : Refusal) (o : Option Applied) → o ≡ None → MayBeApplied w s x o → Refuses names (BreaksHead w x) r → Refuses names (BreaksCallee w s x) r
head-told w s x names r o e h t = (t.0, bad_head (none-there w s x o e h) t.1, t.2)

-- the type of functions that the code makes
pub ruleset arrows = (arrow-made, arrows-last)
