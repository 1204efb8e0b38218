-- Expressions that end with a lambda take each `;`, and those that end with a `case` also each `|`.
use Rattle.std.specs.Prelude.{◌≡◌, ℕ, Bool, true, false, not, ◌&&◌, ◌||◌, List, [], ◌∷◌, ◌++◌, Option, Some, None, refl}
use Rattle.std.proofs.Common.{sym, ◌∙◌, ap, subst, inl, inr, append_assoc}
use Rattle.std.proofs.lemmas.List.{append-nil}
use Rattle.ur_base.specs.declared.refusal.Span.{Span}
use Rattle.ur_lex.specs.declared.token.Symbol.TheVariants as symbol
use Rattle.ur_lex.specs.declared.token.TokenKind.{TokenKind}
use Rattle.ur_lex.specs.declared.token.TokenKind.TheVariants as token
use Rattle.ur_lex.specs.declared.token.Lexeme.{Lexeme}
use Rattle.ur_lex.specs.Spelling.{Text}
use Rattle.ur_parse_rules.specs.Rules.{Sym, part, Spells, Stops, AnyOf, Builds}
use Rattle.ur_parse_rules.proofs.Inversions.{produced-out, part-out, nothing-out, token-out, no_plain, no_named}
use Rattle.ur_parse_rules.proofs.Once.{Decided}
use Rattle.ur_parse_rules.proofs.Choices.{if_false, stops_first, less, then_mark, then_any, then_end}
use Rattle.ur_syntax.specs.declared.exp.Branch.{Branch}
use Rattle.ur_parse_rules.specs.Classes.{member}
use Rattle.ur_parse_rules.specs.ExpParts.{exp, rest, line, lambda, bar, branches, more_branches}
use Rattle.ur_parse_rules.specs.Parts.{Part, of_exp, Tree, Ended}
use Rattle.ur_parse_rules.specs.Expressions.{followed, may_follow, may_branch}
use Rattle.ur_parse_rules.specs.Ends as ends
use Rattle.ur_parse_rules.specs.Ends.{symbols, operators, semicolon, line_more, exp_more, rest_more, branches_more}
use Rattle.ur_parse_rules.specs.Language.{language, rules}
use Rattle.ur_parse_rules.proofs.Tests.{false_true, not_true, contrary, or_first, or_second, inside, nor_both}
use Rattle.ur_parse_rules.proofs.Checks.{part_begun, all_chosen, before, sets}
use Rattle.ur_parse_rules.proofs.Starts.{first, empty}
use Rattle.ur_parse_rules.proofs.Firsts.{fit}
use Rattle.ur_parse_rules.proofs.Most.{last, most}
use Rattle.ur_parse_rules.proofs.Leads.{behind}
use Rattle.ur_parse_rules.proofs.Choice.{choice, arrow}
use Rattle.ur_parse_rules.proofs.Watches.{no_arrow}
use Rattle.ur_parse_rules.proofs.Special.{first_of}

-- ---- Bool: operators, `;`, `|` and the flags

none_left : (a b : Bool) → (a || b) ≡ false → a ≡ false
none_left true b e = e
none_left false b e = refl

none_right : (a b : Bool) → (a || b) ≡ false → b ≡ false
none_right true b e = false_true (sym e)
none_right false b e = e

fewer : (o s b t u : Bool) → (o || (s || (b && u))) ≡ false → (o || ((s && t) || (b && u))) ≡ false
fewer true s b t u e = e
fewer false true b t u e = false_true (sym e)
fewer false false b t u e = e

same_taken : (o s b u : Bool) → (o || ((s && true) || (b && u))) ≡ false → (o || (s || (b && u))) ≡ false
same_taken true s b u e = e
same_taken false true b u e = e
same_taken false false b u e = e

all_taken : (o s b : Bool) → (o || ((s && true) || (b && true))) ≡ false → (o || (s || b)) ≡ false
all_taken true s b e = e
all_taken false true b e = e
all_taken false false true e = e
all_taken false false false e = refl

fewer_bars : (o s b u : Bool) → (o || (s || b)) ≡ false → (o || (s || (b && u))) ≡ false
fewer_bars true s b u e = e
fewer_bars false true b u e = e
fewer_bars false false true u e = false_true (sym e)
fewer_bars false false false u e = refl

-- ---- a line ends before what follows

follows_nothing : (span : Span) (a : Ended) (b : Option Ended) (r : List Lexeme) → Stops (exp_more (followed span a b)) r → Stops (rest_more b) r
follows_nothing span a None r s = less r (λ k w e. none_left (semicolon k w) _ (none_right (member operators k w) _ e)) s
follows_nothing span a (Some b) r s = s

rest_cases : (span : Span) (a : Ended) (n : ℕ) (b : Option Ended) (q : List (Sym Tree)) (i r : List Lexeme) → AnyOf (Builds language (of_exp rest) b q i) (rules (of_exp rest)) → Spells language n q i → may_follow a b ≡ true →
    Stops (exp_more (followed span a b)) r → Stops (line_more a) (i ++ r)
rest_cases span a n b q i r (inl (v, sp, is, al, e, f)) d m s = let z = nothing-out language (subst (λ z. Spells language n z i) f d) in
    let y : Stops (exp_more a) r = subst (λ z. Stops (exp_more (followed span a z)) r) e s in rw z (less r (λ k w h. fewer (member operators k w) (semicolon k w) (ends.bar k w) a.takes_semicolon a.takes_bar h) y)
rest_cases span a n b q i r (inr (inl (v, sp, is, al, e, f))) d m s = let o = token-out language (no_plain language) (subst (λ z. Spells language n z i) f d) in let i0 = o.2 in let k = o.3 in
    let t : a.takes_semicolon ≡ false = not_true a.takes_semicolon (subst (λ z. may_follow a z ≡ true) e m) in rw (i0, k, t) refl
rest_cases span a n b q i r (inr (inr c)) d m s = absurd c

branch_cases : (a : Ended) (n : ℕ) (bs : Option (List Branch)) (q : List (Sym Tree)) (i r : List Lexeme) → AnyOf (Builds language (of_exp more_branches) bs q i) (rules (of_exp more_branches)) → Spells language n q i → may_branch a bs ≡ true →
    Stops branches_more r → Stops (exp_more a) (i ++ r)
branch_cases a n bs q i r (inl (v, sp, is, al, e, f)) d m s = let z = nothing-out language (subst (λ z. Spells language n z i) f d) in
    rw z (less r (λ k w h. fewer_bars (member operators k w) (semicolon k w) (ends.bar k w) a.takes_bar h) s)
branch_cases a n bs q i r (inr (inl (v, sp, is, al, e, f))) d m s = let o = token-out language (no_plain language) (subst (λ z. Spells language n z i) f d) in let i0 = o.2 in let k = o.3 in
    let t : a.takes_bar ≡ false = not_true a.takes_bar (subst (λ z. may_branch a z ≡ true) e m) in rw (i0, k, t) refl
branch_cases a n bs q i r (inr (inr c)) d m s = absurd c

-- ---- each of them is read in one way

alone : (p : Part) (n : ℕ) (x : Tree p) (taken : List Lexeme) → Spells language n (part p x ∷ []) taken → (m : ℕ) × (q : List (Sym Tree)) × AnyOf (Builds language p x q taken) (rules p) × Spells language m q taken
alone p n x taken d = let o = produced-out language d in let i = sym o.3 in (o.0, o.1, subst (λ z. AnyOf (Builds language p x o.1 z) (rules p)) i o.4, subst (λ z. Spells language o.0 o.1 z) i o.6)

arrow_free : (a : Ended) (k : TokenKind) (w : Text) → exp_more a k w ≡ false → member arrow k w ≡ false
arrow_free a k w h = contrary (λ m. inside arrow (symbols (symbol.Semicolon ∷ symbol.LeftArrow ∷ [])) k w refl m) (none_left (semicolon k w) _ (none_right (member operators k w) _ h))

rest_goes_on : (a : Option Ended) (k : TokenKind) (w : Text) → member (symbols (symbol.Semicolon ∷ [])) k w ≡ true → rest_more a k w ≡ true
rest_goes_on None k w h = inside (symbols (symbol.Semicolon ∷ [])) (symbols (symbol.Semicolon ∷ symbol.LeftArrow ∷ [])) k w refl h
rest_goes_on (Some a) k w h = or_second (member operators k w) _ (or_first (semicolon k w) _ (inside (symbols (symbol.Semicolon ∷ [])) (symbols (symbol.Semicolon ∷ symbol.LeftArrow ∷ [])) k w refl h))

bars_go_on : (a : Option (List Branch)) (k : TokenKind) (w : Text) → member (symbols (symbol.Bar ∷ [])) k w ≡ true → branches_more k w ≡ true
bars_go_on a k w h = or_second (member operators k w) _ (or_second (semicolon k w) _ h)

before_semicolon : (a : Ended) → not a.takes_semicolon ≡ true → (w : Text) → line_more a (token.Symbol symbol.Semicolon) w ≡ false
before_semicolon a h w = let t = not_true a.takes_semicolon h in rw t refl

no_arrow_behind : (span : Span) (a : Ended) (b : Option Ended) (n : ℕ) (taken r : List Lexeme) → Spells language n (part (of_exp rest) b ∷ []) taken → Stops (exp_more (followed span a b)) r → behind arrow true (taken ++ r) ≡ false
no_arrow_behind span a b n taken r d s = elim (part_begun language first empty fit (of_exp rest) n b taken d) [
  | inl y ↦ (let i = y.0 in rw i (stops_first (member arrow) r (less r (λ k w h. arrow_free (followed span a b) k w h) s)))
  | inr y ↦ (let i = y.2 in rw i (nor_both arrow (symbols (symbol.Semicolon ∷ [])) y.0.kind y.0.content refl y.3))
]

pub line_decided : Decided language choice (of_exp line)
line_decided = record {
  chosen = all_chosen language first empty fit (λ _. []) (of_exp line) (λ a k w h. false_true h) (sets first empty (rules (of_exp line))) 3 0 (rules (of_exp line)) (λ k w m. refl) refl;
  after = (
    λ i. (then_mark (λ w. refl), λ a. (then_mark (λ w. refl), λ b. (then_end (λ r y. y.stops), tt))),
    (
      λ a. (then_end (λ r y. y.stops), tt),
      (
        λ a. (
          then_mark (λ w. refl),
          λ u. (
            before language first empty fit last (of_exp bar) (λ a k w h. h) most (of_exp bar) u _ _ refl refl,
            λ bs. (then_end (λ r y. less r (λ k w h. all_taken (member operators k w) (semicolon k w) (ends.bar k w) h) y.stops), tt),
          ),
        ),
        (λ a. (then_end (λ r y. less r (λ k w h. none_left (member operators k w) _ h) y.stops), tt), tt),
      ),
    ),
  );
}

pub lambda_decided : Decided language choice (of_exp lambda)
lambda_decided = record {
  chosen = all_chosen language first empty fit (λ _. []) (of_exp lambda) (λ a k w h. false_true h) (sets first empty (rules (of_exp lambda))) 0 0 (rules (of_exp lambda)) (λ k w m. refl) refl;
  after = (
    λ p. (then_any (λ k w. refl), λ ps. (then_mark (λ w. refl), λ b. (then_end (λ r y. less r (λ k w h. same_taken (member operators k w) (semicolon k w) (ends.bar k w) b.takes_bar h) y.stops), tt))),
    tt,
  );
}

pub rest_decided : Decided language choice (of_exp rest)
rest_decided = record {
  chosen = all_chosen language first empty fit (λ _. symbols (symbol.Semicolon ∷ [])) (of_exp rest) rest_goes_on (sets first empty (rules (of_exp rest))) 0 0 (rules (of_exp rest)) (λ k w m. refl) refl;
  after = (tt, (λ a. (then_end (λ r y. y.stops), tt), tt));
}

pub branches_decided : Decided language choice (of_exp branches)
branches_decided = record {
  chosen = all_chosen language first empty fit (λ _. []) (of_exp branches) (λ a k w h. false_true h) (sets first empty (rules (of_exp branches))) 0 0 (rules (of_exp branches)) (λ k w m. refl) refl;
  after = (
    λ p. (
      then_mark (λ w. refl),
      λ a. (
        record {
          ends = λ n v taken r d y. let o = part-out language d in let s : taken ≡ o.0 = o.2 ∙ ap (λ z. o.0 ++ z) (nothing-out language o.5) ∙ append-nil o.0 in let c = alone (of_exp more_branches) n v.0 o.0 o.3 in
              rw s (branch_cases a c.0 v.0 c.1 o.0 r c.2 c.3 y.allowed y.stops);
        },
        λ bs. (then_end (λ r y. y.stops), tt),
      ),
    ),
    tt,
  );
}

pub more_branches_decided : Decided language choice (of_exp more_branches)
more_branches_decided = record {
  chosen = all_chosen language first empty fit (λ _. symbols (symbol.Bar ∷ [])) (of_exp more_branches) bars_go_on (sets first empty (rules (of_exp more_branches))) 0 0 (rules (of_exp more_branches)) (λ k w m. refl) refl;
  after = (tt, (λ bs. (then_end (λ r y. y.stops), tt), tt));
}

pub exp_decided : Decided language choice (of_exp exp)
exp_decided = record {
  chosen = (
    (λ n v taken r d y. let o = token-out language (no_plain language) d in let i0 = o.2 in let k = o.3 in rw (i0, k) refl),
    (
      (λ n v taken r d y. let o = token-out language (no_named language) d in let o' = token-out language (no_plain language) o.4 in let i0 = o.2 in let i1 = o'.2 in let k = o.3.0 in let k' = o'.3 in rw (i0, i1, k, k') refl),
      (
        (λ n v taken r d y. let p = part-out language d in let q = part-out language p.5 in let z : p.1 ≡ q.0 = q.2 ∙ ap (λ z. q.0 ++ z) (nothing-out language q.5) ∙ append-nil q.0 in
            let i0 = p.2 in let a = append_assoc p.0 p.1 r in let us : behind arrow true (p.1 ++ r) ≡ false = rw z (no_arrow_behind y.span v.0 v.1.0 n q.0 r q.3 y.stops) in
            rw (i0, a) (if_false 1 (no_arrow n v.0 p.0 (p.1 ++ r) p.3 us) ∙ if_false 0 (first_of (symbols (symbol.Underscore ∷ [])) (of_exp line) refl refl n v.0 p.0 (p.1 ++ r) p.3))),
        tt,
      ),
    ),
  );
  after = (
    λ a. (record { ends = λ n v taken r d y. let o = token-out language (no_plain language) d in let i0 = o.2 in let k = o.3 in rw (i0, k) (before_semicolon a y.allowed o.0.content) }, λ b. (then_end (λ r y. y.stops), tt)),
    (
      λ x a. (record { ends = λ n v taken r d y. let o = token-out language (no_plain language) d in let i0 = o.2 in let k = o.3 in rw (i0, k) (before_semicolon a y.allowed o.0.content) }, λ b. (then_end (λ r y. y.stops), tt)),
      (
        λ a. (
          record {
            ends = λ n v taken r d y. let o = part-out language d in let s : taken ≡ o.0 = o.2 ∙ ap (λ z. o.0 ++ z) (nothing-out language o.5) ∙ append-nil o.0 in let c = alone (of_exp rest) n v.0 o.0 o.3 in
                rw s (rest_cases y.span a c.0 v.0 c.1 o.0 r c.2 c.3 y.allowed y.stops);
          },
          λ b. (then_end (λ r y. follows_nothing y.span a b r y.stops), tt),
        ),
        tt,
      ),
    ),
  );
}
