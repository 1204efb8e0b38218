-- The small grammar of open ends is read in one way.
use Rattle.std.specs.Prelude.{◌≡◌, ℕ, Bool, true, false, not, ◌&&◌, ◌||◌, if◌then◌else◌, List, [], ◌∷◌, ◌++◌, Option, Some, None, refl}
use Rattle.std.proofs.Common.{sym, ◌∙◌, ap, inl, inr, subst}
use Rattle.std.proofs.lemmas.List.{append-nil}
use Rattle.ur_lex.specs.declared.token.Keyword.TheVariants as keyword
use Rattle.ur_lex.specs.declared.token.Symbol.TheVariants as symbol
use Rattle.ur_lex.specs.declared.token.TokenKind.{TokenKind}
use Rattle.ur_lex.specs.declared.token.TokenKind.TheVariants as token
use Rattle.ur_lex.specs.declared.token.Lexeme.{Lexeme}
use Rattle.ur_lex.specs.Spelling.{Text}
use Rattle.ur_parse_rules.specs.Rules.{Stops, Sym, part, AnyOf, Builds, Spells}
use Rattle.ur_parse_rules.specs.Lines.{Exp, Ended, Part, Tree, exp, rest, line, atom, branches, more_branches, rules, lines, more, more_exp, more_line, semicolon, bar, followed, may_follow, may_branch}
use Rattle.ur_parse_rules.proofs.Inversions.{produced-out, part-out, nothing-out, token-out, no_plain}
use Rattle.ur_parse_rules.proofs.Once.{Decided}
use Rattle.ur_parse_rules.proofs.Choices.{by_first, all_chosen, chosen_mark, chosen_name, chosen_one, chosen_none, then_mark, then_any, then_end, less, if_false, Begins, begins_by}

abbrev pub line_first : TokenKind → Text → ℕ
line_first (token.Keyword keyword.If) w = 0
line_first (token.Keyword keyword.Fn) w = 1
line_first (token.Keyword keyword.Case) w = 2
line_first _ w = 3

abbrev pub atom_first : TokenKind → Text → ℕ
atom_first (token.Symbol symbol.LParen) w = 1
atom_first _ w = 0

abbrev pub is_first : (TokenKind → Text → Bool) → TokenKind → Text → ℕ
is_first g k w = if g k w then 1 else 0

abbrev pub choice : Part → List Lexeme → ℕ
choice rest = by_first (is_first semicolon) 0
choice line = by_first line_first 3
choice atom = by_first atom_first 0
choice more_branches = by_first (is_first bar) 0
choice _ = by_first (λ k w. 0) 0

single : (ts : List Lexeme) → by_first (λ k w. 0) 0 ts ≡ 0
single [] = refl
single (t ∷ ts) = refl

abbrev begins_atom : TokenKind → Text → Bool
begins_atom token.Lower w = true
begins_atom (token.Symbol symbol.LParen) w = true
begins_atom _ w = false

atom_begins : Begins lines begins_atom atom
atom_begins = begins_by lines begins_atom atom (λ w e. refl, (λ w. refl, tt))

atom_line : (k : TokenKind) (w : Text) → begins_atom k w ≡ true → line_first k w ≡ 3
atom_line token.Lower w e = refl
atom_line (token.Symbol s) w e = refl
atom_line (token.Keyword k) w e = absurd (let z : false ≡ true = e in cc)
atom_line _ w e = refl

-- ---- Bool

either : (a b c : Bool) → (a || (b && c)) ≡ false → (d : Bool) → ((a && d) || (b && c)) ≡ false
either true b c e d = absurd (let z : true ≡ false = e in cc)
either false b c e d = e

with_true : (a r : Bool) → ((a && true) || r) ≡ false → (a || r) ≡ false
with_true true r e = e
with_true false r e = e

both_true : (a b : Bool) → ((a && true) || (b && true)) ≡ false → (a || b) ≡ false
both_true true b e = e
both_true false true e = e
both_true false false e = refl

left : (a b : Bool) → (a || b) ≡ false → a ≡ false
left true b e = e
left false b e = refl

right : (a b : Bool) → (a || b) ≡ false → b ≡ false
right true b e = absurd (let z : true ≡ false = e in cc)
right false b e = e

and_false : (a b : Bool) → b ≡ false → (a && b) ≡ false
and_false true b e = e
and_false false b e = refl

wider_bar : (a b : Bool) → (a || b) ≡ false → (c : Bool) → (a || (b && c)) ≡ false
wider_bar true b e c = e
wider_bar false b e c = rw e refl

ends_rest : (a : Ended) (b : Option Ended) (r : List Lexeme) → Stops (more_exp (followed a b)) r → Stops (more rest b) r
ends_rest a None r s = less r (λ k w e. left (semicolon k w) (bar k w && a.takes_bar) e) s
ends_rest a (Some b) r s = less r (λ k w e. e) s

-- what is not taken
not_taken : (b : Bool) → not b ≡ true → b ≡ false
not_taken true e = sym e
not_taken false e = refl

-- ---- a line ends before what follows

rest_cases : (a : Ended) (n : ℕ) (x : Option Ended) (q : List (Sym Tree)) (i rest' : List Lexeme) → AnyOf (Builds lines rest x q i) (rules rest) → Spells lines n q i → may_follow a x ≡ true → Stops (more_exp (followed a x)) rest' → Stops (more_line a) (i ++ rest')
rest_cases a n x q i rest' (inl (v, span, is, al, b, f)) d m s = let z = nothing-out lines (subst (λ z. Spells lines n z i) f d) in
    let y : Stops (more_exp a) rest' = subst (λ z. Stops (more_exp (followed a z)) rest') b s in rw z (less rest' (λ k w e. either (semicolon k w) (bar k w) a.takes_bar e a.takes_semicolon) y)
rest_cases a n x q i rest' (inr (inl (v, span, is, al, b, f))) d m s = let o = token-out lines (no_plain lines) (subst (λ z. Spells lines n z i) f d) in let e = o.2 in let g = o.3 in
    let t : a.takes_semicolon ≡ false = not_taken a.takes_semicolon (subst (λ z. may_follow a z ≡ true) b m) in rw (e, g, t) refl
rest_cases a n x q i rest' (inr (inr c)) d m s = absurd c

part_alone : (p : Part) (n : ℕ) (x : Tree p) (taken : List Lexeme) → Spells lines n (part p x ∷ []) taken → (m : ℕ) × (q : List (Sym Tree)) × AnyOf (Builds lines p x q taken) (rules p) × Spells lines m q taken
part_alone p n x taken d = let o = produced-out lines d in let e = sym o.3 in (o.0, o.1, subst (λ z. AnyOf (Builds lines p x o.1 z) (rules p)) e o.4, subst (λ z. Spells lines o.0 o.1 z) e o.6)

branch_cases : (a : Ended) (n : ℕ) (x : Option Exp) (q : List (Sym Tree)) (i rest' : List Lexeme) → AnyOf (Builds lines more_branches x q i) (rules more_branches) → Spells lines n q i → may_branch a x ≡ true →
    Stops (λ k w. semicolon k w || bar k w) rest' → Stops (more_exp a) (i ++ rest')
branch_cases a n x q i rest' (inl (v, span, is, al, b, f)) d m s = let z = nothing-out lines (subst (λ z. Spells lines n z i) f d) in rw z (less rest' (λ k w e. wider_bar (semicolon k w) (bar k w) e a.takes_bar) s)
branch_cases a n x q i rest' (inr (inl (v, span, is, al, b, f))) d m s = let o = token-out lines (no_plain lines) (subst (λ z. Spells lines n z i) f d) in let e = o.2 in let g = o.3 in
    let t : a.takes_bar ≡ false = not_taken a.takes_bar (subst (λ z. may_branch a z ≡ true) b m) in rw (e, g, t) refl
branch_cases a n x q i rest' (inr (inr c)) d m s = absurd c

-- ---- each nonterminal is read in one way

pub decided : (p : Part) → Decided lines choice p
decided exp = record {
  chosen = (λ n v ts r d x. single _, tt);
  after = (
    λ a. (
      record {
        ends = λ n v taken r d x. let o = part-out lines d in let s : taken ≡ o.0 = o.2 ∙ ap (λ z. o.0 ++ z) (nothing-out lines o.5) ∙ append-nil o.0 in let c = part_alone rest n v.0 o.0 o.3 in
            rw s (rest_cases a c.0 v.0 c.1 o.0 r c.2 c.3 x.allowed x.stops);
      },
      λ b. (then_end (λ r x. ends_rest a b r x.stops), tt),
    ),
    tt,
  );
}
decided rest = record {
  chosen = all_chosen lines rest (is_first semicolon) 0 0 (rules rest) (chosen_none semicolon (λ r x. x.stops) (λ k w e. if_false 1 e), (chosen_mark (λ w. refl), tt));
  after = (tt, (λ e. (then_end (λ r x. x.stops), tt), tt));
}
decided line = record {
  chosen = all_chosen lines line line_first 3 0 (rules line) (chosen_mark (λ w. refl), (chosen_mark (λ w. refl), (chosen_mark (λ w. refl), (chosen_one atom_begins atom_line, tt))));
  after = (
    λ c. (then_mark (λ w. refl), λ a. (then_mark (λ w. refl), λ b. (then_end (λ r x. x.stops), tt))),
    (λ y b. (then_end (λ r x. less r (λ k w e. with_true (semicolon k w) (bar k w && b.takes_bar) e) x.stops), tt), (λ e. (then_mark (λ w. refl), λ bs. (then_end (λ r x. less r (λ k w e. both_true (semicolon k w) (bar k w) e) x.stops), tt)), (λ a. (then_any (λ k w. refl), tt), tt))),
  );
}
decided atom = record { chosen = all_chosen lines atom atom_first 0 0 (rules atom) (chosen_name (λ w e. refl), (chosen_mark (λ w. refl), tt)); after = (λ y. tt, (λ e. (then_mark (λ w. refl), tt), tt)) }
decided branches = record {
  chosen = (λ n v ts r d x. single _, tt);
  after = (
    λ a. (
      record {
        ends = λ n v taken r d x. let o = part-out lines d in let s : taken ≡ o.0 = o.2 ∙ ap (λ z. o.0 ++ z) (nothing-out lines o.5) ∙ append-nil o.0 in let c = part_alone more_branches n v.0 o.0 o.3 in
            rw s (branch_cases a c.0 v.0 c.1 o.0 r c.2 c.3 x.allowed x.stops);
      },
      λ b. (then_end (λ r x. x.stops), tt),
    ),
    tt,
  );
}
decided more_branches = record {
  chosen = all_chosen lines more_branches (is_first bar) 0 0 (rules more_branches) (chosen_none (λ k w. semicolon k w || bar k w) (λ r x. x.stops) (λ k w e. if_false 1 (right (semicolon k w) (bar k w) e)), (chosen_mark (λ w. refl), tt));
  after = (tt, (λ bs. (then_end (λ r x. x.stops), tt), tt));
}
