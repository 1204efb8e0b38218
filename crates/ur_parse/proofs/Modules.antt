-- Declarations one behind another, and whole modules.
use Rattle.std.specs.Prelude.{◌≡◌, ◌<◌, ◌≤◌, ℕ, Bool, true, false, if◌then◌else◌, List, [], ◌∷◌, ◌++◌, length, drop, refl}
use Rattle.std.proofs.Common.{sym, ◌∙◌, ap, subst, arith, append_assoc}
use Rattle.std.proofs.lemmas.List.{append-nil, drop_all, length-drop}
use Rattle.ur_base.specs.declared.refusal.Refusal.{Refusal}
use Rattle.ur_base.specs.Stopping.{Says}
use Rattle.ur_lex.specs.declared.token.Lexeme.{Lexeme}
use Rattle.ur_syntax.specs.declared.decl.Decl.{Decl}
use Rattle.ur_syntax.specs.declared.decl.Module.{Module}
use Rattle.ur_parse_rules.specs.Rules.{Spells, Stops, Read, Refused, no_span, syntax, nested, part}
use Rattle.ur_parse_rules.specs.Places.{starts}
use Rattle.ur_parse_rules.proofs.Once.{read_once}
use Rattle.ur_parse_rules.proofs.Steps.{nothing, an_one, one_read, one_refused, reads_by, refused_by}
use Rattle.ur_parse_rules.proofs.Choices.{if_true, if_false, first_stops}
use Rattle.ur_parse_rules.specs.Classes.{Classes, member, in_class}
use Rattle.ur_parse_rules.specs.DeclParts.{whole, decls, decl}
use Rattle.ur_parse_rules.specs.Ends.{decl_starts, decl_ends, decl_last}
use Rattle.ur_parse_rules.specs.Parts.{of_decl}
use Rattle.ur_parse_rules.specs.Language.{language, IsModule}
use Rattle.ur_parse_rules.proofs.Choice.{choice}
use Rattle.ur_parse_rules.proofs.AllDecided.{decided}
use Rattle.ur_parse_rules.proofs.Tests.{false_true, is_not, or_true, or_first, or_second, not_both, inside, within}
use Rattle.ur_parse.specs.Declares.{Declares}
use Rattle.ur_parse.specs.Wholes.{RefusesWhole}
use Rattle.ur_parse_con.proofs.Binders.{cannot_end}

-- ---- the rule that is chosen

only_one : (b : Bool) → let z : ℕ = if b then 0 else 0 in z ≡ 0
only_one true = refl
only_one false = refl

single_whole : (ts : List Lexeme) → choice (of_decl whole) ts ≡ 0
single_whole [] = refl
single_whole (t ∷ ts) = only_one _

one_more : (ts : List Lexeme) → starts (member decl_starts) ts ≡ true → choice (of_decl decls) ts ≡ 1
one_more [] e = false_true e
one_more (t ∷ ts) e = if_true 0 e

no_more : (ts : List Lexeme) → starts (member decl_starts) ts ≡ false → choice (of_decl decls) ts ≡ 0
no_more [] e = refl
no_more (t ∷ ts) e = if_false 1 e

-- a declaration that begins ends what stands before it
starts_stop : (ts : List Lexeme) → starts (member decl_starts) ts ≡ true → Stops (member decl_ends) ts
starts_stop [] e = tt
starts_stop (t ∷ ts) e = not_both decl_starts decl_ends t.kind t.content refl e

neither : (a b : Classes) (ts : List Lexeme) → starts (member a) ts ≡ false → starts (member b) ts ≡ false → Stops (member (a ++ b)) ts
neither a b [] e f = tt
neither a b (t ∷ ts) e f = none a e where
  none : (c : Classes) → member c t.kind t.content ≡ false → member (c ++ b) t.kind t.content ≡ false
  none [] g = f
  none (x ∷ c) g = let rest : member c t.kind t.content ≡ false = is_not (member c t.kind t.content) (λ h. sym g ∙ or_second (in_class x t.kind t.content) _ h) in
      is_not (member ((x ∷ c) ++ b) t.kind t.content) (λ m. or_true (in_class x t.kind t.content) (member (c ++ b) t.kind t.content) m (λ h. sym g ∙ or_first _ _ h) (λ h. sym (none c rest) ∙ h))

-- ends that go on stand in the larger set
goes : (a b : Classes) (ts : List Lexeme) → within b a ≡ true → starts (member b) ts ≡ true → starts (member a) ts ≡ true
goes a b [] i e = e
goes a b (t ∷ ts) i e = inside b a t.kind t.content i e

-- ---- declarations one behind another

-- The declarations so far: where nothing goes on behind the last of them, what stands there goes on with them, else none are
-- read at the begin.
pub record DeclsRead (n : ℕ) (tokens : List Lexeme) (at : ℕ) (ds : List Decl) : Type 0 where
  pub found : (rest : List Lexeme) (ys : List Decl) → Stops (member decl_ends) (drop at tokens) → Read language n (of_decl decls) (drop at tokens) rest ys → Read language n (of_decl decls) (drop 0 tokens) rest (ds ++ ys)
  pub refused : (r : Refusal) → Stops (member decl_ends) (drop at tokens) → Refused language n (of_decl decls) (drop at tokens) r → Refused language n (of_decl decls) (drop 0 tokens) r
  pub goes_on : (r : Refusal) → Says r 5 [] [] → starts (member decl_ends) (drop at tokens) ≡ true → Refused language n (of_decl decls) (drop 0 tokens) r

no_start : (ts : List Lexeme) → starts (member decl_ends) ts ≡ true → starts (member decl_starts) ts ≡ false
no_start [] e = refl
no_start (t ∷ ts) e = not_both decl_ends decl_starts t.kind t.content refl e

pub decls_start : (n : ℕ) (tokens : List Lexeme) → DeclsRead n tokens 0 []
decls_start n tokens = record {
  found = λ rest ys s a. a;
  refused = λ r s h. h;
  goes_on = λ r says e. refused_by decided 0 n (omega arith) (no_more (drop 0 tokens) (no_start (drop 0 tokens) e)) (cannot_end (decl_last decls) says (goes (decl_last decls) decl_ends (drop 0 tokens) refl e) (λ p. p.stops));
}

module _ {n : ℕ} {tokens : List Lexeme} {at : ℕ} {ds : List Decl} (st : DeclsRead n tokens at ds) where
  module _ (b : starts (member decl_starts) (drop at tokens) ≡ true) where
    pub decls_refused : {r : Refusal} → Refused language n (of_decl decl) (drop at tokens) r → Refused language n (of_decl decls) (drop 0 tokens) r
    decls_refused {r = r} h = st.refused r (starts_stop (drop at tokens) b) (refused_by decided 1 n (omega arith) (one_more (drop at tokens) b) (one_refused h))

    pub decls_more : (end : ℕ) {d : Decl} → Declares n tokens at end d → DeclsRead n tokens end (ds ++ d ∷ [])
    decls_more end {d = d} f = record {
      found = λ rest ys s h. rw (append_assoc ds (d ∷ []) ys) (st.found rest (d ∷ ys) (starts_stop (drop at tokens) b)
          (reads_by 1 n (omega arith) (record { v = (d, (ys, tt)); span = no_span; is_span = refl; allowed = refl; builds = refl; fills = an_one (f.read s) (an_one h nothing) }) h.stops));
      refused = λ r s h. st.refused r (starts_stop (drop at tokens) b) (refused_by decided 1 n (omega arith) (one_more (drop at tokens) b) (one_read decided (f.read s) (one_refused h)));
      goes_on = λ r says e. decls_refused (f.unended r says e);
    }

  decls_done : starts (member decl_starts) (drop at tokens) ≡ false → starts (member decl_ends) (drop at tokens) ≡ false → Read language n (of_decl decls) (drop 0 tokens) (drop at tokens) ds
  decls_done b e = rw append-nil at (st.found (drop at tokens) [] (first_stops (member decl_ends) (drop at tokens) e)
      (reads_by 0 n (omega arith) (record { v = tt; span = no_span; is_span = refl; allowed = refl; builds = refl; fills = nothing }) (neither decl_starts decl_ends (drop at tokens) b e)))

-- ---- whole modules

drop_none : (ts : List Lexeme) → drop 0 ts ≡ ts
drop_none [] = refl
drop_none (t ∷ ts) = refl

module_read : {n : ℕ} {tokens rest : List Lexeme} {ds : List Decl} → Read language n (of_decl decls) tokens rest ds → let m : Module = record { decls = ds } in Read language n (of_decl whole) tokens rest m
module_read {n = n} {ds = ds} r = reads_by 0 n (omega arith) (record { v = (ds, tt); span = no_span; is_span = refl; allowed = refl; builds = refl; fills = an_one r nothing }) r.stops

whole_read : {n : ℕ} {tokens : List Lexeme} {x : Module} → Spells language n (part (of_decl whole) x ∷ []) tokens → Read language n (of_decl whole) tokens [] x
whole_read {tokens = tokens} d = record { taken = tokens; split = sym (append-nil tokens); spells = d; stops = tt }

pub whole_refused : {n : ℕ} {tokens : List Lexeme} {r : Refusal} → Refused language n (of_decl decls) (drop 0 tokens) r → RefusesWhole n (of_decl whole) tokens r
whole_refused {n = n} {tokens = tokens} {r = r} h = by (subst (λ ts. Refused language n (of_decl whole) ts r) (drop_none tokens) (refused_by decided 0 n (omega arith) (single_whole (drop 0 tokens)) (one_refused h))) where
  by : Refused language n (of_decl whole) tokens r → RefusesWhole n (of_decl whole) tokens r
  by (syntax says m) = RefusesWhole.syntax says (λ k x d. m.none k x [] (whole_read d))
  by (nested says m) = RefusesWhole.nested m.taken m.rest says (λ x d. m.none x [] (whole_read d)) m.split m.deep

-- what is read up to the end spells all
all_spelled : {n : ℕ} {tokens rest : List Lexeme} {x : Module} → rest ≡ [] → Read language n (of_decl whole) (drop 0 tokens) rest x → Spells language n (part (of_decl whole) x ∷ []) tokens
all_spelled {n = n} {tokens = tokens} {x = x} e r = subst (λ ts. Spells language n (part (of_decl whole) x ∷ []) ts) (sym (sym (drop_none tokens) ∙ r.split ∙ ap (λ z. r.taken ++ z) e ∙ append-nil r.taken)) r.spells

-- nor is anything read that ends before
ends_apart : {n m : ℕ} (tokens : List Lexeme) (at : ℕ) {x y : Module} → at < length tokens → Read language n (of_decl whole) (drop 0 tokens) (drop at tokens) y → Spells language m (part (of_decl whole) x ∷ []) tokens → ⊥
ends_apart {m = m} tokens at {x = x} h r d = let w : Read language m (of_decl whole) (drop 0 tokens) [] x = subst (λ ts. Read language m (of_decl whole) ts [] x) (sym (drop_none tokens)) (whole_read d) in
    let e = ap length (read_once language choice decided r w).1 in let l = length-drop at tokens in omega (arith, e, l)

module _ {n : ℕ} {tokens : List Lexeme} {at : ℕ} {ds : List Decl} (st : DeclsRead n tokens at ds) where
  pub module_refused : {r : Refusal} → starts (member decl_starts) (drop at tokens) ≡ true → Refused language n (of_decl decl) (drop at tokens) r → RefusesWhole n (of_decl whole) tokens r
  module_refused b h = whole_refused (decls_refused st b h)

  -- all tokens are read
  pub module_done : length tokens ≤ at → let m : Module = record { decls = ds } in IsModule n tokens m
  module_done h = let e = drop_all at tokens h in all_spelled e (module_read (decls_done st (rw e refl) (rw e refl)))

  -- something stands behind the declarations
  pub module_open : {r : Refusal} → starts (member decl_starts) (drop at tokens) ≡ false → at < length tokens → Says r 5 [] [] → RefusesWhole n (of_decl whole) tokens r
  module_open {r = r} b h says = by (starts (member decl_ends) (drop at tokens)) refl where
    by : (z : Bool) → starts (member decl_ends) (drop at tokens) ≡ z → RefusesWhole n (of_decl whole) tokens r
    by true e = whole_refused (st.goes_on r says e)
    by false e = RefusesWhole.syntax says (λ m x d. ends_apart tokens at h (module_read (decls_done st b e)) d)
