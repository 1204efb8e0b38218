-- Raw code is read in a loop.
use Rattle.std.specs.Prelude.{◌≡◌, ◌+◌, ◌-◌, ◌<◌, ◌≤◌, ℕ, Bool, true, false, if◌then◌else◌, List, [], ◌∷◌, ◌++◌, length, drop, slice_get, slice_range, Some, None, refl}
use Rattle.std.proofs.Common.{sym, ◌∙◌, ap, arith, append_assoc, length-append, length-drop}
use Rattle.std.proofs.lemmas.List.{append_cancel_right}
use Rattle.std.proofs.lemmas.List.Folds.{drop_split}
use Rattle.ur_base.specs.declared.refusal.Refusal.{Refusal}
use Rattle.ur_base.specs.Stopping.{Says}
use Rattle.ur_lex.specs.declared.token.Keyword.{Keyword}
use Rattle.ur_lex.specs.declared.token.Keyword.TheVariants as keyword
use Rattle.ur_lex.specs.declared.token.Symbol.{Symbol}
use Rattle.ur_lex.specs.declared.token.Symbol.TheVariants as symbol
use Rattle.ur_lex.specs.declared.token.TokenKind.{TokenKind}
use Rattle.ur_lex.specs.declared.token.TokenKind.TheVariants as token
use Rattle.ur_lex.specs.declared.token.Lexeme.{Lexeme}
use Rattle.ur_lex.specs.Spelling.{Text}
use Rattle.ur_parse_rules.specs.KindNumbers.{is_one, same_kind, kind_number, all_kinds}
use Rattle.ur_parse_rules.specs.Rules.{no_span, Read, Refused, syntax}
use Rattle.ur_parse_rules.specs.Places.{Moves, IsAt, Other, OfKind, Among, Sees, Unexpected, starts}
use Rattle.ur_parse_rules.proofs.Steps.{Leads, leads_here, leads_on, nothing, a_mark, a_token, an_one, mark_read, among_read, no_mark, no_among, one_read, one_refused, not_among, not_allowed, reads_by, refused_by, none_of}
use Rattle.ur_parse_rules.proofs.Choices.{chosen_mark_at, first_stops, if_true, starts_at, stops_first, kind_is}
use Rattle.ur_parse_rules.specs.Classes.{member, all_of}
use Rattle.ur_parse_rules.specs.Quoted.{Raw, raw}
use Rattle.ur_parse_rules.specs.CodeParts.{CodePart, pieces, piece}
use Rattle.ur_parse_rules.specs.SqlParts.{anti}
use Rattle.ur_parse_rules.specs.Parts.{of_code, of_quote, of_sql}
use Rattle.ur_parse_rules.specs.Ends.{code_starts, plain_kinds}
use Rattle.ur_parse_rules.specs.Codes.{begins_well}
use Rattle.ur_parse_rules.specs.Language.{language}
use Rattle.ur_parse_rules.proofs.Tests.{false_true, or_true}
use Rattle.ur_parse_rules.proofs.RawCode.{code_same}
use Rattle.ur_parse_rules.proofs.Choice.{choice}
use Rattle.ur_parse_rules.proofs.AllDecided.{decided}
use Rattle.ur_parse_rules.proofs.Places.{ends_empty, missing}
use Rattle.ur_parse_embed_code.specs.Brackets.{is_code, is_plain, Closed, NotClosed, refused, unclosed}
use Rattle.ur_parse_embed_code.specs.Quotes.{raw_of}

-- ---- tokens of code

symbol_code : (s : Symbol) (w : Text) → member code_starts (token.Symbol s) w ≡ is_code (token.Symbol s)
symbol_code symbol.LParen w = refl
symbol_code _ w = refl

keyword_code : (k : Keyword) (w : Text) → member code_starts (token.Keyword k) w ≡ true
keyword_code keyword.And w = refl
keyword_code _ w = refl

code_member : (k : TokenKind) (w : Text) → member code_starts k w ≡ is_code k
code_member (token.Symbol s) w = symbol_code s w
code_member (token.Keyword k) w = keyword_code k w
code_member (token.Int n) w = refl
code_member token.Lower w = refl
code_member token.Upper w = refl
code_member token.Str w = refl
code_member token.SqlText w = refl
code_member token.XmlText w = refl
code_member token.Word w = refl

symbol_plain : (s : Symbol) → is_one plain_kinds (token.Symbol s) ≡ is_plain (token.Symbol s)
symbol_plain symbol.LParen = refl
symbol_plain _ = refl

keyword_plain : (k : Keyword) → is_one plain_kinds (token.Keyword k) ≡ true
keyword_plain keyword.And = refl
keyword_plain _ = refl

plain_is : (k : TokenKind) → is_one plain_kinds k ≡ is_plain k
plain_is (token.Symbol s) = symbol_plain s
plain_is (token.Keyword k) = keyword_plain k
plain_is (token.Int n) = refl
plain_is token.Lower = refl
plain_is token.Upper = refl
plain_is token.Str = refl
plain_is token.SqlText = refl
plain_is token.XmlText = refl
plain_is token.Word = refl

module _ (tokens : List Lexeme) (i : ℕ) where
  pub starts_code : (k : TokenKind) → Sees tokens i (Some k) → starts (member code_starts) (drop i tokens) ≡ is_code k
  starts_code k s = let e = s.1.split in rw e (code_member s.0.kind s.0.content ∙ ap is_code s.2)

  pub a_plain : (k : TokenKind) → Sees tokens i (Some k) → is_plain k ≡ true → IsAt tokens i (i + 1) (Among plain_kinds)
  a_plain k s h = record { next = refl; t = s.0; at = s.1; is = plain_is s.0.kind ∙ ap is_plain s.2 ∙ h }

  pub not_plain : (k : TokenKind) → Sees tokens i (Some k) → is_plain k ≡ false → Other tokens i (Among plain_kinds)
  not_plain k s h = record {
    other = λ t rest e is. let w : s.0 ∷ drop (i + 1) tokens ≡ t ∷ rest = sym s.1.split ∙ e in let same : s.0 ≡ t = cc in
        false_true (sym h ∙ sym (ap is_plain s.2) ∙ sym (plain_is s.0.kind) ∙ ap (λ (z : Lexeme). is_one plain_kinds z.kind) same ∙ is);
  }

  pub none_plain : Sees tokens i None → Other tokens i (Among plain_kinds)
  none_plain s = record { other = λ t rest e is. absurd (let w : [] ≡ t ∷ rest = sym s ∙ e in cc) }

-- ---- what is read is what stands there

same_slice : (tokens s : List Lexeme) (i j : ℕ) → drop i tokens ≡ s ++ drop j tokens → i ≤ j → s ≡ slice_range tokens i j
same_slice tokens s i j e h = append_cancel_right s (slice_range tokens i j) (drop j tokens) (sym e ∙ drop_split tokens i j h)

pub slice_of : {n : ℕ} {p : CodePart} (tokens : List Lexeme) (i j : ℕ) {x : List Lexeme} → Read language n (of_code p) (drop i tokens) (drop j tokens) x → i ≤ j → Read language n (of_code p) (drop i tokens) (drop j tokens) (slice_range tokens i j)
slice_of {n = n} {p = p} tokens i j {x = x} r h = let e : x ≡ slice_range tokens i j = code_same p n x r.taken r.spells ∙ same_slice tokens r.taken i j r.split h in rw (← e) r

-- ---- pieces

pub record Ahead (n : ℕ) (tokens : List Lexeme) (i j : ℕ) : Type 0 where
  pub f : List Lexeme → List Lexeme
  pub leads : Leads language n (of_code pieces) (of_code pieces) (drop i tokens) (drop j tokens) f

pieces_chosen : (ts : List Lexeme) → starts (member code_starts) ts ≡ true → choice (of_code pieces) ts ≡ 1
pieces_chosen [] e = false_true e
pieces_chosen (t ∷ ts) e = if_true 0 e

pub ahead_here : {n : ℕ} (tokens : List Lexeme) (i : ℕ) → Ahead n tokens i i
ahead_here tokens i = record { f = λ y. y; leads = leads_here }

module _ {n : ℕ} {tokens : List Lexeme} {i j : ℕ} (a : Ahead n tokens i j) where
  pub ahead_refused : {r : Refusal} → starts (member code_starts) (drop j tokens) ≡ true → Refused language n (of_code piece) (drop j tokens) r → Refused language n (of_code pieces) (drop i tokens) r
  ahead_refused e h = a.leads.refused _ (refused_by decided 1 n (omega arith) (pieces_chosen (drop j tokens) e) (one_refused h))

  pub ahead_more : (k : ℕ) {x : List Lexeme} → starts (member code_starts) (drop j tokens) ≡ true → Read language n (of_code piece) (drop j tokens) (drop k tokens) x → Ahead n tokens i k
  ahead_more k {x = x} e r = record {
    f = λ y. a.f (x ++ y);
    leads = leads_on a.leads (record {
      found = λ rest y b. reads_by 1 n (omega arith) (record { v = (x, (y, tt)); span = no_span; is_span = refl; allowed = refl; builds = refl; fills = an_one r (an_one b nothing) }) b.stops;
      refused = λ ref h. refused_by decided 1 n (omega arith) (pieces_chosen (drop j tokens) e) (one_read decided r (one_refused h));
    });
  }

  pub ahead_done : starts (member code_starts) (drop j tokens) ≡ false → i ≤ j → Read language n (of_code pieces) (drop i tokens) (drop j tokens) (slice_range tokens i j)
  ahead_done e h = slice_of tokens i j (a.leads.found (drop j tokens) [] (reads_by 0 n (omega arith) (record { v = tt; span = no_span; is_span = refl; allowed = refl; builds = refl; fills = nothing }) (first_stops (member code_starts) (drop j tokens) e))) h

-- ---- a piece

abbrev among_one : {tokens : List Lexeme} {i j : ℕ} {k : TokenKind} → same_kind k k ≡ true → IsAt tokens i j (OfKind k) → IsAt tokens i j (Among (k ∷ []))
among_one {k = k} e a = record { next = a.next; t = a.t; at = a.at; is = (let w = a.is in rw (w, e) refl) }

not_one : {tokens : List Lexeme} {i : ℕ} {k : TokenKind} → slice_get all_kinds (kind_number k) ≡ Some k → Other tokens i (OfKind k) → Other tokens i (Among (k ∷ []))
not_one {k = k} l o = record { other = λ t rest e is. o.other t rest e (kind_is k t.kind l (or_true (same_kind k t.kind) false is (λ h. h) (λ h. false_true h))) }

below_or : {tokens : List Lexeme} {i k : ℕ} → Moves tokens i k → i ≤ k
below_or m = let o = m.on in omega (arith, o)

module _ {n : ℕ} {tokens : List Lexeme} {i j k : ℕ} (m : Moves tokens i k) where
  pub paren_read : IsAt tokens i j (OfKind (token.Symbol symbol.LParen)) → Closed tokens j k symbol.RParen → Read language n (of_code piece) (drop i tokens) (drop k tokens) (slice_range tokens i k)
  paren_read a c = slice_of tokens i k (reads_by 0 n (omega arith) (record { v = (a.t, (c.inner, (c.closed.t, tt))); span = no_span; is_span = refl; allowed = refl; builds = refl; fills = a_token (among_one refl a) (an_one (c.read n) (a_token (among_one refl c.closed) nothing)) }) (ends_empty _)) (below_or m)

  pub bracket_read : IsAt tokens i j (OfKind (token.Symbol symbol.LBracket)) → Closed tokens j k symbol.RBracket → Read language n (of_code piece) (drop i tokens) (drop k tokens) (slice_range tokens i k)
  bracket_read a c = slice_of tokens i k (reads_by 1 n (omega arith) (record { v = (a.t, (c.inner, (c.closed.t, tt))); span = no_span; is_span = refl; allowed = refl; builds = refl; fills = a_token (among_one refl a) (an_one (c.read n) (a_token (among_one refl c.closed) nothing)) }) (ends_empty _)) (below_or m)

  pub brace_read : IsAt tokens i j (OfKind (token.Symbol symbol.LBrace)) → Closed tokens j k symbol.RBrace → Read language n (of_code piece) (drop i tokens) (drop k tokens) (slice_range tokens i k)
  brace_read a c = slice_of tokens i k (reads_by 2 n (omega arith) (record { v = (a.t, (c.inner, (c.closed.t, tt))); span = no_span; is_span = refl; allowed = refl; builds = refl; fills = a_token (among_one refl a) (an_one (c.read n) (a_token (among_one refl c.closed) nothing)) }) (ends_empty _)) (below_or m)

pub plain_read : {n : ℕ} {tokens : List Lexeme} {i k : ℕ} → Moves tokens i k → IsAt tokens i k (Among plain_kinds) → Read language n (of_code piece) (drop i tokens) (drop k tokens) (slice_range tokens i k)
plain_read {n = n} {tokens = tokens} {i = i} {k = k} m a = slice_of tokens i k (reads_by 3 n (omega arith) (record { v = (a.t, tt); span = no_span; is_span = refl; allowed = refl; builds = refl; fills = a_token a nothing }) (ends_empty _)) (below_or m)

module _ {n : ℕ} {tokens : List Lexeme} {i j : ℕ} {r : Refusal} where
  pub paren_refused : IsAt tokens i j (OfKind (token.Symbol symbol.LParen)) → NotClosed tokens j symbol.RParen r → Refused language n (of_code piece) (drop i tokens) r
  paren_refused a c = refused_by decided 0 n (omega arith) (chosen_mark_at (choice (of_code piece)) a (λ w s us. refl)) (among_read (among_one refl a) (elim c [
    | refused h ↦ one_refused (h n)
    | unclosed mid inner h u ↦ one_read decided (h n) (no_among (record { says = u.says; other = not_one refl u.other }))
  ]))

  pub bracket_refused : IsAt tokens i j (OfKind (token.Symbol symbol.LBracket)) → NotClosed tokens j symbol.RBracket r → Refused language n (of_code piece) (drop i tokens) r
  bracket_refused a c = refused_by decided 1 n (omega arith) (chosen_mark_at (choice (of_code piece)) a (λ w s us. refl)) (among_read (among_one refl a) (elim c [
    | refused h ↦ one_refused (h n)
    | unclosed mid inner h u ↦ one_read decided (h n) (no_among (record { says = u.says; other = not_one refl u.other }))
  ]))

  pub brace_refused : IsAt tokens i j (OfKind (token.Symbol symbol.LBrace)) → NotClosed tokens j symbol.RBrace r → Refused language n (of_code piece) (drop i tokens) r
  brace_refused a c = refused_by decided 2 n (omega arith) (chosen_mark_at (choice (of_code piece)) a (λ w s us. refl)) (among_read (among_one refl a) (elim c [
    | refused h ↦ one_refused (h n)
    | unclosed mid inner h u ↦ one_read decided (h n) (no_among (record { says = u.says; other = not_one refl u.other }))
  ]))

pub piece_missing : {n : ℕ} {tokens : List Lexeme} {i : ℕ} {r : Refusal} → Other tokens i (OfKind (token.Symbol symbol.LParen)) → Other tokens i (OfKind (token.Symbol symbol.LBracket)) → Other tokens i (OfKind (token.Symbol symbol.LBrace)) →
    Unexpected tokens i (Among plain_kinds) r → Refused language n (of_code piece) (drop i tokens) r
piece_missing a b c u = syntax u.says (none_of (not_among (not_one refl a), (not_among (not_one refl b), (not_among (not_one refl c), (not_among u.other, tt)))))

-- ---- the code of an antiquote

only_one : (b : Bool) → let z : ℕ = if b then 0 else 0 in z ≡ 0
only_one true = refl
only_one false = refl

single_quote : (ts : List Lexeme) → choice (of_quote raw) ts ≡ 0
single_quote [] = refl
single_quote (t ∷ ts) = only_one _

joined_slice : (tokens : List Lexeme) (i j k : ℕ) → i ≤ j → j ≤ k → slice_range tokens i j ++ slice_range tokens j k ≡ slice_range tokens i k
joined_slice tokens i j k h l = same_slice tokens (slice_range tokens i j ++ slice_range tokens j k) i k
    (drop_split tokens i j h ∙ ap (λ z. slice_range tokens i j ++ z) (drop_split tokens j k l) ∙ sym (append_assoc (slice_range tokens i j) (slice_range tokens j k) (drop k tokens))) (omega (arith, h, l))

module _ {n : ℕ} (tokens : List Lexeme) (i : ℕ) where
  pub quote_first : {r : Refusal} → Refused language n (of_code piece) (drop i tokens) r → Refused language n (of_quote raw) (drop i tokens) r
  quote_first h = refused_by decided 0 n (omega arith) (single_quote (drop i tokens)) (one_refused h)

  module _ (j : ℕ) {x : List Lexeme} (a : Read language n (of_code piece) (drop i tokens) (drop j tokens) x) where
    pub quote_others : {r : Refusal} → Refused language n (of_code pieces) (drop j tokens) r → Refused language n (of_quote raw) (drop i tokens) r
    quote_others h = refused_by decided 0 n (omega arith) (single_quote (drop i tokens)) (one_read decided a (one_refused h))

module _ {n : ℕ} (tokens : List Lexeme) (i j k : ℕ) (h : i ≤ j) (l : j ≤ k) (a : Read language n (of_code piece) (drop i tokens) (drop j tokens) (slice_range tokens i j))
    (b : Read language n (of_code pieces) (drop j tokens) (drop k tokens) (slice_range tokens j k)) where
  pub quote_ill : {r : Refusal} → Says r 5 [] [] → begins_well (slice_range tokens i k) ≡ false → Refused language n (of_quote raw) (drop i tokens) r
  quote_ill says w = refused_by decided 0 n (omega arith) (single_quote (drop i tokens)) (one_read decided a (one_read decided b (not_allowed says (λ rest p. false_true (sym w ∙ ap begins_well (sym (joined_slice tokens i j k h l)) ∙ p.allowed)))))

  pub quote_read : begins_well (slice_range tokens i k) ≡ true → Read language n (of_quote raw) (drop i tokens) (drop k tokens) (raw_of tokens i k)
  quote_read w = let e = joined_slice tokens i j k h l in let x : Raw = record { tokens = slice_range tokens i j ++ slice_range tokens j k; nesting = 0 } in
      let s : x ≡ raw_of tokens i k = ap (λ z. let c : Raw = record { tokens = z; nesting = 0 } in c) e in
      rw (← s) (reads_by 0 n (omega arith) (record { v = (slice_range tokens i j, (slice_range tokens j k, tt)); span = no_span; is_span = refl; allowed = ap begins_well e ∙ w; builds = refl; fills = an_one a (an_one b nothing) }) b.stops)

-- ---- whether it begins well

abbrev a_close : TokenKind → Text → Bool
a_close = member (all_of (token.Symbol symbol.RBracket) ∷ [])

module _ (tokens : List Lexeme) (i j : ℕ) where
  pair_of : (s : List Lexeme) → drop i tokens ≡ s ++ drop j tokens → length s ≡ j - i → i + 1 < j → IsAt tokens i (i + 1) (OfKind (token.Symbol symbol.LBracket)) → starts a_close (drop (i + 1) tokens) ≡ begins_well s
  pair_of [] e n l a = absurd (omega (arith, n, l))
  pair_of (t ∷ []) e n l a = absurd (omega (arith, n, l))
  pair_of (t ∷ u ∷ us) e n l a = let w : a.t ∷ drop (i + 1) tokens ≡ t ∷ (u ∷ us ++ drop j tokens) = sym a.at.split ∙ e in let same : a.t ≡ t = cc in let d : drop (i + 1) tokens ≡ u ∷ us ++ drop j tokens = cc in
      let k : t.kind ≡ token.Symbol symbol.LBracket = sym (ap (λ (z : Lexeme). z.kind) same) ∙ a.is in rw (d, k) refl

  single_of : (s : List Lexeme) → drop i tokens ≡ s ++ drop j tokens → length s ≡ j - i → i < j → j ≤ i + 1 → IsAt tokens i (i + 1) (OfKind (token.Symbol symbol.LBracket)) → false ≡ begins_well s
  single_of [] e n g l a = absurd (omega (arith, n, g))
  single_of (t ∷ []) e n g l a = let w : a.t ∷ drop (i + 1) tokens ≡ t ∷ drop j tokens = sym a.at.split ∙ e in let same : a.t ≡ t = cc in
      let k : t.kind ≡ token.Symbol symbol.LBracket = sym (ap (λ (z : Lexeme). z.kind) same) ∙ a.is in rw k refl
  single_of (t ∷ u ∷ us) e n g l a = absurd (omega (arith, n, l))

  other_of : (s : List Lexeme) → drop i tokens ≡ s ++ drop j tokens → Other tokens i (OfKind (token.Symbol symbol.LBracket)) → true ≡ begins_well s
  other_of [] e o = refl
  other_of (t ∷ ts) e o = let z : member (all_of (token.Symbol symbol.LBracket) ∷ []) t.kind t.content ≡ false = rw e at (stops_first (member (all_of (token.Symbol symbol.LBracket) ∷ [])) (drop i tokens) (missing refl o)) in rw z refl

  module _ (m : Moves tokens i j) where
    split_of : drop i tokens ≡ slice_range tokens i j ++ drop j tokens
    split_of = drop_split tokens i j (below_or m)

    length_of : length (slice_range tokens i j) ≡ j - i
    length_of = let a = length-drop i tokens in let b = length-drop j tokens in let c : length (drop i tokens) ≡ length (slice_range tokens i j) + length (drop j tokens) = ap length split_of ∙ length-append (slice_range tokens i j) (drop j tokens) in
        let on = m.on in let l = m.within in omega (arith, a, b, c, on, l)

    pub well_pair : i + 1 < j → IsAt tokens i (i + 1) (OfKind (token.Symbol symbol.LBracket)) → (b : Bool) → (b ≡ true → IsAt tokens (i + 1) (i + 1 + 1) (OfKind (token.Symbol symbol.RBracket))) → (b ≡ false → Other tokens (i + 1) (OfKind (token.Symbol symbol.RBracket))) →
        b ≡ begins_well (slice_range tokens i j)
    well_pair l a true f g = sym (starts_at a_close (f refl) (λ w. refl)) ∙ pair_of (slice_range tokens i j) split_of length_of l a
    well_pair l a false f g = sym (stops_first a_close (drop (i + 1) tokens) (missing refl (g refl))) ∙ pair_of (slice_range tokens i j) split_of length_of l a

    pub well_single : j ≤ i + 1 → IsAt tokens i (i + 1) (OfKind (token.Symbol symbol.LBracket)) → false ≡ begins_well (slice_range tokens i j)
    well_single l a = single_of (slice_range tokens i j) split_of length_of m.on l a

    pub well_other : Other tokens i (OfKind (token.Symbol symbol.LBracket)) → true ≡ begins_well (slice_range tokens i j)
    well_other o = other_of (slice_range tokens i j) split_of o

-- ---- `{[e]}`

single_anti : (ts : List Lexeme) → choice (of_sql raw anti) ts ≡ 0
single_anti [] = refl
single_anti (t ∷ ts) = only_one _

pub anti_brace : {n : ℕ} (tokens : List Lexeme) (i : ℕ) {r : Refusal} → Unexpected tokens i (OfKind (token.Symbol symbol.LBrace)) r → Refused language n (of_sql raw anti) (drop i tokens) r
anti_brace {n = n} tokens i u = refused_by decided 0 n (omega arith) (single_anti (drop i tokens)) (no_mark u)

module _ {n : ℕ} {tokens : List Lexeme} {i j : ℕ} (a : IsAt tokens i j (OfKind (token.Symbol symbol.LBrace))) where
  pub anti_bracket : {r : Refusal} → Unexpected tokens j (OfKind (token.Symbol symbol.LBracket)) r → Refused language n (of_sql raw anti) (drop i tokens) r
  anti_bracket u = refused_by decided 0 n (omega arith) (single_anti (drop i tokens)) (mark_read a (no_mark u))

  module _ {k : ℕ} (b : IsAt tokens j k (OfKind (token.Symbol symbol.LBracket))) where
    pub anti_code : {r : Refusal} → Refused language n (of_quote raw) (drop k tokens) r → Refused language n (of_sql raw anti) (drop i tokens) r
    anti_code h = refused_by decided 0 n (omega arith) (single_anti (drop i tokens)) (mark_read a (mark_read b (one_refused h)))

    module _ (l : ℕ) {c : Raw} (d : Read language n (of_quote raw) (drop k tokens) (drop l tokens) c) where
      pub anti_open : {r : Refusal} → Unexpected tokens l (OfKind (token.Symbol symbol.RBracket)) r → Refused language n (of_sql raw anti) (drop i tokens) r
      anti_open u = refused_by decided 0 n (omega arith) (single_anti (drop i tokens)) (mark_read a (mark_read b (one_read decided d (no_mark u))))

      module _ {m : ℕ} (e : IsAt tokens l m (OfKind (token.Symbol symbol.RBracket))) where
        pub anti_end : {r : Refusal} → Unexpected tokens m (OfKind (token.Symbol symbol.RBrace)) r → Refused language n (of_sql raw anti) (drop i tokens) r
        anti_end u = refused_by decided 0 n (omega arith) (single_anti (drop i tokens)) (mark_read a (mark_read b (one_read decided d (mark_read e (no_mark u)))))

        pub anti_read : {p : ℕ} → IsAt tokens m p (OfKind (token.Symbol symbol.RBrace)) → Read language n (of_sql raw anti) (drop i tokens) (drop p tokens) c
        anti_read f = reads_by 0 n (omega arith) (record { v = (c, tt); span = no_span; is_span = refl; allowed = refl; builds = refl; fills = a_mark a (a_mark b (an_one d (a_mark e (a_mark f nothing)))) }) (ends_empty _)
