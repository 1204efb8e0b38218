-- Constructors with `->` or `++` between are read in a loop.
use Rattle.std.specs.Prelude.{◌≡◌, ◌⊎◌, ◌<◌, ◌≤◌, ◌+◌, ℕ, Bool, true, false, ◌||◌, ◌↔◌, List, [], ◌∷◌, ◌++◌, length, drop, Option, Some, None, refl}
use Rattle.std.proofs.Common.{sym, ◌∙◌, ap, subst, inl, inr, arith}
use denote.Hole.Carrier
use Rattle.ur_base.specs.declared.refusal.Span.{Span}
use Rattle.ur_base.specs.declared.refusal.Refusal.{Refusal}
use Rattle.ur_base.specs.Stopping.{Says}
use Rattle.ur_lex.specs.declared.token.Symbol.TheVariants as symbol
use Rattle.ur_lex.specs.declared.token.TokenKind.TheVariants as token
use Rattle.ur_lex.specs.declared.token.Lexeme.{Lexeme}
use Rattle.ur_syntax.specs.declared.con.ConForm.{out-ConForm}
use Rattle.ur_syntax.specs.declared.con.Con.{Con}
use Rattle.ur_parse_rules.specs.Rules.{Stops, no_span, Read, Refused, Sym, AnyOf, Builds, Spells, part}
use Rattle.ur_parse_rules.specs.Places.{Moves, IsAt, Other, OfKind, span_of, starts}
use Rattle.ur_parse_rules.proofs.Inversions.{produced-out, nothing-out}
use Rattle.ur_parse_rules.proofs.Tokens.{covers}
use Rattle.ur_parse_rules.proofs.Steps.{nothing, a_mark, an_one, mark_read, one_read, one_refused, reads_by, refused_by, never_fits, not_allowed}
use Rattle.ur_parse_rules.proofs.Choices.{chosen_mark_at, stops_first, starts_at}
use Rattle.ur_parse_rules.specs.Classes.{member, symbol_class}
use Rattle.ur_parse_rules.specs.ConParts.{arrow, arrow_tail, concat, concat_tail, app}
use Rattle.ur_parse_rules.specs.Constructors.{is_whole, may_have}
use Rattle.ur_parse_rules.specs.Ends.{con_more, con_args}
use Rattle.ur_parse_rules.specs.Forms.{up_to}
use Rattle.ur_parse_rules.specs.Parts.{of_con, Tree}
use Rattle.ur_parse_rules.specs.Language.{language, rules}
use Rattle.ur_parse_rules.proofs.Choice.{choice}
use Rattle.ur_parse_rules.proofs.AllDecided.{decided}
use Rattle.ur_parse_rules.proofs.Tests.{or_true, false_true}
use Rattle.ur_parse_con.specs.declared.joins.Join.{Join}
use Rattle.ur_parse_con.specs.declared.joins.Join.TheVariants as joins
use Rattle.ur_parse_con.specs.declared.joins.Piece.{Piece}
use Rattle.ur_parse_con.specs.Joins.{joined_form, chained}
use Rattle.ur_parse_rules.proofs.Places.{missing, stops_cons, span_join}
use Rattle.ur_parse_con.proofs.Classed.{single_arrow, single_concat}

pub chained-push : (j : Join) (xs : List Piece) (x : Piece) (covered : Span) (c : Con) → chained j (xs ++ x ∷ []) covered c ≡ chained j xs covered (record { span = up_to x.span covered; form = joined_form j x.con c })
chained-push j [] x covered c = refl
chained-push j (y ∷ xs) x covered c = ap (λ z. let d : Con = record { span = up_to y.span covered; form = joined_form j y.con z } in d) (chained-push j xs x covered c)

-- only the end of the span counts
chained-from : (j : Join) (xs : List Piece) (from covered : Span) (c : Con) → chained j xs (up_to from covered) c ≡ chained j xs covered c
chained-from j [] from covered c = refl
chained-from j (y ∷ xs) from covered c = ap (λ z. let d : Con = record { span = up_to y.span covered; form = joined_form j y.con z } in d) (chained-from j xs from covered c)

-- ---- what is read so far

-- `R i e c` says that the whole is read from i to e, and `F i r` that it is refused at i
pub record Chain (tokens : List Lexeme) (j : Join) (R : ℕ → ℕ → Con → Type 0) (F : ℕ → Refusal → Type 0) (at begin : ℕ) (left : List Piece) : Type 0 where
  pub found : (e : ℕ) (c : Con) → Moves tokens begin e → (left ≡ []) ⊎ (is_whole c ≡ true) → R begin e c → R at e (chained j left (span_of tokens begin e) c)
  pub refused : (r : Refusal) → F begin r → F at r
  pub unfit : (e : ℕ) (c : Con) (r : Refusal) → (left ≡ [] → ⊥) → Says r 5 [] [] → is_whole c ≡ false → R begin e c → F at r

-- one more constructor and the mark behind it
pub record Link (tokens : List Lexeme) (j : Join) (R : ℕ → ℕ → Con → Type 0) (F : ℕ → Refusal → Type 0) (begin end next : ℕ) (k : Con) : Type 0 where
  pub found : (e : ℕ) (c : Con) → Moves tokens next e → is_whole c ≡ true → R next e c → R begin e (record { span = span_of tokens begin e; form = joined_form j k c })
  pub refused : (r : Refusal) → F next r → F begin r
  pub unfit : (e : ℕ) (c : Con) (r : Refusal) → Says r 5 [] [] → is_whole c ≡ false → R next e c → F begin r

joined_whole : (j : Join) (s : Span) (a b : Con) → let c : Con = record { span = s; form = joined_form j a b } in is_whole c ≡ true
unfolding out-ConForm Carrier.out
joined_whole joins.Arrow s a b = refl
joined_whole joins.Concat s a b = refl
joined_whole joins.App s a b = refl

pushed_none : {A : Type 0} (xs : List A) (x : A) → xs ++ x ∷ [] ≡ [] → ⊥
pushed_none [] x e = absurd (cc)
pushed_none (y ∷ xs) x e = absurd (cc)

module _ {tokens : List Lexeme} {j : Join} {R : ℕ → ℕ → Con → Type 0} {F : ℕ → Refusal → Type 0} where
  pub chain_start : {at : ℕ} → Chain tokens j R F at at []
  chain_start = record { found = λ e c m w r. r; refused = λ r h. h; unfit = λ e c r n s w h. absurd (n refl) }

  pub chain_more : {at begin end next : ℕ} {left : List Piece} {k : Con} → Moves tokens begin end → begin < next → Chain tokens j R F at begin left → Link tokens j R F begin end next k →
      let x : Piece = record { span = span_of tokens begin end; con = k } in Chain tokens j R F at next (left ++ x ∷ [])
  chain_more {at = at} {begin = begin} {end = end} {next = next} {left = left} {k = k} m lt c l = let x : Piece = record { span = span_of tokens begin end; con = k } in record {
    found = λ e y my w r. let wy : is_whole y ≡ true = elim w [ inl z ↦ absurd (pushed_none left x z) | inr z ↦ z ] in let o = my.on in
        let me : Moves tokens begin e = record { on = omega (arith, lt, o); within = my.within } in
        let s : span_of tokens begin e ≡ up_to x.span (span_of tokens next e) = span_join tokens begin end next e m my (omega (arith, lt, o)) in
        let z : Con = record { span = span_of tokens begin e; form = joined_form j k y } in
        let h : R at e (chained j left (span_of tokens begin e) z) = c.found e z me (inr (joined_whole j (span_of tokens begin e) k y)) (l.found e y my wy r) in
        let h' : R at e (chained j left (up_to x.span (span_of tokens next e)) (record { span = up_to x.span (span_of tokens next e); form = joined_form j k y })) =
        subst (λ u. R at e (chained j left u (record { span = u; form = joined_form j k y }))) s h in
        subst (λ u. R at e u) (chained-from j left x.span (span_of tokens next e) _ ∙ sym (chained-push j left x (span_of tokens next e) y)) h';
    refused = λ r h. c.refused r (l.refused r h);
    unfit = λ e y r n says w h. c.refused r (l.unfit e y r says w h);
  }

  -- the last one, which is whole or alone
  pub chain_done : {at begin end : ℕ} {left : List Piece} {k : Con} (b : Bool) → (b ≡ true) ↔ (left ≡ []) → (b || is_whole k) ≡ true → Moves tokens begin end → Chain tokens j R F at begin left → R begin end k →
      R at end (chained j left (span_of tokens begin end) k)
  chain_done {end = end} {k = k} b i w m c r = c.found end k m (or_true b _ w (λ h. inl (i.0 h)) (λ h. inr h)) r

  pub chain_unfit : {at begin end : ℕ} {left : List Piece} {k : Con} {r : Refusal} (b : Bool) → (b ≡ true) ↔ (left ≡ []) → Says r 5 [] [] → (b || is_whole k) ≡ false → Chain tokens j R F at begin left → R begin end k → F at r
  chain_unfit {end = end} {k = k} {r = r} true i says w c h = false_true (sym w)
  chain_unfit {end = end} {k = k} {r = r} false i says w c h = c.unfit end k r (λ e. false_true (i.1 e)) says w h

-- ---- `->`

module _ (n : ℕ) (keys : Bool) (tokens : List Lexeme) where
  abbrev pub ArrowReads : ℕ → ℕ → Con → Type 0
  ArrowReads i e c = Read language n (of_con (arrow keys)) (drop i tokens) (drop e tokens) c

  abbrev pub ArrowOperand : ℕ → ℕ → Con → Type 0
  ArrowOperand i e c = Read language n (of_con (concat keys)) (drop i tokens) (drop e tokens) c

  abbrev pub ArrowRefuses : ℕ → Refusal → Type 0
  ArrowRefuses i r = Refused language n (of_con (arrow keys)) (drop i tokens) r

  pub arrow_first : (at : ℕ) {r : Refusal} → Refused language n (of_con (concat keys)) (drop at tokens) r → ArrowRefuses at r
  arrow_first at h = refused_by decided 0 n (omega arith) (single_arrow keys (drop at tokens)) (one_refused h)

  pub arrow_link : {begin end next : ℕ} {k : Con} → Moves tokens begin end → is_whole k ≡ true → Read language n (of_con (concat keys)) (drop begin tokens) (drop end tokens) k → IsAt tokens end next (OfKind (token.Symbol symbol.Arrow)) →
      Link tokens joins.Arrow ArrowReads ArrowRefuses begin end next k
  arrow_link {begin = begin} {end = end} {next = next} {k = k} m w r a = record {
    found = λ e c me wc h. let tail : Read language n (of_con (arrow_tail keys)) (drop end tokens) (drop e tokens) (Some c) = reads_by 1 n (omega arith)
        (record { v = (c, tt); span = no_span; is_span = refl; allowed = wc; builds = refl; fills = a_mark a (an_one h nothing) }) h.stops in
        let f = an_one {n = n} r (an_one tail nothing) in let o = m.on in let x = a.next in let o' = me.on in
        reads_by 0 n (omega arith) (record { v = (k, (Some c, tt)); span = span_of tokens begin e; fills = f; is_span = covers tokens begin e (record { on = omega (arith, o, x, o'); within = me.within }) f.taken f.split; allowed = w; builds = refl }) h.stops;
    refused = λ ref h. refused_by decided 0 n (omega arith) (single_arrow keys (drop begin tokens)) (one_read decided r (one_refused
        (refused_by decided 1 n (omega arith) (chosen_mark_at (choice (of_con (arrow_tail keys))) a (λ w s us. refl)) (mark_read a (one_refused h)))));
    unfit = λ e c ref says wc h. refused_by decided 0 n (omega arith) (single_arrow keys (drop begin tokens)) (one_read decided r (one_refused
        (refused_by decided 1 n (omega arith) (chosen_mark_at (choice (of_con (arrow_tail keys))) a (λ w s us. refl)) (mark_read a (one_read decided h
        (not_allowed says (λ rest p. let y = p.allowed in false_true (sym wc ∙ y))))))));
  }

  -- one alone
  pub arrow_one : {begin end : ℕ} {k : Con} → Moves tokens begin end → Read language n (of_con (concat keys)) (drop begin tokens) (drop end tokens) k → Other tokens end (OfKind (token.Symbol symbol.Arrow)) → ArrowReads begin end k
  arrow_one {begin = begin} {end = end} {k = k} m r o = let s = stops_cons (symbol_class symbol.Arrow) (symbol_class symbol.DoublePlus ∷ con_args keys) (drop end tokens) (missing refl o) r.stops in
      let tail : Read language n (of_con (arrow_tail keys)) (drop end tokens) (drop end tokens) None = reads_by 0 n (omega arith) (record { v = tt; span = no_span; is_span = refl; allowed = refl; builds = refl; fills = nothing }) s in
      let f = an_one {n = n} r (an_one tail nothing) in
      reads_by 0 n (omega arith) (record { v = (k, (None, tt)); span = span_of tokens begin end; fills = f; is_span = covers tokens begin end m f.taken f.split; allowed = refl; builds = refl }) s

  none_arrow : (m : ℕ) (x : Option Con) (q : List (Sym Tree)) (i : List Lexeme) → AnyOf (Builds language (of_con (arrow_tail keys)) x q i) (rules (of_con (arrow_tail keys))) → Spells language m q i → x ≡ None → i ≡ []
  none_arrow m x q i (inl (v, span, is, al, b, f)) d e = nothing-out language (subst (λ z. Spells language m z i) f d)
  none_arrow m x q i (inr (inl (v, span, is, al, b, f))) d e = absurd (let z : Some v.0 ≡ None = sym b ∙ e in cc)
  none_arrow m x q i (inr (inr c)) d e = absurd c

  -- one that is not whole stands before no mark
  broken_arrow : (k : Con) (ts : List Lexeme) → is_whole k ≡ false → starts (member (con_more keys)) ts ≡ true → (x : Option Con) (m : ℕ) (rest taken : List Lexeme) → ts ≡ taken ++ rest → Spells language m (part (of_con (arrow_tail keys)) x ∷ []) taken →
      may_have k x ≡ true → Stops (member (con_more keys)) rest → ⊥
  broken_arrow k ts w s None m rest taken e d al st = let o = produced-out language d in let z = none_arrow o.0 None o.1 o.2 o.4 o.6 refl in
      let same : ts ≡ rest = e ∙ ap (λ y. y ++ rest) (o.3 ∙ z) in false_true (sym (stops_first (member (con_more keys)) rest st) ∙ subst (λ y. starts (member (con_more keys)) y ≡ true) same s)
  broken_arrow k ts w s (Some c) m rest taken e d al st = false_true (sym w ∙ al)

  pub arrow_broken : (begin : ℕ) {end next : ℕ} {k : Con} {r : Refusal} → Says r 5 [] [] → is_whole k ≡ false → Read language n (of_con (concat keys)) (drop begin tokens) (drop end tokens) k → IsAt tokens end next (OfKind (token.Symbol symbol.Arrow)) → ArrowRefuses begin r
  arrow_broken begin {end = end} {k = k} says w r a = refused_by decided 0 n (omega arith) (single_arrow keys (drop begin tokens)) (one_read decided r
      (never_fits says (λ m v rest f p. broken_arrow k (drop end tokens) w (starts_at (member (con_more keys)) a (λ y. refl)) v.0 m rest f.taken f.split f.spells p.allowed (p.stops))))

-- ---- `++`

module _ (n : ℕ) (keys : Bool) (tokens : List Lexeme) where
  abbrev pub ConcatReads : ℕ → ℕ → Con → Type 0
  ConcatReads i e c = Read language n (of_con (concat keys)) (drop i tokens) (drop e tokens) c

  abbrev pub ConcatOperand : ℕ → ℕ → Con → Type 0
  ConcatOperand i e c = Read language n (of_con (app keys)) (drop i tokens) (drop e tokens) c

  abbrev pub ConcatRefuses : ℕ → Refusal → Type 0
  ConcatRefuses i r = Refused language n (of_con (concat keys)) (drop i tokens) r

  pub concat_first : (at : ℕ) {r : Refusal} → Refused language n (of_con (app keys)) (drop at tokens) r → ConcatRefuses at r
  concat_first at h = refused_by decided 0 n (omega arith) (single_concat keys (drop at tokens)) (one_refused h)

  pub concat_link : {begin end next : ℕ} {k : Con} → Moves tokens begin end → is_whole k ≡ true → Read language n (of_con (app keys)) (drop begin tokens) (drop end tokens) k → IsAt tokens end next (OfKind (token.Symbol symbol.DoublePlus)) →
      Link tokens joins.Concat ConcatReads ConcatRefuses begin end next k
  concat_link {begin = begin} {end = end} {next = next} {k = k} m w r a = record {
    found = λ e c me wc h. let tail : Read language n (of_con (concat_tail keys)) (drop end tokens) (drop e tokens) (Some c) = reads_by 1 n (omega arith)
        (record { v = (c, tt); span = no_span; is_span = refl; allowed = wc; builds = refl; fills = a_mark a (an_one h nothing) }) h.stops in
        let f = an_one {n = n} r (an_one tail nothing) in let o = m.on in let x = a.next in let o' = me.on in
        reads_by 0 n (omega arith) (record { v = (k, (Some c, tt)); span = span_of tokens begin e; fills = f; is_span = covers tokens begin e (record { on = omega (arith, o, x, o'); within = me.within }) f.taken f.split; allowed = w; builds = refl }) h.stops;
    refused = λ ref h. refused_by decided 0 n (omega arith) (single_concat keys (drop begin tokens)) (one_read decided r (one_refused
        (refused_by decided 1 n (omega arith) (chosen_mark_at (choice (of_con (concat_tail keys))) a (λ w s us. refl)) (mark_read a (one_refused h)))));
    unfit = λ e c ref says wc h. refused_by decided 0 n (omega arith) (single_concat keys (drop begin tokens)) (one_read decided r (one_refused
        (refused_by decided 1 n (omega arith) (chosen_mark_at (choice (of_con (concat_tail keys))) a (λ w s us. refl)) (mark_read a (one_read decided h
        (not_allowed says (λ rest p. let y = p.allowed in false_true (sym wc ∙ y))))))));
  }

  -- one alone
  pub concat_one : {begin end : ℕ} {k : Con} → Moves tokens begin end → Read language n (of_con (app keys)) (drop begin tokens) (drop end tokens) k → Other tokens end (OfKind (token.Symbol symbol.DoublePlus)) → ConcatReads begin end k
  concat_one {begin = begin} {end = end} {k = k} m r o = let s = stops_cons (symbol_class symbol.DoublePlus) (con_args keys) (drop end tokens) (missing refl o) r.stops in
      let tail : Read language n (of_con (concat_tail keys)) (drop end tokens) (drop end tokens) None = reads_by 0 n (omega arith) (record { v = tt; span = no_span; is_span = refl; allowed = refl; builds = refl; fills = nothing }) s in
      let f = an_one {n = n} r (an_one tail nothing) in
      reads_by 0 n (omega arith) (record { v = (k, (None, tt)); span = span_of tokens begin end; fills = f; is_span = covers tokens begin end m f.taken f.split; allowed = refl; builds = refl }) s

  none_concat : (m : ℕ) (x : Option Con) (q : List (Sym Tree)) (i : List Lexeme) → AnyOf (Builds language (of_con (concat_tail keys)) x q i) (rules (of_con (concat_tail keys))) → Spells language m q i → x ≡ None → i ≡ []
  none_concat m x q i (inl (v, span, is, al, b, f)) d e = nothing-out language (subst (λ z. Spells language m z i) f d)
  none_concat m x q i (inr (inl (v, span, is, al, b, f))) d e = absurd (let z : Some v.0 ≡ None = sym b ∙ e in cc)
  none_concat m x q i (inr (inr c)) d e = absurd c

  -- one that is not whole stands before no mark
  broken_concat : (k : Con) (ts : List Lexeme) → is_whole k ≡ false → starts (member (symbol_class symbol.DoublePlus ∷ con_args keys)) ts ≡ true → (x : Option Con) (m : ℕ) (rest taken : List Lexeme) → ts ≡ taken ++ rest → Spells language m (part (of_con (concat_tail keys)) x ∷ []) taken →
      may_have k x ≡ true → Stops (member (symbol_class symbol.DoublePlus ∷ con_args keys)) rest → ⊥
  broken_concat k ts w s None m rest taken e d al st = let o = produced-out language d in let z = none_concat o.0 None o.1 o.2 o.4 o.6 refl in
      let same : ts ≡ rest = e ∙ ap (λ y. y ++ rest) (o.3 ∙ z) in false_true (sym (stops_first (member (symbol_class symbol.DoublePlus ∷ con_args keys)) rest st) ∙ subst (λ y. starts (member (symbol_class symbol.DoublePlus ∷ con_args keys)) y ≡ true) same s)
  broken_concat k ts w s (Some c) m rest taken e d al st = false_true (sym w ∙ al)

  pub concat_broken : (begin : ℕ) {end next : ℕ} {k : Con} {r : Refusal} → Says r 5 [] [] → is_whole k ≡ false → Read language n (of_con (app keys)) (drop begin tokens) (drop end tokens) k → IsAt tokens end next (OfKind (token.Symbol symbol.DoublePlus)) → ConcatRefuses begin r
  concat_broken begin {end = end} {k = k} says w r a = refused_by decided 0 n (omega arith) (single_concat keys (drop begin tokens)) (one_read decided r
      (never_fits says (λ m v rest f p. broken_concat k (drop end tokens) w (starts_at (member (symbol_class symbol.DoublePlus ∷ con_args keys)) a (λ y. refl)) v.0 m rest f.taken f.split f.spells p.allowed (p.stops))))
