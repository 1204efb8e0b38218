-- `if` and `else if` are read in a loop.
use Rattle.std.specs.Prelude.{◌≡◌, ◌<◌, ◌≤◌, ◌+◌, ℕ, List, [], ◌∷◌, ◌++◌, drop, refl}
use Rattle.std.proofs.Common.{sym, ap, ◌∙◌, subst, arith}
use Rattle.ur_base.specs.declared.refusal.Refusal.{Refusal}
use Rattle.ur_base.specs.declared.refusal.Span.{Span}
use Rattle.ur_lex.specs.declared.token.Lexeme.{Lexeme}
use Rattle.ur_syntax.specs.declared.exp.ExpForm.TheVariants as form
use Rattle.ur_parse_rules.specs.Rules.{Read, Refused}
use Rattle.ur_parse_rules.specs.Places.{Moves, IsAt, span_of}
use Rattle.ur_parse_rules.specs.Forms.{up_to}
use Rattle.ur_parse_rules.specs.Expressions.{at, ends_as}
use Rattle.ur_parse_rules.specs.ExpParts.{line}
use Rattle.ur_parse_rules.specs.Parts.{of_exp, Ended}
use Rattle.ur_parse_rules.specs.Language.{language}
use Rattle.ur_parse_rules.proofs.Places.{span_join}
use Rattle.ur_parse_exp_parts.specs.Lines.{ended}
use Rattle.ur_parse_exp.specs.declared.choice.Choice.{Choice}
use Rattle.ur_parse_exp.specs.Choices.{ChoiceRead, choice_at, chosen}
use Rattle.ur_parse_exp.proofs.Lines as lines

pub chosen-push : (cs : List Choice) (c : Choice) (covered : Span) (b : Ended) → chosen (cs ++ c ∷ []) covered b ≡ chosen cs covered (choice_at c covered b)
chosen-push [] c covered b = refl
chosen-push (d ∷ cs) c covered b = ap (choice_at d covered) (chosen-push cs c covered b)

-- only the end of the span counts
chosen-from : (cs : List Choice) (from covered : Span) (b : Ended) → chosen cs (up_to from covered) b ≡ chosen cs covered b
chosen-from [] from covered b = refl
chosen-from (d ∷ cs) from covered b = ap (choice_at d covered) (chosen-from cs from covered b)

-- what is read so far
pub record ChoiceChain (n : ℕ) (tokens : List Lexeme) (here begin : ℕ) (before : List Choice) : Type 0 where
  pub found : (e : ℕ) (b : Ended) → Moves tokens begin e → Read language n (of_exp line) (drop begin tokens) (drop e tokens) b
      → Read language n (of_exp line) (drop here tokens) (drop e tokens) (chosen before (span_of tokens begin e) b)
  pub refused : (r : Refusal) → Refused language n (of_exp line) (drop begin tokens) r → Refused language n (of_exp line) (drop here tokens) r

pub choice_start : {n : ℕ} {tokens : List Lexeme} {here : ℕ} → ChoiceChain n tokens here here []
choice_start = record { found = λ e b m r. r; refused = λ r h. h }

module _ {n : ℕ} (tokens : List Lexeme) where
  -- one is begun behind the last
  pub choice_moves : (begin next : ℕ) (c : Choice) → ChoiceRead n tokens begin next c → begin < next
  choice_moves begin next c r = let m = r.moves.on in let e = r.else_at.next in omega (arith, m, e)

  pub choice_refused : (begin next : ℕ) (c : Choice) {r : Refusal} → ChoiceRead n tokens begin next c
      → Refused language n (of_exp line) (drop next tokens) r → Refused language n (of_exp line) (drop begin tokens) r
  choice_refused begin next c r h = lines.second_refused r.mark r.test r.then_at r.first r.else_at h

  choice_found : (begin next e : ℕ) (c : Choice) (b : Ended) → ChoiceRead n tokens begin next c → Moves tokens begin e
      → Read language n (of_exp line) (drop next tokens) (drop e tokens) b
      → Read language n (of_exp line) (drop begin tokens) (drop e tokens) (ends_as b (at (span_of tokens begin e) (form.If c.test.tree.exp c.first.tree.exp
      b.exp)))
  choice_found begin next e c b r m h = lines.if_read r.mark r.test r.then_at r.first r.else_at e m h

  pub choice_more : (here begin next : ℕ) (before : List Choice) (c : Choice) → ChoiceChain n tokens here begin before → ChoiceRead n tokens begin next c
      → ChoiceChain n tokens here next (before ++ c ∷ [])
  choice_more here begin next before c chain r = let lt : begin < next = choice_moves begin next c r in record {
    found = λ e b my h.
        let o = my.on in
        let me : Moves tokens begin e = record { on = omega (arith, lt, o); within = my.within } in
        let same : span_of tokens begin e ≡ up_to c.span (span_of tokens next e) =
        span_join tokens begin r.end next e r.moves my (omega (arith, lt, o)) ∙ ap (λ s. up_to s (span_of tokens next e)) (sym r.span) in
        let one = λ (s : Span). ends_as b (at s (form.If c.test.tree.exp c.first.tree.exp b.exp)) in
        let g : Read language n (of_exp line) (drop here tokens) (drop e tokens) (chosen before (span_of tokens begin e) (one (span_of tokens begin e))) =
        chain.found e (one (span_of tokens begin e)) me (choice_found begin next e c b r me h) in
        let g' : Read language n (of_exp line) (drop here tokens) (drop e tokens) (chosen before (up_to c.span (span_of tokens next e)) (one (up_to c.span
        (span_of tokens next e)))) =
        subst (λ s. Read language n (of_exp line) (drop here tokens) (drop e tokens) (chosen before s (one s))) same g in
        subst (λ u. Read language n (of_exp line) (drop here tokens) (drop e tokens) u)
        (chosen-from before c.span (span_of tokens next e) (one (up_to c.span (span_of tokens next e))) ∙ sym
        (chosen-push before c (span_of tokens next e) b)) g';
    refused = λ ref h. chain.refused ref (choice_refused begin next c r h);
  }

  pub choice_done : (here begin end : ℕ) (before : List Choice) (b : Ended) → Moves tokens begin end → ChoiceChain n tokens here begin before
      → Read language n (of_exp line) (drop begin tokens) (drop end tokens) b
      → Read language n (of_exp line) (drop here tokens) (drop end tokens) (chosen before (span_of tokens begin end) b)
  choice_done here begin end before b m chain h = chain.found end b m h
